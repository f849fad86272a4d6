-- The shards and disks as machines. A request of another layer changes nothing.
use Rattle.std.specs.Prelude.{◌≡◌, Bool, true, false, is_some, if◌then◌else◌, refl}
use Rattle.std.specs.FinMap.{get}
use Rattle.store_rules.specs.declared.any.AnyReq.{AnyReq}
use Rattle.store_rules.specs.declared.any.AnyReq.TheVariants.{Name, File, Block, Disk}
use Rattle.store_rules.specs.declared.any.AnyReply.{AnyReply}
use Rattle.store_rules.specs.declared.names.NameReq.TheVariants as names
use Rattle.store_rules.specs.Alone.{names_alone, files_alone, blocks_alone, chunks_alone}
use Rattle.store_rules.specs.Names.{Names, root_names, no_names, name_answer, name_step}
use Rattle.store_rules.specs.Files.{Files, file_answer, file_rule, file_step}
use Rattle.store_rules.specs.Blocks.{Blocks, block_answer, block_rule, block_step}
use Rattle.store_rules.specs.Disks.{Chunks, disk_answer, disk_rule, disk_step}
use Rattle.store_rules.specs.Outcomes.{changes}
use Rattle.store_rules.specs.Store.{store_reply}

-- ---- a name shard

abbrev pub name_after : Names → AnyReq → Names
name_after s (Name q) = name_step s q
name_after s _ = s

abbrev pub name_replies : Names → AnyReq → AnyReply
name_replies s = store_reply (names_alone s)

-- whether a request changes the shard
abbrev pub name_alters : Names → AnyReq → Bool
name_alters s (Name q) = changes (name_answer s q)
name_alters s _ = false

pub name_leaves : (s : Names) (q : AnyReq) → name_alters s q ≡ false → name_after s q ≡ s
name_leaves s (Name q) leaves = rw leaves
name_leaves s _ leaves = refl

abbrev pub name_opening : Bool → Names
name_opening rooted = if rooted then root_names else no_names

abbrev pub has_root : Names → Bool
has_root s = is_some (get s.dirs (record { 0 = 1 }))

-- the requests that take no memory and hold no name
abbrev pub name_is_free : AnyReq → Bool
name_is_free (Name (names.CheckDir d)) = true
name_is_free (Name (names.Release d h)) = true
name_is_free (Name (names.SealDir d)) = true
name_is_free _ = false

-- ---- a file shard: what takes no memory holds no name

abbrev pub file_after : Files → AnyReq → Files
file_after s (File q) = file_step s q
file_after s _ = s

abbrev pub file_replies : Files → AnyReq → AnyReply
file_replies s = store_reply (files_alone s)

abbrev pub file_alters : Files → AnyReq → Bool
file_alters s (File q) = changes (file_answer s q)
file_alters s _ = false

pub file_leaves : (s : Files) (q : AnyReq) → file_alters s q ≡ false → file_after s q ≡ s
file_leaves s (File q) leaves = rw leaves
file_leaves s _ leaves = refl

abbrev pub file_is_free : AnyReq → Bool
file_is_free (File q) = (file_rule q).free
file_is_free _ = false

-- ---- a block shard: what takes no memory holds no rows

abbrev pub block_after : Blocks → AnyReq → Blocks
block_after s (Block q) = block_step s q
block_after s _ = s

abbrev pub block_replies : Blocks → AnyReq → AnyReply
block_replies s = store_reply (blocks_alone s)

abbrev pub block_alters : Blocks → AnyReq → Bool
block_alters s (Block q) = changes (block_answer s q)
block_alters s _ = false

pub block_leaves : (s : Blocks) (q : AnyReq) → block_alters s q ≡ false → block_after s q ≡ s
block_leaves s (Block q) leaves = rw leaves
block_leaves s _ leaves = refl

abbrev pub block_is_free : AnyReq → Bool
block_is_free (Block q) = (block_rule q).free
block_is_free _ = false

-- ---- a disk

abbrev pub disk_after : Chunks → AnyReq → Chunks
disk_after s (Disk q) = disk_step s q
disk_after s _ = s

abbrev pub disk_replies : Chunks → AnyReq → AnyReply
disk_replies s = store_reply (chunks_alone s)

abbrev pub disk_alters : Chunks → AnyReq → Bool
disk_alters s (Disk q) = changes (disk_answer s q)
disk_alters s _ = false

pub disk_leaves : (s : Chunks) (q : AnyReq) → disk_alters s q ≡ false → disk_after s q ≡ s
disk_leaves s (Disk q) leaves = rw leaves
disk_leaves s _ leaves = refl

abbrev pub disk_is_free : AnyReq → Bool
disk_is_free (Disk q) = (disk_rule q).free
disk_is_free _ = false
