-- The shards of the store, and what it means that they are, taken together, the whole store.
use Rattle.std.specs.Prelude.{◌≡◌, ◌+◌, ◌<◌, ◌≤◌, Bool, eqb, if◌then◌else◌, None}
use Rattle.std.specs.FinMap.{empty, get}
use Rattle.tect_ids.specs.declared.ids.BlkId.{BlkId}
use Rattle.tect_ids.specs.declared.ids.Counts.{Counts}
use Rattle.tect_ids.specs.declared.ids.DirId.{DirId}
use Rattle.tect_ids.specs.declared.ids.DiskId.{DiskId}
use Rattle.tect_ids.specs.declared.ids.FileId.{FileId}
use Rattle.tect_ids.specs.declared.ids.Layer.{Layer}
use Rattle.tect_ids.specs.declared.ids.Layer.TheVariants as layers
use Rattle.tect_ids.specs.declared.ids.Place.{Place}
use Rattle.tect_ids.specs.declared.key.ChunkKey.{ChunkKey}
use Rattle.tect_ids.specs.declared.key.Key.{Key}
use Rattle.tect_ids.specs.Places.{count_of, first_place, place_number}
use Rattle.store_rules.specs.declared.any.AnyReq.{AnyReq}
use Rattle.store_rules.specs.declared.any.AnyReply.{AnyReply}
use Rattle.store_rules.specs.Names.{Names, root_names, no_names}
use Rattle.store_rules.specs.Files.{Files}
use Rattle.store_rules.specs.Blocks.{Blocks}
use Rattle.store_rules.specs.Disks.{Chunks}
use Rattle.store_rules.specs.Places.{request_place}
use Rattle.store_rules.specs.Store.{Store, store_reply, store_changes, store_step}

-- the place of a directory's shard
abbrev pub dir_place : Counts → DirId → Place
dir_place c d = record { 0 = place_number c layers.Names d.0 }

-- the place of a file's shard
abbrev pub file_place : Counts → FileId → Place
file_place c f = record { 0 = place_number c layers.Files f.0 }

-- the place of a block's shard
abbrev pub blk_place : Counts → BlkId → Place
blk_place c b = record { 0 = place_number c layers.Blocks b.0 }

-- the place of a disk
abbrev pub disk_place : Counts → DiskId → Place
disk_place c d = record { 0 = place_number c layers.Disks d.0 }

-- whether two places are one
abbrev pub place_eq : Place → Place → Bool
place_eq p q = eqb p.0 q.0

-- a shard's names against the store's: it has the records and the entries of the directories that are here, and no other
pub record KeepsNames (here : DirId → Bool) (shard whole : Names) : Type 0 where
  pub dirs : (d : DirId) → get shard.dirs d ≡ (if here d then get whole.dirs d else None)
  pub entries : (k : Key) → get shard.entries k ≡ (if here k.dir then get whole.entries k else None)

-- a shard's files against the store's: it has the files that are here, and no other
abbrev pub KeepsFiles : (FileId → Bool) → Files → Files → Type 0
KeepsFiles here shard whole = (f : FileId) → get shard f ≡ (if here f then get whole f else None)

-- a shard's blocks against the store's: it has the blocks that are here, and no other
abbrev pub KeepsBlocks : (BlkId → Bool) → Blocks → Blocks → Type 0
KeepsBlocks here shard whole = (b : BlkId) → get shard b ≡ (if here b then get whole b else None)

-- a disk's chunks against the store's: it has the chunks whose disk is here, and no other
abbrev pub KeepsChunks : (DiskId → Bool) → Chunks → Chunks → Type 0
KeepsChunks here shard whole = (k : ChunkKey) → get shard k ≡ (if here k.disk then get whole k else None)

-- what the shard or disk at each place has
abbrev pub Parts : Type 0
Parts = Place → Store

-- the shards are the whole store: each has what the store has of the directories, files, blocks and disks of its place, and
-- nothing else
pub record AreWhole (c : Counts) (parts : Parts) (whole : Store) : Type 0 where
  pub names : (p : Place) → KeepsNames (λ d. place_eq p (dir_place c d)) (parts p).names whole.names
  pub files : (p : Place) → KeepsFiles (λ f. place_eq p (file_place c f)) (parts p).files whole.files
  pub blocks : (p : Place) → KeepsBlocks (λ b. place_eq p (blk_place c b)) (parts p).blocks whole.blocks
  pub chunks : (p : Place) → KeepsChunks (λ d. place_eq p (disk_place c d)) (parts p).chunks whole.chunks

-- the place of the root's shard
abbrev pub root_place : Counts → Place
root_place c = dir_place c (record { 0 = 1 })

-- the shards before anything was done: the root in the shard of its place, and nothing else
abbrev pub opening_parts : Counts → Parts
opening_parts c p =
    record { names = if place_eq p (root_place c) then root_names else no_names; files = empty; blocks = empty; chunks = empty }

-- what the shard at the request's place replies
abbrev pub parts_reply : Counts → Parts → AnyReq → AnyReply
parts_reply c parts q = store_reply (parts (request_place c q)) q

-- whether the request changes the shard at its place
abbrev pub parts_changes : Counts → Parts → AnyReq → Bool
parts_changes c parts q = store_changes (parts (request_place c q)) q

-- the shards after a request: the one at its place has done it, and the others stay
abbrev pub parts_step : Counts → Parts → AnyReq → Parts
parts_step c parts q p = if place_eq p (request_place c q) then store_step (parts p) q else parts p

-- the place is that of one of the layer's shards
abbrev pub IsShardOf : Counts → Layer → Place → Type 0
IsShardOf c layer p = (first_place c layer ≤ p.0) × (p.0 < first_place c layer + count_of c layer)
