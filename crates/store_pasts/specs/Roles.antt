-- The role of each request: what it does to the past, which nodes it makes and names, what has to be known before it is made, and what
-- its reply teaches. What it does with a hold stands in store_rules' Holds.
use Rattle.std.specs.Prelude.{◌≡◌, ◌≢◌, Bool, true, false, Option, Some, None, is_some}
use Rattle.std.specs.FinMap.{get}
use Rattle.tect_ids.specs.declared.ids.BlkId.{BlkId}
use Rattle.tect_ids.specs.declared.ids.DirId.{DirId}
use Rattle.tect_ids.specs.declared.ids.Hold.{Hold}
use Rattle.tect_ids.specs.declared.ids.Node.{Node}
use Rattle.tect_ids.specs.declared.ids.Node.TheVariants.{Dir, File}
use Rattle.tect_ids.specs.declared.ids.Tag.{Tag}
use Rattle.tect_ids.specs.declared.key.Key.{Key}
use Rattle.tect_ids.specs.Keys.{tag_eq}
use Rattle.store_rules.specs.declared.names.Replaced.{Replaced}
use Rattle.store_rules.specs.declared.names.NameReq.{NameReq}
use Rattle.store_rules.specs.declared.names.NameReq.TheVariants as names
use Rattle.store_rules.specs.declared.files.FileReq.{FileReq}
use Rattle.store_rules.specs.declared.files.FileReq.TheVariants as files
use Rattle.store_rules.specs.declared.blocks.BlockReq.{BlockReq}
use Rattle.store_rules.specs.declared.blocks.BlockReq.TheVariants as blocks
use Rattle.store_rules.specs.declared.disks.DiskReq.{DiskReq}
use Rattle.store_rules.specs.declared.disks.DiskReq.TheVariants as disks
use Rattle.store_rules.specs.declared.any.AnyReq.{AnyReq}
use Rattle.store_rules.specs.declared.any.AnyReq.TheVariants as any
use Rattle.store_rules.specs.declared.any.AnyReply.{AnyReply}
use Rattle.store_rules.specs.Names.{key_in}
use Rattle.store_rules.specs.Store.{Store}
use Rattle.store_rules.specs.Views.{as_found, is_made, is_granted, as_bound, as_unbound, as_swapped}
use Rattle.store_rules.specs.Views.{as_attached, as_block_list, as_location, as_bytes}
use Rattle.store_pasts.specs.Contents.{disk_at, rows_in}
use Rattle.store_pasts.specs.Ghosts.{Ghost, World, ghost_made, ghost_granted, ghost_bound, ghost_unbound}
use Rattle.store_pasts.specs.Ghosts.{ghost_attached, ghost_row_granted, ghost_born}
use Rattle.store_pasts.specs.Learned.{OpenedTaught, AttachNeeds, AttachTaught, ListedTaught}
use Rattle.store_pasts.specs.Learned.{NewBlockNeeds, NewBlockTaught, SealNeeds, SealTaught, BlockTaught}
use Rattle.store_pasts.specs.Learned.{RowGrantNeeds, RowGrantTaught, PutNeeds, PutTaught, GotTaught}
use Rattle.store_pasts.specs.Pasts.{was_made, is_spent, is_row_spent, IsGranted}

-- ---- what has to be known

-- the node and the hold are new, and the directory was made
abbrev pub MakeNeeds : World → Node → Hold → Key → Type 0
MakeNeeds w n h k = (was_made w.ghost n ≡ false) × (w.ghost.given h ≡ None) × (was_made w.ghost (Dir k.dir) ≡ true)

-- the same of a directory, whose parent is to be the directory of the key
abbrev pub MakeDirNeeds : World → DirId → DirId → Hold → Key → Type 0
MakeDirNeeds w d p h k =
    (was_made w.ghost (Dir d) ≡ false) × (w.ghost.given h ≡ None) × (was_made w.ghost (Dir k.dir) ≡ true) × (p ≡ k.dir)

-- the hold is new, the directory was made, and the node has been named
abbrev pub GrantNeeds : World → Node → Hold → Key → Type 0
GrantNeeds w n h k = (w.ghost.given h ≡ None) × (was_made w.ghost (Dir k.dir) ≡ true) × (is_some (w.ghost.home n) ≡ true)

-- ---- what is taught

-- what is found was made and named
abbrev pub FoundTaught : World → Option Node → Type 0
FoundTaught v None = Unit {0}
FoundTaught v (Some n) = (was_made v.ghost n ≡ true) × (is_some (v.ghost.home n) ≡ true)

-- a new node is made, its hold is granted, and nothing names it
abbrev pub MadeTaught : World → Node → Hold → Key → AnyReply → Type 0
MadeTaught v n h k x = (is_made x ≡ true) × IsGranted v h n k × (v.ghost.home n ≡ None)

-- the hold of what was replaced can be released
abbrev pub OldSpent : World → Option Replaced → Type 0
OldSpent v None = Unit {0}
OldSpent v (Some old) = is_spent v old.hold ≡ true

-- where a bind is refused its own hold is still granted, and else the hold of what was replaced can be released
abbrev pub BoundTaught : World → Hold → Node → Key → Option (Option Replaced) → Type 0
BoundTaught v h n k None = IsGranted v h n k
BoundTaught v h n k (Some old) = OldSpent v old

-- the same of a swap, and where it is not refused the node's hold for the old name can be released
abbrev pub SwappedTaught : World → Hold → Node → Key → Option (Hold × Option Replaced) → Type 0
SwappedTaught v h n k None = IsGranted v h n k
SwappedTaught v h n k (Some p) = (is_spent v p.0 ≡ true) × OldSpent v p.1

-- the hold of what was unbound can be released
abbrev pub UnboundTaught : World → Option (Node × Hold) → Type 0
UnboundTaught v None = Unit {0}
UnboundTaught v (Some p) = is_spent v p.1 ≡ true

-- a hold is granted where the reply says so
abbrev pub GrantTaught : World → Node → Hold → Key → AnyReply → Type 0
GrantTaught v n h k x = is_granted x ≡ true → IsGranted v h n k

-- ---- the table

-- what is done to the past where the store is changed, the node or the block that is made, the node that is named, the tags of the rows
-- or chunks, the block that is sealed, what is so of the request's own words, what has to be known before, and what the reply teaches
pub record Role : Type 1 where
  pub ghost : Store → Ghost → Ghost
  pub makes : Option Node
  pub makes_block : Option BlkId
  pub names : Option Node
  pub tags : Tag → Bool
  pub seals : Option BlkId
  pub fits : Type 0
  pub needs : World → Type 0
  pub taught : World → AnyReply → Type 0

-- a request with no role: what it does is seen of no past
abbrev pub plain : Role
plain = record {
  ghost = λ s g. g;
  makes = None;
  makes_block = None;
  names = None;
  tags = λ t. false;
  seals = None;
  fits = Unit {0};
  needs = λ w. Unit {0};
  taught = λ v x. Unit {0};
}

-- A swap asks for another name than the old one: the tree refuses the same. What it names was named before.
abbrev pub name_role : NameReq → Role
name_role (names.CheckDir d) = plain
name_role (names.Look k) = record plain { taught = λ v x. FoundTaught v (as_found x) }
name_role (names.List d) = plain
name_role (names.MakeDir d p h k) =
    record plain {
      ghost = λ s g. ghost_made g (Dir d) h k;
      makes = Some (Dir d);
      needs = λ w. MakeDirNeeds w d p h k;
      taught = λ v x. MadeTaught v (Dir d) h k x;
    }
name_role (names.Bind k n h o) =
    record plain {
      ghost = λ s g. ghost_bound g (get s.names.entries k) k n h;
      names = Some n;
      needs = λ w. IsGranted w h n k × (w.ghost.home n ≡ None);
      taught = λ v x. BoundTaught v h n k (as_bound x);
    }
name_role (names.Swap d from to n h) =
    record plain {
      ghost = λ s g. ghost_bound (ghost_unbound g (get s.names.entries (key_in d from)) (key_in d from))
          (get s.names.entries (key_in d to)) (key_in d to) n h;
      fits = from ≢ to;
      needs = λ w. IsGranted w h n (key_in d to) × (from ≢ to);
      taught = λ v x. SwappedTaught v h n (key_in d to) (as_swapped x);
    }
name_role (names.Unbind k want) =
    record plain {
      ghost = λ s g. ghost_unbound g (get s.names.entries k) k;
      taught = λ v x. UnboundTaught v (as_unbound x);
    }
name_role (names.Grant d h k) =
    record plain {
      ghost = λ s g. ghost_granted g (Dir d) h k;
      needs = λ w. GrantNeeds w (Dir d) h k;
      taught = λ v x. GrantTaught v (Dir d) h k x;
    }
name_role (names.Release d h) = record plain { needs = λ w. is_spent w h ≡ true }
name_role (names.SealDir d) = plain

abbrev pub file_role : FileReq → Role
file_role (files.MakeFile f h k t) =
    record plain {
      ghost = λ s g. ghost_made g (File f) h k;
      makes = Some (File f);
      needs = λ w. MakeNeeds w (File f) h k;
      taught = λ v x. MadeTaught v (File f) h k x;
    }
file_role (files.Grant f h k) =
    record plain {
      ghost = λ s g. ghost_granted g (File f) h k;
      needs = λ w. GrantNeeds w (File f) h k;
      taught = λ v x. GrantTaught v (File f) h k x;
    }
file_role (files.Release f h) = record plain { needs = λ w. is_spent w h ≡ true }
file_role (files.TakeToken f t) = record plain { taught = λ v x. OpenedTaught v f x }
file_role (files.Attach f t b n h) =
    record plain {
      ghost = λ s g. ghost_attached g b f h (rows_in (get s.files f));
      needs = λ w. AttachNeeds w f b n h;
      taught = λ v x. AttachTaught v f b n h (as_attached x);
    }
file_role (files.ListBlocks f) = record plain { taught = λ v x. ListedTaught v f (as_block_list x) }
file_role (files.SealFile f) = plain

abbrev pub block_role : BlockReq → Role
block_role (blocks.MakeBlock b c n f h rs) =
    record plain {
      ghost = λ s g. ghost_born g b c n f h rs;
      makes_block = Some b;
      tags = λ t. is_some (disk_at rs t);
      needs = λ w. NewBlockNeeds w b n f h rs;
      taught = λ v x. NewBlockTaught v b c n f h rs x;
    }
block_role (blocks.SealBlock b) = record plain { seals = Some b; needs = λ w. SealNeeds w b; taught = λ v x. SealTaught v b }
block_role (blocks.GetBlock b) = record plain { taught = λ v x. BlockTaught v b (as_location x) }
block_role (blocks.Grant b h f) =
    record plain {
      ghost = λ s g. ghost_row_granted g b h f;
      needs = λ w. RowGrantNeeds w h f;
      taught = λ v x. RowGrantTaught v b h f x;
    }
block_role (blocks.Release b h) = record plain { needs = λ w. is_row_spent w h ≡ true }

abbrev pub disk_role : DiskReq → Role
disk_role (disks.Put c bytes) =
    record plain { tags = λ t. tag_eq t c.tag; needs = λ w. PutNeeds w c bytes; taught = λ v x. PutTaught v c bytes }
disk_role (disks.Get c) = record plain { taught = λ v x. GotTaught v c (as_bytes x) }

abbrev pub role : AnyReq → Role
role (any.Name q) = name_role q
role (any.File q) = file_role q
role (any.Block q) = block_role q
role (any.Disk q) = disk_role q
