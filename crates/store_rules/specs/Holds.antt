-- What each request does with a hold.
use Rattle.std.specs.Prelude.{Bool, false, Option, Some, None}
use Rattle.tect_ids.specs.declared.ids.BlkId.{BlkId}
use Rattle.tect_ids.specs.declared.ids.FileId.{FileId}
use Rattle.tect_ids.specs.declared.ids.Hold.{Hold}
use Rattle.tect_ids.specs.declared.ids.Node.{Node}
use Rattle.tect_ids.specs.declared.ids.Node.TheVariants.{Dir, File}
use Rattle.tect_ids.specs.declared.key.Key.{Key}
use Rattle.tect_ids.specs.Keys.{hold_eq}
use Rattle.store_rules.specs.declared.names.NameReq.{NameReq}
use Rattle.store_rules.specs.declared.names.NameReq.TheVariants as names
use Rattle.store_rules.specs.declared.files.FileReq.{FileReq}
use Rattle.store_rules.specs.declared.files.FileReq.TheVariants as files
use Rattle.store_rules.specs.declared.blocks.BlockReq.{BlockReq}
use Rattle.store_rules.specs.declared.blocks.BlockReq.TheVariants as blocks
use Rattle.store_rules.specs.declared.any.AnyReq.{AnyReq}
use Rattle.store_rules.specs.declared.any.AnyReq.TheVariants as any

-- a hold, the directory or file that is to hold it, and the key that it is for
pub record Grant : Type 0 where
  pub node : Node
  pub hold : Hold
  pub key : Key

-- a hold, the block that is to hold it, and the file whose row it is for
pub record RowGrant : Type 0 where
  pub blk : BlkId
  pub hold : Hold
  pub file : FileId

-- it is granted, bound to an entry or to a row, or given up
pub data HoldUse : Type 0 where
  Grants : Grant → HoldUse
  GrantsRow : RowGrant → HoldUse
  Binds : Hold → HoldUse
  GivesUp : Hold → HoldUse
  NoHold : HoldUse

-- the whole table
abbrev pub name_hold : NameReq → HoldUse
name_hold (names.CheckDir d) = NoHold
name_hold (names.Look k) = NoHold
name_hold (names.List d) = NoHold
name_hold (names.MakeDir d p h k) = Grants record { node = Dir d; hold = h; key = k }
name_hold (names.Bind k n h o) = Binds h
name_hold (names.Swap d from to n h) = Binds h
name_hold (names.Unbind k want) = NoHold
name_hold (names.Grant d h k) = Grants record { node = Dir d; hold = h; key = k }
name_hold (names.Release d h) = GivesUp h
name_hold (names.SealDir d) = NoHold

abbrev pub file_hold : FileReq → HoldUse
file_hold (files.MakeFile f h k t) = Grants record { node = File f; hold = h; key = k }
file_hold (files.Grant f h k) = Grants record { node = File f; hold = h; key = k }
file_hold (files.Release f h) = GivesUp h
file_hold (files.TakeToken f t) = NoHold
file_hold (files.Attach f t b n h) = Binds h
file_hold (files.ListBlocks f) = NoHold
file_hold (files.SealFile f) = NoHold

abbrev pub block_hold : BlockReq → HoldUse
block_hold (blocks.MakeBlock b c n f h rs) = GrantsRow record { blk = b; hold = h; file = f }
block_hold (blocks.SealBlock b) = NoHold
block_hold (blocks.GetBlock b) = NoHold
block_hold (blocks.Grant b h f) = GrantsRow record { blk = b; hold = h; file = f }
block_hold (blocks.Release b h) = GivesUp h

abbrev pub hold_use : AnyReq → HoldUse
hold_use (any.Name q) = name_hold q
hold_use (any.File q) = file_hold q
hold_use (any.Block q) = block_hold q
hold_use (any.Disk q) = NoHold

abbrev pub granted_by : HoldUse → Option Grant
granted_by (Grants g) = Some g
granted_by (GrantsRow g) = None
granted_by (Binds h) = None
granted_by (GivesUp h) = None
granted_by NoHold = None

-- what a request is to have granted for an entry
abbrev pub grant_of : AnyReq → Option Grant
grant_of q = granted_by (hold_use q)

abbrev pub spent_by : Hold → HoldUse → Bool
spent_by h (Grants g) = false
spent_by h (GrantsRow g) = false
spent_by h (Binds other) = hold_eq other h
spent_by h (GivesUp other) = hold_eq other h
spent_by h NoHold = false

-- a request binds the hold, or gives it up: a bind or a swap does, also where it is refused, and so does a release
abbrev pub spends : Hold → AnyReq → Bool
spends h q = spent_by h (hold_use q)
