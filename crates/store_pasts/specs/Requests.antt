-- What each request touches, needs and teaches, by its role.
use Rattle.std.specs.Prelude.{Bool, false, ◌||◌, Option, Some, None, is_some}
use Rattle.tect_ids.specs.declared.ids.BlkId.{BlkId}
use Rattle.tect_ids.specs.declared.ids.Hold.{Hold}
use Rattle.tect_ids.specs.declared.ids.Node.{Node}
use Rattle.tect_ids.specs.declared.ids.OpId.{OpId}
use Rattle.tect_ids.specs.Keys.{op_eq, hold_eq, node_eq, blk_eq}
use Rattle.store_rules.specs.declared.any.AnyReq.{AnyReq}
use Rattle.store_rules.specs.declared.any.AnyReply.{AnyReply}
use Rattle.store_rules.specs.Holds.{HoldUse, Grants, GrantsRow, Binds, GivesUp, NoHold, RowGrant, hold_use}
use Rattle.store_rules.specs.Store.{store_reply}
use Rattle.store_pasts.specs.Ghosts.{World}
use Rattle.store_pasts.specs.Later.{Touched, Later}
use Rattle.store_pasts.specs.Roles.{role}
pub use Rattle.store_pasts.specs.Roles.{FoundTaught, MadeTaught, OldSpent, BoundTaught, SwappedTaught, UnboundTaught, GrantTaught}

-- nothing
abbrev pub touches_nothing : Touched
touches_nothing = record {
  hold = λ h. false;
  made = λ n. false;
  named = λ n. false;
  row_hold = λ h. false;
  born = λ b. false;
  tag = λ t. false;
  sealed = λ b. false;
  said = λ op. false;
}

-- a node that is made, and its hold
abbrev pub touches_new : Node → Hold → Touched
touches_new n h = record touches_nothing { hold = λ x. hold_eq x h; made = λ m. node_eq m n }

-- a node that is named, and its hold
abbrev pub touches_named : Node → Hold → Touched
touches_named n h = record touches_nothing { hold = λ x. hold_eq x h; row_hold = λ x. hold_eq x h; named = λ m. node_eq m n }

-- a hold for an entry alone
abbrev pub touches_hold : Hold → Touched
touches_hold h = record touches_nothing { hold = λ x. hold_eq x h }

-- a hold that is bound
abbrev pub touches_bound : Hold → Touched
touches_bound h = record touches_nothing { hold = λ x. hold_eq x h; row_hold = λ x. hold_eq x h }

-- the holds of an op
abbrev pub touches_op : OpId → Touched
touches_op op = record touches_nothing { hold = λ x. op_eq x.op op; row_hold = λ x. op_eq x.op op }

-- what an op says, at its begin
abbrev pub touches_said : OpId → Touched
touches_said op = record touches_nothing { said = λ x. op_eq x op }

-- a hold for an entry that is granted, or one that is bound
abbrev pub is_moved : HoldUse → Hold → Bool
is_moved (Grants g) x = hold_eq x g.hold
is_moved (GrantsRow g) x = false
is_moved (Binds h) x = hold_eq x h
is_moved (GivesUp h) x = false
is_moved NoHold x = false

-- a hold for a row that is granted, or one that is bound
abbrev pub is_row_moved : HoldUse → Hold → Bool
is_row_moved (Grants g) x = false
is_row_moved (GrantsRow g) x = hold_eq x g.hold
is_row_moved (Binds h) x = hold_eq x h
is_row_moved (GivesUp h) x = false
is_row_moved NoHold x = false

abbrev pub row_granted_by : HoldUse → Option RowGrant
row_granted_by (Grants g) = None
row_granted_by (GrantsRow g) = Some g
row_granted_by (Binds h) = None
row_granted_by (GivesUp h) = None
row_granted_by NoHold = None

-- what a request is to have granted for a row
abbrev pub row_grant_of : AnyReq → Option RowGrant
row_grant_of q = row_granted_by (hold_use q)

abbrev pub is_that : Option Node → Node → Bool
is_that None m = false
is_that (Some n) m = node_eq m n

abbrev pub is_that_block : Option BlkId → BlkId → Bool
is_that_block None x = false
is_that_block (Some b) x = blk_eq x b

-- what a request touches
abbrev pub touched_by : AnyReq → Touched
touched_by q = record {
  hold = λ x. is_moved (hold_use q) x;
  made = λ m. is_that (role q).makes m;
  named = λ m. is_that (role q).names m;
  row_hold = λ x. is_row_moved (hold_use q) x;
  born = λ b. is_that_block (role q).makes_block b;
  tag = λ t. (role q).tags t;
  sealed = λ b. is_that_block (role q).seals b;
  said = λ op. false;
}

-- it makes a node or a block
abbrev pub makes : AnyReq → Bool
makes q = is_some (role q).makes || is_some (role q).makes_block

abbrev pub Needs : World → AnyReq → Type 0
Needs w q = (role q).needs w

-- what a reply has taught
abbrev pub Taught : World → AnyReq → AnyReply → Type 0
Taught v q x = (role q).taught v x

-- what may have been done from w to v by a request: no more was touched, and its reply has taught
pub record Moved (w v : World) (q : AnyReq) : Type 0 where
  pub later : Later (touched_by q) w v
  pub taught : Taught v q (store_reply w.store q)
