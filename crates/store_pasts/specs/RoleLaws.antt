-- What every role keeps, whatever the request.
use Rattle.std.specs.Prelude.{◌≡◌, true, false, Some, None}
use Rattle.tect_ids.specs.declared.ids.BlkId.{BlkId}
use Rattle.tect_ids.specs.declared.ids.Node.{Node}
use Rattle.store_rules.specs.declared.any.AnyReq.{AnyReq}
use Rattle.store_rules.specs.declared.any.AnyReply.{AnyReply}
use Rattle.store_rules.specs.Holds.{Grant, RowGrant, grant_of}
use Rattle.store_rules.specs.Store.{Store, store_reply}
use Rattle.store_rules.specs.Views.{is_made, is_granted}
use Rattle.store_pasts.specs.Ghosts.{World}
use Rattle.store_pasts.specs.Pasts.{was_made, IsGranted, IsRowGranted}
use Rattle.store_pasts.specs.Roles.{role}
use Rattle.store_pasts.specs.Requests.{Needs, Taught, makes, row_grant_of}

-- A hold for a row that is to be granted is new, and is granted where the reply says so; and a block that is to be made is new.
pub record RowRoleLaws (q : AnyReq) : Type 0 where
  pub new : (w : World) (g : RowGrant) → row_grant_of q ≡ Some g → Needs w q → w.ghost.row_given g.hold ≡ None
  pub granted : (v : World) (x : AnyReply) (g : RowGrant) → row_grant_of q ≡ Some g → is_granted x ≡ true → Taught v q x
      → IsRowGranted v g.hold g.blk g.file
  pub unborn : (w : World) (b : BlkId) → (role q).makes_block ≡ Some b → Needs w q → w.ghost.born b ≡ None

-- A hold for an entry that is to be granted is new, and is granted where the reply says so; a node that is to be made is new, and is made
-- just where the reply says so; the request's own words are as they have to be; and the laws of rows and blocks are kept.
pub record RoleLaws (q : AnyReq) : Type 0 where
  pub new : (w : World) (g : Grant) → grant_of q ≡ Some g → Needs w q → w.ghost.given g.hold ≡ None
  pub granted : (v : World) (x : AnyReply) (g : Grant) → grant_of q ≡ Some g → is_granted x ≡ true → Taught v q x
      → IsGranted v g.hold g.node g.key
  pub told : (v : World) (x : AnyReply) → makes q ≡ true → Taught v q x → is_made x ≡ true
  pub untold : (s : Store) → makes q ≡ false → (role q).fits → is_made (store_reply s q) ≡ false
  pub fresh : (w : World) (n : Node) → (role q).makes ≡ Some n → Needs w q → was_made w.ghost n ≡ false
  pub fits : (w : World) → Needs w q → (role q).fits
  pub rows : RowRoleLaws q
