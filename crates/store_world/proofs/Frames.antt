-- the row of a request; what a request that changes nothing keeps, and a request that is refused or done
use Rattle.std.proofs.Common.{◌≡◌, Bool, true, false, ◌||◌, Option, Some, None, is_some, refl, sym, ◌∙◌}
use Rattle.tect_ids.specs.declared.ids.BlkId.{BlkId}
use Rattle.tect_ids.specs.declared.ids.Node.{Node}
use Rattle.store_rules.specs.declared.any.AnyReq.{AnyReq}
use Rattle.store_rules.specs.declared.any.AnyReply.{AnyReply}
use Rattle.store_rules.specs.Holds.{Grant, RowGrant, grant_of}
use Rattle.store_rules.specs.Store.{Store, store_changes, store_reply}
use Rattle.store_rules.specs.Views.{is_made, is_granted}
use Rattle.store_pasts.specs.Worlds.{World, done, next}
use Rattle.store_pasts.specs.Pasts.{was_made, IsRowGranted}
use Rattle.store_pasts.specs.Roles.{role}
use Rattle.store_pasts.specs.Requests.{Needs, Taught, makes, row_grant_of, MadeTaught, GrantTaught}
use Rattle.store_pasts.specs.RoleLaws.{RoleLaws, RowRoleLaws}
use Rattle.store_pasts.proofs.Laters.{later_same}
use Rattle.store_world.specs.Sound.{Sound}
use Rattle.store_world.specs.Kept.{Kept}

-- a request, refused or done
pub by_answer : (w : World) (q : AnyReq) (b : Bool) → store_changes w.store q ≡ b → (b ≡ false → Kept w w q)
    → (b ≡ true → Kept w (done w q) q) → Kept w (next w q) q
by_answer w q true e stayed did = let k : Kept w (done w q) q = did refl
    in record { sound = rw e k.sound; later = rw e k.later; taught = rw e k.taught }
by_answer w q false e stayed did = let k : Kept w w q = stayed refl
    in record { sound = rw e k.sound; later = rw e k.later; taught = rw e k.taught }

-- a request that only reads
pub by_reading : (w : World) (q : AnyReq) → Sound w → Taught w q (store_reply w.store q) → Kept w w q
by_reading w q s t = record { sound = s; later = later_same _ w; taught = t }

-- ---- the row of a request

-- where its needs are met it keeps the world sound, leaves what it does not touch, and teaches; and it keeps what every role does
pub record Row (q : AnyReq) : Type 0 where
  pub kept : (w : World) → Sound w → Needs w q → Kept w (next w q) q
  pub laws : RoleLaws q

-- what makes nothing makes no node
no_node : (o : Option Node) (b : Option BlkId) → (is_some o || is_some b) ≡ false → (n : Node) → o ≡ Some n → ⊥
no_node None b none n e = let k : None ≡ Some n = e in cc
no_node (Some m) b none n e = let k : true ≡ false = none in cc

-- it grants no hold for a row, and makes no block
pub no_rows : (q : AnyReq) → row_grant_of q ≡ None → (role q).makes_block ≡ None → RowRoleLaws q
no_rows q none blockless = record {
  new = λ w g e needs. absurd (let k : None ≡ Some g = sym none ∙ e in cc);
  granted = λ v x g e ok t. absurd (let k : None ≡ Some g = sym none ∙ e in cc);
  unborn = λ w b e needs. absurd (let k : None ≡ Some b = sym blockless ∙ e in cc);
}

-- it grants a hold for a row
module _ (q : AnyReq) (a : RowGrant) (grants : row_grant_of q ≡ Some a)
    (needs : (w : World) → Needs w q → w.ghost.row_given a.hold ≡ None)
    (teaches : (v : World) (x : AnyReply) → Taught v q x → is_granted x ≡ true → IsRowGranted v a.hold a.blk a.file)
    (unborn : (w : World) (b : BlkId) → (role q).makes_block ≡ Some b → Needs w q → w.ghost.born b ≡ None) where
  same_row_grant : (g : RowGrant) → row_grant_of q ≡ Some g → a ≡ g
  same_row_grant g e = let f : Some a ≡ Some g = sym grants ∙ e in cc

  pub grants_row : RowRoleLaws q
  grants_row = record {
    new = λ w g e k. rw (← same_row_grant g e) (needs w k);
    granted = λ v x g e ok t. rw (← same_row_grant g e) (teaches v x t ok);
    unborn = unborn;
  }

-- it grants no hold for an entry and makes nothing
pub grants_nothing : (q : AnyReq) → grant_of q ≡ None → makes q ≡ false → ((s : Store) → is_made (store_reply s q) ≡ false)
    → ((w : World) → Needs w q → (role q).fits) → RowRoleLaws q → RoleLaws q
grants_nothing q none makes_no untold fits rows = record {
  new = λ w g e needs. absurd (let k : None ≡ Some g = sym none ∙ e in cc);
  granted = λ v x g e ok t. absurd (let k : None ≡ Some g = sym none ∙ e in cc);
  told = λ v x e t. absurd (let k : false ≡ true = sym makes_no ∙ e in cc);
  untold = λ s e f. untold s;
  fresh = λ w n e needs. absurd (no_node (role q).makes (role q).makes_block makes_no n e);
  fits = fits;
  rows = rows;
}

-- it makes a block, and grants a hold for a row
pub makes_block : (q : AnyReq) → grant_of q ≡ None → (role q).makes ≡ None → makes q ≡ true
    → ((v : World) (x : AnyReply) → Taught v q x → is_made x ≡ true) → ((w : World) → Needs w q → (role q).fits) → RowRoleLaws q
    → RoleLaws q
makes_block q none nodeless makes_it teaches fits rows = record {
  new = λ w g e needs. absurd (let k : None ≡ Some g = sym none ∙ e in cc);
  granted = λ v x g e ok t. absurd (let k : None ≡ Some g = sym none ∙ e in cc);
  told = λ v x e t. teaches v x t;
  untold = λ s e f. absurd (let k : true ≡ false = sym makes_it ∙ e in cc);
  fresh = λ w n e needs. absurd (let k : None ≡ Some n = sym nodeless ∙ e in cc);
  fits = fits;
  rows = rows;
}

module _ (q : AnyReq) (a : Grant) (grants : grant_of q ≡ Some a) (needs : (w : World) → Needs w q → w.ghost.given a.hold ≡ None)
    (fits : (w : World) → Needs w q → (role q).fits) (rows : RowRoleLaws q) where
  same_grant : (g : Grant) → grant_of q ≡ Some g → a ≡ g
  same_grant g e = let f : Some a ≡ Some g = sym grants ∙ e in cc

  -- it grants a hold of a node that was made
  pub grants_one : makes q ≡ false → ((s : Store) → is_made (store_reply s q) ≡ false)
      → ((v : World) (x : AnyReply) → Taught v q x → GrantTaught v a.node a.hold a.key x) → RoleLaws q
  grants_one makes_no untold teaches = record {
    new = λ w g e k. rw (← same_grant g e) (needs w k);
    granted = λ v x g e ok t. rw (← same_grant g e) (teaches v x t ok);
    told = λ v x e t. absurd (let k : false ≡ true = sym makes_no ∙ e in cc);
    untold = λ s e f. untold s;
    fresh = λ w n e k. absurd (no_node (role q).makes (role q).makes_block makes_no n e);
    fits = fits;
    rows = rows;
  }

  -- it makes a node and grants its hold
  pub makes_one : (role q).makes ≡ Some a.node → ((w : World) → Needs w q → was_made w.ghost a.node ≡ false)
      → ((v : World) (x : AnyReply) → Taught v q x → MadeTaught v a.node a.hold a.key x) → RoleLaws q
  makes_one makes_it unmade teaches = record {
    new = λ w g e k. rw (← same_grant g e) (needs w k);
    granted = λ v x g e ok t. rw (← same_grant g e) (teaches v x t).1;
    told = λ v x e t. (teaches v x t).0;
    untold = λ s e f. absurd (let k : true ≡ false = (rw makes_it at e) in cc);
    fresh = λ w n e k. let f : Some a.node ≡ Some n = sym makes_it ∙ e in let same : a.node ≡ n = cc in rw (← same) (unmade w k);
    fits = fits;
    rows = rows;
  }
