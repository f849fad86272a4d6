-- holds of rows that may still be bound: in a sound world one is bound nowhere, and listed; and a request leaves it that neither binds it
-- nor gives it up
use Rattle.std.proofs.Common.{◌≡◌, true, false, Option, Some, None, is_some, refl, arith}
use Rattle.std.specs.FinMap.{get}
use Rattle.tect_ids.specs.declared.ids.Hold.{Hold}
use Rattle.tect_ids.specs.declared.key.Upper.{Upper}
use Rattle.tect_ids.proofs.KeyTests.{keys}
use Rattle.store_rules.specs.declared.blocks.Block.{Block}
use Rattle.store_rules.specs.Blocks.{block_lists}
use Rattle.store_rules.specs.declared.any.AnyReq.{AnyReq}
use Rattle.store_rules.specs.Holds.{HoldUse, Grants, GrantsRow, Binds, GivesUp, NoHold, RowGrant, hold_use, spent_by, spends}
use Rattle.store_pasts.specs.Ghosts.{World, RowGiven}
use Rattle.store_pasts.specs.Pasts.{IsRowGranted}
use Rattle.store_pasts.specs.Requests.{Needs, is_row_moved, row_granted_by, row_grant_of, touched_by}
use Rattle.store_world.specs.RowHolds.{IsRowHeld}
use Rattle.store_world.specs.Sound.{Sound}
use Rattle.store_world.proofs.Rows.{role_laws}

-- a block that lists a hold stands
listed_stands : (o : Option Block) (h : Hold) (u : Upper) → block_lists o h ≡ Some u → is_some o ≡ true
listed_stands None h u is = absurd (let k : None ≡ Some u = is in cc)
listed_stands (Some x) h u is = refl

pub is_row_held : (w : World) → Sound w → (g : RowGrant) → IsRowGranted w g.hold g.blk g.file → IsRowHeld w.store g
is_row_held w s g granted = record {
  bound_nowhere = λ f i r is same. grind (arith, s.rows.bound f i r is, granted);
  stands = listed_stands (get w.store.blocks g.blk) g.hold _ (s.rows.live g.hold _ granted refl);
  listed = s.rows.live g.hold _ granted refl;
}

-- ---- a request that leaves it, and one that grants it

-- it is granted once, so no request touches it but one that binds it
left_by : (u : HoldUse) (w : World) (h : Hold) (g : RowGiven) → w.ghost.row_given h ≡ Some g
    → ((a : RowGrant) → row_granted_by u ≡ Some a → w.ghost.row_given a.hold ≡ None) → spent_by h u ≡ false → is_row_moved u h ≡ false
left_by (Grants a) w h g is new un = refl
left_by (GrantsRow a) w h g is new un = grind (arith, keys, new a refl)
left_by (Binds o) w h g is new un = grind (arith, keys)
left_by (GivesUp o) w h g is new un = refl
left_by NoHold w h g is new un = refl

pub row_left : (w : World) (h : Hold) (g : RowGiven) → w.ghost.row_given h ≡ Some g → (q : AnyReq) → Needs w q → spends h q ≡ false
    → (touched_by q).row_hold h ≡ false
row_left w h g is q needs un = left_by (hold_use q) w h g is (λ a e. (role_laws q).rows.new w a e needs) un

-- what is asked for is touched
moved_by : (u : HoldUse) (g : RowGrant) → row_granted_by u ≡ Some g → is_row_moved u g.hold ≡ true
moved_by (Grants a) g e = absurd (let k : None ≡ Some g = e in cc)
moved_by (GrantsRow a) g e = let same : a ≡ g = cc in rw (← same) (grind (arith, keys))
moved_by (Binds o) g e = absurd (let k : None ≡ Some g = e in cc)
moved_by (GivesUp o) g e = absurd (let k : None ≡ Some g = e in cc)
moved_by NoHold g e = absurd (let k : None ≡ Some g = e in cc)

pub row_grant_touches : (q : AnyReq) (g : RowGrant) → row_grant_of q ≡ Some g → (touched_by q).row_hold g.hold ≡ true
row_grant_touches q g e = moved_by (hold_use q) g e
