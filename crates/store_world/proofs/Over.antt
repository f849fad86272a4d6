-- giving up, where the answer of an op is decided, keeps a world sound: what is bound stays, and nothing asks that a hold may still be
-- bound
use Rattle.std.proofs.Common.{Option, Some, None, refl}
use Rattle.tect_ids.specs.declared.ids.OpId.{OpId}
use Rattle.store_pasts.specs.Worlds.{World, over, settled}
use Rattle.store_pasts.proofs.Over.{before, set_stays, leads_stay, row_before, row_set_stays, row_leads_stay}
use Rattle.store_world.specs.Sound.{Sound}

pub over_sound : (w : World) (op : OpId) → Sound w → Sound (over op w)
over_sound w op s = record {
  entries = record {
    bound = λ k e is. set_stays w op e.hold _ (s.entries.bound k e is) refl;
    at_home = s.entries.at_home;
    in_dir = s.entries.in_dir;
    set = λ h g is p. s.entries.set h g ((before w op h g is).set p) p;
  };
  holds = record {
    set = λ h g is p. s.holds.set h g ((before w op h g is).set p) p;
    live = λ h g is l nd. s.holds.live h g ((before w op h g is).live l) l nd;
    listed = λ n h u is. rw (leads_stay w op h) (s.holds.listed n h u is);
    lower_made = λ h g is. s.holds.lower_made h _ (before w op h g is).is;
    upper_made = λ h g is. s.holds.upper_made h _ (before w op h g is).is;
  };
  nodes = s.nodes;
  tree = record {
    named = s.tree.named;
    unnamed = λ h g d p is low hm par. s.tree.unnamed h _ d p (before w op h g is).is low hm par;
    stands = s.tree.stands;
    climbs = s.tree.climbs;
    root_made = s.tree.root_made;
    root_home = s.tree.root_home;
    root_free = λ h g is low. s.tree.root_free h _ (before w op h g is).is low;
  };
  rows = record {
    bound = λ f i r is. row_set_stays w op r.hold r.blk f i (s.rows.bound f i r is);
    has_hold = s.rows.has_hold;
    sealed_as = s.rows.sealed_as;
    set = λ h g i is p. s.rows.set h g i ((row_before w op h g is).set i p) p;
    live = λ h g is l. s.rows.live h g ((row_before w op h g is).live l) l;
    listed = λ b h u is. rw (row_leads_stay w op h) (s.rows.listed b h u is);
    file_made = λ h g is. s.rows.file_made h _ (row_before w op h g is).is;
  };
  blocks = s.blocks;
  chunks = s.chunks;
}

-- ---- at a step

module _ {R : Type 0} (w : World) (op : OpId) where
  pub settled_sound : (was now : Option R) → Sound w → Sound (settled op was now w)
  settled_sound None None s = s
  settled_sound None (Some a) s = over_sound w op s
  settled_sound (Some b) now s = s
