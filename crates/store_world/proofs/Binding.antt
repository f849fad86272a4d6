-- requests that name a node, or take its name away
use Rattle.std.proofs.Common.{◌≡◌, ◌≢◌, ℕ, List, true, false, Option, Some, None, refl, arith}
use Rattle.std.specs.FinMap.{get}
use Rattle.tect_ids.specs.declared.ids.DirId.{DirId}
use Rattle.tect_ids.specs.declared.ids.Hold.{Hold}
use Rattle.tect_ids.specs.declared.ids.Node.{Node}
use Rattle.tect_ids.specs.declared.ids.Node.TheVariants.{Dir}
use Rattle.tect_ids.specs.declared.key.Key.{Key}
use Rattle.tect_ids.specs.declared.values.Over.{Over}
use Rattle.tect_ids.specs.declared.values.Want.{Want}
use Rattle.tect_ids.specs.Numbers.{root}
use Rattle.key_words.proofs.Lookups.{maps}
use Rattle.store_rules.specs.declared.names.DirectoryEntry.{DirectoryEntry}
use Rattle.store_rules.specs.declared.names.Replaced.{Replaced}
use Rattle.store_rules.specs.declared.names.NameReq.TheVariants as names
use Rattle.store_rules.specs.declared.any.AnyReq.TheVariants as any
use Rattle.store_rules.specs.Names.{key_in, replaced}
use Rattle.store_rules.specs.Store.{Store, store_changes, store_reply}
use Rattle.store_rules.specs.Views.{is_made, as_bound, as_unbound, as_swapped}
use Rattle.store_pasts.specs.Worlds.{World, Live, done}
use Rattle.store_pasts.specs.Pasts.{was_made, dead_in, IsGranted}
use Rattle.store_pasts.proofs.Laters.{rows_same, blocks_same, chunks_same}
use Rattle.store_world.specs.Sound.{Sound, parent}
use Rattle.store_pasts.specs.Requests.{Needs, BoundTaught, SwappedTaught, UnboundTaught}
use Rattle.store_world.specs.Kept.{Kept}
use Rattle.store_world.proofs.Frames.{Row, by_answer, by_reading, grants_nothing, no_rows}

-- a hold's node was made, and so was the directory that it is for
module _ (w : World) (s : Sound w) (h : Hold) (n : Node) (k : Key) (granted : IsGranted w h n k) where
  lower : was_made w.ghost n ≡ true
  lower = s.holds.lower_made h record { lower = n; upper = k; phase = Live } granted

  upper : was_made w.ghost (Dir k.dir) ≡ true
  upper = s.holds.upper_made h record { lower = n; upper = k; phase = Live } granted

  -- so was its parent set, if it is a directory that was not named yet, and it is not the root
  beneath : (d p : DirId) → n ≡ Dir d → w.ghost.home (Dir d) ≡ None → parent w.store d ≡ Some p → p ≡ k.dir
  beneath d p low new par = s.tree.unnamed h record { lower = n; upper = k; phase = Live } d p granted low new par

  no_root : n ≢ Dir root
  no_root = s.tree.root_free h record { lower = n; upper = k; phase = Live } granted

-- Bind
module _ (w : World) (s : Sound w) (k : Key) (n : Node) (h : Hold) (o : Over) (needs : Needs w (any.Name (names.Bind k n h o))) where
  bind_done : store_changes w.store (any.Name (names.Bind k n h o)) ≡ true
      → Kept w (done w (any.Name (names.Bind k n h o))) (any.Name (names.Bind k n h o))
  bind_done ok =
      let able : dead_in w.store k.dir h.op ≡ false = grind arith in
      record {
        sound = record {
          entries = record {
            bound = λ x e is. grind (arith, maps, s.entries.bound x e, s.entries.bound k);
            at_home = λ x e is. grind (arith, maps, s.entries.at_home x e);
            in_dir = λ x is. grind (arith, maps, s.entries.in_dir x);
            set = λ x g is p. grind (arith, maps, s.entries.set x g, s.entries.bound k);
          };
          holds = record {
            set = λ x g is p. grind
                (arith, maps, able, s.holds.set x g, s.entries.bound k, s.holds.live h record { lower = n; upper = k; phase = Live });
            live = λ x g is l nd. grind (arith, maps, s.holds.live x g);
            listed = λ m x u is. grind (arith, maps, s.holds.listed m x u, s.entries.bound k);
            lower_made = λ x g is. grind (arith, maps, s.holds.lower_made x, lower w s h n k needs.0, s.entries.bound k);
            upper_made = λ x g is. grind (arith, maps, s.holds.upper_made x, upper w s h n k needs.0, s.entries.bound k);
          };
          nodes = record {
            standing_made = s.nodes.standing_made;
            named_made = λ m e. grind (arith, maps, s.nodes.named_made m, lower w s h n k needs.0);
          };
          tree = record {
            named = λ d p l par hm. grind (arith, maps, s.tree.named d p l, beneath w s h n k needs.0 d p);
            unnamed = λ x g d p is low hm par. grind (arith, maps, s.tree.unnamed x g d p, s.entries.bound k, s.entries.at_home k);
            stands = s.tree.stands;
            climbs = s.tree.climbs;
            root_made = s.tree.root_made;
            root_home = grind (arith, maps, s.tree.root_home, no_root w s h n k needs.0);
            root_free = λ x g is low. grind (
              arith,
              maps,
              s.tree.root_free x g,
              no_root w s h n k needs.0,
              s.entries.bound k,
              s.entries.at_home k,
              s.tree.root_home,
            );
          };
          rows = s.rows;
          blocks = s.blocks;
          chunks = s.chunks;
        };
        later = record {
          made = λ m e. e;
          unmade = λ m o e. e;
          named = λ m e. grind (arith, maps);
          unnamed = λ m o e. grind (arith, maps);
          fresh = λ x o e. grind (arith, maps, s.entries.bound k);
          live = λ x g o e l. grind (arith, maps, s.entries.bound k);
          kept = λ x p e. grind (arith, maps, s.entries.bound k);
          spent = λ x e. grind (arith, maps, able, s.entries.bound k);
          rows = rows_same _ _ _;
          blocks = blocks_same _ _;
          chunks = chunks_same _ _;
        };
        taught = grind (arith, maps, s.entries.bound k);
      }

-- one that is refused leaves its hold
bind_says : (w : World) (k : Key) (n : Node) (h : Hold) (o : Over) → store_changes w.store (any.Name (names.Bind k n h o)) ≡ false
    → as_bound (store_reply w.store (any.Name (names.Bind k n h o))) ≡ None
bind_says w k n h o stayed = grind arith

bind_refused : (w : World) (k : Key) (n : Node) (h : Hold) (o : Over) → Needs w (any.Name (names.Bind k n h o))
    → store_changes w.store (any.Name (names.Bind k n h o)) ≡ false
    → BoundTaught w h n k (as_bound (store_reply w.store (any.Name (names.Bind k n h o))))
bind_refused w k n h o needs stayed = rw (bind_says w k n h o stayed) needs.0

bind_untold : (s : Store) (k : Key) (n : Node) (h : Hold) (o : Over) → is_made (store_reply s (any.Name (names.Bind k n h o))) ≡ false
bind_untold s k n h o = grind arith

pub bind_row : (k : Key) (n : Node) (h : Hold) (o : Over) → Row (any.Name (names.Bind k n h o))
bind_row k n h o = record {
  kept = λ w s needs. by_answer w (any.Name (names.Bind k n h o)) _ refl (λ e. by_reading w _ s (bind_refused w k n h o needs e))
      (bind_done w s k n h o needs);
  laws = grants_nothing (any.Name (names.Bind k n h o)) refl refl (λ s. bind_untold s k n h o) (λ w k. tt) (no_rows _ refl refl);
}

-- Unbind
module _ (w : World) (s : Sound w) (k : Key) (want : Want) where
  -- what an unbind says of the entry that it took
  abbrev taken : Option DirectoryEntry → Option (Node × Hold)
  taken None = None
  taken (Some e) = Some (e.node, e.hold)

  unbind_says : store_changes w.store (any.Name (names.Unbind k want)) ≡ true
      → as_unbound (store_reply w.store (any.Name (names.Unbind k want))) ≡ taken (get w.store.names.entries k)
  unbind_says ok = grind arith

  unbind_done : store_changes w.store (any.Name (names.Unbind k want)) ≡ true
      → Kept w (done w (any.Name (names.Unbind k want))) (any.Name (names.Unbind k want))
  unbind_done ok = record {
    sound = record {
      entries = record {
        bound = λ x e is. grind (arith, maps, s.entries.bound x e, s.entries.bound k);
        at_home = λ x e is. grind (arith, maps, s.entries.at_home x e);
        in_dir = λ x is. grind (arith, maps, s.entries.in_dir x);
        set = λ x g is p. grind (arith, maps, s.entries.set x g, s.entries.bound k);
      };
      holds = record {
        set = λ x g is p. grind (arith, maps, s.holds.set x g, s.entries.bound k);
        live = λ x g is l nd. grind (arith, maps, s.holds.live x g);
        listed = λ m x u is. grind (arith, maps, s.holds.listed m x u, s.entries.bound k);
        lower_made = λ x g is. grind (arith, maps, s.holds.lower_made x, s.entries.bound k);
        upper_made = λ x g is. grind (arith, maps, s.holds.upper_made x, s.entries.bound k);
      };
      nodes = s.nodes;
      tree = record {
        named = s.tree.named;
        unnamed = λ x g d p is low hm par. grind (arith, maps, s.tree.unnamed x g d p, s.entries.bound k, s.entries.at_home k);
        stands = s.tree.stands;
        climbs = s.tree.climbs;
        root_made = s.tree.root_made;
        root_home = s.tree.root_home;
        root_free = λ x g is low. grind (arith, maps, s.tree.root_free x g, s.entries.bound k, s.entries.at_home k, s.tree.root_home);
      };
      rows = s.rows;
      blocks = s.blocks;
      chunks = s.chunks;
    };
    later = record {
      made = λ m e. e;
      unmade = λ m o e. e;
      named = λ m e. e;
      unnamed = λ m o e. e;
      fresh = λ x o e. grind (arith, maps, s.entries.bound k);
      live = λ x g o e l. grind (arith, maps, s.entries.bound k);
      kept = λ x p e. grind (arith, maps, s.entries.bound k);
      spent = λ x e. grind (arith, maps, s.entries.bound k);
      rows = rows_same _ _ _;
      blocks = blocks_same _ _;
      chunks = chunks_same _ _;
    };
    taught = rw (unbind_says ok) (grind (arith, maps, s.entries.bound k));
  }

unbind_refused : (w : World) (k : Key) (want : Want) → store_changes w.store (any.Name (names.Unbind k want)) ≡ false
    → UnboundTaught w (as_unbound (store_reply w.store (any.Name (names.Unbind k want))))
unbind_refused w k want stayed = grind arith

unbind_untold : (s : Store) (k : Key) (want : Want) → is_made (store_reply s (any.Name (names.Unbind k want))) ≡ false
unbind_untold s k want = grind arith

pub unbind_row : (k : Key) (want : Want) → Row (any.Name (names.Unbind k want))
unbind_row k want = record {
  kept = λ w s needs. by_answer w (any.Name (names.Unbind k want)) _ refl (λ e. by_reading w _ s (unbind_refused w k want e))
      (unbind_done w s k want);
  laws = grants_nothing (any.Name (names.Unbind k want)) refl refl (λ s. unbind_untold s k want) (λ w k. tt) (no_rows _ refl refl);
}

-- Swap
module _ (w : World) (s : Sound w) (d : DirId) (from to : List ℕ) (n : Node) (h : Hold)
    (needs : Needs w (any.Name (names.Swap d from to n h))) where
  -- the old key
  abbrev from_key : Key
  from_key = key_in d from

  -- the new key
  abbrev to_key : Key
  to_key = key_in d to

  -- what stood at the new name
  abbrev gone : Option DirectoryEntry → Option Replaced
  gone None = None
  gone (Some e) = Some (replaced e)

  -- what a swap says of the entries that stood at both
  abbrev both_gone : Option DirectoryEntry → Option DirectoryEntry → Option (Hold × Option Replaced)
  both_gone None old = None
  both_gone (Some e) old = Some (e.hold, gone old)

  swap_says : store_changes w.store (any.Name (names.Swap d from to n h)) ≡ true
      → as_swapped (store_reply w.store (any.Name (names.Swap d from to n h)))
      ≡ both_gone (get w.store.names.entries from_key) (get w.store.names.entries to_key)
  swap_says ok = grind arith

  -- the node of an entry
  abbrev node_at : Option DirectoryEntry → Option Node
  node_at None = None
  node_at (Some e) = Some e.node

  -- the old name is the node's
  swap_from : store_changes w.store (any.Name (names.Swap d from to n h)) ≡ true → node_at (get w.store.names.entries from_key) ≡ Some n
  swap_from ok = grind (arith, maps)

  swap_done : store_changes w.store (any.Name (names.Swap d from to n h)) ≡ true
      → Kept w (done w (any.Name (names.Swap d from to n h))) (any.Name (names.Swap d from to n h))
  swap_done ok =
      let able : dead_in w.store d h.op ≡ false = grind arith in
      let was : node_at (get w.store.names.entries from_key) ≡ Some n = swap_from ok in
      record {
        sound = record {
          entries = record {
            bound = λ x e is. grind (arith, maps, s.entries.bound x e, s.entries.bound from_key, s.entries.bound to_key);
            at_home = λ x e is. grind (arith, maps, was, s.entries.at_home x e, s.entries.at_home from_key);
            in_dir = λ x is. grind (arith, maps, s.entries.in_dir x);
            set = λ x g is p. grind (arith, maps, s.entries.set x g, s.entries.bound from_key, s.entries.bound to_key);
          };
          holds = record {
            set = λ x g is p. grind (
              arith,
              maps,
              able,
              s.holds.set x g,
              s.entries.bound from_key,
              s.entries.bound to_key,
              s.holds.live h record
                  { lower = n; upper = to_key; phase = Live },
            );
            live = λ x g is l nd. grind (arith, maps, s.holds.live x g);
            listed = λ m x u is. grind (arith, maps, s.holds.listed m x u, s.entries.bound from_key, s.entries.bound to_key);
            lower_made = λ x g is. grind
                (arith, maps, s.holds.lower_made x, lower w s h n to_key needs.0, s.entries.bound from_key, s.entries.bound to_key);
            upper_made = λ x g is. grind
                (arith, maps, s.holds.upper_made x, upper w s h n to_key needs.0, s.entries.bound from_key, s.entries.bound to_key);
          };
          nodes = record {
            standing_made = s.nodes.standing_made;
            named_made = λ m e. grind (arith, maps, s.nodes.named_made m, lower w s h n to_key needs.0);
          };
          tree = record {
            named = λ x p l par hm. grind (arith, maps, was, s.tree.named x p l, s.tree.named x p from_key, s.entries.at_home from_key);
            unnamed = λ x g y p is low hm par. grind (
              arith,
              maps,
              s.tree.unnamed x g y p,
              s.entries.bound from_key,
              s.entries.bound to_key,
              s.entries.at_home from_key,
              s.entries.at_home to_key,
            );
            stands = s.tree.stands;
            climbs = s.tree.climbs;
            root_made = s.tree.root_made;
            root_home = grind (arith, maps, s.tree.root_home, no_root w s h n to_key needs.0);
            root_free = λ x g is low. grind (
              arith,
              maps,
              s.tree.root_free x g,
              no_root w s h n to_key needs.0,
              s.entries.bound from_key,
              s.entries.bound to_key,
              s.entries.at_home from_key,
              s.entries.at_home to_key,
              s.tree.root_home,
            );
          };
          rows = s.rows;
          blocks = s.blocks;
          chunks = s.chunks;
        };
        later = record {
          made = λ m e. e;
          unmade = λ m o e. e;
          named = λ m e. grind (arith, maps);
          unnamed = λ m o e. grind (arith, maps, was, s.entries.at_home from_key);
          fresh = λ x o e. grind (arith, maps, s.entries.bound from_key, s.entries.bound to_key);
          live = λ x g o e l. grind (arith, maps, s.entries.bound from_key, s.entries.bound to_key);
          kept = λ x p e. grind (arith, maps, s.entries.bound from_key, s.entries.bound to_key);
          spent = λ x e. grind (arith, maps, able, s.entries.bound from_key, s.entries.bound to_key);
          rows = rows_same _ _ _;
          blocks = blocks_same _ _;
          chunks = chunks_same _ _;
        };
        taught = rw (swap_says ok) (grind (arith, maps, s.entries.bound from_key, s.entries.bound to_key));
      }

swap_says_none : (w : World) (d : DirId) (from to : List ℕ) (n : Node) (h : Hold)
    → store_changes w.store (any.Name (names.Swap d from to n h)) ≡ false
    → as_swapped (store_reply w.store (any.Name (names.Swap d from to n h))) ≡ None
swap_says_none w d from to n h stayed = grind arith

swap_refused : (w : World) (d : DirId) (from to : List ℕ) (n : Node) (h : Hold) → Needs w (any.Name (names.Swap d from to n h))
    → store_changes w.store (any.Name (names.Swap d from to n h)) ≡ false
    → SwappedTaught w h n (key_in d to) (as_swapped (store_reply w.store (any.Name (names.Swap d from to n h))))
swap_refused w d from to n h needs stayed = rw (swap_says_none w d from to n h stayed) needs.0

swap_untold : (s : Store) (d : DirId) (from to : List ℕ) (n : Node) (h : Hold)
    → is_made (store_reply s (any.Name (names.Swap d from to n h))) ≡ false
swap_untold s d from to n h = grind arith

pub swap_row : (d : DirId) (from to : List ℕ) (n : Node) (h : Hold) → Row (any.Name (names.Swap d from to n h))
swap_row d from to n h = record {
  kept = λ w s needs. by_answer w (any.Name (names.Swap d from to n h)) _ refl
      (λ e. by_reading w _ s (swap_refused w d from to n h needs e)) (swap_done w s d from to n h needs);
  laws = grants_nothing (any.Name (names.Swap d from to n h)) refl refl (λ s. swap_untold s d from to n h) (λ w k. k.1)
      (no_rows _ refl refl);
}
