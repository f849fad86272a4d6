-- requests that grant and release holds
use Rattle.std.proofs.Common.{◌≡◌, ℕ, true, false, Option, refl, arith}
use Rattle.tect_ids.specs.declared.ids.DirId.{DirId}
use Rattle.tect_ids.specs.declared.ids.FileId.{FileId}
use Rattle.tect_ids.specs.declared.ids.Hold.{Hold}
use Rattle.tect_ids.specs.declared.ids.Node.TheVariants.{Dir, File}
use Rattle.tect_ids.specs.declared.key.Key.{Key}
use Rattle.key_words.proofs.Lookups.{maps}
use Rattle.store_rules.specs.declared.names.NameReq.TheVariants as names
use Rattle.store_rules.specs.declared.files.FileReq.TheVariants as files
use Rattle.store_rules.specs.declared.any.AnyReq.TheVariants as any
use Rattle.store_rules.specs.Store.{Store, store_changes, store_reply}
use Rattle.store_rules.specs.Views.{is_made}
use Rattle.store_pasts.specs.Worlds.{World, done}
use Rattle.store_pasts.specs.Pasts.{row_at}
use Rattle.store_pasts.proofs.Laters.{rows_same, rows_stay, blocks_same, chunks_same}
use Rattle.store_world.specs.Sound.{Sound, parent}
use Rattle.store_pasts.specs.Requests.{Needs, GrantTaught}
use Rattle.store_world.specs.Kept.{Kept}
use Rattle.store_world.proofs.Frames.{Row, by_answer, by_reading, grants_nothing, grants_one, no_rows}
use Rattle.store_world.proofs.Alike.{rows_alike}
use Rattle.store_world.proofs.Chains.{climbs_still}

-- Grant at a directory
module _ (w : World) (s : Sound w) (d : DirId) (h : Hold) (k : Key) (needs : Needs w (any.Name (names.Grant d h k))) where
  abbrev now : DirId → Option DirId
  now = parent (done w (any.Name (names.Grant d h k))).store

  -- the parents are as before
  same : (x : DirId) → now x ≡ parent w.store x
  same x = grind (arith, maps)

  dir_granted : store_changes w.store (any.Name (names.Grant d h k)) ≡ true
      → Kept w (done w (any.Name (names.Grant d h k))) (any.Name (names.Grant d h k))
  dir_granted ok = record {
    sound = record {
      entries = record {
        bound = λ x e is. grind (arith, maps, s.entries.bound x e);
        at_home = s.entries.at_home;
        in_dir = λ x is. grind (arith, maps, s.entries.in_dir x);
        set = λ x g is p. grind (arith, maps, s.entries.set x g);
      };
      holds = record {
        set = λ x g is p. grind (arith, maps, s.holds.set x g);
        live = λ x g is l nd. grind (arith, maps, s.holds.live x g);
        listed = λ m x u is. grind (arith, maps, s.holds.listed m x u);
        lower_made = λ x g is. grind (arith, maps, s.holds.lower_made x g, s.nodes.standing_made (Dir d));
        upper_made = λ x g is. grind (arith, maps, s.holds.upper_made x g);
      };
      nodes = record {
        standing_made = λ m st. grind (arith, maps, s.nodes.standing_made m);
        named_made = s.nodes.named_made;
      };
      tree = record {
        named = λ x p l par hm. s.tree.named x p l (rw (← same x) par) hm;
        unnamed = λ x g y p is low hm par. grind (arith, maps, same y, s.tree.unnamed x g y p);
        stands = λ x is. rw (same x) (s.tree.stands x is);
        climbs = λ x is. climbs_still (parent w.store) now (λ y e at. rw (same y) at) x (s.tree.climbs x (rw (← same x) is));
        root_made = s.tree.root_made;
        root_home = s.tree.root_home;
        root_free = λ x g is low. grind (arith, maps, s.tree.root_free x g, s.tree.root_home);
      };
      rows = s.rows;
      blocks = s.blocks;
      chunks = s.chunks;
    };
    later = record {
      made = λ m e. e;
      unmade = λ m o e. e;
      named = λ m e. e;
      unnamed = λ m o e. e;
      fresh = λ x o e. grind (arith, maps);
      live = λ x g o e l. grind (arith, maps);
      kept = λ x p e. grind (arith, maps);
      spent = λ x e. grind (arith, maps);
      rows = rows_same _ _ _;
      blocks = blocks_same _ _;
      chunks = chunks_same _ _;
    };
    taught = grind (arith, maps);
  }

dir_grant_untold : (s : Store) (d : DirId) (h : Hold) (k : Key) → is_made (store_reply s (any.Name (names.Grant d h k))) ≡ false
dir_grant_untold s d h k = grind arith

dir_grant_refused : (w : World) (d : DirId) (h : Hold) (k : Key) → store_changes w.store (any.Name (names.Grant d h k)) ≡ false
    → GrantTaught w (Dir d) h k (store_reply w.store (any.Name (names.Grant d h k)))
dir_grant_refused w d h k stayed = grind arith

pub grant_dir_row : (d : DirId) (h : Hold) (k : Key) → Row (any.Name (names.Grant d h k))
grant_dir_row d h k = record {
  kept = λ w s needs. by_answer w (any.Name (names.Grant d h k)) _ refl (λ e. by_reading w _ s (dir_grant_refused w d h k e))
      (dir_granted w s d h k needs);
  laws = grants_one (any.Name (names.Grant d h k)) record { node = Dir d; hold = h; key = k } refl (λ w needs. needs.0) (λ w k. tt)
      (no_rows _ refl refl) refl (λ s. dir_grant_untold s d h k) (λ v x t. t);
}

-- Grant at a file
module _ (w : World) (s : Sound w) (f : FileId) (h : Hold) (k : Key) (needs : Needs w (any.File (files.Grant f h k))) where
  -- the rows of files are as before
  same_rows : (x : FileId) (i : ℕ) → row_at (done w (any.File (files.Grant f h k))).store x i ≡ row_at w.store x i
  same_rows x i = grind (arith, maps)

  file_granted : store_changes w.store (any.File (files.Grant f h k)) ≡ true
      → Kept w (done w (any.File (files.Grant f h k))) (any.File (files.Grant f h k))
  file_granted ok = record {
    sound = record {
      entries = record {
        bound = λ x e is. grind (arith, maps, s.entries.bound x e);
        at_home = s.entries.at_home;
        in_dir = s.entries.in_dir;
        set = λ x g is p. grind (arith, maps, s.entries.set x g);
      };
      holds = record {
        set = λ x g is p. grind (arith, maps, s.holds.set x g);
        live = λ x g is l nd. grind (arith, maps, s.holds.live x g);
        listed = λ m x u is. grind (arith, maps, s.holds.listed m x u);
        lower_made = λ x g is. grind (arith, maps, s.holds.lower_made x g, s.nodes.standing_made (File f));
        upper_made = λ x g is. grind (arith, maps, s.holds.upper_made x g);
      };
      nodes = record {
        standing_made = λ m st. grind (arith, maps, s.nodes.standing_made m);
        named_made = s.nodes.named_made;
      };
      tree = record {
        named = s.tree.named;
        unnamed = λ x g y p is low hm par. grind (arith, maps, s.tree.unnamed x g y p);
        stands = s.tree.stands;
        climbs = s.tree.climbs;
        root_made = s.tree.root_made;
        root_home = s.tree.root_home;
        root_free = λ x g is low. grind (arith, maps, s.tree.root_free x g);
      };
      rows = rows_alike _ _ _ _ _ s.rows _ same_rows;
      blocks = s.blocks;
      chunks = s.chunks;
    };
    later = record {
      made = λ m e. e;
      unmade = λ m o e. e;
      named = λ m e. e;
      unnamed = λ m o e. e;
      fresh = λ x o e. grind (arith, maps);
      live = λ x g o e l. grind (arith, maps);
      kept = λ x p e. grind (arith, maps);
      spent = λ x e. grind (arith, maps);
      rows = rows_stay _ _ _ _ same_rows;
      blocks = blocks_same _ _;
      chunks = chunks_same _ _;
    };
    taught = grind (arith, maps);
  }

file_grant_untold : (s : Store) (f : FileId) (h : Hold) (k : Key) → is_made (store_reply s (any.File (files.Grant f h k))) ≡ false
file_grant_untold s f h k = grind arith

file_grant_refused : (w : World) (f : FileId) (h : Hold) (k : Key) → store_changes w.store (any.File (files.Grant f h k)) ≡ false
    → GrantTaught w (File f) h k (store_reply w.store (any.File (files.Grant f h k)))
file_grant_refused w f h k stayed = grind arith

pub grant_file_row : (f : FileId) (h : Hold) (k : Key) → Row (any.File (files.Grant f h k))
grant_file_row f h k = record {
  kept = λ w s needs. by_answer w (any.File (files.Grant f h k)) _ refl (λ e. by_reading w _ s (file_grant_refused w f h k e))
      (file_granted w s f h k needs);
  laws = grants_one (any.File (files.Grant f h k)) record { node = File f; hold = h; key = k } refl (λ w needs. needs.0) (λ w k. tt)
      (no_rows _ refl refl) refl (λ s. file_grant_untold s f h k) (λ v x t. t);
}

-- Release at a directory
module _ (w : World) (s : Sound w) (d : DirId) (h : Hold) (needs : Needs w (any.Name (names.Release d h))) where
  abbrev released : DirId → Option DirId
  released = parent (done w (any.Name (names.Release d h))).store

  -- the parents are as before
  same_released : (x : DirId) → released x ≡ parent w.store x
  same_released x = grind (arith, maps)

  dir_released : Kept w (done w (any.Name (names.Release d h))) (any.Name (names.Release d h))
  dir_released = record {
    sound = record {
      entries = record {
        bound = s.entries.bound;
        at_home = s.entries.at_home;
        in_dir = λ x is. grind (arith, maps, s.entries.in_dir x);
        set = s.entries.set;
      };
      holds = record {
        set = λ x g is p. grind (arith, maps, s.holds.set x g);
        live = λ x g is l nd. grind (arith, maps, s.holds.live x g);
        listed = λ m x u is. grind (arith, maps, s.holds.listed m x u);
        lower_made = s.holds.lower_made;
        upper_made = s.holds.upper_made;
      };
      nodes = record {
        standing_made = λ m st. grind (arith, maps, s.nodes.standing_made m);
        named_made = s.nodes.named_made;
      };
      tree = record {
        named = λ x p l par hm. s.tree.named x p l (rw (← same_released x) par) hm;
        unnamed = λ x g y p is low hm par. s.tree.unnamed x g y p is low hm (rw (← same_released y) par);
        stands = λ x is. rw (same_released x) (s.tree.stands x is);
        climbs = λ x is. climbs_still (parent w.store) released (λ y e at. rw (same_released y) at) x
            (s.tree.climbs x (rw (← same_released x) is));
        root_made = s.tree.root_made;
        root_home = s.tree.root_home;
        root_free = s.tree.root_free;
      };
      rows = s.rows;
      blocks = s.blocks;
      chunks = s.chunks;
    };
    later = record {
      made = λ m e. e;
      unmade = λ m o e. e;
      named = λ m e. e;
      unnamed = λ m o e. e;
      fresh = λ x o e. e;
      live = λ x g o e l. e;
      kept = λ x p e. e;
      spent = λ x e. grind (arith, maps);
      rows = rows_same _ _ _;
      blocks = blocks_same _ _;
      chunks = chunks_same _ _;
    };
    taught = tt;
  }

dir_release_untold : (s : Store) (d : DirId) (h : Hold) → is_made (store_reply s (any.Name (names.Release d h))) ≡ false
dir_release_untold s d h = grind arith

pub release_dir_row : (d : DirId) (h : Hold) → Row (any.Name (names.Release d h))
release_dir_row d h = record {
  kept = λ w s needs. by_answer w (any.Name (names.Release d h)) _ refl (λ e. by_reading w _ s tt) (λ e. dir_released w s d h needs);
  laws = grants_nothing (any.Name (names.Release d h)) refl refl (λ s. dir_release_untold s d h) (λ w k. tt) (no_rows _ refl refl);
}

-- Release at a file
module _ (w : World) (s : Sound w) (f : FileId) (h : Hold) (needs : Needs w (any.File (files.Release f h))) where
  -- the rows of files are as before
  same_rows_after : (x : FileId) (i : ℕ) → row_at (done w (any.File (files.Release f h))).store x i ≡ row_at w.store x i
  same_rows_after x i = grind (arith, maps)

  file_released : Kept w (done w (any.File (files.Release f h))) (any.File (files.Release f h))
  file_released = record {
    sound = record {
      entries = s.entries;
      holds = record {
        set = λ x g is p. grind (arith, maps, s.holds.set x g);
        live = λ x g is l nd. grind (arith, maps, s.holds.live x g);
        listed = λ m x u is. grind (arith, maps, s.holds.listed m x u);
        lower_made = s.holds.lower_made;
        upper_made = s.holds.upper_made;
      };
      nodes = record {
        standing_made = λ m st. grind (arith, maps, s.nodes.standing_made m);
        named_made = s.nodes.named_made;
      };
      tree = s.tree;
      rows = rows_alike _ _ _ _ _ s.rows _ same_rows_after;
      blocks = s.blocks;
      chunks = s.chunks;
    };
    later = record {
      made = λ m e. e;
      unmade = λ m o e. e;
      named = λ m e. e;
      unnamed = λ m o e. e;
      fresh = λ x o e. e;
      live = λ x g o e l. e;
      kept = λ x p e. e;
      spent = λ x e. e;
      rows = rows_stay _ _ _ _ same_rows_after;
      blocks = blocks_same _ _;
      chunks = chunks_same _ _;
    };
    taught = tt;
  }

file_release_untold : (s : Store) (f : FileId) (h : Hold) → is_made (store_reply s (any.File (files.Release f h))) ≡ false
file_release_untold s f h = grind arith

pub release_file_row : (f : FileId) (h : Hold) → Row (any.File (files.Release f h))
release_file_row f h = record {
  kept = λ w s needs. by_answer w (any.File (files.Release f h)) _ refl (λ e. by_reading w _ s tt) (λ e. file_released w s f h needs);
  laws = grants_nothing (any.File (files.Release f h)) refl refl (λ s. file_release_untold s f h) (λ w k. tt) (no_rows _ refl refl);
}
