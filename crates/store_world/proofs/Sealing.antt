-- requests that seal a directory or a file
use Rattle.std.proofs.Common.{◌≡◌, ℕ, false, refl, arith}
use Rattle.tect_ids.specs.declared.ids.DirId.{DirId}
use Rattle.tect_ids.specs.declared.ids.FileId.{FileId}
use Rattle.tect_ids.specs.declared.ids.Hold.{Hold}
use Rattle.tect_ids.specs.declared.ids.Node.{Node}
use Rattle.tect_ids.specs.declared.ids.Node.TheVariants.{Dir, File}
use Rattle.key_words.proofs.Lookups.{maps}
use Rattle.store_rules.specs.declared.names.NameReq.TheVariants as names
use Rattle.store_rules.specs.declared.files.FileReq.TheVariants as files
use Rattle.store_rules.specs.declared.any.AnyReq.TheVariants as any
use Rattle.store_rules.specs.Store.{Store, store_change, store_reply}
use Rattle.store_rules.specs.Views.{is_made}
use Rattle.store_pasts.specs.Worlds.{World, done}
use Rattle.store_pasts.specs.Pasts.{row_at}
use Rattle.store_pasts.proofs.Laters.{rows_same, rows_stay, blocks_same, chunks_same}
use Rattle.store_world.specs.Sound.{Sound, parent, lists, stands}
use Rattle.store_world.specs.Kept.{Kept}
use Rattle.store_world.proofs.Frames.{Row, by_answer, by_reading, grants_nothing, no_rows}
use Rattle.store_world.proofs.Alike.{holds_alike, nodes_alike, rows_alike}
use Rattle.store_world.proofs.Chains.{climbs_still}

-- SealDir
module _ (w : World) (s : Sound w) (d : DirId) where
  abbrev dir_now : Store
  dir_now = store_change w.store (any.Name (names.SealDir d))

  -- the parents are as before, and so is what stands
  same_parent : (x : DirId) → parent dir_now x ≡ parent w.store x
  same_parent x = grind (arith, maps)

  dir_stands : (n : Node) → stands dir_now n ≡ stands w.store n
  dir_stands (Dir x) = grind (arith, maps)
  dir_stands (File f) = refl

  dir_closed : Kept w (done w (any.Name (names.SealDir d))) (any.Name (names.SealDir d))
  dir_closed = record {
    sound = record {
      entries = record {
        bound = s.entries.bound;
        at_home = s.entries.at_home;
        in_dir = λ x is. grind (arith, maps, s.entries.in_dir x);
        set = s.entries.set;
      };
      holds = record {
        set = λ x g is p. grind (arith, maps, s.holds.set x g);
        live = λ x g is l nd. grind (arith, maps, s.holds.live x g);
        listed = λ m x u is. grind (arith, maps, s.holds.listed m x u);
        lower_made = s.holds.lower_made;
        upper_made = s.holds.upper_made;
      };
      nodes = nodes_alike _ _ _ _ dir_stands s.nodes;
      tree = record {
        named = λ x p l par hm. s.tree.named x p l (rw (← same_parent x) par) hm;
        unnamed = λ x g y p is low hm par. s.tree.unnamed x g y p is low hm (rw (← same_parent y) par);
        stands = λ x is. rw (same_parent x) (s.tree.stands x is);
        climbs = λ x is. climbs_still (parent w.store) (parent dir_now) (λ y e at. rw (same_parent y) at) x
            (s.tree.climbs x (rw (← same_parent x) is));
        root_made = s.tree.root_made;
        root_home = s.tree.root_home;
        root_free = s.tree.root_free;
      };
      rows = s.rows;
      blocks = s.blocks;
      chunks = s.chunks;
    };
    later = record {
      made = λ m e. e;
      unmade = λ m o e. e;
      named = λ m e. e;
      unnamed = λ m o e. e;
      fresh = λ x o e. e;
      live = λ x g o e l. e;
      kept = λ x p e. e;
      spent = λ x e. grind (arith, maps);
      rows = rows_same _ _ _;
      blocks = blocks_same _ _;
      chunks = chunks_same _ _;
    };
    taught = tt;
  }

dir_seal_untold : (s : Store) (d : DirId) → is_made (store_reply s (any.Name (names.SealDir d))) ≡ false
dir_seal_untold s d = grind arith

pub seal_dir_row : (d : DirId) → Row (any.Name (names.SealDir d))
seal_dir_row d = record {
  kept = λ w s needs. by_answer w (any.Name (names.SealDir d)) _ refl (λ e. by_reading w _ s tt) (λ e. dir_closed w s d);
  laws = grants_nothing (any.Name (names.SealDir d)) refl refl (λ s. dir_seal_untold s d) (λ w k. tt) (no_rows _ refl refl);
}

-- SealFile
module _ (w : World) (s : Sound w) (f : FileId) where
  abbrev file_now : Store
  file_now = store_change w.store (any.File (files.SealFile f))

  -- what nodes list is as before, and so are the rows
  file_lists_still : (n : Node) (h : Hold) → lists file_now n h ≡ lists w.store n h
  file_lists_still (Dir d) h = refl
  file_lists_still (File x) h = grind (arith, maps)

  file_stands : (n : Node) → stands file_now n ≡ stands w.store n
  file_stands (Dir d) = refl
  file_stands (File x) = grind (arith, maps)

  file_rows : (x : FileId) (i : ℕ) → row_at file_now x i ≡ row_at w.store x i
  file_rows x i = grind (arith, maps)

  file_closed : Kept w (done w (any.File (files.SealFile f))) (any.File (files.SealFile f))
  file_closed = record {
    sound = record {
      entries = s.entries;
      holds = holds_alike _ _ _ _ _ file_lists_still s.holds;
      nodes = nodes_alike _ _ _ _ file_stands s.nodes;
      tree = s.tree;
      rows = rows_alike _ _ _ _ _ s.rows _ file_rows;
      blocks = s.blocks;
      chunks = s.chunks;
    };
    later = record {
      made = λ n e. e;
      unmade = λ n o e. e;
      named = λ n e. e;
      unnamed = λ n o e. e;
      fresh = λ h o e. e;
      live = λ h g o e l. e;
      kept = λ h p e. e;
      spent = λ h e. e;
      rows = rows_stay _ _ _ _ file_rows;
      blocks = blocks_same _ _;
      chunks = chunks_same _ _;
    };
    taught = tt;
  }

file_seal_untold : (s : Store) (f : FileId) → is_made (store_reply s (any.File (files.SealFile f))) ≡ false
file_seal_untold s f = grind arith

pub seal_file_row : (f : FileId) → Row (any.File (files.SealFile f))
seal_file_row f = record {
  kept = λ w s needs. by_answer w (any.File (files.SealFile f)) _ refl (λ e. by_reading w _ s tt) (λ e. file_closed w s f);
  laws = grants_nothing (any.File (files.SealFile f)) refl refl (λ s. file_seal_untold s f) (λ w k. tt) (no_rows _ refl refl);
}
