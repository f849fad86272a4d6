-- requests that make a directory or a file
use Rattle.std.proofs.Common.{◌≡◌, ℕ, true, false, Option, Some, None, is_some, refl, arith}
use Rattle.tect_ids.specs.declared.ids.DirId.{DirId}
use Rattle.tect_ids.specs.declared.ids.FileId.{FileId}
use Rattle.tect_ids.specs.declared.ids.Hold.{Hold}
use Rattle.tect_ids.specs.declared.ids.Node.TheVariants.{Dir, File}
use Rattle.tect_ids.specs.declared.ids.OpId.{OpId}
use Rattle.tect_ids.specs.declared.key.Key.{Key}
use Rattle.tect_ids.specs.Keys.{dir_eq}
use Rattle.tect_ids.specs.Numbers.{root}
use Rattle.key_words.proofs.Lookups.{maps}
use Rattle.store_rules.specs.declared.names.NameReq.TheVariants as names
use Rattle.store_rules.specs.declared.files.FileReq.TheVariants as files
use Rattle.store_rules.specs.declared.any.AnyReq.TheVariants as any
use Rattle.store_rules.specs.Store.{store_changes}
use Rattle.store_pasts.specs.Worlds.{World, done}
use Rattle.store_pasts.specs.Pasts.{row_at}
use Rattle.store_pasts.proofs.Laters.{rows_same, rows_stay, blocks_same, chunks_same}
use Rattle.store_world.specs.Sound.{Sound, parent, above}
use Rattle.store_pasts.specs.Requests.{Needs}
use Rattle.store_world.specs.Kept.{Kept}
use Rattle.store_world.proofs.Frames.{Row, by_answer, makes_one, no_rows}
use Rattle.store_world.proofs.Alike.{rows_alike, rows_made}
use Rattle.store_world.proofs.Chains.{climbs_still, climbs_from}

-- MakeFile
module _ (w : World) (s : Sound w) (f : FileId) (h : Hold) (k : Key) (t : Option OpId) (needs : Needs w (any.File (files.MakeFile f h k t)))
  where
    -- the rows of files are as before: it has none
    same_rows : (x : FileId) (i : ℕ) → row_at (done w (any.File (files.MakeFile f h k t))).store x i ≡ row_at w.store x i
    same_rows x i = grind (arith, maps, s.nodes.standing_made (File f))

    file_made : store_changes w.store (any.File (files.MakeFile f h k t)) ≡ true
        → Kept w (done w (any.File (files.MakeFile f h k t))) (any.File (files.MakeFile f h k t))
    file_made ok = record {
      sound = record {
        entries = record {
          bound = λ x e is. grind (arith, maps, s.entries.bound x e);
          at_home = s.entries.at_home;
          in_dir = s.entries.in_dir;
          set = λ x g is p. grind (arith, maps, s.entries.set x g);
        };
        holds = record {
          set = λ x g is p. grind (arith, maps, s.holds.set x g);
          live = λ x g is l nd. grind (arith, maps, s.holds.live x g);
          listed = λ m x u is. grind (arith, maps, s.holds.listed m x u);
          lower_made = λ x g is. grind (arith, maps, s.holds.lower_made x g);
          upper_made = λ x g is. grind (arith, maps, s.holds.upper_made x g);
        };
        nodes = record {
          standing_made = λ m st. grind (arith, maps, s.nodes.standing_made m);
          named_made = λ m e. grind (arith, maps, s.nodes.named_made m);
        };
        tree = record {
          named = s.tree.named;
          unnamed = λ x g d p is low hm par. grind (arith, maps, s.tree.unnamed x g d p);
          stands = λ d is. grind (arith, maps, s.tree.stands d);
          climbs = s.tree.climbs;
          root_made = grind (arith, maps, s.tree.root_made);
          root_home = s.tree.root_home;
          root_free = λ x g is low. grind (arith, maps, s.tree.root_free x g);
        };
        rows = rows_alike _ _ _ _ _ (rows_made _ _ _ _ _ s.rows _ (λ m is. grind (arith, maps))) _ same_rows;
        blocks = s.blocks;
        chunks = s.chunks;
      };
      later = record {
        made = λ m e. grind (arith, maps);
        unmade = λ m o e. grind (arith, maps);
        named = λ m e. e;
        unnamed = λ m o e. e;
        fresh = λ x o e. grind (arith, maps);
        live = λ x g o e l. grind (arith, maps);
        kept = λ x p e. grind (arith, maps);
        spent = λ x e. grind (arith, maps);
        rows = rows_stay _ _ _ _ same_rows;
        blocks = blocks_same _ _;
        chunks = chunks_same _ _;
      };
      taught = grind (arith, maps, s.nodes.named_made (File f));
    }

    file_not_refused : store_changes w.store (any.File (files.MakeFile f h k t)) ≡ false
        → Kept w w (any.File (files.MakeFile f h k t))
    file_not_refused stayed = absurd (grind (arith, maps, s.nodes.standing_made (File f)))

pub make_file_row : (f : FileId) (h : Hold) (k : Key) (t : Option OpId) → Row (any.File (files.MakeFile f h k t))
make_file_row f h k t = record {
  kept = λ w s needs. by_answer w (any.File (files.MakeFile f h k t)) _ refl (file_not_refused w s f h k t needs)
      (file_made w s f h k t needs);
  laws = makes_one (any.File (files.MakeFile f h k t)) record { node = File f; hold = h; key = k } refl (λ w needs. needs.1)
      (λ w k. tt) (no_rows _ refl refl) refl (λ w needs. needs.0) (λ v x t. t);
}

-- MakeDir
module _ (w : World) (s : Sound w) (d up : DirId) (h : Hold) (k : Key) (needs : Needs w (any.Name (names.MakeDir d up h k))) where
  -- the directory stood and was named nowhere before
  fresh : parent w.store d ≡ None
  fresh = grind (arith, s.nodes.standing_made (Dir d))

  unnamed : w.ghost.home (Dir d) ≡ None
  unnamed = grind (arith, s.nodes.named_made (Dir d))

  -- the parents after it is made
  abbrev now : DirId → Option DirId
  now = parent (done w (any.Name (names.MakeDir d up h k))).store

  more : (x e : DirId) → parent w.store x ≡ Some e → now x ≡ Some e
  more x e is = grind (arith, maps, fresh)

  new : now d ≡ Some k.dir
  new = grind (arith, maps)

  climbs : (x : DirId) → is_some (now x) ≡ true → (n : ℕ) × (above now n x ≡ Some root)
  climbs x stands =
      elim (dir_eq x d) as (λ b. dir_eq x d ≡ b → (n : ℕ) × (above now n x ≡ Some root)) [
        | true ↦ λ e. climbs_from now x k.dir (grind (arith, maps, new))
            (climbs_still (parent w.store) now more k.dir (s.tree.climbs k.dir (s.tree.stands k.dir needs.2)))
        | false ↦ λ e. climbs_still (parent w.store) now more x (s.tree.climbs x (grind (arith, maps)))
      ] refl

  dir_made : store_changes w.store (any.Name (names.MakeDir d up h k)) ≡ true
      → Kept w (done w (any.Name (names.MakeDir d up h k))) (any.Name (names.MakeDir d up h k))
  dir_made ok = record {
    sound = record {
      entries = record {
        bound = λ x e is. grind (arith, maps, s.entries.bound x e);
        at_home = s.entries.at_home;
        in_dir = λ x is. grind (arith, maps, s.entries.in_dir x);
        set = λ x g is p. grind (arith, maps, s.entries.set x g);
      };
      holds = record {
        set = λ x g is p. grind (arith, maps, s.holds.set x g);
        live = λ x g is l nd. grind (arith, maps, s.holds.live x g, s.holds.upper_made x g);
        listed = λ m x u is. grind (arith, maps, s.holds.listed m x u);
        lower_made = λ x g is. grind (arith, maps, s.holds.lower_made x g);
        upper_made = λ x g is. grind (arith, maps, s.holds.upper_made x g);
      };
      nodes = record {
        standing_made = λ m st. grind (arith, maps, s.nodes.standing_made m);
        named_made = λ m e. grind (arith, maps, s.nodes.named_made m);
      };
      tree = record {
        named = λ x p l par hm. grind (arith, maps, s.tree.named x p l, unnamed);
        unnamed = λ x g y p is low hm par. grind (arith, maps, s.tree.unnamed x g y p, s.holds.lower_made x g);
        stands = λ x is. grind (arith, maps, s.tree.stands x);
        climbs = climbs;
        root_made = grind (arith, maps, s.tree.root_made);
        root_home = s.tree.root_home;
        root_free = λ x g is low. grind (arith, maps, s.tree.root_free x g, s.tree.root_made);
      };
      rows = rows_made _ _ _ _ _ s.rows _ (λ m is. grind (arith, maps));
      blocks = s.blocks;
      chunks = s.chunks;
    };
    later = record {
      made = λ m e. grind (arith, maps);
      unmade = λ m o e. grind (arith, maps);
      named = λ m e. e;
      unnamed = λ m o e. e;
      fresh = λ x o e. grind (arith, maps);
      live = λ x g o e l. grind (arith, maps);
      kept = λ x p e. grind (arith, maps);
      spent = λ x e. grind (arith, maps, s.holds.upper_made x);
      rows = rows_same _ _ _;
      blocks = blocks_same _ _;
      chunks = chunks_same _ _;
    };
    taught = grind (arith, maps, s.nodes.named_made (Dir d));
  }

  dir_not_refused : store_changes w.store (any.Name (names.MakeDir d up h k)) ≡ false
      → Kept w w (any.Name (names.MakeDir d up h k))
  dir_not_refused stayed = absurd (grind (arith, maps, s.nodes.standing_made (Dir d)))

pub make_dir_row : (d up : DirId) (h : Hold) (k : Key) → Row (any.Name (names.MakeDir d up h k))
make_dir_row d up h k = record {
  kept = λ w s needs. by_answer w (any.Name (names.MakeDir d up h k)) _ refl (dir_not_refused w s d up h k needs)
      (dir_made w s d up h k needs);
  laws = makes_one (any.Name (names.MakeDir d up h k)) record { node = Dir d; hold = h; key = k } refl (λ w needs. needs.1) (λ w k. tt)
      (no_rows _ refl refl) refl (λ w needs. needs.0) (λ v x t. t);
}
