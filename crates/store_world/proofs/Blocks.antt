-- requests that make a block, seal it, and ask where it lies
use Rattle.std.proofs.Common.{◌≡◌, ◌≤◌, ℕ, List, [], ◌∷◌, length, Bool, true, false, if◌then◌else◌, Option, Some, None, is_some, map}
use Rattle.std.proofs.Common.{refl, subst, arith}
use Rattle.std.specs.FinMap.{get, entries}
use Rattle.std.proofs.lemmas.List.Elements.{All-map, All-weaker}
use Rattle.tect_ids.specs.declared.ids.BlkId.{BlkId}
use Rattle.tect_ids.specs.declared.ids.DiskId.{DiskId}
use Rattle.tect_ids.specs.declared.ids.FileId.{FileId}
use Rattle.tect_ids.specs.declared.ids.Hold.{Hold}
use Rattle.tect_ids.specs.declared.ids.Tag.{Tag}
use Rattle.tect_ids.specs.declared.values.BlockRow.{BlockRow}
use Rattle.tect_ids.specs.declared.values.Class.{Class}
use Rattle.tect_ids.specs.declared.values.NewRow.{NewRow}
use Rattle.tect_ids.specs.Keys.{blk_eq, disk_cmp}
use Rattle.tect_ids.proofs.KeyTests.{disk_cmp_total}
use Rattle.map_words.proofs.Entries.{gets_each}
use Rattle.store_rules.specs.declared.blocks.Block.{Block}
use Rattle.store_rules.specs.declared.blocks.BlockReq.TheVariants as blocks
use Rattle.store_rules.specs.declared.any.AnyReq.TheVariants as any
use Rattle.small_maps.specs.RowsOfBlocks.{all_placed}
use Rattle.store_rules.specs.Blocks.{rows_from, shown_row}
use Rattle.store_rules.specs.Store.{Store, store_changes, store_reply}
use Rattle.store_rules.specs.Views.{is_made, as_location}
use Rattle.store_pasts.specs.Contents.{Apart, disk_at, born_tag, chunk_of}
use Rattle.store_pasts.specs.Ghosts.{Born, with_born}
use Rattle.store_pasts.specs.Learned.{SealTaught, LocationTaught, BlockTaught, IsStored}
use Rattle.store_pasts.specs.Pasts.{has_chunk}
use Rattle.store_pasts.specs.Worlds.{World, done}
use Rattle.store_pasts.specs.Requests.{Needs}
use Rattle.store_pasts.proofs.Laters.{rows_same, chunks_same}
use Rattle.store_world.specs.Sound.{Sound}
use Rattle.store_world.specs.Kept.{Kept}
use Rattle.store_world.proofs.Frames.{Row, by_answer, by_reading, grants_nothing, makes_block, grants_row, no_rows}
use Rattle.store_world.proofs.NewRows.{new_rows, found_by_tag, found_by_disk, tag_first, more_than_none}

-- MakeBlock
module _ (w : World) (s : Sound w) (b : BlkId) (c : Class) (n : ℕ) (f : FileId) (h : Hold) (rs : List NewRow)
    (needs : Needs w (any.Block (blocks.MakeBlock b c n f h rs))) where
  -- no block stood there
  none_before : get w.store.blocks b ≡ None
  none_before = grind (arith, s.blocks.shape b, needs.unborn)

  -- the rows of each block stand apart, also the new one's
  abbrev new_born : Born
  new_born = record { maker = h.op; class = c; len = n; rows = rs }

  apart_then : (e : BlkId) (m : Born) → with_born w.ghost.born b new_born e ≡ Some m → Apart m.rows
  apart_then e m is =
      elim (blk_eq e b) as (λ (own : Bool). (if own then Some new_born else w.ghost.born e) ≡ Some m → Apart m.rows) [
        | true ↦ λ now. let same : rs ≡ m.rows = cc in subst Apart same needs.apart
        | false ↦ λ was. s.blocks.apart e m was
      ] is

  -- no chunk stands under a tag that was given to no row
  no_chunk : (d : DiskId) (t : Tag) → is_some (disk_at rs t) ≡ true → get w.store.chunks (chunk_of b d t) ≡ None
  no_chunk d t is = grind (arith, s.chunks.at_home (chunk_of b d t), needs.untagged t)

  block_made : store_changes w.store (any.Block (blocks.MakeBlock b c n f h rs)) ≡ true
      → Kept w (done w (any.Block (blocks.MakeBlock b c n f h rs))) (any.Block (blocks.MakeBlock b c n f h rs))
  block_made ok = record {
    sound = record {
      entries = s.entries;
      holds = s.holds;
      nodes = s.nodes;
      tree = s.tree;
      rows = record {
        bound = λ x i r is. grind (arith, new_rows, s.rows.bound x i r, needs.new_hold);
        has_hold = λ x i r is. grind (arith, new_rows, s.rows.has_hold x i r, none_before);
        sealed_as = λ x i r is. grind (arith, new_rows, s.rows.sealed_as x i r, none_before);
        set = λ x g i is p. grind (arith, new_rows, s.rows.set x g i);
        live = λ x g is l. grind (arith, new_rows, s.rows.live x g, none_before);
        listed = λ e x u is. grind (arith, new_rows, s.rows.listed e x u, needs.new_hold);
        file_made = λ x g is. grind (arith, new_rows, s.rows.file_made x g, needs.file_made);
      };
      blocks = record {
        shape = λ e. grind (arith, new_rows, s.blocks.shape e);
        rows = λ e. grind (arith, new_rows, s.blocks.rows e);
        version = λ e. grind (arith, new_rows, s.blocks.version e);
        length = λ e. grind (arith, new_rows, s.blocks.length e, needs.said);
        some = λ e m is. grind (arith, new_rows, s.blocks.some e m, needs.some);
        apart = apart_then;
        at_home = λ e d t is. grind (arith, new_rows, s.blocks.at_home e d t, found_by_tag rs needs.apart d t, needs.untagged t);
        tagged_born = λ t e d is. grind (arith, new_rows, s.blocks.tagged_born t e d, found_by_disk rs needs.apart d t, needs.unborn);
      };
      chunks = record {
        at_home = λ x is. grind (arith, new_rows, s.chunks.at_home x, needs.untagged x.tag);
        content = λ x bytes is. grind (arith, new_rows, s.chunks.content x bytes, needs.unborn);
        stored = λ e d t sealed is. grind (arith, new_rows, s.chunks.stored e d t);
      };
    };
    later = record {
      made = λ m e. e;
      unmade = λ m o e. e;
      named = λ m e. e;
      unnamed = λ m o e. e;
      fresh = λ x o e. e;
      live = λ x g o e l. e;
      kept = λ x p e. e;
      spent = λ x e. e;
      rows = record {
        row = λ x i r is. is;
        fresh = λ x o e. grind (arith, new_rows);
        live = λ x g o e l. grind (arith, new_rows, needs.new_hold);
        kept = λ x p e. grind (arith, new_rows, needs.new_hold);
        spent = λ x e. grind (arith, new_rows, needs.new_hold);
      };
      blocks = record {
        born = λ e m is. grind (arith, new_rows, needs.unborn);
        unborn = λ e o is. grind (arith, new_rows);
        tagged = λ t m is. grind (arith, new_rows, needs.untagged t);
        untagged = λ t o is. grind (arith, new_rows);
        said = λ op bytes is. is;
        unsaid = λ op o is. is;
        sealed = λ e m is. grind (arith, new_rows, none_before);
        unsealed = λ e o is. grind (arith, new_rows, none_before);
      };
      chunks = chunks_same _ _;
    };
    taught = record {
      made = grind arith;
      born = grind (arith, new_rows);
      granted = grind (arith, new_rows);
      tagged = λ d t at. grind (arith, new_rows, found_by_tag rs needs.apart d t at);
      no_chunk = λ d t at. no_chunk d t (rw (found_by_tag rs needs.apart d t at) refl);
      unsealed = grind (arith, new_rows);
    };
  }

  make_not_refused : store_changes w.store (any.Block (blocks.MakeBlock b c n f h rs)) ≡ false
      → Kept w w (any.Block (blocks.MakeBlock b c n f h rs))
  make_not_refused stayed = absurd (grind (arith, none_before))

pub make_block_row : (b : BlkId) (c : Class) (n : ℕ) (f : FileId) (h : Hold) (rs : List NewRow)
    → Row (any.Block (blocks.MakeBlock b c n f h rs))
make_block_row b c n f h rs = record {
  kept = λ w s needs. by_answer w (any.Block (blocks.MakeBlock b c n f h rs)) _ refl (make_not_refused w s b c n f h rs needs)
      (block_made w s b c n f h rs needs);
  laws = makes_block (any.Block (blocks.MakeBlock b c n f h rs)) refl refl refl (λ v x t. t.made) (λ w k. tt)
      (grants_row (any.Block (blocks.MakeBlock b c n f h rs)) record { blk = b; hold = h; file = f } refl (λ w needs. needs.new_hold)
      (λ v x t ok. t.granted) (λ w e is needs. let same : b ≡ e = cc in rw (← same) needs.unborn));
}

-- SealBlock
module _ (w : World) (s : Sound w) (b : BlkId) (needs : Needs w (any.Block (blocks.SealBlock b))) where
  seal_done : store_changes w.store (any.Block (blocks.SealBlock b)) ≡ true
      → Kept w (done w (any.Block (blocks.SealBlock b))) (any.Block (blocks.SealBlock b))
  seal_done ok = record {
    sound = record {
      entries = s.entries;
      holds = s.holds;
      nodes = s.nodes;
      tree = s.tree;
      rows = record {
        bound = s.rows.bound;
        has_hold = λ x i r is. grind (arith, new_rows, s.rows.has_hold x i r);
        sealed_as = λ x i r is. grind (arith, new_rows, s.rows.sealed_as x i r);
        set = s.rows.set;
        live = λ x g is l. grind (arith, new_rows, s.rows.live x g);
        listed = λ e x u is. grind (arith, new_rows, s.rows.listed e x u);
        file_made = s.rows.file_made;
      };
      blocks = record {
        shape = λ e. grind (arith, new_rows, s.blocks.shape e);
        rows = λ e. grind (arith, new_rows, s.blocks.rows e);
        version = λ e. grind (arith, new_rows, s.blocks.version e);
        length = s.blocks.length;
        some = s.blocks.some;
        apart = s.blocks.apart;
        at_home = s.blocks.at_home;
        tagged_born = s.blocks.tagged_born;
      };
      chunks = record {
        at_home = s.chunks.at_home;
        content = s.chunks.content;
        stored = λ e d t sealed is. grind (arith, new_rows, s.chunks.stored e d t, needs.stored d t);
      };
    };
    later = record {
      made = λ m e. e;
      unmade = λ m o e. e;
      named = λ m e. e;
      unnamed = λ m o e. e;
      fresh = λ x o e. e;
      live = λ x g o e l. e;
      kept = λ x p e. e;
      spent = λ x e. e;
      rows = rows_same _ _ _;
      blocks = record {
        born = λ e m is. is;
        unborn = λ e o is. is;
        tagged = λ t m is. is;
        untagged = λ t o is. is;
        said = λ op bytes is. is;
        unsaid = λ op o is. is;
        sealed = λ e n is. grind (arith, new_rows);
        unsealed = λ e o is. grind (arith, new_rows);
      };
      chunks = chunks_same _ _;
    };
    taught = grind (arith, new_rows, s.blocks.shape b);
  }

  -- it is sealed already
  seal_refused : store_changes w.store (any.Block (blocks.SealBlock b)) ≡ false → SealTaught w b
  seal_refused stayed = grind (arith, s.blocks.shape b, needs.born)

seal_untold : (s : Store) (b : BlkId) → is_made (store_reply s (any.Block (blocks.SealBlock b))) ≡ false
seal_untold s b = grind arith

pub seal_block_row : (b : BlkId) → Row (any.Block (blocks.SealBlock b))
seal_block_row b = record {
  kept = λ w s needs. by_answer w (any.Block (blocks.SealBlock b)) _ refl (λ e. by_reading w _ s (seal_refused w s b needs e))
      (seal_done w s b needs);
  laws = grants_nothing (any.Block (blocks.SealBlock b)) refl refl (λ s. seal_untold s b) (λ w k. tt) (no_rows _ refl refl);
}

-- GetBlock
module _ (w : World) (s : Sound w) (b : BlkId) where
  -- of a sealed block each row is stored
  pub row_stored : (x : Block) → get w.store.blocks b ≡ Some x → x.sealed ≡ true → (d : DiskId) (r : BlockRow) → get x.rows d ≡ Some r
      → IsStored w b (shown_row (d, r))
  row_stored x is sealed d r at = by_born (w.ghost.born b) refl
    where
      by_born : (o : Option Born) → w.ghost.born b ≡ o → IsStored w b (shown_row (d, r))
      by_born None e = absurd (grind (arith, s.blocks.shape b))
      by_born (Some m) e =
          let tag : born_tag (w.ghost.born b) d ≡ Some r.tag = grind (arith, new_rows, s.blocks.rows b) in
          let there : has_chunk w.store b d r.tag ≡ true = s.chunks.stored b d r.tag (grind arith) tag in
          (grind (arith, new_rows, s.blocks.rows b), there, grind (arith, s.chunks.content))

  -- it has rows
  has_rows : (x : Block) → get w.store.blocks b ≡ Some x → 1 ≤ length (map shown_row (entries x.rows))
  has_rows x is = by_born (w.ghost.born b) refl
    where
      by_rows : (rs : List NewRow) → 1 ≤ length rs → (sealed : Bool) → x.rows ≡ (if sealed then all_placed (rows_from rs) else rows_from rs)
          → 1 ≤ length (map shown_row (entries x.rows))
      by_rows [] some sealed e = absurd (omega (arith, some))
      by_rows (r ∷ rs) some true e = more_than_none x.rows r.disk (rw e (grind (arith, new_rows, tag_first r rs)))
      by_rows (r ∷ rs) some false e = more_than_none x.rows r.disk (rw e (grind (arith, new_rows, tag_first r rs)))

      by_born : (o : Option Born) → w.ghost.born b ≡ o → 1 ≤ length (map shown_row (entries x.rows))
      by_born None e = absurd (grind (arith, s.blocks.shape b))
      by_born (Some m) e = by_rows m.rows (s.blocks.some b (length m.rows) (rw e refl)) x.sealed (grind (arith, s.blocks.rows b))

  location_taught : (x : Block) → get w.store.blocks b ≡ Some x
      → LocationTaught w b
      record { class = x.class; len = x.len; sealed = x.sealed; version = x.version; rows = map shown_row (entries x.rows) }
  location_taught x is = record {
    sealed = rw is refl;
    some = has_rows x is;
    stored = λ sealed. All-map (IsStored w b) shown_row (entries x.rows)
        (All-weaker (λ (e : DiskId × BlockRow). get x.rows e.0 ≡ Some e.1) (λ e. IsStored w b (shown_row e))
        (λ e at. row_stored x is sealed e.0 e.1 at) (entries x.rows) (gets_each disk_cmp disk_cmp_total x.rows));
  }

  get_block_taught : BlockTaught w b (as_location (store_reply w.store (any.Block (blocks.GetBlock b))))
  get_block_taught = at (get w.store.blocks b) refl
    where
      at : (o : Option Block) → get w.store.blocks b ≡ o
          → BlockTaught w b (as_location (store_reply w.store (any.Block (blocks.GetBlock b))))
      at None e = rw e e
      at (Some x) e = rw e (location_taught x e)

get_block_untold : (s : Store) (b : BlkId) → is_made (store_reply s (any.Block (blocks.GetBlock b))) ≡ false
get_block_untold s b = grind arith

pub get_block_row : (b : BlkId) → Row (any.Block (blocks.GetBlock b))
get_block_row b = record {
  kept = λ w s needs. by_answer w (any.Block (blocks.GetBlock b)) _ refl (λ e. by_reading w _ s (get_block_taught w s b))
      (λ e. by_reading w _ s (get_block_taught w s b));
  laws = grants_nothing (any.Block (blocks.GetBlock b)) refl refl (λ s. get_block_untold s b) (λ w k. tt) (no_rows _ refl refl);
}
