-- requests that grant and release holds of blocks
use Rattle.std.proofs.Common.{◌≡◌, true, false, Option, Some, None, refl, arith}
use Rattle.std.specs.FinMap.{get}
use Rattle.tect_ids.specs.declared.ids.BlkId.{BlkId}
use Rattle.tect_ids.specs.declared.ids.FileId.{FileId}
use Rattle.tect_ids.specs.declared.ids.Hold.{Hold}
use Rattle.tect_ids.specs.declared.key.Upper.{Upper}
use Rattle.tect_ids.specs.declared.key.Upper.TheVariants as uppers
use Rattle.map_words.specs.Maps.{set_at}
use Rattle.store_rules.specs.declared.blocks.BlockReq.TheVariants as blocks
use Rattle.store_rules.specs.declared.any.AnyReq.TheVariants as any
use Rattle.store_rules.specs.Blocks.{Blocks, block_with_hold}
use Rattle.store_rules.specs.Store.{Store, store_changes, store_reply}
use Rattle.store_rules.specs.Views.{is_made}
use Rattle.store_pasts.specs.Contents.{block_sealed, sealed_length, is_unsealed}
use Rattle.store_pasts.specs.Learned.{RowGrantTaught}
use Rattle.store_pasts.specs.Pasts.{blocks_part}
use Rattle.store_pasts.specs.Later.{Touched, LaterBlocks}
use Rattle.store_pasts.specs.Worlds.{World, done}
use Rattle.store_pasts.specs.Requests.{Needs}
use Rattle.store_pasts.proofs.Laters.{rows_same, chunks_same}
use Rattle.store_world.specs.Sound.{Sound, SoundBlocks, shape_of, rows_of, version_of}
use Rattle.store_world.specs.Kept.{Kept}
use Rattle.store_world.proofs.Frames.{Row, by_answer, by_reading, grants_nothing, grants_row, no_rows}
use Rattle.store_world.proofs.Alike.{chunks_alike}
use Rattle.store_world.proofs.BlockMaps.{block_maps}

-- a hold is granted or released: the block is else as it was
module _ (w : World) (b : BlkId) (h : Hold) (u : Option Upper) where
  -- the blocks with that hold listed, or not
  abbrev held : Blocks
  held = set_at w.store.blocks b (block_with_hold (get w.store.blocks b) h u)

  held_sealed : (e : BlkId) → block_sealed (get held e) ≡ block_sealed (get w.store.blocks e)
  held_sealed e = grind (arith, block_maps)

  held_length : (e : BlkId) → sealed_length (get held e) ≡ sealed_length (get w.store.blocks e)
  held_length e = grind (arith, block_maps)

  held_unsealed : (e : BlkId) → is_unsealed (get held e) ≡ is_unsealed (get w.store.blocks e)
  held_unsealed e = grind (arith, block_maps)

  held_shape : (e : BlkId) → shape_of (get held e) ≡ shape_of (get w.store.blocks e)
  held_shape e = grind (arith, block_maps)

  held_rows : (e : BlkId) → rows_of (get held e) ≡ rows_of (get w.store.blocks e)
  held_rows e = grind (arith, block_maps)

  held_version : (e : BlkId) → version_of (get held e) ≡ version_of (get w.store.blocks e)
  held_version e = grind (arith, block_maps)

  blocks_held : SoundBlocks (blocks_part w) → SoundBlocks record (blocks_part w) { now = held }
  blocks_held s = record {
    shape = λ e. rw (held_shape e) (s.shape e);
    rows = λ e. rw (held_rows e, held_sealed e) (s.rows e);
    version = λ e. rw (held_version e, held_sealed e) (s.version e);
    length = s.length;
    some = s.some;
    apart = s.apart;
    at_home = s.at_home;
    tagged_born = s.tagged_born;
  }

  later_held : (by : Touched) → LaterBlocks by (blocks_part w) record (blocks_part w) { now = held }
  later_held by = record {
    born = λ e m is. is;
    unborn = λ e o is. is;
    tagged = λ t m is. is;
    untagged = λ t o is. is;
    said = λ op bytes is. is;
    unsaid = λ op o is. is;
    sealed = λ e n is. rw (held_length e) is;
    unsealed = λ e o is. rw (held_unsealed e) is;
  }

-- Grant
module _ (w : World) (s : Sound w) (b : BlkId) (h : Hold) (f : FileId) (needs : Needs w (any.Block (blocks.Grant b h f))) where
  granted : store_changes w.store (any.Block (blocks.Grant b h f)) ≡ true
      → Kept w (done w (any.Block (blocks.Grant b h f))) (any.Block (blocks.Grant b h f))
  granted ok = record {
    sound = record {
      entries = s.entries;
      holds = s.holds;
      nodes = s.nodes;
      tree = s.tree;
      rows = record {
        bound = λ x i r is. grind (arith, block_maps, s.rows.bound x i r);
        has_hold = λ x i r is. grind (arith, block_maps, s.rows.has_hold x i r, s.rows.bound x i r);
        sealed_as = λ x i r is. rw (held_length w b h (Some (uppers.Row f)) r.blk) (s.rows.sealed_as x i r is);
        set = λ x g i is p. grind (arith, block_maps, s.rows.set x g i);
        live = λ x g is l. grind (arith, block_maps, s.rows.live x g);
        listed = λ e x u is. grind (arith, block_maps, s.rows.listed e x u);
        file_made = λ x g is. grind (arith, block_maps, s.rows.file_made x g);
      };
      blocks = blocks_held w b h (Some (uppers.Row f)) s.blocks;
      chunks = chunks_alike _ _ _ _ _ _ (held_sealed w b h (Some (uppers.Row f))) s.chunks;
    };
    later = record {
      made = λ n e. e;
      unmade = λ n o e. e;
      named = λ n e. e;
      unnamed = λ n o e. e;
      fresh = λ x o e. e;
      live = λ x g o e l. e;
      kept = λ x p e. e;
      spent = λ x e. e;
      rows = record {
        row = λ x i r is. is;
        fresh = λ x o e. grind (arith, block_maps);
        live = λ x g o e l. grind (arith, block_maps);
        kept = λ x p e. grind (arith, block_maps);
        spent = λ x e. grind (arith, block_maps);
      };
      blocks = later_held w b h (Some (uppers.Row f)) _;
      chunks = chunks_same _ _;
    };
    taught = λ e. (grind (arith, block_maps), grind (arith, block_maps));
  }

grant_refused : (w : World) (b : BlkId) (h : Hold) (f : FileId) → store_changes w.store (any.Block (blocks.Grant b h f)) ≡ false
    → RowGrantTaught w b h f (store_reply w.store (any.Block (blocks.Grant b h f)))
grant_refused w b h f stayed = grind arith

grant_untold : (s : Store) (b : BlkId) (h : Hold) (f : FileId) → is_made (store_reply s (any.Block (blocks.Grant b h f))) ≡ false
grant_untold s b h f = grind arith

pub grant_block_row : (b : BlkId) (h : Hold) (f : FileId) → Row (any.Block (blocks.Grant b h f))
grant_block_row b h f = record {
  kept = λ w s needs. by_answer w (any.Block (blocks.Grant b h f)) _ refl (λ e. by_reading w _ s (grant_refused w b h f e))
      (granted w s b h f needs);
  laws = grants_nothing (any.Block (blocks.Grant b h f)) refl refl (λ s. grant_untold s b h f) (λ w k. tt)
      (grants_row (any.Block (blocks.Grant b h f)) record { blk = b; hold = h; file = f } refl (λ w needs. needs.0) (λ v x t ok. (t ok).0)
      (λ w e is. absurd (let k : None ≡ Some e = is in cc)));
}

-- Release
module _ (w : World) (s : Sound w) (b : BlkId) (h : Hold) (needs : Needs w (any.Block (blocks.Release b h))) where
  released : Kept w (done w (any.Block (blocks.Release b h))) (any.Block (blocks.Release b h))
  released = record {
    sound = record {
      entries = s.entries;
      holds = s.holds;
      nodes = s.nodes;
      tree = s.tree;
      rows = record {
        bound = s.rows.bound;
        has_hold = λ x i r is. grind (arith, block_maps, s.rows.has_hold x i r, s.rows.bound x i r);
        sealed_as = λ x i r is. rw (held_length w b h None r.blk) (s.rows.sealed_as x i r is);
        set = s.rows.set;
        live = λ x g is l. grind (arith, block_maps, s.rows.live x g);
        listed = λ e x u is. grind (arith, block_maps, s.rows.listed e x u);
        file_made = s.rows.file_made;
      };
      blocks = blocks_held w b h None s.blocks;
      chunks = chunks_alike _ _ _ _ _ _ (held_sealed w b h None) s.chunks;
    };
    later = record {
      made = λ n e. e;
      unmade = λ n o e. e;
      named = λ n e. e;
      unnamed = λ n o e. e;
      fresh = λ x o e. e;
      live = λ x g o e l. e;
      kept = λ x p e. e;
      spent = λ x e. e;
      rows = rows_same _ _ _;
      blocks = later_held w b h None _;
      chunks = chunks_same _ _;
    };
    taught = tt;
  }

release_untold : (s : Store) (b : BlkId) (h : Hold) → is_made (store_reply s (any.Block (blocks.Release b h))) ≡ false
release_untold s b h = grind arith

pub release_block_row : (b : BlkId) (h : Hold) → Row (any.Block (blocks.Release b h))
release_block_row b h = record {
  kept = λ w s needs. by_answer w (any.Block (blocks.Release b h)) _ refl (λ e. by_reading w _ s tt) (λ e. released w s b h needs);
  laws = grants_nothing (any.Block (blocks.Release b h)) refl refl (λ s. release_untold s b h) (λ w k. tt) (no_rows _ refl refl);
}
