-- requests to a disk
use Rattle.std.proofs.Common.{◌≡◌, ℕ, List, true, false, Option, Some, None, refl, arith}
use Rattle.std.specs.FinMap.{get}
use Rattle.tect_ids.specs.declared.key.ChunkKey.{ChunkKey}
use Rattle.store_rules.specs.declared.disks.DiskReq.TheVariants as disks
use Rattle.store_rules.specs.declared.any.AnyReq.TheVariants as any
use Rattle.store_rules.specs.Store.{store_changes, store_reply}
use Rattle.store_rules.specs.Views.{as_bytes}
use Rattle.store_pasts.specs.Worlds.{World, done}
use Rattle.store_pasts.specs.Learned.{PutTaught, GotTaught}
use Rattle.store_pasts.specs.Requests.{Needs}
use Rattle.store_pasts.proofs.Laters.{rows_same, blocks_same}
use Rattle.store_world.specs.Sound.{Sound}
use Rattle.store_world.specs.Kept.{Kept}
use Rattle.store_world.proofs.Frames.{Row, by_answer, by_reading, grants_nothing, no_rows}
use Rattle.store_world.proofs.BlockMaps.{block_maps}

-- Put
module _ (w : World) (s : Sound w) (c : ChunkKey) (bytes : List ℕ) (needs : Needs w (any.Disk (disks.Put c bytes))) where
  put_done : store_changes w.store (any.Disk (disks.Put c bytes)) ≡ true
      → Kept w (done w (any.Disk (disks.Put c bytes))) (any.Disk (disks.Put c bytes))
  put_done ok = record {
    sound = record {
      entries = s.entries;
      holds = s.holds;
      nodes = s.nodes;
      tree = s.tree;
      rows = s.rows;
      blocks = s.blocks;
      chunks = record {
        at_home = λ x is. grind (arith, block_maps, s.chunks.at_home x);
        content = λ x was is. grind (arith, block_maps, s.chunks.content x was);
        stored = λ b d t sealed is. grind (arith, block_maps, s.chunks.stored b d t);
      };
    };
    later = record {
      made = λ n e. e;
      unmade = λ n o e. e;
      named = λ n e. e;
      unnamed = λ n o e. e;
      fresh = λ h o e. e;
      live = λ h g o e l. e;
      kept = λ h p e. e;
      spent = λ h e. e;
      rows = rows_same _ _ _;
      blocks = blocks_same _ _;
      chunks = record { chunk = λ x was is. grind (arith, block_maps); no_chunk = λ x o is. grind (arith, block_maps) };
    };
    taught = grind (arith, block_maps);
  }

  -- the chunk that stands there has the same bytes
  put_refused : store_changes w.store (any.Disk (disks.Put c bytes)) ≡ false → PutTaught w c bytes
  put_refused stayed = at (get w.store.chunks c) refl
    where
      at : (o : Option (List ℕ)) → get w.store.chunks c ≡ o → get w.store.chunks c ≡ Some bytes
      at None e = absurd (grind arith)
      at (Some was) e = grind (arith, s.chunks.content c was e)

pub put_row : (c : ChunkKey) (bytes : List ℕ) → Row (any.Disk (disks.Put c bytes))
put_row c bytes = record {
  kept = λ w s needs. by_answer w (any.Disk (disks.Put c bytes)) _ refl (λ e. by_reading w _ s (put_refused w s c bytes needs e))
      (put_done w s c bytes needs);
  laws = grants_nothing (any.Disk (disks.Put c bytes)) refl refl (λ s. refl) (λ w k. tt) (no_rows _ refl refl);
}

-- Get
got_taught : (w : World) → Sound w → (c : ChunkKey) → GotTaught w c (as_bytes (store_reply w.store (any.Disk (disks.Get c))))
got_taught w s c = at (get w.store.chunks c) refl
  where
    at : (o : Option (List ℕ)) → get w.store.chunks c ≡ o → GotTaught w c (as_bytes (store_reply w.store (any.Disk (disks.Get c))))
    at None e = rw e e
    at (Some bytes) e = rw e (e, s.chunks.content c bytes e)

pub get_row : (c : ChunkKey) → Row (any.Disk (disks.Get c))
get_row c = record {
  kept = λ w s needs. by_answer w (any.Disk (disks.Get c)) _ refl (λ e. by_reading w _ s (got_taught w s c))
      (λ e. by_reading w _ s (got_taught w s c));
  laws = grants_nothing (any.Disk (disks.Get c)) refl refl (λ s. refl) (λ w k. tt) (no_rows _ refl refl);
}
