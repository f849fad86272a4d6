-- The kept machines: each at its place, and together the whole store.
use Rattle.std.specs.Prelude.{map}
use Rattle.place_kit.specs.Kept.{history_of, machine_of}
use Rattle.place_kit.specs.Started.{AreStarted}
use Rattle.store_shards.specs.Rows.{together, AreShards}
use Rattle.kept_shards.specs.declared.shards.KeptShards.TheInside.{Inside}
use Rattle.kept_shards.specs.KeptStore.{KeptStore}

abbrev pub kept_store_of : Inside → KeptStore
kept_store_of w = record {
  counts = w.counts;
  store = together (map machine_of w.kepts.items);
  entries = map history_of w.kepts.items;
}

pub record AreKept (w : Inside) : Type 0 where
  pub shards : AreShards w.counts (map machine_of w.kepts.items)
  pub started : AreStarted w.counts w.kepts.items
