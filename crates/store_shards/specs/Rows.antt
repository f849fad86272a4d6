-- All shards of a store in a row, by the number of their place: each as a store in which nothing else stands.
use Rattle.std.specs.Prelude.{◌≡◌, List, length, slice_index_or}
use Rattle.std.specs.List.{flat_map}
use Rattle.std.specs.FinMap.{entries, from_entries}
use Rattle.tect_ids.specs.declared.ids.Counts.{Counts}
use Rattle.tect_ids.specs.Places.{HasPlaces, place_count}
use Rattle.store_rules.specs.Alone.{no_store}
use Rattle.store_rules.specs.Blocks.{Blocks}
use Rattle.store_rules.specs.Disks.{Chunks}
use Rattle.store_rules.specs.Files.{Files}
use Rattle.store_rules.specs.Names.{Names}
use Rattle.store_rules.specs.Store.{Store}
use Rattle.store_shards.specs.Shards.{AreWhole, Parts}

-- the rows of all shards, as one store
unfoldable pub names_together : List Store → Names
names_together row = record
    { dirs = from_entries (flat_map (λ s. entries s.names.dirs) row); entries = from_entries (flat_map (λ s. entries s.names.entries) row) }

unfoldable pub files_together : List Store → Files
files_together row = from_entries (flat_map (λ s. entries s.files) row)

unfoldable pub blocks_together : List Store → Blocks
blocks_together row = from_entries (flat_map (λ s. entries s.blocks) row)

unfoldable pub chunks_together : List Store → Chunks
chunks_together row = from_entries (flat_map (λ s. entries s.chunks) row)

abbrev pub together : List Store → Store
together row = record
    { names = names_together row; files = files_together row; blocks = blocks_together row; chunks = chunks_together row }

-- what the shard of each place has
abbrev pub parts_of : List Store → Parts
parts_of row p = slice_index_or row p.0 no_store

-- these are all shards of the store that they are together: what stands is in the shard of its place
pub record AreShards (c : Counts) (row : List Store) : Type 0 where
  pub places : HasPlaces c
  pub number : length row ≡ place_count c
  pub whole : AreWhole c (parts_of row) (together row)
