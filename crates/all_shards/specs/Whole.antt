-- All shards in the order of their places, and the store that they are together.
use Rattle.std.specs.Prelude.{◌≡◌, ℕ, Some, List, map, slice_get, refl}
use Rattle.std.specs.Coded.{Coded, code_by, coded×, coded_ℕ}
use Rattle.tect_ids.specs.declared.ids.Counts.{Counts}
use Rattle.tect_ids.specs.Places.{layer_at}
use Rattle.store_rules.specs.Store.{Store}
use Rattle.store_shards.specs.Rows.{AreShards}
use Rattle.layers.specs.declared.machine.AnyMachine.{AnyMachine}
use Rattle.layers.specs.Codes.{store_code}
use Rattle.layers.specs.Machines.{alone, layer_of}

-- the counts of a store's shards, and the whole store
pub record WholeStore : Type 0 where
  pub counts : Counts
  pub store : Store

abbrev pub counts_code : Coded Counts
counts_code =
    code_by (ℕ × (ℕ × (ℕ × (ℕ × ℕ)))) (coded× coded_ℕ (coded× coded_ℕ (coded× coded_ℕ (coded× coded_ℕ coded_ℕ))))
    (λ c. (c.names, (c.files, (c.blocks, (c.disks, c.copies)))))
    (λ p. record { names = p.0; files = p.1.0; blocks = p.1.1.0; disks = p.1.1.1.0; copies = p.1.1.1.1 }) (λ _. refl)

abbrev pub whole_code : Coded WholeStore
whole_code =
    code_by (Counts × Store) (coded× counts_code store_code) (λ w. (w.counts, w.store))
    (λ p. record { counts = p.0; store = p.1 }) (λ _. refl)

-- these are all shards of the store that they are together, each of its place's layer
pub record AreAllShards (c : Counts) (ms : List AnyMachine) : Type 0 where
  pub shards : AreShards c (map alone ms)
  pub layers : (n : ℕ) (m : AnyMachine) → slice_get ms n ≡ Some m → layer_of m ≡ layer_at c n
