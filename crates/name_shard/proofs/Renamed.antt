-- an entry that is put before another is taken away
use Rattle.std.proofs.Common.{◌≡◌, true, false, Some, None, arith}
use Rattle.std.specs.FinMap.{FinMap, same_map}
use Rattle.tect_ids.specs.declared.key.Key.{Key}
use Rattle.tect_ids.specs.Keys.{key_cmp, key_eq}
use Rattle.tect_ids.proofs.KeyTests.{key_cmp_total, key_antisymmetric}
use Rattle.map_words.specs.Maps.{set_at}
use Rattle.key_words.proofs.Lookups.{maps}

module _ {X : Type 0} (m : FinMap key_cmp X) (j k : Key) (x : X) where
  pub renamed : key_eq j k ≡ false → set_at (set_at m k (Some x)) j None ≡ set_at (set_at m j None) k (Some x)
  renamed apart = same_map key_cmp_total key_antisymmetric _ _ (λ q. grind (arith, maps, apart))

  pub renamed_same : key_eq j k ≡ true → set_at m k (Some x) ≡ set_at (set_at m j None) k (Some x)
  renamed_same same = same_map key_cmp_total key_antisymmetric _ _ (λ q. grind (arith, maps, same))
