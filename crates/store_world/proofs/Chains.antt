-- chains of parents stay while parents only come
use Rattle.std.proofs.Common.{◌≡◌, ℕ, zero, suc, Option, Some, None, refl}
use Rattle.tect_ids.specs.declared.ids.DirId.{DirId}
use Rattle.tect_ids.specs.Numbers.{root}
use Rattle.store_world.specs.Sound.{at_parent, above}

module _ (p q : DirId → Option DirId) (more : (d e : DirId) → p d ≡ Some e → q d ≡ Some e) where
  pub chain_stays : (n : ℕ) (d r : DirId) → above p n d ≡ Some r → above q n d ≡ Some r
  chain_stays zero d r is = is
  chain_stays (suc n) d r is =
      elim (p d) as (λ o. p d ≡ o → at_parent o (λ e. above p n e) ≡ Some r → at_parent (q d) (λ e. above q n e) ≡ Some r) [
        | None ↦ λ at is. absurd (let k : None ≡ Some r = is in cc)
        | Some e ↦ λ at is. rw (more d e at) (chain_stays n e r is)
      ] refl is

  -- so what led to the root does so still
  pub climbs_still : (d : DirId) → (n : ℕ) × (above p n d ≡ Some root) → (n : ℕ) × (above q n d ≡ Some root)
  climbs_still d chain = (chain.0, chain_stays chain.0 d root chain.1)

-- a child of what leads to the root does so too
pub climbs_from : (q : DirId → Option DirId) (d e : DirId) → q d ≡ Some e → (n : ℕ) × (above q n e ≡ Some root)
    → (n : ℕ) × (above q n d ≡ Some root)
climbs_from q d e at chain = (suc chain.0, rw at chain.1)
