-- Where moments stand among passes.
use Rattle.std.proofs.Common.{◌≡◌, ℕ, zero, suc, ◌+◌, ◌<◌, List, [], ◌∷◌, ◌++◌, length, map, take, refl, sym, ◌∙◌, ap, subst, arith}
use Rattle.std.proofs.Common.{append-nil, append_assoc}
use Rattle.std.specs.List.{flat_map, All}
use Rattle.std.proofs.lemmas.List.Elements.{All-head, All-tail}
use Rattle.passes.specs.declared.pass.Pass.{Pass}
use Rattle.merge_runs.specs.declared.keyed.Keyed.{Keyed}
use Rattle.merge_runs.specs.declared.spot.Spot.{Spot}
use Rattle.merge_runs.specs.Keyed.{moment_in, IsAt}
use Rattle.merge_runs.specs.Merged.{moments_of}
use Rattle.merge_runs.specs.MergedRuns.{moments_at, moment_at, IsSpot}
use Rattle.merge_runs.proofs.Members.{in_map}
use Rattle.merge_runs.proofs.Trails.{all_in, in_all}

-- the moments of one pass more
pub flat_more : (ps : List Pass) (n : ℕ) → n < length ps
    → flat_map moments_of (take (n + 1) ps) ≡ flat_map moments_of (take n ps) ++ moments_at ps n
flat_more [] n l = absurd (omega arith)
flat_more (p ∷ ps) zero l = append-nil (moments_of p)
flat_more (p ∷ ps) (suc n) l =
    let e : suc n + 1 ≡ suc (n + 1) = omega arith in
    let m = flat_more ps n (omega arith) in
    let a = append_assoc (moments_of p) (flat_map moments_of (take n ps)) (moments_at ps n) in
    rw e (ap (λ ms. moments_of p ++ ms) m ∙ sym a)

-- each stands where it says
pub at_moments : (ps : List Pass) (ks : List Keyed) → All (IsAt ps) ks → map (moment_at ps) (map (λ k. k.at) ks) ≡ map moment_in ks
at_moments ps [] a = refl
at_moments ps (k ∷ ks) a =
    let h = (All-head (IsAt ps) k ks a).1 in
    let t = at_moments ps ks (All-tail (IsAt ps) k ks a) in
    cc

pub at_spots : (ps : List Pass) (ks : List Keyed) → All (IsAt ps) ks → All (IsSpot ps) (map (λ k. k.at) ks)
at_spots ps ks a =
    in_all (IsSpot ps) (map (λ k. k.at) ks)
    (λ s i. let m = in_map {X = Spot} (λ _. []) (λ (k : Keyed). k.at) ks s i in
    subst (IsSpot ps) m.2 (all_in (IsAt ps) ks a m.0 m.1).0)
