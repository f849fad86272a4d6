use Rattle.std.proofs.Common.{◌≡◌, ◌≤◌, ◌<◌, ◌+◌, ◌∷◌, ◌++◌, [], ℕ, List, length, map, max, take, get_or, refl, sym, ap, subst, ◌∙◌, inl}
use Rattle.std.proofs.Common.{inr, arith}
use Rattle.std.specs.List.{All, Contains}
use Rattle.std.proofs.lemmas.Bool.{cases_lt}
use Rattle.std.proofs.lemmas.List.{map-append, take_more}
use Rattle.std.proofs.lemmas.List.Elements.{All-append, All-from_recursion, Contains-append_left, Contains-append_right}
use Rattle.racers.specs.declared.racer.Racer.{Racer}
use Rattle.tect_race.proofs.part_ends.greatest_clock.Goals as goal

abbrev clocks : {S : Type 0} → List (Racer S) → List ℕ
clocks rs = map (λ r. r.client.clock) rs

-- the greater of the greatest so far and the next clock
greater : {S : Type 0} (floor low high : ℕ) (rs : List (Racer S)) (i : ℕ) (r : Racer S) → i < length rs → r ≡ get_or rs i r
    → high ≡ max low r.client.clock
    → Contains (floor ∷ clocks (take i rs)) low → Contains (floor ∷ clocks (take (i + 1) rs)) high
greater floor low high rs i r within is greatest has =
    let whole : floor ∷ clocks (take (i + 1) rs) ≡ (floor ∷ clocks (take i rs)) ++ r.client.clock ∷ [] =
    ap (λ (l : List (Racer _)). floor ∷ clocks l) (take_more rs i r within ∙ ap (λ (x : Racer _). take i rs ++ x ∷ []) (sym is))
    ∙ ap (λ (l : List ℕ). floor ∷ l) (map-append (λ (x : Racer _). x.client.clock) (take i rs) (r ∷ [])) in
    subst (λ (l : List ℕ). Contains l high) (sym whole) (elim (cases_lt low r.client.clock) [
      | inl l ↦ subst (Contains ((floor ∷ clocks (take i rs)) ++ r.client.clock ∷ [])) (let e : r.client.clock ≡ high = omega arith in e)
          (Contains-append_right (floor ∷ clocks (take i rs)) (r.client.clock ∷ []) r.client.clock (0, omega arith, refl))
      | inr g ↦ subst (Contains ((floor ∷ clocks (take i rs)) ++ r.client.clock ∷ [])) (let e : low ≡ high = omega arith in e)
          (Contains-append_left (floor ∷ clocks (take i rs)) (r.client.clock ∷ []) low has)
    ])

-- none is above it
not_above : {S : Type 0} (low high : ℕ) (rs : List (Racer S)) (i : ℕ) (r : Racer S) → i < length rs → r ≡ get_or rs i r
    → high ≡ max low r.client.clock
    → All (λ x. x.client.clock ≤ low) (take i rs) → All (λ x. x.client.clock ≤ high) (take (i + 1) rs)
not_above low high rs i r within is greatest all =
    subst (All (λ x. x.client.clock ≤ high)) (sym (take_more rs i r within ∙ ap (λ (x : Racer _). take i rs ++ x ∷ []) (sym is)))
    (All-append (λ x. x.client.clock ≤ high) (take i rs) (r ∷ []) (λ k d l. (let h = all k d l in omega arith))
    (All-from_recursion (λ x. x.client.clock ≤ high) (r ∷ []) (omega arith, tt)))

pub racers-preserved : goal.racers-preserved
racers-preserved g c =
    let greatest : c.max-clock.result ≡ max c.racers.clock c.racer-item.result.client.clock =
    c.max-clock.ensures ∙ ap (λ k. max c.racers.clock k) c.clock.ensures in
    record {
      floor = (let f = c.racers.invariant.floor in omega arith);
      all = not_above c.racers.clock c.max-clock.result c.args.racers.now c.racers.racer-index c.racer-item.result c.racers-test.true
          c.racer-item.is greatest c.racers.invariant.all;
      one = greater c.args.floor c.racers.clock c.max-clock.result c.args.racers.now c.racers.racer-index c.racer-item.result
          c.racers-test.true c.racer-item.is greatest c.racers.invariant.one;
    }
