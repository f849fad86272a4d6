-- the order of moments and of places
use Rattle.std.proofs.Common.{◌≡◌, ℕ, suc, ◌+◌, ◌≤◌, inl, inr, List, [], ◌∷◌, Some, refl, ap, arith}
use Rattle.std.proofs.lemmas.Bool.{cases_lt}
use Rattle.std.proofs.lemmas.List.Elements.{All-from_recursion}
use Rattle.std.specs.List.{AllByRecursion, slice_get}
use Rattle.tect_ids.specs.declared.ids.Counts.{Counts}
use Rattle.place_kit.specs.declared.any.AnyKept.{AnyKept}
use Rattle.entry_words.specs.declared.entry.Label.{Label}
use Rattle.entry_words.specs.declared.entry.Moment.{Moment}
use Rattle.place_kit.specs.Kept.{place_of}
use Rattle.entry_words.specs.Moments.{stamp_of}
use Rattle.place_kit.specs.Started.{AreStarted}
use Rattle.merge_runs.specs.Merged.{Before, BeforeAll, IsInOrder, StandInOrder}
use Rattle.merge_runs.proofs.Order.{one_way, stamp_before}
use Rattle.world_runs.specs.Events.{StampsRise}

stamp_no_later : (x y : Moment) → Before x y → stamp_of x ≤ stamp_of y
stamp_no_later x y b = elim (cases_lt (stamp_of y) (stamp_of x)) [ inl h ↦ absurd (one_way x y b (stamp_before y x h)) | inr h ↦ h ]

none_earlier : (x : Moment) (ys : List Moment) → BeforeAll x ys → AllByRecursion (λ y. stamp_of x ≤ stamp_of y) ys
none_earlier x [] b = tt
none_earlier x (y ∷ ys) b = (stamp_no_later x y b.0, none_earlier x ys b.1)

pub order_rises : (ms : List Moment) → IsInOrder ms → StampsRise ms
order_rises [] o = tt
order_rises (m ∷ ms) o = (All-from_recursion (λ n. stamp_of m ≤ stamp_of n) ms (none_earlier m ms o.0), order_rises ms o.1)

stand_from : (n : ℕ) (ks : List AnyKept) → ((i : ℕ) (k : AnyKept) → slice_get ks i ≡ Some k → place_of k ≡ n + i) → StandInOrder n ks
stand_from n [] f = tt
stand_from n (k ∷ ks) f = (omega (arith, f 0 k refl), stand_from (n + 1) ks (λ i x e. omega (arith, f (suc i) x e)))

pub started_stand : (c : Counts) (ks : List AnyKept) → AreStarted c ks → StandInOrder 0 ks
started_stand c ks s = stand_from 0 ks
    (λ i k e. let here : place_of k ≡ i = ap (λ (l : Label). l.place.0) (s.labels i k e) in omega (arith, here))
