-- Trails and histories in which nothing stands twice; and an entry that not both of them have.
use Rattle.std.proofs.Common.{◌≡◌, ℕ, ◌+◌, true, inl, inr, List, [], ◌∷◌, arith, eqb, ltb}
use Rattle.std.proofs.lemmas.List.Sorted.{Contains-permutation, IsPermutation-sym}
use borrow.Author.Tests.{eqb-true}
use Rattle.place_kit.specs.declared.any.AnyKept.{AnyKept}
use Rattle.entry_words.specs.declared.entry.Entry.{Entry}
use Rattle.passes.specs.declared.pass.Pass.{Pass}
use Rattle.place_kit.specs.Kept.{clock_of, history_of, place_of}
use Rattle.place_kit.proofs.AllKinds.{kept_rising}
use Rattle.entry_words.specs.Moments.{steps_count}
use Rattle.place_kit.specs.Replay.{stamps_rise}
use Rattle.merge_runs.specs.Merged.{HaveDifferentActors, StandInOrder, Agree, entries_of, trails, histories}
use Rattle.merge_runs.specs.Splits.{IsApart}
use Rattle.merge_runs.proofs.Order.{both}
use Rattle.merge_runs.proofs.Strict.{actor_of_pass}
use Rattle.merge_runs.proofs.Restricts.{place_kept}
use Rattle.merge_runs.proofs.Trails.{owner_of}
use Rattle.merge_runs.proofs.Places.{one_placed}
use Rattle.merge_runs.proofs.Rising.{later}
use Rattle.merge_runs.proofs.Splits.{from_step}
use Rattle.merge_runs.proofs.Distinct.{Distinct, distinct_flat}

distinct_steps : (first next : ℕ) (es : List Entry) → steps_count first next es ≡ true → Distinct es
distinct_steps first next [] h = tt
distinct_steps first next (x ∷ xs) h =
    let w = both (eqb x.step first) (steps_count (first + 1) next xs) h in
    let s : x.step ≡ first = eqb-true x.step first w.0 in
    (λ i. let r = from_step (first + 1) next xs x w.1 i in absurd (omega arith), distinct_steps (first + 1) next xs w.1)

distinct_stamps : (low high : ℕ) (es : List Entry) → stamps_rise low high es ≡ true → Distinct es
distinct_stamps low high [] h = tt
distinct_stamps low high (x ∷ xs) h =
    let w = both (ltb low x.stamp) (stamps_rise x.stamp high xs) h in
    (λ i. let r = later x.stamp high xs x w.1 i in absurd (omega arith), distinct_stamps x.stamp high xs w.1)

distinct_kept : (k : AnyKept) → Distinct (history_of k)
distinct_kept k = distinct_stamps 0 (clock_of k) (history_of k) (kept_rising k)

pub distinct_trails : (ps : List Pass) → HaveDifferentActors ps → Distinct (trails ps)
distinct_trails ps d =
    distinct_flat entries_of actor_of_pass (λ e. e.actor) owner_of (λ p. distinct_steps 0 p.steps (entries_of p) p.known.counted) ps d

pub distinct_histories : (ks : List AnyKept) → StandInOrder 0 ks → Distinct (histories ks)
distinct_histories ks s =
    distinct_flat history_of place_of (λ e. e.place.0) place_kept distinct_kept ks (λ n. one_placed 0 n ks s)

-- where an entry is not in both they do not agree
pub apart_disagrees : (ks : List AnyKept) (ps : List Pass) (e : Entry) → IsApart ks ps e → Agree ks ps → ⊥
apart_disagrees ks ps e (inl w) a = w.1 (Contains-permutation (trails ps) (histories ks) e a w.0)
apart_disagrees ks ps e (inr w) a =
    w.1 (Contains-permutation (histories ks) (trails ps) e (IsPermutation-sym (trails ps) (histories ks) a) w.0)
