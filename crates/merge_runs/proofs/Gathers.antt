-- Moments in order along which each entry was taken from its history are one history.
use Rattle.std.proofs.Common.{◌≡◌, ◌+◌, inl, inr, List, Bor, Option, Some, None, MatchOption, sym, ◌∙◌, subst, arith, map}
use Rattle.std.specs.List.{flat_map, filter}
use Rattle.std.specs.List.Sorted.{IsPermutation}
use Rattle.std.proofs.lemmas.List.Sorted.{IsPermutation-sym}
use Rattle.place_kit.specs.declared.any.AnyKept.{AnyKept}
use Rattle.entry_words.specs.declared.entry.Entry.{Entry}
use Rattle.entry_words.specs.declared.entry.Moment.{Moment}
use Rattle.entry_words.specs.declared.entry.Moment.TheVariants.{Act}
use Rattle.passes.specs.declared.pass.Pass.{Pass}
use Rattle.place_kit.specs.Kept.{history_of, place_of}
use Rattle.entry_words.specs.Moments.{is_at, is_of, trail_of}
use Rattle.merge_runs.specs.declared.keyed.Keyed.{Keyed}
use Rattle.merge_runs.specs.Keyed.{moment_in}
use Rattle.merge_runs.specs.Merged.{Agree, IsInOrder, moments_of, entries_of, trails, histories, IsStored, HaveDifferentActors}
use Rattle.merge_runs.specs.Merged.{StandInOrder, RestrictsToTrails, RestrictsToHistories}
use Rattle.merge_runs.specs.MergedRuns.{IsOneHistory}
use Rattle.merge_runs.specs.Splits.{IsApart}
use Rattle.merge_runs.specs.Walks.{list_at, IsWalked, IsApartFrom}
use Rattle.merge_runs.proofs.Agreement.{distinct_trails, distinct_histories}
use Rattle.merge_runs.proofs.Distinct.{same_members}
use Rattle.merge_runs.proofs.Matches.{match_some, match_none}
use Rattle.merge_runs.proofs.Order.{In}
use Rattle.merge_runs.proofs.Members.{in_permutation, in_flat, flat_in, in_from_contains, contains_from_in}
use Rattle.merge_runs.proofs.Trails.{in_all}
use Rattle.merge_runs.proofs.Acts.{act_in, entry_in, acted_in, in_acted}
use Rattle.merge_runs.proofs.Places.{placed_at, list_of_place, histories_at, at_histories}
use Rattle.merge_runs.proofs.Restricts.{restrict_trail}

module _ (ps : List Pass) (ms : List Moment) (perm : IsPermutation (flat_map moments_of ps) ms) where
  met : (e : Entry) → In e (trails ps) → In e (trail_of ms)
  met e i =
      let w = in_flat entries_of ps e i in
      let a = act_in (moments_of w.0) e w.2 in
      entry_in ms e a.0 (in_permutation (flat_map moments_of ps) ms perm (Act e a.0) (flat_in moments_of ps w.0 (Act e a.0) w.1 a.1))

  in_trail : (e : Entry) → In e (trail_of ms) → In e (trails ps)
  in_trail e i =
      let a = act_in ms e i in
      let w = in_flat moments_of ps (Act e a.0) (in_permutation ms (flat_map moments_of ps)
      (IsPermutation-sym (flat_map moments_of ps) ms perm) (Act e a.0) a.1) in
      flat_in entries_of ps w.0 e w.1 (entry_in (moments_of w.0) e a.0 w.2)

  -- what the moments have the trails have
  pub apart_trails : (ks : List AnyKept) (e : Entry) → IsApartFrom ks ms e → IsApart ks ps e
  apart_trails ks e (inl w) =
      inl (contains_from_in (trails ps) e (in_trail e (in_from_contains (trail_of ms) e w.0)), w.1)
  apart_trails ks e (inr w) = inr (w.0, λ c. w.1 (contains_from_in (trail_of ms) e (met e (in_from_contains (trails ps) e c))))

  module _ (ks : List AnyKept) (stands : StandInOrder 0 ks) (actors : HaveDifferentActors ps) (order : IsInOrder ms)
      (walked : IsWalked ks ms) where
    taken : (e : Entry) → In e (trails ps) → In e (list_at (map history_of ks) e.place.0)
    taken e i = subst (λ es. In e es) (walked e.place.0) (in_acted ms e (met e i))

    stored : (e : Entry) → In e (trails ps) → IsStored ks e
    stored e i =
        let w = placed_at 0 ks e.place.0 e stands (taken e i) in
        let p : place_of w.0 ≡ 0 + e.place.0 = w.2 in
        (w.0, contains_from_in ks w.0 w.1, omega arith, contains_from_in (history_of w.0) e w.3)

    agree : Agree ks ps
    agree =
        same_members (trails ps) (histories ks) (distinct_trails ps actors) (distinct_histories ks stands)
        (λ e i. (at_histories ks e.place.0 e stands (taken e i)).0)
        (λ e i. in_trail e (acted_in e.place.0 ms e
        (subst (λ es. In e es) (sym (walked e.place.0)) (histories_at ks e stands i))).0)

    to_histories : RestrictsToHistories ks ms
    to_histories = in_all (λ k. trail_of (filter (is_at (place_of k)) ms) ≡ history_of k) ks
        (λ k i. walked (place_of k) ∙ list_of_place 0 ks k (place_of k) stands i (omega arith))

    to_trails : RestrictsToTrails ps ms
    to_trails = in_all (λ p. filter (is_of p.actor) ms ≡ moments_of p) ps (λ p i. restrict_trail ps ms perm order actors p i)

    pub one_history : IsOneHistory ks ps ms
    one_history = record {
      agree = agree;
      whole = perm;
      order = order;
      trails = to_trails;
      histories = to_histories;
      stored = in_all (IsStored ks) (trails ps) stored;
    }

-- what the walk answered, at the list in which the moments lie
module _ (ks : List AnyKept) (ps : List Pass) (order read : List Keyed) (o : Option (Bor Entry))
    (perm : IsPermutation (flat_map moments_of ps) (map moment_in order)) (same : read ≡ order)
    (walk : MatchOption o (IsWalked ks (map moment_in read)) (λ e. IsApartFrom ks (map moment_in read) e.now)) where
  pub apart_found : (x : Bor Entry) → o ≡ Some x → IsApart ks ps x.now
  apart_found x h =
      apart_trails ps (map moment_in order) perm ks x.now
      (subst (λ os. IsApartFrom ks (map moment_in os) x.now) same
      (match_some o x (IsWalked ks (map moment_in read)) (λ e. IsApartFrom ks (map moment_in read) e.now) h walk))

  pub one_found : StandInOrder 0 ks → HaveDifferentActors ps → IsInOrder (map moment_in order) → o ≡ None
      → IsOneHistory ks ps (map moment_in order)
  one_found s d i h =
      one_history ps (map moment_in order) perm ks s d i
      (subst (λ os. IsWalked ks (map moment_in os)) same
      (match_none o (IsWalked ks (map moment_in read)) (λ e. IsApartFrom ks (map moment_in read) e.now) h walk))
