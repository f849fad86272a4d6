-- what is woven of moments, refusals and dumps: what concerns an actor of it, and its replies
use Rattle.std.proofs.Common.{◌≡◌, ℕ, ◌<◌, ◌≤◌, Bool, true, false, not, if◌then◌else◌, List, [], ◌∷◌, ◌++◌, refl, sym, ap, ◌∙◌, subst, eqb}
use Rattle.std.proofs.Common.{nat_le, arith}
use Rattle.std.proofs.lemmas.Bool.{lt-leb, leb-false}
use Rattle.std.proofs.lemmas.List.{map-append}
use Rattle.std.proofs.lemmas.List.Elements.{All-filter, All-from_recursion, filter-append, recursion_from_All}
use Rattle.std.specs.List.{AllByRecursion, filter}
use Rattle.tect_ids.specs.declared.answer.Answer.{Answer}
use Rattle.tect_ids.specs.declared.answer.Answer.TheVariants as answers
use Rattle.tect_ids.specs.declared.ids.OpId.{OpId}
use Rattle.store_rules.specs.Store.{Store}
use Rattle.entry_words.specs.declared.entry.Moment.{Moment}
use Rattle.entry_words.specs.declared.entry.Moment.TheVariants.{Act, Local}
use Rattle.entry_words.specs.declared.entry.Note.TheVariants as notes
use Rattle.entry_words.specs.Moments.{stamp_of, is_of}
use Rattle.world_runs.specs.declared.event.Event.{Event}
use Rattle.world_runs.specs.declared.event.Event.TheVariants.{Own, Dumped}
use Rattle.world_runs.specs.declared.event.Happening.TheVariants.{Began, NotBegun, Acted, Ended, Stopped, Failed}
use Rattle.world_runs.specs.Races.{concerns, is_own}
use Rattle.world_runs.specs.Events.{end_event, event_of, events_of, own}
use Rattle.world_runs.specs.Events.{IsOwnNote, StampsRise}
use Rattle.whole_runs.specs.Woven.{AreSilent, AreSilentAfter}
use Rattle.noted_runs.specs.Laws.{WovenConcerns, WovenReplies}
use Rattle.world_runs.specs.OwnRuns.{RepliesAre, ReplyIs, stored_after, stored_next}
use Rattle.whole_runs.specs.Woven.{Cut, is_early, is_late, own_cuts, woven}
use Rattle.whole_runs.proofs.Refusals.{AreQuiet, IsQuiet, all_quiet_of_refused}
use Rattle.whole_runs.proofs.Actors.{replies-append, replies-front, replies-rest, stored_after-append}

-- ---- what a list keeps

pub filter-swap : {X : Type 0} (p q : X → Bool) (xs : List X) → filter p (filter q xs) ≡ filter q (filter p xs)
filter-swap p q [] = refl
filter-swap p q (x ∷ xs) =
    elim (p x) as (λ a. p x ≡ a → filter p (filter q (x ∷ xs)) ≡ filter q (if a then x ∷ filter p xs else filter p xs)) [
      | true ↦ λ h. elim (q x) as
          (λ b. filter p (if b then x ∷ filter q xs else filter q xs)
          ≡ (if b then x ∷ filter q (filter p xs) else filter q (filter p xs))) [
            | true ↦ rw h (ap (λ ys. x ∷ ys) (filter-swap p q xs))
            | false ↦ filter-swap p q xs
          ]
      | false ↦ λ h. elim (q x) as (λ b. filter p (if b then x ∷ filter q xs else filter q xs) ≡ filter q (filter p xs)) [
        | true ↦ rw h (filter-swap p q xs)
        | false ↦ filter-swap p q xs
      ]
    ] refl

-- two tests that agree where P holds
pub filter_agree_where : {X : Type 0} (P : X → Type 0) (p q : X → Bool) → ((x : X) → P x → p x ≡ q x) → (xs : List X) → AllByRecursion P xs
    → filter p xs ≡ filter q xs
filter_agree_where P p q same [] all = refl
filter_agree_where P p q same (x ∷ xs) all = rw (same x all.0, filter_agree_where P p q same xs all.1) refl

-- ---- what concerns an actor

end_concerns : (actor : ℕ) (op : OpId) (a : Answer) → concerns actor (end_event op a) ≡ eqb op.actor actor
end_concerns actor op answers.NoMemory = refl
end_concerns actor op (answers.HistoryFull p) = refl
end_concerns actor op _ = refl

moment_concerns : (actor : ℕ) (m : Moment) → IsOwnNote m → concerns actor (event_of m) ≡ is_of actor m
moment_concerns actor (Act e h) is = refl
moment_concerns actor (Local stamp by (notes.Began op c)) is = ap (λ n. eqb n actor) is
moment_concerns actor (Local stamp by (notes.Ended op a)) is = end_concerns actor op a ∙ ap (λ n. eqb n actor) is
moment_concerns actor (Local stamp by (notes.Stopped op)) is = ap (λ n. eqb n actor) is

pub events_concern : (actor : ℕ) (ms : List Moment) → AllByRecursion IsOwnNote ms
    → filter (concerns actor) (events_of ms) ≡ events_of (filter (is_of actor) ms)
events_concern actor [] are = refl
events_concern actor (m ∷ ms) are =
    let same : concerns actor (event_of m) ≡ is_of actor m = moment_concerns actor m are.0 in
    let rest : filter (concerns actor) (events_of ms) ≡ events_of (filter (is_of actor) ms) = events_concern actor ms are.1 in
    rw (same, rest)
    (elim (is_of actor m) as
    (λ b. (if b then event_of m ∷ events_of (filter (is_of actor) ms) else events_of (filter (is_of actor) ms)) ≡ events_of
    (if b then m ∷ filter (is_of actor) ms else filter (is_of actor) ms)) [
      | true ↦ refl
      | false ↦ refl
    ])

silent_concerns : (actor : ℕ) (e : Event) → IsQuiet e → concerns actor e ≡ is_own actor e
silent_concerns actor (Own op h) is = refl
silent_concerns actor Dumped is = absurd is

-- by recursion, as the proofs below go
abbrev pub AreSilentCuts : List Cut → List Event → Type 0
AreSilentCuts cuts last = AllByRecursion (λ (c : Cut). AreQuiet c.silent) cuts × AreQuiet last

silent_after : (before : List Event) (cuts : List Cut) (last : List Event) → AreSilentAfter before cuts last → AreSilentCuts cuts last
silent_after before [] last are = (tt, all_quiet_of_refused before last are)
silent_after before (c ∷ cs) last are =
    let rest = silent_after (before ++ c.silent) cs last are.1 in
    ((all_quiet_of_refused before c.silent are.0, rest.0), rest.1)

pub silent_cuts : (cuts : List Cut) (last : List Event) → AreSilent cuts last → AreSilentCuts cuts last
silent_cuts cuts last are = silent_after [] cuts last are

pub keeps : (P : Moment → Type 0) (p : Moment → Bool) (ms : List Moment) → AllByRecursion P ms → AllByRecursion P (filter p ms)
keeps P p ms all = recursion_from_All P (filter p ms) (All-filter p P ms (All-from_recursion P ms all))

pub part_concerns : (actor : ℕ) (silent : List Event) (ms : List Moment) → AllByRecursion IsOwnNote ms → AreQuiet silent
    → filter (concerns actor) (events_of ms ++ silent) ≡ events_of (filter (is_of actor) ms) ++ own actor silent
part_concerns actor silent ms are quiet =
    filter-append (concerns actor) (events_of ms) silent
    ∙ ap (λ es. es ++ filter (concerns actor) silent) (events_concern actor ms are)
    ∙ ap (λ es. events_of (filter (is_of actor) ms) ++ es)
    (filter_agree_where IsQuiet (concerns actor) (is_own actor) (silent_concerns actor) silent quiet)

woven_concerns-by : (actor : ℕ) (cuts : List Cut) (last : List Event) (ms : List Moment) → AllByRecursion IsOwnNote ms
    → AreSilentCuts cuts last
    → filter (concerns actor) (woven cuts last ms) ≡ woven (own_cuts actor cuts) (own actor last) (filter (is_of actor) ms)
woven_concerns-by actor [] last ms are quiet = part_concerns actor last ms are quiet.1
woven_concerns-by actor (c ∷ cs) last ms are quiet =
    let early : List Moment = filter (is_early c.stamp) ms in
    let late : List Moment = filter (is_late c.stamp) ms in
    let here : filter (concerns actor) (events_of early ++ c.silent) ≡ events_of (filter (is_early c.stamp) (filter (is_of actor) ms)) ++
    own actor c.silent =
    part_concerns actor c.silent early (keeps IsOwnNote (is_early c.stamp) ms are) quiet.0.0
    ∙ ap (λ os. events_of os ++ own actor c.silent) (filter-swap (is_of actor) (is_early c.stamp) ms) in
    let there : filter (concerns actor) (woven cs last late) ≡ woven (own_cuts actor cs) (own actor last)
    (filter (is_late c.stamp) (filter (is_of actor) ms)) =
    woven_concerns-by actor cs last late (keeps IsOwnNote (is_late c.stamp) ms are) (quiet.0.1, quiet.1)
    ∙ ap (λ os. woven (own_cuts actor cs) (own actor last) os) (filter-swap (is_of actor) (is_late c.stamp) ms) in
    filter-append (concerns actor) (events_of early ++ c.silent) (Dumped ∷ woven cs last late)
    ∙ ap (λ es. es ++ Dumped ∷ filter (concerns actor) (woven cs last late)) here
    ∙ ap (λ es. (events_of (filter (is_early c.stamp) (filter (is_of actor) ms)) ++ own actor c.silent) ++ Dumped ∷ es) there

pub woven_concerns : WovenConcerns
woven_concerns actor cuts last ms are quiet = woven_concerns-by actor cuts last ms (recursion_from_All IsOwnNote ms are)
    (silent_cuts cuts last quiet)

-- ---- the replies

-- refusals say nothing of the store
silent_store : (s : Store) (e : Event) → IsQuiet e → stored_next s e ≡ s
silent_store s (Own op (NotBegun c)) quiet = refl
silent_store s (Own op (Ended a)) quiet = refl
silent_store s (Own op Stopped) quiet = refl
silent_store s (Own op (Failed a)) quiet = refl
silent_store s (Own op (Began c)) quiet = refl
silent_store s (Own op (Acted q x h)) quiet = absurd quiet
silent_store s Dumped quiet = refl

silent_reply : (s : Store) (e : Event) → IsQuiet e → ReplyIs s e
silent_reply s (Own op (NotBegun c)) quiet = tt
silent_reply s (Own op (Ended a)) quiet = tt
silent_reply s (Own op Stopped) quiet = tt
silent_reply s (Own op (Failed a)) quiet = tt
silent_reply s (Own op (Began c)) quiet = tt
silent_reply s (Own op (Acted q x h)) quiet = absurd quiet
silent_reply s Dumped quiet = tt

pub silent_replies : (s : Store) (es : List Event) → AreQuiet es → RepliesAre s es × (stored_after s es ≡ s)
silent_replies s [] quiet = (tt, refl)
silent_replies s (e ∷ es) quiet =
    let same : stored_next s e ≡ s = silent_store s e quiet.0 in
    let rest = silent_replies s es quiet.1 in (
      (silent_reply s e quiet.0, subst (λ (t : Store). RepliesAre t es) (sym same) rest.0),
      ap (λ (t : Store). stored_after t es) same ∙ rest.1,
    )

-- behind a moment that is late all are late
all_late : (stamp : ℕ) (low : ℕ) (ms : List Moment) → stamp < low → AllByRecursion (λ n. low ≤ stamp_of n) ms
    → (filter (is_early stamp) ms ≡ []) × (filter (is_late stamp) ms ≡ ms)
all_late stamp low [] above all = (refl, refl)
all_late stamp low (m ∷ ms) above all =
    let late : nat_le (stamp_of m) stamp ≡ false = lt-leb (stamp_of m) stamp (omega (arith, all.0)) in
    let rest = all_late stamp low ms above all.1 in
    (rw late rest.0, rw late (ap (λ ns. m ∷ ns) rest.1))

-- what is early stands in front
pub stamps_split : (stamp : ℕ) (ms : List Moment) → StampsRise ms → filter (is_early stamp) ms ++ filter (is_late stamp) ms ≡ ms
stamps_split stamp [] rise = refl
stamps_split stamp (m ∷ ms) rise =
    elim (is_early stamp m) as
    (λ b. is_early stamp m ≡ b
    → (if b then m ∷ filter (is_early stamp) ms else filter (is_early stamp) ms) ++
    (if not b then m ∷ filter (is_late stamp) ms else filter (is_late stamp) ms) ≡ m ∷ ms) [
      | true ↦ λ h. ap (λ ns. m ∷ ns) (stamps_split stamp ms rise.1)
      | false ↦ λ h.
          let rest = all_late stamp (stamp_of m) ms (leb-false (stamp_of m) stamp h)
          (recursion_from_All (λ n. stamp_of m ≤ stamp_of n) ms rise.0) in
          rw (rest.0, rest.1) refl
    ] refl

pub stamps_rise-filter : (p : Moment → Bool) (ms : List Moment) → StampsRise ms → StampsRise (filter p ms)
stamps_rise-filter p [] rise = tt
stamps_rise-filter p (m ∷ ms) rise =
    elim (p m) as (λ b. StampsRise (if b then m ∷ filter p ms else filter p ms)) [
      | true ↦ (All-filter p (λ n. stamp_of m ≤ stamp_of n) ms rise.0, stamps_rise-filter p ms rise.1)
      | false ↦ stamps_rise-filter p ms rise.1
    ]

-- what is put behind and says nothing of the store leaves the replies
quiet_behind : (s : Store) (es silent : List Event) → AreQuiet silent → RepliesAre s es
    → RepliesAre s (es ++ silent) × (stored_after s (es ++ silent) ≡ stored_after s es)
quiet_behind s es silent quiet replies =
    let none = silent_replies (stored_after s es) silent quiet in
    (replies-append s es silent replies none.0, stored_after-append s es silent ∙ none.1)

woven_replies-by : (s : Store) (cuts : List Cut) (last : List Event) (ms : List Moment) → StampsRise ms → AreSilentCuts cuts last
    → RepliesAre s (events_of ms) → RepliesAre s (woven cuts last ms)
woven_replies-by s [] last ms rise quiet replies = (quiet_behind s (events_of ms) last quiet.1 replies).0
woven_replies-by s (c ∷ cs) last ms rise quiet replies =
    let early : List Moment = filter (is_early c.stamp) ms in
    let late : List Moment = filter (is_late c.stamp) ms in
    let split : events_of ms ≡ events_of early ++ events_of late = ap events_of (sym (stamps_split c.stamp ms rise)) ∙ map-append event_of
    early late in
    let both : RepliesAre s (events_of early ++ events_of late) = subst (λ es. RepliesAre s es) split replies in
    let front = quiet_behind s (events_of early) c.silent quiet.0.0 (replies-front s (events_of early) (events_of late) both) in
    let rest : RepliesAre (stored_after s (events_of early)) (woven cs last late) =
    woven_replies-by (stored_after s (events_of early)) cs last late (stamps_rise-filter (is_late c.stamp) ms rise) (quiet.0.1, quiet.1)
    (replies-rest s (events_of early) (events_of late) both) in
    replies-append s (events_of early ++ c.silent) (Dumped ∷ woven cs last late) front.0
    (tt, subst (λ t. RepliesAre t (woven cs last late)) (sym front.1) rest)

pub woven_replies : WovenReplies
woven_replies s cuts last ms rise quiet replies = woven_replies-by s cuts last ms rise (silent_cuts cuts last quiet) replies
