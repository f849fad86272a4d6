-- the stories of all clients, gathered, are one run
use Rattle.std.proofs.Common.{◌≡◌, ◌⊎◌, inl, inr, ℕ, ◌+◌, ◌-◌, ◌<◌, ◌≤◌, false, Option, Some, None, List, [], ◌∷◌, length, refl, sym, ap}
use Rattle.std.proofs.Common.{◌∙◌, subst, arith}
use Rattle.std.proofs.lemmas.Bool.{cases_lt}
use Rattle.std.proofs.lemmas.List.Elements.{recursion_from_All, All-from_recursion}
use Rattle.std.proofs.lemmas.Option.{slice_get_within}
use Rattle.std.specs.List.{AllByRecursion, All, filter, slice_get}
use Rattle.tect_ids.specs.declared.ids.Counts.{Counts}
use Rattle.tect_ids.specs.declared.ids.OpId.{OpId}
use Rattle.tect_ids.specs.declared.script.Line.{Line}
use Rattle.store_rules.specs.Store.{opening_store}
use Rattle.place_kit.specs.declared.any.AnyKept.{AnyKept}
use Rattle.entry_words.specs.declared.entry.Moment.{Moment}
use Rattle.entry_words.specs.Moments.{actor_of, is_of}
use Rattle.world_runs.specs.declared.event.Event.{Event}
use Rattle.program_forms.specs.Kinds.{Programs}
use Rattle.world_runs.specs.Actors.{idle_actor}
use Rattle.world_runs.specs.Smooth.{OwnEndsAtOnce}
use Rattle.whole_runs.proofs.Refusals.{AreQuiet}
use Rattle.race_runs.proofs.Silent.{quiet_parts, silent_cuts}
use Rattle.world_runs.specs.Races.{concerns, line_concerns}
use Rattle.whole_runs.specs.ClientLines.{DoesLines}
use Rattle.world_runs.specs.Events.{own}
use Rattle.world_runs.specs.Events.{IsOwnNote, IsPlaced}
use Rattle.whole_runs.specs.Woven.{AreSilent}
use Rattle.world_runs.specs.Limits.{OwnLimits}
use Rattle.world_runs.specs.OwnRuns.{OwnRun, RepliesAre}
use Rattle.whole_runs.proofs.Actors.{other_number}
use Rattle.whole_runs.proofs.Owns.{own_runs_make_run}
use Rattle.whole_runs.proofs.Limits.{own_limits_make_limits}
use Rattle.race_runs.proofs.Replies.{places_reply}
use Rattle.noted_runs.proofs.Weaving.{woven_replies}
use Rattle.noted_runs.proofs.Following.{clients_follow}
use Rattle.noted_runs.proofs.Rooms.{own_of_concerns}
use Rattle.race_runs.specs.Stories.{Story, IsStory, Timely, all_moments, all_events, with_dumps}
use Rattle.race_runs.specs.Gathered.{AreGathered, IsLineOf, IsRaceRun, GatheredStoriesAreRun, silent_last, cuts_of, history_of_race, told}
use Rattle.race_runs.proofs.ClientLines.{dumps_at, dumps_follow, lines_concern}
use Rattle.race_runs.proofs.Cuts.{AllGoOn, IsStranger, client_concerns, stranger_concerns}
use Rattle.race_runs.proofs.Lists.{at_place, has_place, every_kind, every_weaker}
use Rattle.race_runs.proofs.Parts.{AllPartsQuiet, OwnParts, own_parts, own_with_dumps}
use Rattle.race_runs.proofs.Stores.{ClocksRise, no_clocks_fall, timely_clocks_rise}
use Rattle.race_runs.proofs.Told.{report_is_told}

no_own_dumps : (b : ℕ) (clocks : List ℕ) → own b (dumps_at clocks) ≡ []
no_own_dumps b [] = refl
no_own_dumps b (k ∷ ks) = no_own_dumps b ks

dumps_prompt : {S : Type 0} (P : Programs S) (counts : Counts) (clocks : List ℕ) → OwnEndsAtOnce P counts idle_actor (dumps_at clocks)
dumps_prompt P counts [] = tt
dumps_prompt P counts (k ∷ ks) = (tt, dumps_prompt P counts ks)

-- the clocks rise if a client tells of them; if there is no client, there is no moment
rising : (clocks : List ℕ) (ss : List Story) (ms : List Moment) → All (λ m. (1 ≤ actor_of m) × (actor_of m ≤ length ss)) ms
    → ((i : ℕ) (s : Story) → slice_get ss i ≡ Some s → Timely 0 clocks s.ended s.last) → ClocksRise ms 0 clocks
rising clocks [] [] known timely = no_clocks_fall 0 clocks
rising clocks [] (m ∷ ms) known timely = absurd
    (let k : (1 ≤ actor_of m) × (actor_of m ≤ 0) = known 0 m (omega arith) in omega (arith, k.0, k.1))
rising clocks (s ∷ ss) ms known timely = timely_clocks_rise ms 0 clocks s.ended s.last (timely 0 s refl)

-- ---- what all stories together say

module _ {S : Type 0} (P : Programs S) (counts : Counts) (names : List (List ℕ)) (lines : List Line) (clocks : List ℕ)
    (ss : List Story) (ks : List AnyKept) (ms : List Moment)
    (g : AreGathered P counts names lines clocks ss ks ms) where
  story : (i : ℕ) (s : Story) → slice_get ss i ≡ Some s → IsStory P counts names lines clocks s
  story i s e = at_place (IsStory P counts names lines clocks) ss i s g.stories e

  parts : (i : ℕ) (s : Story) → slice_get ss i ≡ Some s → OwnParts s.actor s.ended s.last
  parts i s e =
      let t : IsStory P counts names lines clocks s = story i s e in
      let quiet : AllPartsQuiet s.ended × AreQuiet s.last.silent = quiet_parts [] s.ended s.last t.silent in
      own_parts s.actor s.ended s.last quiet.0 quiet.1
      (lines_concern s.actor None (filter (line_concerns s.actor) lines) (with_dumps s.ended s.last) t.busy tt t.does)

  go : AllGoOn names 0 clocks [] ms ss
  go i s e =
      let t : IsStory P counts names lines clocks s = story i s e in
      let n : s.actor ≡ i + 1 = g.numbered i s e in (
        omega (arith, n),
        record {
          timely = t.timely;
          owned = parts i s e;
          trail = at_place (λ r. filter (is_of r.actor) ms ≡ all_moments r.ended r.last) ss i
              s g.trails e;
          answers = t.answers;
        },
      )

  -- an actor of so many
  abbrev IsClient : ℕ → Type 0
  IsClient b = (1 ≤ b) × (b ≤ length ss)

  story_of : (b : ℕ) → IsClient b → (i : ℕ) × (s : Story) × (slice_get ss i ≡ Some s) × (s.actor ≡ b)
  story_of b h =
      let at : (s : Story) × (slice_get ss (b - 1) ≡ Some s) = has_place ss (b - 1) (omega arith) in
      let n : at.0.actor ≡ b - 1 + 1 = g.numbered (b - 1) at.0 at.1 in
      (b - 1, at.0, at.1, omega (arith, n))

  -- what holds of all that each client noted holds of all moments
  of_all : (Q : Moment → Type 0) → ((i : ℕ) (s : Story) → slice_get ss i ≡ Some s → All Q (all_moments s.ended s.last))
      → AllByRecursion Q ms
  of_all Q h =
      every_kind Q actor_of IsClient ms
      (λ b k. let of : (i : ℕ) × (s : Story) × (slice_get ss i ≡ Some s) × (s.actor ≡ b) = story_of b k in
      let s : Story = of.1 in
      let noted : AllByRecursion Q (filter (is_of s.actor) ms) =
      subst (λ (ns : List Moment). AllByRecursion Q ns) (sym (go of.0 s of.2).1.trail)
      (recursion_from_All Q (all_moments s.ended s.last) (h of.0 s of.2)) in
      subst (λ (a : ℕ). AllByRecursion Q (filter (is_of a) ms)) of.3 noted)
      (recursion_from_All (λ m. IsClient (actor_of m)) ms g.known)

  notes : AllByRecursion IsOwnNote ms
  notes = of_all IsOwnNote (λ i s e. (story i s e).noted)

  placed : All (IsPlaced counts) ms
  placed = All-from_recursion (IsPlaced counts) ms (of_all (IsPlaced counts) (λ i s e. (story i s e).placed))

  silent : AreSilent (cuts_of clocks ss) (silent_last ss)
  silent = silent_cuts 0 clocks [] ss (λ i s e. ((story i s e).timely, ([], λ op is. is, (story i s e).silent)))

  -- ---- each actor's own

  -- a client's own is its story
  abbrev pub OfClient : ℕ → Type 0
  OfClient b =
      (s : Story) × IsStory P counts names lines clocks s × (s.actor ≡ b)
      × (filter (concerns s.actor) (history_of_race clocks ss ms) ≡ with_dumps s.ended s.last)
      × (own s.actor (history_of_race clocks ss ms) ≡ all_events s.ended s.last)

  -- of another actor there are the dumps alone
  abbrev pub OfNone : ℕ → Type 0
  OfNone b =
      ((b ≡ 0) ⊎ (length names < b)) × (filter (concerns b) (history_of_race clocks ss ms) ≡ dumps_at clocks)
      × (own b (history_of_race clocks ss ms) ≡ [])

  of_client : (b : ℕ) → IsClient b → OfClient b
  of_client b h =
      let of : (i : ℕ) × (s : Story) × (slice_get ss i ≡ Some s) × (s.actor ≡ b) = story_of b h in
      let s : Story = of.1 in
      let all : filter (concerns s.actor) (history_of_race clocks ss ms) ≡ with_dumps s.ended s.last =
      client_concerns names 0 clocks [] ms ss go notes of.0 s of.2 in (
        s,
        story of.0 s of.2,
        of.3,
        all,
        sym (own_of_concerns s.actor (history_of_race clocks ss ms)) ∙ ap (λ (es : List Event). own s.actor es) all ∙ own_with_dumps s.actor
            s.ended s.last (parts of.0 s of.2),
      )

  of_none : (b : ℕ) → (b ≡ 0) ⊎ (length names < b) → OfNone b
  of_none b out =
      let number : length ss ≡ length names = g.number in
      let stranger : IsStranger b ss = λ i s e d.
      absurd (let n : s.actor ≡ i + 1 = g.numbered i s e in let short : i < length ss = slice_get_within ss i s e in
      elim out [ inl h ↦ omega (arith, n, d, h) | inr h ↦ omega (arith, n, d, h, short, number) ]) in
      let others : AllByRecursion (λ m. is_of b m ≡ false) ms =
      every_weaker (λ m. IsClient (actor_of m)) (λ m. is_of b m ≡ false)
      (λ m k. other_number (actor_of m) b
      (λ d. absurd (elim out [ inl h ↦ omega (arith, k.0, d, h) | inr h ↦ omega (arith, k.1, d, h, number) ])))
      ms (recursion_from_All (λ m. IsClient (actor_of m)) ms g.known) in
      let all : filter (concerns b) (history_of_race clocks ss ms) ≡ dumps_at clocks = stranger_concerns names 0 clocks [] ms ss go
      notes b stranger others in
      (out, all, sym (own_of_concerns b (history_of_race clocks ss ms)) ∙ ap (λ (es : List Event). own b es) all ∙ no_own_dumps b clocks)

  of_actor : (b : ℕ) → OfClient b ⊎ OfNone b
  of_actor b =
      elim (cases_lt (length names) b) [
        | inl h ↦ inr (of_none b (inr h))
        | inr h ↦ elim (cases_lt 0 b) [
          | inl k ↦ inl (of_client b (omega arith, (let number : length ss ≡ length names = g.number in omega arith)))
          | inr k ↦ inr (of_none b (inl (omega arith)))
        ]
      ]

  -- ---- the law

  runs : (b : ℕ) → OwnRun P counts idle_actor (own b (history_of_race clocks ss ms))
  runs b = elim (of_actor b) [
    | inl h ↦ subst (λ (a : ℕ). OwnRun P counts idle_actor (own a (history_of_race clocks ss ms))) h.2
        (subst (λ (es : List Event). OwnRun P counts idle_actor es) (sym h.4) h.1.own)
    | inr h ↦ subst (λ (es : List Event). OwnRun P counts idle_actor es) (sym h.2) tt
  ]

  limits : (b : ℕ) → OwnLimits P counts [] idle_actor (own b (history_of_race clocks ss ms))
  limits b = elim (of_actor b) [
    | inl h ↦ subst (λ (a : ℕ). OwnLimits P counts [] idle_actor (own a (history_of_race clocks ss ms))) h.2
        (subst (λ (es : List Event). OwnLimits P counts [] idle_actor es) (sym h.4) h.1.limits)
    | inr h ↦ subst (λ (es : List Event). OwnLimits P counts [] idle_actor es) (sym h.2) tt
  ]

  prompt : (b : ℕ) → OwnEndsAtOnce P counts idle_actor (filter (concerns b) (history_of_race clocks ss ms))
  prompt b = elim (of_actor b) [
    | inl h ↦ subst (λ (a : ℕ). OwnEndsAtOnce P counts idle_actor (filter (concerns a) (history_of_race clocks ss ms))) h.2
        (subst (λ (es : List Event). OwnEndsAtOnce P counts idle_actor es) (sym h.3) h.1.prompt)
    | inr h ↦ subst (λ (es : List Event). OwnEndsAtOnce P counts idle_actor es) (sym h.1) (dumps_prompt P counts clocks)
  ]

  abbrev Does : ℕ → Type 0
  Does b = (next : Option OpId) × DoesLines b None (filter (line_concerns b) lines) (filter (concerns b) (history_of_race clocks ss ms))
      next

  does : (b : ℕ) → Does b
  does b = elim (of_actor b) [
    | inl h ↦ subst (λ (a : ℕ). Does a) h.2 (
      h.1.busy,
      subst (λ (es : List Event). DoesLines h.0.actor None (filter (line_concerns h.0.actor) lines) es h.1.busy) (sym h.3)
          h.1.does,
    )
    | inr h ↦ (
      None,
      subst (λ (es : List Event). DoesLines b None (filter (line_concerns b) lines) es None) (sym h.1)
          (dumps_follow (length names) b lines clocks h.0 (recursion_from_All (IsLineOf (length names)) lines g.asked) g.dumps),
    )
  ]

  replies : RepliesAre opening_store (history_of_race clocks ss ms)
  replies = woven_replies opening_store (cuts_of clocks ss) (silent_last ss) ms g.rising silent
      (places_reply counts ks ms g.places g.started g.histories placed)

  clocks_rise : ClocksRise ms 0 clocks
  clocks_rise = rising clocks ss ms g.known (λ i s e. (story i s e).timely)

  gathered : IsRaceRun P counts names lines (history_of_race clocks ss ms) (told clocks ss ms)
  gathered = record {
    run = own_runs_make_run P counts (history_of_race clocks ss ms) runs replies;
    limits = own_limits_make_limits P counts (history_of_race clocks ss ms) limits;
    prompt = prompt;
    follows = clients_follow lines (history_of_race clocks ss ms) does;
    report = report_is_told names 0 clocks [] [] ms ss g.number go notes g.rising clocks_rise tt refl;
  }

pub gathered_stories_are_run : {S : Type 0} (P : Programs S) → GatheredStoriesAreRun P
gathered_stories_are_run P counts names lines clocks ss ks ms g =
    (gathered P counts names lines clocks ss ks ms g, silent P counts names lines clocks ss ks ms g)
