-- what the clients kept, gathered in one list, is gathered of their stories
use Rattle.std.proofs.Common.{◌≡◌, ℕ, ◌+◌, ◌-◌, ◌≤◌, Some, List, [], ◌∷◌, length, refl, sym, ap, ◌∙◌, subst, arith}
use Rattle.std.proofs.lemmas.List.{length-map}
use Rattle.std.proofs.lemmas.List.Sorted.{All-permutation}
use Rattle.std.proofs.lemmas.Option.{slice_get_within}
use Rattle.std.specs.List.{All, Contains, filter, flat_map, slice_get}
use Rattle.tect_ids.specs.declared.ids.Counts.{Counts}
use Rattle.tect_ids.specs.declared.script.Line.{Line}
use Rattle.tect_ids.specs.declared.script.Plan.{Plan}
use Rattle.tect_ids.specs.declared.script.ReportLine.{ReportLine}
use Rattle.program_forms.specs.Kinds.{Programs}
use Rattle.place_kit.specs.declared.any.AnyKept.{AnyKept}
use Rattle.entry_words.specs.declared.entry.Moment.{Moment}
use Rattle.passes.specs.declared.pass.Pass.{Pass}
use Rattle.entry_words.specs.Moments.{actor_of, is_of}
use Rattle.place_kit.specs.Started.{AreStarted}
use Rattle.merge_runs.specs.Merged.{HaveDifferentActors, moments_of}
use Rattle.merge_runs.proofs.Order.{In}
use Rattle.merge_runs.proofs.Members.{contains_from_in, in_flat}
use Rattle.merge_runs.proofs.Restricts.{actor_in}
use Rattle.merge_runs.proofs.Trails.{all_in, in_all}
use Rattle.race_runs.specs.Gathered.{AreGathered}
use Rattle.race_runs.specs.Stories.{Story, IsStory, Timely, all_moments}
use Rattle.race_runs.proofs.Lists.{has_place}
use Rattle.race_runs.proofs.Stores.{ClocksRise, no_clocks_fall, timely_clocks_rise}
use Rattle.race_ends.specs.declared.ended.EndedPart.{EndedPart}
use Rattle.race_ends.specs.HaveRun.{HaveRun, HasStory, clocks_of}
use Rattle.race_ends.specs.Raced.{AreOfClients, IsGathered}
use Rattle.race_ends.specs.Told.{DumpsRise}
use Rattle.race_ends.proofs.Members.{all_from_places, fellow_of_second, in_from_place, place_from_in, zip_length, zip_numbered}
use Rattle.race_ends.proofs.Order.{order_rises}
use Rattle.race_ends.proofs.Numbered.{actors_differ}
use Rattle.race_ends.proofs.Told.{dumps_rise}

-- the clocks rise if a client tells of them; if there is no client, there is no moment
clocks_rise : (clocks : List ℕ) (ss : List Story) (ms : List Moment) → All (λ m. (1 ≤ actor_of m) × (actor_of m ≤ length ss)) ms
    → ((i : ℕ) (s : Story) → slice_get ss i ≡ Some s → Timely 0 clocks s.ended s.last) → ClocksRise ms 0 clocks
clocks_rise clocks [] [] known timely = no_clocks_fall 0 clocks
clocks_rise clocks [] (m ∷ ms) known timely = absurd
    (let k : (1 ≤ actor_of m) × (actor_of m ≤ 0) = known 0 m (omega arith) in omega (arith, k.0, k.1))
clocks_rise clocks (s ∷ ss) ms known timely = timely_clocks_rise ms 0 clocks s.ended s.last (timely 0 s refl)

-- gathered of what is read through borrows
pub gathered_behind : (js ks : List AnyKept) (qs ps : List Pass) (ms : List Moment) → js ≡ ks → qs ≡ ps → IsGathered js qs ms
    → IsGathered ks ps ms
gathered_behind js ks qs ps ms places passes g = subst (λ (xs : List AnyKept). IsGathered xs ps ms) places
    (subst (λ (ys : List Pass). IsGathered js ys ms) passes g)

module _ {S : Type 0} (P : Programs S) (counts : Counts) (names : List (List ℕ)) (lines : List Line) (ps : List Pass)
    (ended : List EndedPart) (last : List ReportLine) (run : HaveRun P counts names lines ps ended last) where
  abbrev Has : Pass → Story → Type 0
  Has = HasStory P counts names lines (clocks_of ended)

  count : length run.stories ≡ length names
  count = sym (zip_length Has ps run.stories run.each) ∙ run.number

  pub differ : HaveDifferentActors ps
  differ = actors_differ ps (λ i p e. omega (arith, run.numbered i p e))

  -- the pass of a story
  kept : (i : ℕ) (s : Story) → slice_get run.stories i ≡ Some s → (p : Pass) × In p ps × Has p s
  kept i s e = fellow_of_second Has ps run.stories s run.each (in_from_place run.stories i s e)

  numbered : (i : ℕ) (s : Story) → slice_get run.stories i ≡ Some s → s.actor ≡ i + 1
  numbered i s e = zip_numbered Has (λ p t h. h.actor) ps run.stories 0 run.each (λ j p g. omega (arith, run.numbered j p g)) i s e ∙
      (omega arith)

  pub each_has_pass : (actor : ℕ) → 1 ≤ actor → actor ≤ length names → (p : Pass) × Contains ps p × (p.actor ≡ actor)
  each_has_pass actor low high =
      let there = has_place ps (actor - 1) (omega (arith, run.number)) in
      let number : there.0.actor ≡ actor - 1 + 1 = run.numbered (actor - 1) there.0 there.1 in
      (there.0, contains_from_in ps there.0 (in_from_place ps (actor - 1) there.0 there.1), number ∙ (omega arith))

  story : (i : ℕ) (s : Story) → slice_get run.stories i ≡ Some s → IsStory P counts names lines (clocks_of ended) s
  story i s e = let k = kept i s e in k.2.story

  of_some_client : (p : Pass) → In p ps → (1 ≤ p.actor) × (p.actor ≤ length names)
  of_some_client p h =
      let at = place_from_in ps p h in
      let number = run.numbered at.0 p at.1 in
      let within = slice_get_within ps at.0 p at.1 in
      (omega (arith, number), omega (arith, number, within, run.number))

  pub all_known : All (λ p. (1 ≤ p.actor) × (p.actor ≤ length names)) ps
  all_known = in_all (λ p. (1 ≤ p.actor) × (p.actor ≤ length names)) ps of_some_client

  module _ (ks : List AnyKept) (entries : List Moment) (g : IsGathered ks ps entries) where
    trail : (i : ℕ) (s : Story) → slice_get run.stories i ≡ Some s → filter (is_of s.actor) entries ≡ all_moments s.ended s.last
    trail i s e =
        let k = kept i s e in
        let here : filter (is_of k.0.actor) entries ≡ k.0.moments.items = all_in (λ p. filter (is_of p.actor) entries ≡ moments_of p) ps
        g.trails k.0 k.1 in
        ap (λ (a : ℕ). filter (is_of a) entries) k.2.actor ∙ here ∙ k.2.moments

    of_client : (m : Moment) → In m (flat_map moments_of ps) → (1 ≤ actor_of m) × (actor_of m ≤ length run.stories)
    of_client m h =
        let owner = in_flat moments_of ps m h in
        let known = of_some_client owner.0 owner.1 in
        let same : actor_of m ≡ owner.0.actor = actor_in owner.0.actor (moments_of owner.0) m owner.0.known.own owner.2 in
        (omega (arith, same, known.0), omega (arith, same, known.1, count))

    known : All (λ m. (1 ≤ actor_of m) × (actor_of m ≤ length run.stories)) entries
    known =
        let Q : Moment → Type 0 = λ m. (1 ≤ actor_of m) × (actor_of m ≤ length run.stories) in
        All-permutation Q (flat_map moments_of ps) entries g.whole (in_all Q (flat_map moments_of ps) of_client)

    pub gathered : AreStarted counts ks → AreGathered P counts names lines (clocks_of ended) run.stories ks entries
    gathered started = record {
      places = run.places;
      asked = run.asked;
      dumps = run.dumps ∙ sym (length-map ended (λ (p : EndedPart). p.clock));
      number = count;
      numbered = numbered;
      stories = all_from_places (IsStory P counts names lines (clocks_of ended)) run.stories story;
      rising = order_rises entries g.order;
      trails = all_from_places (λ s. filter (is_of s.actor) entries ≡ all_moments s.ended s.last) run.stories trail;
      known = known;
      started = started;
      histories = g.histories;
    }

    pub dumps : DumpsRise entries 0 ended
    dumps = dumps_rise entries 0 ended (clocks_rise (clocks_of ended) run.stories entries known (λ i s e. (story i s e).timely))

-- the passes are those of the plan's clients
pub are_of_clients : {S : Type 0} (P : Programs S) (plan : Plan) (ps : List Pass) (ended : List EndedPart) (last : List ReportLine)
    → HaveRun P plan.counts plan.clients plan.lines ps ended last → AreOfClients plan ps
are_of_clients P plan ps ended last run = record {
  different = differ P plan.counts plan.clients plan.lines ps ended last run;
  known = all_known P plan.counts plan.clients plan.lines ps ended last run;
  each = each_has_pass P plan.counts plan.clients plan.lines ps ended last run;
}
