-- What a client's story is when it is finished.
use Rattle.std.proofs.Common.{◌≡◌, ℕ, ◌<◌, ◌≤◌, ◌^◌, List, [], ◌∷◌, ◌++◌, sym, ap, subst, ◌∙◌, arith}
use Rattle.std.specs.List.{All}
use Rattle.std.proofs.lemmas.List.Elements.{All-from_recursion}
use Rattle.tect_ids.specs.declared.ids.Counts.{Counts}
use Rattle.tect_ids.specs.declared.script.Line.{Line}
use Rattle.program_forms.specs.Kinds.{Programs}
use Rattle.world_runs.specs.declared.event.Event.{Event}
use Rattle.world_runs.specs.Actors.{idle_actor}
use Rattle.world_runs.specs.Events.{IsPlaced, IsOwnNote}
use Rattle.world_runs.specs.Limits.{OwnLimits}
use Rattle.world_runs.specs.OwnRuns.{OwnRun}
use Rattle.world_runs.specs.Refusals.{AreOfRefused}
use Rattle.whole_runs.proofs.Refusals.{of_refused-front, of_refused-rest}
use Rattle.clients.specs.Lives.{ClientLife, events_in, IsLife}
use Rattle.noted_runs.proofs.Rooms.{own_notes}
use Rattle.passes.specs.declared.pass.Pass.{Pass}
use Rattle.race_runs.specs.Stories.{Part, Story, SilentAfter, all_moments, all_events}
use Rattle.racers.specs.declared.racer.Racer.{Racer}
use Rattle.racers.specs.Lives.{busy_in}
use Rattle.racer_stories.specs.Passes.{IsPassOf}
use Rattle.racer_stories.specs.Closed.{Closed}
use Rattle.racer_stories.specs.Standing.{Stands, all_silent}
use Rattle.race_ends.specs.HaveRun.{HasStory}

silent_parts : (before : List Event) (ps : List Part) (p : Part) → AreOfRefused before (all_silent ps p) → SilentAfter before ps p
silent_parts before [] p h = h
silent_parts before (x ∷ xs) p h = (
  of_refused-front before x.silent (all_silent xs p) h,
  silent_parts (before ++ x.silent) xs p (of_refused-rest before x.silent (all_silent xs p) h),
)

module _ {S : Type 0} (P : Programs S) (counts : Counts) (names : List (List ℕ)) (ls : List Line) (clocks : List ℕ) (k : ℕ)
    (r t : Racer S) (s : Story)
    (is : Stands P counts names ls clocks r s) (closed : Closed P k r t) (high : r.client.clock ≤ k) (low : k < 2 ^ 63)
    (p : Pass) (of : IsPassOf t p) where
  abbrev life : IsLife P t.client
  life = closed.life

  counts_now : t.client.counts ≡ counts
  counts_now = ap (λ (w : ClientLife). w.counts) closed.client ∙ is.counts_are

  events_now : events_in t.client ≡ all_events s.ended s.last
  events_now = ap events_in closed.client ∙ sym is.events

  moments_now : t.client.moments ≡ all_moments s.ended s.last
  moments_now = ap (λ (w : ClientLife). w.moments) closed.client ∙ sym is.moments

  silent_now : t.client.silent ≡ all_silent s.ended s.last
  silent_now = ap (λ (w : ClientLife). w.silent) closed.client ∙ sym is.silent

  own_now : OwnRun P counts idle_actor (all_events s.ended s.last)
  own_now = subst (λ (c : Counts). OwnRun P c idle_actor (all_events s.ended s.last)) counts_now
      (subst (OwnRun P t.client.counts idle_actor) events_now life.run)

  early : t.client.clock < 2 ^ 63
  early = let at = ap (λ (w : ClientLife). w.clock) closed.client in omega (arith, at, high, low)

  limits_now : OwnLimits P counts [] idle_actor (all_events s.ended s.last)
  limits_now = subst (λ (c : Counts). OwnLimits P c [] idle_actor (all_events s.ended s.last)) counts_now
      (subst (OwnLimits P t.client.counts [] idle_actor) events_now (life.limits early))

  placed_now : All (IsPlaced counts) (all_moments s.ended s.last)
  placed_now = subst (λ (c : Counts). All (IsPlaced c) (all_moments s.ended s.last)) counts_now
      (subst (All (IsPlaced t.client.counts)) moments_now life.placed)

  pub finished : HasStory P counts names ls clocks p s
  finished =
      record {
        actor = is.actor ∙ sym (ap (λ (w : ClientLife). w.actor) closed.client) ∙ sym of.actor;
        moments = of.moments ∙ moments_now;
        story = record {
          own = own_now;
          limits = limits_now;
          prompt = is.prompt;
          busy = busy_in P r.client;
          does = is.does;
          timely = is.timely;
          answers = is.answers;
          placed = placed_now;
          noted = subst (All IsOwnNote) moments_now
              (All-from_recursion IsOwnNote t.client.moments (own_notes t.client.actor t.client.moments life.moments_own life.notes_own));
          silent = silent_parts [] s.ended s.last (subst (AreOfRefused []) silent_now life.silent);
        };
      }
