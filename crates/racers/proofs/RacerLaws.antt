-- A racer is a player.
use Rattle.std.proofs.Common.{◌≡◌, ℕ, ◌++◌, List, [], ◌∷◌, refl, sym, ap, subst, ◌∙◌}
use Rattle.std.specs.Prelude.{Result}
use Rattle.tect_ids.specs.declared.ids.Counts.{Counts}
use Rattle.tect_ids.specs.declared.command.Command.{Command}
use Rattle.store_rules.specs.declared.any.AnyReq.{AnyReq}
use Rattle.program_forms.specs.Kinds.{Programs}
use Rattle.entry_words.specs.declared.entry.Entry.{Entry}
use Rattle.entry_words.specs.declared.entry.Moment.{Moment}
use Rattle.entry_words.specs.declared.entry.Refused.{Refused}
use Rattle.world_runs.specs.declared.event.Event.{Event}
use Rattle.world_runs.specs.declared.event.Event.TheVariants.{Own}
use Rattle.world_runs.specs.declared.event.Happening.TheVariants.{Stopped}
use Rattle.world_runs.specs.Actors.{Actor}
use Rattle.world_runs.specs.OwnRuns.{own_state}
use Rattle.world_runs.specs.Smooth.{OwnEndsAtOnce}
use Rattle.world_runs.proofs.Prompt.{ends_at_once-append}
use Rattle.program_calls.specs.declared.turned.Turned.{Turned}
use Rattle.clients.specs.Lives.{ClientLife, events_in, state_in, op_in, next_op_in, Begins, stopped_life, IsLife}
use Rattle.clients.specs.Steps.{OwnStep}
use Rattle.racers.specs.declared.racer.Racer.{Racer}
use Rattle.racers.specs.Growing.{GrewBy, RacerGrew}
use Rattle.racers.specs.Lives.{news_events}
use Rattle.racers.specs.Steps.{Grows}
use Rattle.players.specs.Players.{IsPlayer, HasBegun, StepsOnce}
use Rattle.racers.proofs.Growths.{grows_actor, grows_counts, grows_events, grows_state, grows_at_once}
use Rattle.racers.proofs.Growths.{grows_none, grows_both, added_events}
use Rattle.racers.proofs.Begun.{has_begun, has_stopped}
use Rattle.racers.proofs.OneStep.{steps_once}
use Rattle.racers.proofs.Busy.{busy_some}

-- ---- growths one after another

grown_state : {S W : Type 0} (P : Programs S) (counts_of : W → Counts) (p q : ClientLife) (a b : W) (es : List Event)
    → GrewBy P counts_of p a q b es → state_in P q ≡ own_state P p.counts (state_in P p) es
grown_state P counts_of p q a b es g =
    grows_state p q g.news g.more g.grows P ∙ ap (own_state P p.counts (state_in P p)) g.are

both_prompt : {S W : Type 0} (P : Programs S) (counts_of : W → Counts) (p q r : ClientLife) (a b c : W) (es fs : List Event)
    → GrewBy P counts_of p a q b es → GrewBy P counts_of q b r c fs → OwnEndsAtOnce P p.counts (state_in P p) (es ++ fs)
both_prompt P counts_of p q r a b c es fs first second =
    ends_at_once-append P p.counts (state_in P p) es fs first.prompt
    (subst (λ (s : Actor _). OwnEndsAtOnce P p.counts s fs) (grown_state P counts_of p q a b es first)
    (subst (λ (k : Counts). OwnEndsAtOnce P k (state_in P q) fs) (grows_counts p q first.news first.more first.grows) second.prompt))

both_grew : {S W : Type 0} (P : Programs S) (counts_of : W → Counts) (p q r : ClientLife) (a b c : W) (es fs : List Event)
    → GrewBy P counts_of p a q b es → GrewBy P counts_of q b r c fs → GrewBy P counts_of p a r c (es ++ fs)
both_grew P counts_of p q r a b c es fs first second = record {
  here = first.here;
  there = second.there ∙ first.there;
  news = first.news ++ second.news;
  more = first.more ++ second.more;
  grows = grows_both p q r first.news second.news first.more second.more first.grows second.grows;
  are = added_events p q r first.news second.news first.more second.more first.grows second.grows
      ∙ ap (λ (xs : List Event). xs ++ news_events second.news second.more) first.are ∙ ap (λ (xs : List Event). es ++ xs) second.are;
  prompt = both_prompt P counts_of p q r a b c es fs first second;
}

pub racer_laws : {S W : Type 0} (P : Programs S) (counts_of : W → Counts)
    → IsPlayer P {L = Racer S} {A = W} counts_of (λ p w. IsLife P p.client × (counts_of w ≡ p.client.counts)) (λ p. p.client.actor)
    (λ p w. events_in p.client) (λ p w. state_in P p.client) (RacerGrew P counts_of)
racer_laws P counts_of = record {
  nothing = λ p a fit. (
    record { here = fit.1; there = refl; news = []; more = []; grows = grows_none p.client; are = refl; prompt = tt },
    refl,
  );
  both = λ p q r a b c es fs first second.
      (both_grew P counts_of p.client q.client r.client a b c es fs first.0 second.0, second.1 ∙ first.1);
  same_actor = λ p q a b es g. grows_actor p.client q.client g.0.news g.0.more g.0.grows;
  same_counts = λ p q a b es g. g.0.there;
  more_history = λ p q a b es g. grows_events p.client q.client g.0.news g.0.more g.0.grows
      ∙ ap (λ (xs : List Event). events_in p.client ++ xs) g.0.are;
  next_state = λ p q a b es g. grown_state P counts_of p.client q.client a b es g.0
      ∙ ap (λ (k : Counts). own_state P k (state_in P p.client) es) (sym g.0.here);
  busy = λ p a fit running. busy_some P p.client fit.0 running;
}

-- ---- its calls

module _ {S W : Type 0} (P : Programs S) (counts_of : W → Counts) (old new : Racer S) (w v : W) (here : counts_of w ≡ old.client.counts)
    (there : counts_of v ≡ counts_of w) (life : IsLife P new.client) (same : new.answers ≡ old.answers) where
  by_growth : (news : List Moment) (more : List Event) → Grows old.client new.client news more
      → RacerGrew P counts_of old w new v (news_events news more)
  by_growth news more grows = (
    record {
      here = here;
      there = there;
      news = news;
      more = more;
      grows = grows;
      are = refl;
      prompt = grows_at_once old.client new.client news more grows P life;
    },
    same,
  )

  pub racer_begins : (c : Command) → Begins P old.client new.client c
      → HasBegun (RacerGrew P counts_of old w new v) (next_op_in P old.client) c
  racer_begins c begins =
      let begun = has_begun P old.client new.client c begins life in
      record {
        begin = begun.begin;
        begins = begun.begins;
        grown = subst (RacerGrew P counts_of old w new v) begun.events (by_growth begun.news begun.more begun.grows);
      }

  pub racer_stops : new.client ≡ stopped_life P old.client → RacerGrew P counts_of old w new v (Own (op_in P old.client) Stopped ∷ [])
  racer_stops is =
      let stopped = has_stopped P old.client new.client is in
      subst (RacerGrew P counts_of old w new v) stopped.events (by_growth stopped.news stopped.more stopped.grows)

  pub racer_steps : (done : W → W → ℕ → AnyReq → Result Entry Refused → Type 0) → IsLife P old.client → (turned : Turned)
      → OwnStep P done w v old.client new.client turned → StepsOnce (RacerGrew P counts_of old w new v) (op_in P old.client) turned
  racer_steps done is turned step =
      steps_once P done w v old.client new.client (RacerGrew P counts_of old w new v) by_growth is turned step
