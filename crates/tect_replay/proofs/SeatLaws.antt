-- An actor of the world is a player.
use Rattle.std.proofs.Common.{◌≡◌, ℕ, ◌≤◌, List, [], ◌++◌, refl, sym, ap, subst, ◌∙◌}
use Rattle.std.proofs.lemmas.List.{append-nil}
use Rattle.std.specs.Prelude.{IsSome, Some}
use Rattle.tect_ids.specs.declared.ids.Counts.{Counts}
use Rattle.program_forms.specs.Kinds.{Programs}
use Rattle.world_runs.specs.declared.event.Event.{Event}
use Rattle.world_runs.specs.Actors.{running_op}
use Rattle.world_runs.specs.Events.{own}
use Rattle.world_runs.specs.Moments.{WorldState, IsWorldRun, opening}
use Rattle.world_runs.specs.OwnRuns.{own_state}
use Rattle.world_runs.specs.Smooth.{EndsAtOnce}
use Rattle.world_runs.proofs.Actors.{own-append}
use Rattle.whole_runs.proofs.Owns.{actors_are_their_own, counts_stay}
use Rattle.script_runs.proofs.Running.{running_is_last_begun}
use Rattle.script_runs.proofs.AtOnce.{at_once-append}
use Rattle.world_lives.specs.Life.{Life, present, grown, last_op}
use Rattle.world_lives.proofs.Grown.{present-grown}
use Rattle.world_lives.proofs.Running.{grown-grown}
use Rattle.players.specs.Players.{IsPlayer}
use Rattle.tect_replay.specs.declared.seat.Seat.{Seat}
use Rattle.replay_stories.specs.Plays.{IsKeptRun}
use Rattle.tect_replay.specs.Seats.{SeatGrew}
use Rattle.tect_replay.proofs.Results.{some_of}

grown-nil : (w : Life) → w ≡ grown w []
grown-nil w i = record { counts = w.counts; history = sym (append-nil w.history) i }

module _ {S : Type 0} (P : Programs S) where
  busy_some : (w : Life) (actor : ℕ) → IsWorldRun P w.counts w.history → IsSome ((present P w).actors actor).running
      → running_op ((present P w).actors actor).running ≡ Some (last_op (present P w) actor)
  busy_some w actor run some =
      let p = some_of ((present P w).actors actor).running some in
      let k = running_is_last_begun P w.counts w.history run actor p.0 p.1 in
      let same : (p.0).op ≡ last_op (present P w) actor = λ i. record { actor = k.own i; number = k.last i } in
      ap running_op p.1 ∙ ap Some same

  seat_both : (p q r : Seat) (a b c : Life) (es fs : List Event) → SeatGrew P p a q b es → SeatGrew P q b r c fs
      → SeatGrew P p a r c (es ++ fs)
  seat_both p q r a b c es fs first second = record {
    seat = second.seat ∙ first.seat;
    history = second.history ∙ ap (λ (w : Life). grown w fs) first.history ∙ grown-grown a es fs;
    mine = own-append p.actor es fs ∙ ap (λ (xs : List Event). xs ++ own p.actor fs) first.mine ∙ ap (λ (xs : List Event). es ++ xs)
        (ap (λ (s : Seat). own s.actor fs) (sym first.seat) ∙ second.mine);
    at_once = at_once-append P (present P a) es fs first.at_once
        (subst (λ (m : WorldState S). EndsAtOnce P m fs) (ap (present P) first.history ∙ present-grown P a es) second.at_once);
  }

  seat_state : (p q : Seat) (a b : Life) (es : List Event) → SeatGrew P p a q b es
      → (present P b).actors q.actor ≡ own_state P a.counts ((present P a).actors p.actor) es
  seat_state p q a b es g =
      ap (λ (s : Seat). (present P b).actors s.actor) g.seat ∙ ap (λ (m : WorldState S). m.actors p.actor)
      (ap (present P) g.history ∙ present-grown P a es)
      ∙ actors_are_their_own P (present P a) es p.actor
      ∙ ap (λ (k : Counts). own_state P k ((present P a).actors p.actor) (own p.actor es)) (counts_stay P (opening a.counts) a.history)
      ∙ ap (own_state P a.counts ((present P a).actors p.actor)) g.mine

  pub seat_laws : IsPlayer P {L = Seat} {A = Life} (λ w. w.counts) (λ s w. (1 ≤ s.actor) × (s.actor ≤ 64) × IsKeptRun P w) (λ s. s.actor)
      (λ s w. w.history)
      (λ s w. (present P w).actors s.actor) (SeatGrew P)
  seat_laws = record {
    nothing = λ p a fit. record { seat = refl; history = grown-nil a; mine = refl; at_once = tt };
    both = seat_both;
    same_actor = λ p q a b es g. ap (λ (s : Seat). s.actor) g.seat;
    same_counts = λ p q a b es g. ap (λ (w : Life). w.counts) g.history;
    more_history = λ p q a b es g. ap (λ (w : Life). w.history) g.history;
    next_state = seat_state;
    busy = λ p a fit running. busy_some a p.actor (fit.2).run running;
  }
