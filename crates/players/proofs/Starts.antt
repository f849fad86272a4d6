-- What a begin leaves of its actor, and what it shows.
use Rattle.std.proofs.Common.{◌≡◌, ℕ, eqb, IsSome, List, [], ◌∷◌, refl, ap}
use Rattle.tect_ids.specs.declared.ids.Counts.{Counts}
use Rattle.tect_ids.specs.declared.ids.OpId.{OpId}
use Rattle.tect_ids.specs.declared.command.Command.{Command}
use Rattle.program_forms.specs.Kinds.{Programs}
use Rattle.world_runs.specs.declared.event.Event.{Event}
use Rattle.world_runs.specs.declared.event.Event.TheVariants.{Own, Dumped}
use Rattle.world_runs.specs.declared.event.Happening.{Happening}
use Rattle.world_runs.specs.declared.event.Happening.TheVariants.{Began, NotBegun, Acted, Ended, Stopped, Failed}
use Rattle.world_runs.specs.Actors.{Actor}
use Rattle.world_runs.specs.Follows.{Begins, IsBeginOf}
use Rattle.world_runs.specs.OwnRuns.{own_next}
use Rattle.world_runs.specs.Races.{own_lines}
use Rattle.players.proofs.Transactions.{either_way}

-- what a begin leaves of the actor
pub record Starts {S : Type 0} (op : OpId) (s t : Actor S) : Type 0 where
  pub number : t.number ≡ op.number
  pub stopped : t.stopped ≡ s.stopped
  pub some : IsSome t.running

happening_starts : {S : Type 0} (P : Programs S) (counts : Counts) (op other : OpId) (c : Command) (s : Actor S) (h : Happening)
    → other ≡ op → Begins c h → Starts op s (own_next P counts s (Own other h))
happening_starts P counts op other c s (Began d) own is = record { number = ap (λ (o : OpId). o.number) own; stopped = refl; some = refl }
happening_starts P counts op other c s
    (NotBegun d) own is = record { number = ap (λ (o : OpId). o.number) own; stopped = refl; some = refl }
happening_starts P counts op other c s (Acted q x h) own is = absurd is
happening_starts P counts op other c s (Ended a) own is = absurd is
happening_starts P counts op other c s Stopped own is = absurd is
happening_starts P counts op other c s (Failed a) own is = absurd is

pub begin_starts : {S : Type 0} (P : Programs S) (counts : Counts) (op : OpId) (c : Command) (s : Actor S) (begin : Event)
    → IsBeginOf op c begin → Starts op s (own_next P counts s begin)
begin_starts P counts op c s (Own other h) begins = happening_starts P counts op other c s h begins.0 begins.1
begin_starts P counts op c s Dumped begins = absurd begins

module _ (names : List (List ℕ)) (actor : ℕ) (before : List Event) where
  pub begin_shows : (op : OpId) (c : Command) (begin : Event) → IsBeginOf op c begin → own_lines names actor before (begin ∷ []) ≡ []
  begin_shows op c (Own other (Began d)) begins = either_way names actor (eqb other.actor actor) []
  begin_shows op c (Own other (NotBegun d)) begins = either_way names actor (eqb other.actor actor) []
  begin_shows op c (Own other (Acted q x h)) begins = absurd begins.1
  begin_shows op c (Own other (Ended a)) begins = absurd begins.1
  begin_shows op c (Own other Stopped) begins = absurd begins.1
  begin_shows op c (Own other (Failed a)) begins = absurd begins.1
  begin_shows op c Dumped begins = absurd begins
