-- The fields of an actor are its state, and it runs its last op.
use Rattle.std.specs.Prelude.{◌≡◌, Option, Some, None}
use Rattle.tect_ids.specs.declared.ids.OpId.{OpId}
use Rattle.program_forms.specs.declared.standing.Standing.{Standing}
use Rattle.program_forms.specs.Lacks.{no_room}
use Rattle.world_runs.specs.Actors.{Running}
use Rattle.clients.specs.ActorState.{ActorState}
use Rattle.clients.specs.declared.actor.Actor.TheInside.{Inside}

abbrev pub run_as : {S : Type 0} → OpId → Option (Standing S) → Option (Running S)
run_as op None = None
run_as op (Some at) = Some record { op = op; at = at }

abbrev pub state_of : {S : Type 0} → Inside S → ActorState S
state_of a = record {
  actor = a.memory.actor;
  counts = a.memory.counts;
  state = record {
    number = a.number;
    memory = a.memory.memory;
    stopped = a.stopped;
    running = run_as (record { actor = a.memory.actor; number = a.number }) a.running;
  };
}

-- the answer that it lends for an op that was refused
abbrev pub HasNoRoom : {S : Type 0} → Inside S → Type 0
HasNoRoom a = a.no_room ≡ no_room
