-- What contracts see of an actor: its number among the actors, how many shards there are, and its state as a moment of the world has it.
use Rattle.std.specs.Prelude.{ℕ, ◌+◌}
use Rattle.tect_ids.specs.declared.ids.Counts.{Counts}
use Rattle.tect_ids.specs.declared.ids.OpId.{OpId}
use Rattle.world_runs.specs.Actors.{Actor}

pub record ActorState (S : Type 0) : Type 0 where
  pub actor : ℕ
  pub counts : Counts
  pub state : Actor S

-- the op of its last command, and that of its next one
abbrev pub op_of : {S : Type 0} → ActorState S → OpId
op_of a = record { actor = a.actor; number = a.state.number }

abbrev pub next_op_of : {S : Type 0} → ActorState S → OpId
next_op_of a = record { actor = a.actor; number = a.state.number + 1 }
