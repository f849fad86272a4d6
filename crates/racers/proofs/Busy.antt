-- The op that a client's own run is busy with is that of its last command.
use Rattle.std.proofs.Common.{◌≡◌, ℕ, Option, Some, None, IsSome, refl, ap}
use Rattle.std.specs.Option.{ForSome}
use Rattle.tect_ids.specs.declared.ids.OpId.{OpId}
use Rattle.program_forms.specs.Kinds.{Programs}
use Rattle.world_runs.specs.Actors.{Running, idle_actor, running_op}
use Rattle.clients.specs.Lives.{ClientLife, events_in, state_in, op_in, IsLife}
use Rattle.players.proofs.Running.{all_own, runs_last}
use Rattle.racers.specs.Lives.{busy_in}

busy_by : {S : Type 0} (a n : ℕ) (o : Option (Running S)) → IsSome o → ForSome o (λ r. (r.op.actor ≡ a) × (r.op.number ≡ n))
    → running_op o ≡ Some (record { actor = a; number = n })
busy_by a n None is last = absurd cc
busy_by a n (Some r) is last =
    let own = last r refl in
    let same : r.op ≡ record { actor = a; number = n } = λ i. record { actor = own.0 i; number = own.1 i } in
    ap Some same

pub busy_some : {S : Type 0} (P : Programs S) (life : ClientLife) → IsLife P life → IsSome (state_in P life).running
    → busy_in P life ≡ Some (op_in P life)
busy_some P life is runs =
    busy_by life.actor (state_in P life).number (state_in P life).running runs
    (runs_last P life.counts life.actor idle_actor (events_in life) (all_own life.actor (events_in life) is.own) (λ p none. absurd cc))
