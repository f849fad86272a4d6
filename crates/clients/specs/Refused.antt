-- How a client's running command stands with its pass, and with the events of its refused ops.
use Rattle.std.specs.Prelude.{◌≡◌, true, List, [], ◌∷◌, Option, Some, None}
use Rattle.tect_ids.specs.declared.ids.OpId.{OpId}
use Rattle.program_forms.specs.declared.standing.Standing.{Standing}
use Rattle.program_forms.specs.declared.standing.Standing.TheVariants.{Goes, Left, NoRoom}
use Rattle.world_runs.specs.declared.event.Event.{Event}
use Rattle.world_runs.specs.Actors.{Running, running_op}
use Rattle.world_runs.specs.Refusals.{was_refused}

abbrev pub standing_goes : {S : Type 0} → Standing S → Type 0
standing_goes (Goes s) = Unit {0}
standing_goes Left = ⊥
standing_goes NoRoom = ⊥

-- a command that runs goes on
abbrev pub IsGoing : {S : Type 0} → Option (Running S) → Type 0
IsGoing None = Unit {0}
IsGoing (Some r) = standing_goes r.at

abbrev pub standing_refused : {S : Type 0} → List Event → OpId → Standing S → Type 0
standing_refused es op (Goes s) = ⊥
standing_refused es op Left = ⊥
standing_refused es op NoRoom = was_refused es op ≡ true

-- a command that runs is one that these events refused
abbrev pub IsRefused : {S : Type 0} → List Event → Option (Running S) → Type 0
IsRefused es None = Unit {0}
IsRefused es (Some r) = standing_refused es r.op r.at

-- before an op was refused the pass has the running op, which goes on; from then on none runs there, and what runs was refused
abbrev pub RunsIn : {S : Type 0} → List Event → Option OpId → Option (Running S) → Type 0
RunsIn [] op running = (op ≡ running_op running) × IsGoing running
RunsIn (e ∷ es) op running = (op ≡ None) × IsRefused (e ∷ es) running
