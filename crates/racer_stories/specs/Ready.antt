-- When a racer can do the lines that are left.
use Rattle.std.specs.Prelude.{◌≡◌, ℕ, ◌+◌, ◌<◌, ◌≤◌, ◌^◌, List, length, Some, slice_get}
use Rattle.tect_ids.specs.declared.ids.Counts.{Counts}
use Rattle.tect_ids.specs.declared.script.Line.{Line}
use Rattle.tect_ids.specs.declared.script.Line.TheVariants as lines
use Rattle.program_forms.specs.Kinds.{Programs}
use Rattle.whole_runs.specs.ClientStates.{ClientStates, FitStatesFrom}
use Rattle.whole_runs.specs.Standing.{IsInState}
use Rattle.clients.specs.Lives.{state_in}
use Rattle.racers.specs.declared.racer.Racer.{Racer}

-- the line is of one of so many clients
abbrev pub IsOfClient : ℕ → Line → Type 0
IsOfClient clients (lines.Client client actor act) = (1 ≤ actor) × (actor ≤ clients)
IsOfClient clients line = ⊥

-- The lines fit the state that its last line left it at, and its ops stay few.
pub record IsReady {S : Type 0} (P : Programs S) (counts : Counts) (ls : List Line) (r : Racer S) : Type 0 where
  pub counts_are : r.client.counts ≡ counts
  pub states : ClientStates
  pub in_turn : FitStatesFrom P states ls
  pub state : IsInState (states r.client.actor) (state_in P r.client)
  pub few : (state_in P r.client).number + length ls < 2 ^ 31

-- all clients, in order, each ready for these lines
pub record AreRacers {S : Type 0} (P : Programs S) (counts : Counts) (ls : List Line) (rs : List (Racer S)) : Type 0 where
  pub own : (i : ℕ) (r : Racer S) → slice_get rs i ≡ Some r → r.client.actor ≡ i + 1
  pub ready : (i : ℕ) (r : Racer S) → slice_get rs i ≡ Some r → IsReady P counts ls r
