-- Which scripts are in turn: what a client's next line may ask is told by the state that its last one left it at.
use Rattle.std.specs.Prelude.{◌≡◌, ℕ, ◌≤◌, true, eqb, if◌then◌else◌, List, [], ◌∷◌}
use Rattle.tect_ids.specs.declared.script.Act.{Act}
use Rattle.tect_ids.specs.declared.script.Act.TheVariants as acts
use Rattle.tect_ids.specs.declared.script.Line.{Line}
use Rattle.tect_ids.specs.declared.script.Line.TheVariants as lines
use Rattle.program_forms.specs.Kinds.{Programs}

-- what a client's last line left it at: without a command that goes on, with one, or stopped for good
pub data ClientState : Type 0 where
  Idle : ClientState
  Busy : ClientState
  Gone : ClientState

-- which acts its client may ask for; the programs say which commands are served
abbrev pub TakesAct : {S : Type 0} → Programs S → ClientState → Act → Type 0
TakesAct P Idle (acts.Do c) = P.serves c ≡ true
TakesAct P Idle (acts.Begin c) = P.serves c ≡ true
TakesAct P Busy (acts.Step n) = Unit {0}
TakesAct P Busy acts.Run = Unit {0}
TakesAct P Busy acts.Stop = Unit {0}
TakesAct P state act = ⊥

abbrev pub state_left_at : Act → ClientState
state_left_at (acts.Do c) = Idle
state_left_at (acts.Begin c) = Busy
state_left_at (acts.Step n) = Busy
state_left_at acts.Run = Idle
state_left_at acts.Stop = Gone

-- the states of the clients, by actor
abbrev pub ClientStates : Type 0
ClientStates = ℕ → ClientState

abbrev pub all_idle : ClientStates
all_idle actor = Idle

abbrev pub with_state : ClientStates → ℕ → ClientState → ClientStates
with_state states actor state other = if eqb other actor then state else states other

-- the states after the lines
abbrev pub states_after : ClientStates → List Line → ClientStates
states_after states [] = states
states_after states (lines.Client client actor act ∷ ls) = states_after (with_state states actor (state_left_at act)) ls
states_after states (lines.Dump ∷ ls) = states_after states ls
states_after states (lines.Store counts ∷ ls) = states_after states ls
states_after states (lines.Sweep ∷ ls) = states_after states ls
states_after states (lines.Lose disk ∷ ls) = states_after states ls

-- each line fits its client's state, and is of one of 64 clients
abbrev pub FitStatesFrom : {S : Type 0} → Programs S → ClientStates → List Line → Type 0
FitStatesFrom P states [] = Unit {0}
FitStatesFrom P states (lines.Client client actor act ∷ ls) =
    (1 ≤ actor) × (actor ≤ 64) × TakesAct P (states actor) act × FitStatesFrom P (with_state states actor (state_left_at act)) ls
FitStatesFrom P states (lines.Dump ∷ ls) = FitStatesFrom P states ls
FitStatesFrom P states (lines.Store counts ∷ ls) = ⊥
FitStatesFrom P states (lines.Sweep ∷ ls) = ⊥
FitStatesFrom P states (lines.Lose disk ∷ ls) = ⊥

abbrev pub FitStates : {S : Type 0} → Programs S → List Line → Type 0
FitStates P ls = FitStatesFrom P all_idle ls
