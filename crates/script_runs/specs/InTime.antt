-- When a run follows a script so that no step takes in an end which a look-up gave behind its last transaction.
use Rattle.std.specs.Prelude.{◌≡◌, ℕ, ◌+◌, ◌≤◌, Bool, true, Option, Some, None, List, [], ◌∷◌, ◌++◌, ◌⊎◌}
use Rattle.tect_ids.specs.declared.ids.Counts.{Counts}
use Rattle.tect_ids.specs.declared.ids.OpId.{OpId}
use Rattle.tect_ids.specs.declared.script.Act.{Act}
use Rattle.tect_ids.specs.declared.script.Act.TheVariants as acts
use Rattle.tect_ids.specs.declared.script.Line.{Line}
use Rattle.tect_ids.specs.declared.script.Line.TheVariants as lines
use Rattle.program_forms.specs.Memories.{Memory}
use Rattle.program_forms.specs.Kinds.{Programs, next_does}
use Rattle.world_runs.specs.declared.event.Event.{Event}
use Rattle.world_runs.specs.declared.event.Event.TheVariants.{Dumped}
use Rattle.world_runs.specs.Actors.{has_ended, is_said}
use Rattle.world_runs.specs.Moments.{WorldState, after_all, running}
use Rattle.whole_runs.specs.Standing.{busy_at}
use Rattle.world_runs.specs.Follows.{Acts, IsEndOf, tries, DoesLine}

-- nothing is left for the op but its end: its last reply gave its answer, or was not heard
abbrev pub only_ends : {S : Type 0} → Programs S → WorldState S → OpId → Bool
only_ends P m op = has_ended P m.counts (m.actors op.actor).memory (running m op)

-- The op comes to its end within so many steps; and where it took them all, its last reply gave its answer. What it finds by a
-- look-up behind its last transaction is another step's.
abbrev pub EndsInTime : {S : Type 0} → Programs S → WorldState S → OpId → ℕ → List Event → Type 0
EndsInTime P m op n es =
    (k : ℕ) × (front : List Event) × (end : Event) × (es ≡ front ++ end ∷ []) × Acts op k front × IsEndOf op end × (k + tries end ≤ n)
    × (k ≡ n → only_ends P (after_all P m front) op ≡ true)

-- what the line of an actor asks for, from that moment on
abbrev pub DoesInTime : {S : Type 0} → Programs S → WorldState S → ℕ → Option OpId → Act → List Event → Option OpId → Type 0
DoesInTime P m actor (Some op) (acts.Step n) es next = (Acts op n es × (next ≡ Some op)) ⊎ (EndsInTime P m op n es × (next ≡ None))
DoesInTime P m actor (Some op) act es next = DoesLine actor (Some op) act es next
DoesInTime P m actor None act es next = DoesLine actor None act es next

-- each line's events in the order of the lines, from that moment on
abbrev pub FollowsInTime : {S : Type 0} → Programs S → WorldState S → List Line → List Event → Type 0
FollowsInTime P m [] es = es ≡ []
FollowsInTime P m (lines.Client client actor act ∷ ls) es =
    (part : List Event) × (rest : List Event) × (next : Option OpId) × (es ≡ part ++ rest)
    × DoesInTime P m actor (busy_at m actor) act part next
    × FollowsInTime P (after_all P m part) ls rest
FollowsInTime P m (lines.Dump ∷ ls) es = (rest : List Event) × (es ≡ Dumped ∷ rest) × FollowsInTime P m ls rest
FollowsInTime P m (lines.Store counts ∷ ls) es = ⊥
FollowsInTime P m (lines.Sweep ∷ ls) es = ⊥
FollowsInTime P m (lines.Lose disk ∷ ls) es = ⊥

-- the programs come to no answer by a look-up
abbrev pub LooksTellNoAnswer : {S : Type 0} → Programs S → Type 0
LooksTellNoAnswer P =
    (c : Counts) (m : Memory) (op : OpId) (s : _) → is_said (next_does P.kind c m op s) ≡ true → is_said (P.kind.does c m op s) ≡ true
