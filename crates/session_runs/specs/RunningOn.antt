-- That each script in turn can be run on.
use Rattle.std.specs.Prelude.{◌≢◌, ℕ, ◌<◌, ◌^◌, Option, Some, List, ◌++◌, length}
use Rattle.tect_ids.specs.declared.ids.Counts.{Counts}
use Rattle.tect_ids.specs.declared.ids.OpId.{OpId}
use Rattle.tect_ids.specs.declared.script.Line.{Line}
use Rattle.program_forms.specs.declared.standing.Standing.TheVariants.{Left}
use Rattle.program_rules.specs.Served.{Program, programs}
use Rattle.world_runs.specs.declared.event.Event.{Event}
use Rattle.world_runs.specs.Actors.{Running}
use Rattle.world_runs.specs.Moments.{WorldState, IsWorldRun, moment}
use Rattle.world_runs.specs.Follows.{Follows, AllFindMemory}
use Rattle.whole_runs.specs.ClientStates.{FitStates}
use Rattle.world_runs.specs.Smooth.{EndsAtOnce}
use Rattle.session_runs.specs.Well.{NoneFails}

-- the running command of an actor, if it has one, heard its last reply
abbrev pub HasHeard : Option (Running Program) → Type 0
HasHeard r = (op : OpId) → r ≢ Some record { op = op; at = Left }

abbrev pub AllHaveHeard : WorldState Program → Type 0
AllHaveHeard m = (a : ℕ) → HasHeard (m.actors a).running

-- A run that follows the front of a script in turn, and after which each running command has heard its last reply, can go on to follow
-- the whole: no op is refused or fails from there on, no memory is wanting, and each ends at once.
abbrev pub EachScriptCanBeRunOn : Type 0
EachScriptCanBeRunOn =
    (counts : Counts) (front back : List Line) (history : List Event) → FitStates programs (front ++ back)
    → length (front ++ back) < 2 ^ 31
    → IsWorldRun programs counts history → Follows front history → AllHaveHeard (moment programs counts history)
    → (more : List Event) × IsWorldRun programs counts (history ++ more) × Follows (front ++ back) (history ++ more) × NoneFails more
    × AllFindMemory more
    × EndsAtOnce programs (moment programs counts history) more
