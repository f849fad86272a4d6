-- The past of a run, event by event: a transaction changes it, and so does a decision; at a command's begin it is noted what it appends.
use Rattle.std.specs.Prelude.{Option, Some, None, List, [], ◌∷◌}
use Rattle.tect_ids.specs.declared.ids.Counts.{Counts}
use Rattle.tect_ids.specs.declared.ids.OpId.{OpId}
use Rattle.tect_ids.specs.declared.answer.Answer.{Answer}
use Rattle.store_rules.specs.Store.{Store, opening_store}
use Rattle.program_forms.specs.declared.standing.Standing.{Standing}
use Rattle.program_forms.specs.declared.standing.Standing.TheVariants.{Goes, Left, NoRoom}
use Rattle.program_forms.specs.Appends.{command_bytes}
use Rattle.program_forms.specs.Kinds.{Programs}
use Rattle.world_runs.specs.declared.event.Event.{Event}
use Rattle.world_runs.specs.declared.event.Event.TheVariants.{Own, Dumped}
use Rattle.world_runs.specs.declared.event.Happening.{Happening}
use Rattle.world_runs.specs.declared.event.Happening.TheVariants.{Began, NotBegun, Acted, Ended, Stopped, Failed}
use Rattle.world_runs.specs.Actors.{Actor, Running, went_on}
use Rattle.world_runs.specs.Moments.{WorldState, after, opening}
use Rattle.world_runs.specs.OwnRuns.{stored_after}
use Rattle.store_pasts.specs.Worlds.{Ghost, World, opening_ghost, ghost_next, ghost_settled, ghost_said}
use Rattle.program_laws.specs.Known.{Deciding}

-- what is decided where a command stands: one that did not hear its last reply decided nothing by it
abbrev pub standing_decided : {S : Type 0} → Deciding S Answer → Standing S → Option Answer
standing_decided D (Goes s) = D.decided s
standing_decided D Left = None
standing_decided D NoRoom = None

abbrev pub running_decided : {S : Type 0} → Deciding S Answer → Option (Running S) → Option Answer
running_decided D None = None
running_decided D (Some r) = standing_decided D r.at

-- the past after what an actor did: of its command's holds, those that are not bound are given up where its answer is decided
abbrev pub ghost_by : {S : Type 0} → Programs S → Deciding S Answer → Counts → Actor S → Store → Ghost → OpId → Happening → Ghost
ghost_by P D c a s g op (Acted q x h) =
    ghost_settled op (running_decided D a.running) (running_decided D (went_on P c a a.running q x h).running) (ghost_next s g q)
ghost_by P D c a s g op (Began k) = ghost_said op (command_bytes k) g
ghost_by P D c a s g op (NotBegun k) = g
ghost_by P D c a s g op (Ended x) = g
ghost_by P D c a s g op Stopped = g
ghost_by P D c a s g op (Failed x) = g

abbrev pub ghost_after : {S : Type 0} → Programs S → Deciding S Answer → WorldState S → Ghost → Event → Ghost
ghost_after P D m g (Own op h) = ghost_by P D m.counts (m.actors op.actor) m.store g op h
ghost_after P D m g Dumped = g

-- the past after these events
abbrev pub ghosts_after : {S : Type 0} → Programs S → Deciding S Answer → WorldState S → Ghost → List Event → Ghost
ghosts_after P D m g [] = g
ghosts_after P D m g (e ∷ es) = ghosts_after P D (after P m e) (ghost_after P D m g e) es

-- the past of a history
abbrev pub ghosts : {S : Type 0} → Programs S → Deciding S Answer → Counts → List Event → Ghost
ghosts P D counts events = ghosts_after P D (opening counts) opening_ghost events

-- the store of a moment beside its past
abbrev pub world_of : {S : Type 0} → WorldState S → Ghost → World
world_of m g = record { store = m.store; ghost = g }

-- the store after a history, beside its past
abbrev pub world : {S : Type 0} → Programs S → Deciding S Answer → Counts → List Event → World
world P D counts events = record { store = stored_after opening_store events; ghost = ghosts P D counts events }
