-- What a client's history says of it.
use Rattle.std.specs.Prelude.{ℕ, Option, List, ◌++◌}
use Rattle.tect_ids.specs.declared.ids.OpId.{OpId}
use Rattle.program_forms.specs.Kinds.{Programs}
use Rattle.entry_words.specs.declared.entry.Moment.{Moment}
use Rattle.world_runs.specs.declared.event.Event.{Event}
use Rattle.world_runs.specs.Actors.{running_op}
use Rattle.world_runs.specs.Events.{events_of}
use Rattle.clients.specs.Lives.{ClientLife, state_in}

-- its op that has begun and not ended
abbrev pub busy_in : {S : Type 0} → Programs S → ClientLife → Option OpId
busy_in P life = running_op (state_in P life).running

-- the client after further moments, or further events of refused ops, with its pass's clock at that number
abbrev pub grown : ClientLife → ℕ → List Moment → List Event → ClientLife
grown life clock news more = record life { clock = clock; moments = life.moments ++ news; silent = life.silent ++ more }

-- the events that these are
abbrev pub news_events : List Moment → List Event → List Event
news_events news more = events_of news ++ more
