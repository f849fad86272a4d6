-- What the passes keep, in the order in which all was done.
use Rattle.std.specs.Prelude.{ℕ, eqb, if◌then◌else◌, List, []}
use Rattle.tect_ids.specs.declared.ids.Counts.{Counts}
use Rattle.entry_words.specs.declared.entry.Moment.{Moment}
use Rattle.clients.specs.Lives.{ClientLife}
use Rattle.tect_world.specs.Clients.{client_at}

-- the moments of the actor with that number
abbrev pub moments_by : Counts → List ClientLife → ℕ → List Moment
moments_by counts lives a = if eqb a 0 then [] else (client_at counts lives a).moments
