-- How the moments of all actors are told one after another, by the marks.
use Rattle.std.specs.Prelude.{ℕ, ◌-◌, ◌≤◌, eqb, if◌then◌else◌, List, [], ◌∷◌, drop, slice_index_or}
use Rattle.tect_ids.specs.declared.ids.Counts.{Counts}
use Rattle.entry_words.specs.declared.entry.Moment.{Moment}
use Rattle.clients.specs.Lives.{ClientLife}
use Rattle.world_lives.specs.declared.marks.Mark.{Mark}
use Rattle.world_lives.specs.declared.marks.Mark.TheVariants.{Actor, Dump}
use Rattle.tect_world.specs.Clients.{client_at}

-- the mark is of one of so many actors, or of a dump
abbrev pub IsMarkOf : ℕ → Mark → Type 0
IsMarkOf actors (Actor a) = (1 ≤ a) × (a ≤ actors)
IsMarkOf actors Dump = Unit {0}

-- so is each of them
abbrev pub AreMarksOf : ℕ → List Mark → Type 0
AreMarksOf actors [] = Unit {0}
AreMarksOf actors (m ∷ ms) = IsMarkOf actors m × AreMarksOf actors ms

-- what is left of each actor's moments, of which so many were told
abbrev pub left_by : Counts → List ClientLife → List ℕ → ℕ → List Moment
left_by counts lives told a = if eqb a 0 then [] else drop (slice_index_or told (a - 1) 0) (client_at counts lives a).moments
