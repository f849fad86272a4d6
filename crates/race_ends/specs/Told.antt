-- What a report tells of parts that dumps ended, and of the store at each dump.
use Rattle.std.specs.Prelude.{ℕ, ◌≤◌, List, [], ◌∷◌, ◌++◌, map, filter}
use Rattle.std.specs.List.{All}
use Rattle.tect_ids.specs.declared.script.ReportLine.{ReportLine}
use Rattle.tect_ids.specs.declared.script.ReportLine.TheVariants.{Dump}
use Rattle.store_rules.specs.Dumps.{store_dump}
use Rattle.store_rules.specs.Store.{Store, store_step}
use Rattle.entry_words.specs.declared.entry.Moment.{Moment}
use Rattle.entry_words.specs.declared.entry.Moment.TheVariants.{Act, Local}
use Rattle.entry_words.specs.Moments.{stamp_of}
use Rattle.world_runs.specs.Events.{events_of}
use Rattle.world_runs.specs.OwnRuns.{stored_after}
use Rattle.whole_runs.specs.Woven.{is_early}
use Rattle.race_runs.specs.Gathered.{store_at}
use Rattle.race_ends.specs.declared.ended.EndedPart.{EndedPart}

abbrev pub after_moment : Store → Moment → Store
after_moment s (Act e h) = store_step s e.req
after_moment s (Local stamp actor note) = s

-- the store after those of the moments that are stamped up to the clock
abbrev pub stored_up_to : ℕ → Store → List Moment → Store
stored_up_to clock s ms = stored_after s (events_of (filter (is_early clock) ms))

-- a part's answers, and the dump of the store behind them
abbrev pub shown : EndedPart → Store → List ReportLine
shown p s = p.answers.items ++ map Dump (store_dump s)

abbrev pub told_by : List EndedPart → List ReportLine → List Moment → List ReportLine
told_by [] last ms = last
told_by (p ∷ ps) last ms = shown p (store_at p.clock ms) ++ told_by ps last ms

-- what is stamped up to the clock of a dump is stamped up to those of the dumps behind it
abbrev pub DumpsRise : List Moment → ℕ → List EndedPart → Type 0
DumpsRise ms low [] = Unit {0}
DumpsRise ms low (p ∷ ps) = All (λ m. stamp_of m ≤ low → stamp_of m ≤ p.clock) ms × DumpsRise ms p.clock ps
