use Rattle.std.specs.List.{AllZip}
use Rattle.racer_stories.specs.Passes.{IsPassOf}
use Rattle.tect_race.proofs.rounds.take_passes.Given as goal

abbrev pub invariant-racers : goal.invariant-racers
invariant-racers g l = AllZip IsPassOf l.yielded l.passes.items
