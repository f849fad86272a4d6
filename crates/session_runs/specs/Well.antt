-- Histories in which every op begins, and none fails.
use Rattle.std.specs.Prelude.{List}
use Rattle.std.specs.List.{AllByRecursion}
use Rattle.world_runs.specs.declared.event.Event.{Event}
use Rattle.world_runs.specs.declared.event.Event.TheVariants.{Own, Dumped}
use Rattle.world_runs.specs.declared.event.Happening.{Happening}
use Rattle.world_runs.specs.declared.event.Happening.TheVariants.{Began, NotBegun, Acted, Ended, Stopped, Failed}

-- it is no refusal and no failure; how a reply was heard does not matter
abbrev pub HappensWell : Happening → Type 0
HappensWell (Began c) = Unit {0}
HappensWell (NotBegun c) = ⊥
HappensWell (Acted q x h) = Unit {0}
HappensWell (Ended a) = Unit {0}
HappensWell Stopped = Unit {0}
HappensWell (Failed a) = ⊥

abbrev pub GoesWell : Event → Type 0
GoesWell (Own op h) = HappensWell h
GoesWell Dumped = Unit {0}

-- no op of the history is refused or fails
abbrev pub NoneFails : List Event → Type 0
NoneFails = AllByRecursion GoesWell
