use Rattle.std.proofs.Common.{◌≡◌, take, drop}
use Rattle.std.specs.List.{flat_map}
use Rattle.racer_stories.specs.Closed.{AllClosed}
use Rattle.tect_race.proofs.part_ends.close_all.Given as goal

abbrev pub invariant-racers : goal.invariant-racers
invariant-racers g l = record {
  closed : AllClosed g.P.Programs.rules l.fn.clock (take l.racer-index l.initial.racers) (take l.racer-index l.racers);
  left : drop l.racer-index l.racers ≡ drop l.racer-index l.initial.racers;
  told : l.answers.items ≡ flat_map (λ r. r.answers.items) (take l.racer-index l.initial.racers);
}
