use Rattle.std.proofs.Common.{◌≤◌, ◌∷◌, map, take}
use Rattle.std.specs.List.{All, Contains}
use Rattle.tect_race.proofs.part_ends.greatest_clock.Given as goal

abbrev pub invariant-racers : goal.invariant-racers
invariant-racers g l = record {
  floor : l.fn.floor ≤ l.clock;
  all : All (λ r. r.client.clock ≤ l.clock) (take l.racer-index l.racers);
  one : Contains (l.fn.floor ∷ map (λ r. r.client.clock) (take l.racer-index l.racers)) l.clock;
}
