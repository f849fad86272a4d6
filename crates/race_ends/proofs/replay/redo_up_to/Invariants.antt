use Rattle.std.proofs.Common.{◌≡◌, map, take}
use Rattle.world_runs.specs.Events.{events_of}
use Rattle.world_runs.specs.OwnRuns.{stored_after}
use Rattle.race_runs.proofs.Timing.{AllUpTo}
use Rattle.race_ends.proofs.replay.redo_up_to.Given as goal

abbrev pub invariant-loop-done : goal.invariant-loop-done
invariant-loop-done l = record {
  early : AllUpTo l.clock (take l.done (map (λ m. m.now) l.moments));
  store : l.shards ≡ record l.initial.shards
      { store = stored_after l.initial.shards.store (events_of (take l.done (map (λ m. m.now) l.moments))) };
}
