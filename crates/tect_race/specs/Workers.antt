-- What the racers of a worker do in lines of the script.
use Rattle.std.specs.Prelude.{◌≡◌, ℕ, Result, Ok, Err, List, length, Some, slice_get}
use Rattle.std.specs.List.{AllZip}
use Rattle.program_forms.specs.Kinds.{Programs}
use Rattle.tect_ids.specs.declared.ids.Counts.{Counts}
use Rattle.tect_ids.specs.declared.script.Line.{Line}
use Rattle.racers.specs.declared.racer.Racer.{Racer}
use Rattle.tect_race.specs.declared.workers.Worker.{Worker}
use Rattle.race_ends.specs.declared.fault.RaceFault.{RaceFault}
use Rattle.race_ends.specs.Faults.{IsLossOf}
use Rattle.racer_stories.specs.Lines.{Ran, PlaysOrRests}
use Rattle.tect_race.specs.Ready.{IsWorker}

-- one line: it is of one of the racers, or of none
pub record WorkerPlays {S : Type 0} (P : Programs S) (names : List (List ℕ)) (line : Line) (old new : Worker S) : Type 0 where
  pub number : new.number ≡ old.number
  pub count : length new.racers.items ≡ length old.racers.items
  pub each : (slot : ℕ) (r t : Racer S) → slice_get old.racers.items slot ≡ Some r → slice_get new.racers.items slot ≡ Some t
      → PlaysOrRests P names line r t

-- some lines
pub record WorkerRan {S : Type 0} (P : Programs S) (names : List (List ℕ)) (ls : List Line) (old new : Worker S) : Type 0 where
  pub number : new.number ≡ old.number
  pub count : length new.racers.items ≡ length old.racers.items
  pub each : (slot : ℕ) (r t : Racer S) → slice_get old.racers.items slot ≡ Some r → slice_get new.racers.items slot ≡ Some t
      → Ran P names ls r t

-- some lines, after which the worker is ready for those that are left
pub record WorkerEnds {S : Type 0} (P : Programs S) (counts : Counts) (names : List (List ℕ)) (worker_count : ℕ) (ls later : List Line)
    (old new : Worker S) : Type 0 where
  pub ran : WorkerRan P names ls old new
  pub ready : IsWorker P counts (length names) worker_count later new

-- so it came to the end, or to a fault
abbrev pub WorkerComes : {S : Type 0} → Programs S → Counts → List (List ℕ) → ℕ → List Line → List Line → Worker S → Result
    (Worker S) RaceFault
    → Type 0
WorkerComes P counts names worker_count ls later old (Ok new) = WorkerEnds P counts names worker_count ls later old new
WorkerComes P counts names worker_count ls later old (Err e) = IsLossOf counts e

pub record WorkerCame {S : Type 0} (P : Programs S) (counts : Counts) (names : List (List ℕ)) (worker_count : ℕ) (ls later : List Line)
    (old : Worker S) (result : Result (Worker S) RaceFault) : Type 0 where
  pub so : WorkerComes P counts names worker_count ls later old result

-- all workers
abbrev pub WorkersRan : {S : Type 0} → Programs S → List (List ℕ) → List Line → List (Worker S) → List (Worker S) → Type 0
WorkersRan P names ls = AllZip (WorkerRan P names ls)
