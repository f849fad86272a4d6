-- The workers in batches, one for each thread.
use Rattle.std.specs.Prelude.{◌≡◌, ℕ, ◌-◌, ◌%◌, ◌≤◌, ◌==◌, Bool, false, max, Result, Ok, Err, List, [], Vec, length, filter}
use Rattle.std.specs.declared.alloc.Global.{Global}
use Rattle.std.specs.List.{All, AllZip, flat_map, list_any}
use Rattle.tect_ids.specs.declared.ids.Counts.{Counts}
use Rattle.tect_ids.specs.declared.script.Line.{Line}
use Rattle.tect_ids.specs.declared.script.Line.TheVariants as lines
use Rattle.program_forms.specs.Kinds.{Programs}
use Rattle.tect_race.specs.declared.workers.Worker.{Worker}
use Rattle.race_ends.specs.declared.fault.RaceFault.{RaceFault}
use Rattle.race_ends.specs.Faults.{IsLossOf}
use Rattle.tect_race.specs.Workers.{WorkerEnds}

-- the line is of a client of that worker
abbrev pub is_of_worker : ℕ → ℕ → Line → Bool
is_of_worker worker_count worker (lines.Client client actor act) = (actor - 1) % worker_count == worker
is_of_worker worker_count worker line = false

-- one of the worker's clients has a line among these
abbrev pub has_line : {S : Type 0} → ℕ → List Line → Worker S → Bool
has_line worker_count ls worker = list_any (is_of_worker worker_count worker.number) ls

-- how many of the workers have a line among these
abbrev pub busy_count : {S : Type 0} → ℕ → List Line → List (Worker S) → ℕ
busy_count worker_count ls workers = length (filter (has_line worker_count ls) workers)

-- The batches have the workers, in their order. No two workers that have a line are in one batch, and there are no more batches than
-- workers that have a line, but for one where none has.
pub record AreBatches {S : Type 0} (worker_count : ℕ) (ls : List Line) (workers : List (Worker S)) (batches : List (Vec (Worker S) Global))
    : Type 0 where
  pub joined : flat_map (λ batch. batch.items) batches ≡ workers
  pub alone : All (λ batch. busy_count worker_count ls batch.items ≤ 1) batches
  pub count : length batches ≡ max 1 (busy_count worker_count ls workers)

-- The workers of a batch came to the end, or one of them to a fault.
abbrev pub BatchComes : {S : Type 0} → Programs S → Counts → List (List ℕ) → ℕ → List Line → List Line → List (Worker S)
    → Result (Vec (Worker S) Global) RaceFault → Type 0
BatchComes P counts names worker_count ls later old (Ok new) = AllZip (WorkerEnds P counts names worker_count ls later) old new.items
BatchComes P counts names worker_count ls later old (Err e) = IsLossOf counts e

pub record BatchCame {S : Type 0} (P : Programs S) (counts : Counts) (names : List (List ℕ)) (worker_count : ℕ) (ls later : List Line)
    (old : List (Worker S)) (result : Result (Vec (Worker S) Global) RaceFault) : Type 0 where
  pub so : BatchComes P counts names worker_count ls later old result

-- the workers of a batch that came to the end
abbrev pub ended_workers : {S : Type 0} → Result (Vec (Worker S) Global) RaceFault → List (Worker S)
ended_workers (Ok batch) = batch.items
ended_workers (Err e) = []
