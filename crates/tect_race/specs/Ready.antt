-- When a worker can do the lines that are left, and which clients it has.
use Rattle.std.specs.Prelude.{◌≡◌, ℕ, ◌+◌, ◌*◌, ◌<◌, ◌↔◌, ◌++◌, List, length, reverse, Some, slice_get}
use Rattle.std.specs.List.{All}
use Rattle.tect_ids.specs.declared.ids.Counts.{Counts}
use Rattle.tect_ids.specs.declared.script.Line.{Line}
use Rattle.program_forms.specs.Kinds.{Programs}
use Rattle.racers.specs.declared.racer.Racer.{Racer}
use Rattle.racer_stories.specs.Ready.{IsReady}
use Rattle.tect_race.specs.declared.workers.Worker.{Worker}

-- Of so many clients the worker has those whose number, from 0, leaves its own when it is divided by that of all workers, in
-- order; each is ready for these lines.
pub record IsWorker {S : Type 0} (P : Programs S) (counts : Counts) (clients worker_count : ℕ) (ls : List Line) (c : Worker S) : Type 0
  where
    pub number : c.number < worker_count
    pub filled : (slot : ℕ) → (slot < length c.racers.items) ↔ (slot * worker_count + c.number < clients)
    pub own : (slot : ℕ) (r : Racer S) → slice_get c.racers.items slot ≡ Some r → r.client.actor ≡ slot * worker_count + c.number + 1
    pub ready : (slot : ℕ) (r : Racer S) → slice_get c.racers.items slot ≡ Some r → IsReady P counts ls r

-- so many workers
pub record AreWorkers {S : Type 0} (P : Programs S) (counts : Counts) (clients worker_count : ℕ) (ls : List Line) (cs : List (Worker S))
    : Type 0 where
  pub count : length cs ≡ worker_count
  pub numbers : (k : ℕ) (c : Worker S) → slice_get cs k ≡ Some c → c.number ≡ k
  pub workers : All (IsWorker P counts clients worker_count ls) cs

-- client number i is of the worker i % workers, and stands at i / workers
pub record AreAssigned {S : Type 0} (worker_count : ℕ) (rs : List (Racer S)) (cs : List (Worker S)) : Type 0 where
  pub count : length cs ≡ worker_count
  pub numbers : (k : ℕ) (c : Worker S) → slice_get cs k ≡ Some c → c.number ≡ k
  pub each : (k : ℕ) (c : Worker S) → slice_get cs k ≡ Some c → (slot : ℕ)
      → slice_get c.racers.items slot ≡ slice_get rs (slot * worker_count + k)

-- so many clients are the workers', each where it stands
pub record CanBeCollected {S : Type 0} (clients : ℕ) (cs : List (Worker S)) : Type 0 where
  pub numbers : (k : ℕ) (c : Worker S) → slice_get cs k ≡ Some c → c.number ≡ k
  pub filled : (k : ℕ) (c : Worker S) → slice_get cs k ≡ Some c → (slot : ℕ)
      → (slot < length c.racers.items) ↔ (slot * length cs + k < clients)

-- Of all clients those before have still to be taken from the workers, and those behind were, the last one first.
pub record AreCollected {S : Type 0} (worker_count : ℕ) (left : ℕ) (all : List (Racer S)) (cs : List (Worker S)) (rs : List (Racer S))
    : Type 0 where
  pub before : List (Racer S)
  pub behind : List (Racer S)
  pub whole : all ≡ before ++ behind
  pub left_are : length before ≡ left
  pub assigned : AreAssigned worker_count before cs
  pub taken : rs ≡ reverse behind
