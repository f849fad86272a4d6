-- The clients of all workers, before and behind some lines.
use Rattle.std.proofs.Common.{◌≡◌, ℕ, ◌+◌, ◌*◌, ◌/◌, ◌%◌, ◌<◌, ◌↔◌, Some, List, [], ◌∷◌, length}
use Rattle.std.proofs.Common.{sym, ap, subst, ◌∙◌, arith, slice_get}
use Rattle.std.specs.List.{AllZip}
use Rattle.std.proofs.lemmas.Option.{slice_get_within}
use Rattle.std.proofs.Math.Nat.{mod-lt}
use Rattle.tect_ids.specs.declared.ids.Counts.{Counts}
use Rattle.tect_ids.specs.declared.script.Line.{Line}
use Rattle.program_forms.specs.Kinds.{Programs}
use Rattle.racers.specs.declared.racer.Racer.{Racer}
use Rattle.tect_race.specs.declared.workers.Worker.{Worker}
use Rattle.racer_stories.specs.Lines.{Ran, RacersRan}
use Rattle.tect_race.specs.Workers.{WorkerRan, WorkerEnds, WorkersRan}
use Rattle.tect_race.specs.Ready.{IsWorker, AreWorkers, AreAssigned, CanBeCollected}
use Rattle.racer_stories.specs.Ready.{AreRacers}
use Rattle.list_laws.proofs.Pairs.{zip_length, zip_at, zip_from, all_at, all_from}
use Rattle.list_laws.proofs.Shares.{also_at, share_within, some_at, stands}

-- ---- the clients before and after the lines

module _ {S : Type 0} (P : Programs S) (w : ℕ) (pos : 0 < w) where
  -- the worker of a client
  worker_of : (rs : List (Racer S)) (cs : List (Worker S)) → AreAssigned w rs cs → (i : ℕ) (r : Racer S) → slice_get rs i ≡ Some r
      → (c : Worker S) × (slice_get cs (i % w) ≡ Some c) × (slice_get c.racers.items (i / w) ≡ Some r)
  worker_of rs cs a i r e =
      let c = some_at cs (i % w) (let m = mod-lt i pos in let s = a.count in omega arith) in
      (c.0, c.1, a.each (i % w) c.0 c.1 (i / w) ∙ ap (slice_get rs) (stands w i) ∙ e)

  pub racers_ran : (names : List (List ℕ)) (ls : List Line) (rs ts : List (Racer S)) (cs ds : List (Worker S)) → AreAssigned w rs cs
      → AreAssigned w ts ds → length ts ≡ length rs → WorkersRan P names ls cs ds → RacersRan P names ls rs ts
  racers_ran names ls rs ts cs ds a b same ran = zip_from (Ran P names ls) rs ts same (λ i r t e f.
      let c = worker_of rs cs a i r e in
      let d = worker_of ts ds b i t f in
      (zip_at (WorkerRan P names ls) cs ds (i % w) c.0 d.0 ran c.1 d.1).each (i / w) r t c.2 d.2)

  module _ (counts : Counts) (clients : ℕ) (ls : List Line) where
    pub workers_ready : (rs : List (Racer S)) (cs : List (Worker S)) → length rs ≡ clients → AreRacers P counts ls rs → AreAssigned w rs cs
        → AreWorkers P counts clients w ls cs
    workers_ready rs cs all racers a = record {
      count = a.count;
      numbers = a.numbers;
      workers = all_from (IsWorker P counts clients w ls) cs (λ k c e.
          let number = a.numbers k c e in
          record {
            number = (let l = slice_get_within cs k c e in let s = a.count in omega arith);
            filled = λ slot. subst (λ n. (slot < length c.racers.items) ↔ (slot * w + c.number < n)) all
                (subst (λ j. (slot < length c.racers.items) ↔ (slot * w + j < length rs)) (sym number)
                (share_within w pos rs k c.racers.items (a.each k c e) slot));
            own = λ slot r f. racers.own (slot * w + k) r (sym (a.each k c e slot) ∙ f) ∙ ap (λ j. slot * w + j + 1) (sym number);
            ready = λ slot r f. racers.ready (slot * w + k) r (sym (a.each k c e slot) ∙ f);
          });
    }

    worker_at : (ds : List (Worker S)) → AreWorkers P counts clients w ls ds → (k : ℕ) (d : Worker S) → slice_get ds k ≡ Some d
        → IsWorker P counts clients w ls d
    worker_at ds workers k d e = all_at (IsWorker P counts clients w ls) ds k d workers.workers e

    pub racers_ready : (ts : List (Racer S)) (ds : List (Worker S)) → AreAssigned w ts ds → AreWorkers P counts clients w ls ds
        → AreRacers P counts ls ts
    racers_ready ts ds a workers = record {
      own = λ i t f.
          let d = worker_of ts ds a i t f in
          (worker_at ds workers (i % w) d.0 d.1).own (i / w) t d.2
          ∙ ap (λ k. i / w * w + k + 1) (workers.numbers (i % w) d.0 d.1) ∙ ap (λ k. k + 1) (stands w i);
      ready = λ i t f. let d = worker_of ts ds a i t f in (worker_at ds workers (i % w) d.0 d.1).ready (i / w) t d.2;
    }

    pub can_collect : (ds : List (Worker S)) → AreWorkers P counts clients w ls ds → CanBeCollected clients ds
    can_collect ds workers = record {
      numbers = workers.numbers;
      filled = λ k d e slot.
          subst (λ n. (slot < length d.racers.items) ↔ (slot * n + k < clients)) (sym workers.count)
          (subst (λ j. (slot < length d.racers.items) ↔ (slot * w + j < clients)) (workers.numbers k d e)
          ((worker_at ds workers k d e).filled slot));
    }

-- ---- what the workers came to

pub ended_ran : {S : Type 0} (P : Programs S) (counts : Counts) (names : List (List ℕ)) (w : ℕ) (ls later : List Line)
    (cs ds : List (Worker S))
    → AllZip (WorkerEnds P counts names w ls later) cs ds → WorkersRan P names ls cs ds
ended_ran P counts names w ls later [] [] z = tt
ended_ran P counts names w ls later [] (d ∷ ds) z = absurd z
ended_ran P counts names w ls later (c ∷ cs) [] z = absurd z
ended_ran P counts names w ls later (c ∷ cs) (d ∷ ds) z = ((z.0).ran, ended_ran P counts names w ls later cs ds z.1)

pub ended_ready : {S : Type 0} (P : Programs S) (counts : Counts) (names : List (List ℕ)) (w : ℕ) (ls ks later : List Line)
    (cs ds : List (Worker S))
    → AreWorkers P counts (length names) w ks cs → AllZip (WorkerEnds P counts names w ls later) cs ds
    → AreWorkers P counts (length names) w later ds
ended_ready P counts names w ls ks later cs ds workers z =
    let same = zip_length (WorkerEnds P counts names w ls later) cs ds z in
    record {
      count = same ∙ workers.count;
      numbers = λ k d e.
          let c = also_at ds cs k d e (sym same) in
          (zip_at (WorkerEnds P counts names w ls later) cs ds k c.0 d z c.1 e).ran.number ∙ workers.numbers k c.0 c.1;
      workers = all_from (IsWorker P counts (length names) w later) ds (λ k d e.
          let c = also_at ds cs k d e (sym same) in
          (zip_at (WorkerEnds P counts names w ls later) cs ds k c.0 d z c.1 e).ready);
    }
