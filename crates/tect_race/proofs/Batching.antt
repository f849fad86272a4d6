-- What the workers of all batches came to.
use Rattle.std.proofs.Common.{◌≡◌, ℕ, ◌<◌, Result, Ok, Err, IsOk, IfOk, IfErr, List, Vec, [], ◌∷◌, length, get_or, sym, subst}
use Rattle.std.specs.declared.alloc.Global.{Global}
use Rattle.std.specs.List.{All, AllZip, AllByRecursion, flat_map}
use Rattle.std.proofs.lemmas.List.Elements.{All-nil, All-cons, All-head, All-tail, All-from_recursion}
use Rattle.std.proofs.lemmas.Option.{slice_get_within, get_or_from_slice_get}
use Rattle.tect_ids.specs.declared.ids.Counts.{Counts}
use Rattle.tect_ids.specs.declared.script.Line.{Line}
use Rattle.program_forms.specs.Kinds.{Programs}
use Rattle.tect_race.specs.declared.workers.Worker.{Worker}
use Rattle.race_ends.specs.declared.fault.RaceFault.{RaceFault}
use Rattle.race_ends.specs.Faults.{IsLossOf}
use Rattle.tect_race.specs.Workers.{WorkerEnds}
use Rattle.tect_race.specs.Batches.{BatchCame, AreBatches, ended_workers}
use Rattle.list_laws.proofs.Pairs.{zip_from, zip_append, all_front, all_back}

-- what all workers meet those of each batch meet
pub each_batch : {S : Type 0} (P : Worker S → Type 0) (bs : List (Vec (Worker S) Global)) → All P
    (flat_map (λ (b : Vec (Worker S) Global). b.items) bs)
    → All (λ b. All P b.items) bs
each_batch P [] all = All-nil (λ (b : Vec (Worker _) Global). All P b.items)
each_batch P (b ∷ bs) all =
    All-cons (λ (b : Vec (Worker _) Global). All P b.items) b bs
    (all_front P b.items (flat_map (λ (b : Vec (Worker _) Global). b.items) bs) all)
    (each_batch P bs (all_back P b.items (flat_map (λ (b : Vec (Worker _) Global). b.items) bs) all))

pub if_both : {A E : Type 0} → {P Q S : A → Type 0} → (o : Result A E) → ((v : A) → P v → Q v → S v) → IfOk o P → IfOk o Q → IfOk o S
if_both (Ok v) f h k = f v h k
if_both (Err e) f h k = tt

module _ {S : Type 0} (P : Programs S) (counts : Counts) (names : List (List ℕ)) (w : ℕ) (ls later : List Line) where
  abbrev pub Came : Vec (Worker S) Global → Result (Vec (Worker S) Global) RaceFault → Type 0
  Came batch r = BatchCame P counts names w ls later batch.items r

  pub all_came : (bs : List (Vec (Worker S) Global)) (rs : List (Result (Vec (Worker S) Global) RaceFault)) → length rs ≡ length bs
      → ((i : ℕ) (b : Vec (Worker S) Global) (r : Result (Vec (Worker S) Global) RaceFault) → i < length bs → Came (get_or bs i b)
      (get_or rs i r))
      → AllZip Came bs rs
  all_came bs rs l h =
      zip_from Came bs rs l (λ i b r e f.
      subst (λ (x : Vec (Worker S) Global). Came x r) (get_or_from_slice_get bs i b b e)
      (subst (λ (y : Result (Vec (Worker S) Global) RaceFault). Came (get_or bs i b) y) (get_or_from_slice_get rs i r r f)
      (h i b r (slice_get_within bs i b e))))

  stray_of : (b : Vec (Worker S) Global) (r : Result (Vec (Worker S) Global) RaceFault) → Came b r → IfErr r (IsLossOf counts)
  stray_of b (Ok d) came = tt
  stray_of b (Err e) came = came.so

  came_strays : (bs : List (Vec (Worker S) Global)) (rs : List (Result (Vec (Worker S) Global) RaceFault)) → AllZip Came bs rs
      → AllByRecursion (λ r. IfErr r (IsLossOf counts)) rs
  came_strays [] [] z = tt
  came_strays [] (r ∷ rs) z = absurd z
  came_strays (b ∷ bs) [] z = absurd z
  came_strays (b ∷ bs) (r ∷ rs) z = (stray_of b r z.0, came_strays bs rs z.1)

  pub strays : (bs : List (Vec (Worker S) Global)) (rs : List (Result (Vec (Worker S) Global) RaceFault)) → AllZip Came bs rs
      → All (λ r. IfErr r (IsLossOf counts)) rs
  strays bs rs z = All-from_recursion (λ r. IfErr r (IsLossOf counts)) rs (came_strays bs rs z)

  ended_of : (b : Vec (Worker S) Global) (r : Result (Vec (Worker S) Global) RaceFault) → Came b r → IsOk r
      → AllZip (WorkerEnds P counts names w ls later) b.items (ended_workers r)
  ended_of b (Ok d) came ok = came.so
  ended_of b (Err e) came ok = absurd (cc)

  all_ended : (bs : List (Vec (Worker S) Global)) (rs : List (Result (Vec (Worker S) Global) RaceFault)) → AllZip Came bs rs
      → All (λ r. IsOk r) rs
      → AllZip (WorkerEnds P counts names w ls later) (flat_map (λ (b : Vec (Worker S) Global). b.items) bs) (flat_map ended_workers rs)
  all_ended [] [] z ok = tt
  all_ended [] (r ∷ rs) z ok = absurd z
  all_ended (b ∷ bs) [] z ok = absurd z
  all_ended (b ∷ bs) (r ∷ rs) z ok =
      zip_append (WorkerEnds P counts names w ls later) b.items (flat_map (λ (b : Vec (Worker S) Global). b.items) bs) (ended_workers r)
      (flat_map ended_workers rs)
      (ended_of b r z.0 (All-head (λ (r : Result (Vec (Worker S) Global) RaceFault). IsOk r) r rs ok))
      (all_ended bs rs z.1 (All-tail (λ (r : Result (Vec (Worker S) Global) RaceFault). IsOk r) r rs ok))

  pub workers_ended : (cs ds : List (Worker S)) (bs : List (Vec (Worker S) Global)) (rs : List (Result (Vec (Worker S) Global) RaceFault))
      → AreBatches w ls cs bs → AllZip Came bs rs → All (λ r. IsOk r) rs → ds ≡ flat_map ended_workers rs
      → AllZip (WorkerEnds P counts names w ls later) cs ds
  workers_ended cs ds bs rs are z ok is =
      subst (λ (l : List (Worker S)). AllZip (WorkerEnds P counts names w ls later) l ds) are.joined
      (subst (λ (l : List (Worker S)). AllZip (WorkerEnds P counts names w ls later)
      (flat_map (λ (b : Vec (Worker S) Global). b.items) bs) l)
      (sym is) (all_ended bs rs z ok))
