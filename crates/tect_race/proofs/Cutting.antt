-- Workers that are cut into batches, one after another.
use Rattle.std.proofs.Common.{◌≡◌, ℕ, ◌+◌, ◌≤◌, Bool, true, false, cond, ◌&&◌, ◌||◌, List, Vec, [], ◌∷◌, ◌++◌, length, filter}
use Rattle.std.proofs.Common.{length-append, append_assoc, refl, sym, ap, ◌∙◌, arith, lit≤}
use Rattle.std.specs.declared.alloc.Global.{Global}
use Rattle.std.specs.List.{All, flat_map}
use Rattle.std.proofs.lemmas.List.Elements.{All-push}
use Rattle.tect_ids.specs.declared.script.Line.{Line}
use Rattle.tect_race.specs.declared.workers.Worker.{Worker}
use Rattle.tect_race.specs.Batches.{has_line, busy_count}
use Rattle.list_laws.proofs.Pairs.{flat_map-snoc}

abbrev pub one_if : Bool → ℕ
one_if true = 1
one_if false = 0

-- These workers are cut so far: into the batches that are done, and one more, which has a worker with a line or is the first one.
pub record IsCut {S : Type 0} (worker_count : ℕ) (ls : List Line) (cs : List (Worker S)) (done : List (Vec (Worker S) Global))
    (batch : List (Worker S))
    (busy : Bool) : Type 0 where
  pub joined : flat_map (λ (b : Vec (Worker S) Global). b.items) done ++ batch ≡ cs
  pub alone : All (λ b. busy_count worker_count ls b.items ≤ 1) done
  pub last : busy_count worker_count ls batch ≡ one_if busy
  pub count : length done + one_if busy ≡ busy_count worker_count ls cs
  pub first : busy ≡ false → length done ≡ 0

tally : (busy b : Bool) → (b && busy) ≡ false → one_if busy + one_if b ≡ one_if (busy || b)
tally true true h = absurd (cc)
tally true false h = refl
tally false true h = refl
tally false false h = refl

at_most_one : (busy : Bool) → one_if busy ≤ 1
at_most_one true = lit≤ tt
at_most_one false = lit≤ tt

not_yet : (busy b : Bool) → (busy || b) ≡ false → busy ≡ false
not_yet true b h = absurd (cc)
not_yet false b h = refl

both : (busy b : Bool) → (b && busy) ≡ true → (busy ≡ true) × (b ≡ true)
both true true h = (refl, refl)
both true false h = absurd (cc)
both false true h = absurd (cc)
both false false h = absurd (cc)

module _ {S : Type 0} (worker_count : ℕ) (ls : List Line) where
  one_count : (c : Worker S) → busy_count worker_count ls (c ∷ []) ≡ one_if (has_line worker_count ls c)
  one_count c = elim (has_line worker_count ls c) as (λ b. length (cond b (c ∷ []) []) ≡ one_if b) [ true ↦ refl | false ↦ refl ]

  count_on : (cs : List (Worker S)) (c : Worker S)
      → busy_count worker_count ls (cs ++ c ∷ []) ≡ busy_count worker_count ls cs + one_if (has_line worker_count ls c)
  count_on [] c = let o : busy_count worker_count ls (c ∷ []) ≡ one_if (has_line worker_count ls c) = one_count c in omega arith
  count_on (x ∷ xs) c =
      let more : length (filter (has_line worker_count ls) (xs ++ c ∷ [])) ≡ length (filter (has_line worker_count ls) xs) + one_if
      (has_line worker_count ls c) = count_on xs c in
      elim (has_line worker_count ls x) as
      (λ b. length (cond b (x ∷ filter (has_line worker_count ls) (xs ++ c ∷ [])) (filter (has_line worker_count ls) (xs ++ c ∷ []))) ≡
      length (cond b (x ∷ filter (has_line worker_count ls) xs) (filter (has_line worker_count ls) xs)) + one_if
      (has_line worker_count ls c)) [
        | true ↦ omega arith
        | false ↦ more
      ]

  module _ (cs : List (Worker S)) (done : List (Vec (Worker S) Global)) (batch : Vec (Worker S) Global) (busy : Bool)
      (is : IsCut worker_count ls cs done batch.items busy) where
    few : busy_count worker_count ls batch.items ≤ 1
    few =
        let l : busy_count worker_count ls batch.items ≡ one_if busy = is.last in
        let m : one_if busy ≤ 1 = at_most_one busy in
        omega arith

    all_done : All (λ b. busy_count worker_count ls b.items ≤ 1) (done ++ batch ∷ [])
    all_done = All-push (λ (b : Vec (Worker S) Global). busy_count worker_count ls b.items ≤ 1) done batch is.alone few

    whole : flat_map (λ (b : Vec (Worker S) Global). b.items) (done ++ batch ∷ []) ≡ cs
    whole = flat_map-snoc (λ (b : Vec (Worker S) Global). b.items) done batch ∙ is.joined

    longer : length (done ++ batch ∷ []) ≡ length done + 1
    longer = length-append done (batch ∷ [])

    -- a worker goes into the batch
    pub cut_in : (c : Worker S) (items : List (Worker S)) (b : Bool) → b ≡ has_line worker_count ls c → items ≡ batch.items ++ c ∷ []
        → (b && busy) ≡ false → IsCut worker_count ls (cs ++ c ∷ []) done items (busy || b)
    cut_in c items b e i apart =
        let t : one_if busy + one_if b ≡ one_if (busy || b) = tally busy b apart in
        let q : one_if b ≡ one_if (has_line worker_count ls c) = ap one_if e in
        let here : busy_count worker_count ls items ≡ busy_count worker_count ls batch.items + one_if (has_line worker_count ls c) = ap
        (busy_count worker_count ls) i ∙ count_on batch.items c in
        let all : busy_count worker_count ls (cs ++ c ∷ []) ≡ busy_count worker_count ls cs + one_if (has_line worker_count ls c) = count_on
        cs c in
        let l : busy_count worker_count ls batch.items ≡ one_if busy = is.last in
        let n : length done + one_if busy ≡ busy_count worker_count ls cs = is.count in
        record {
          joined = ap (λ l. flat_map (λ (b : Vec (Worker S) Global). b.items) done ++ l) i ∙ sym
              (append_assoc (flat_map (λ (b : Vec (Worker S) Global). b.items) done) batch.items (c ∷ []))
              ∙ ap (λ l. l ++ c ∷ []) is.joined;
          alone = is.alone;
          last = omega arith;
          count = omega arith;
          first = λ h. is.first (not_yet busy b h);
        }

    -- or into a new one
    pub cut_off : (c : Worker S) (items : List (Worker S)) (b : Bool) → b ≡ has_line worker_count ls c → items ≡ c ∷ [] → (b && busy) ≡ true
        → IsCut worker_count ls (cs ++ c ∷ []) (done ++ batch ∷ []) items (busy || b)
    cut_off c items b e i twice =
        let two = both busy b twice in
        let q : one_if b ≡ one_if (has_line worker_count ls c) = ap one_if e in
        let p : one_if b ≡ 1 = ap one_if two.1 in
        let r : one_if busy ≡ 1 = ap one_if two.0 in
        let s : one_if (busy || b) ≡ 1 = ap (λ v. one_if (v || b)) two.0 in
        let here : busy_count worker_count ls items ≡ one_if (has_line worker_count ls c) = ap (busy_count worker_count ls) i ∙ one_count c
        in
        let all : busy_count worker_count ls (cs ++ c ∷ []) ≡ busy_count worker_count ls cs + one_if (has_line worker_count ls c) = count_on
        cs c in
        let l : length (done ++ batch ∷ []) ≡ length done + 1 = longer in
        let n : length done + one_if busy ≡ busy_count worker_count ls cs = is.count in
        record {
          joined = ap (λ l. flat_map (λ (b : Vec (Worker S) Global). b.items) (done ++ batch ∷ []) ++ l) i ∙ ap (λ l. l ++ c ∷ []) whole;
          alone = all_done;
          last = omega arith;
          count = omega arith;
          first = λ h. (let f : busy ≡ false = not_yet busy b h in let t : busy ≡ true = two.0 in absurd (cc));
        }
