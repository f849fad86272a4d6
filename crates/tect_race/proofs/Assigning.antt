-- Clients that are given to workers one after another, and taken from them again, the last one first.
use Rattle.std.proofs.Common.{◌≡◌, ◌≢◌, ℕ, zero, suc, ◌+◌, ◌-◌, ◌%◌, ◌<◌, Some, List, [], ◌∷◌, ◌++◌, length, set, length-set}
use Rattle.std.proofs.Common.{reverse}
use Rattle.std.proofs.Common.{inl, inr, ◌⊎◌, refl, sym, ap, subst, ◌∙◌, append_assoc, arith, slice_get, length-append}
use Rattle.std.proofs.Math.Nat.{mod-lt}
use Rattle.std.proofs.lemmas.List.{append-nil, reverse-append, reverse-reverse}
use Rattle.std.proofs.lemmas.Bool.{cases_lt}
use Rattle.std.proofs.lemmas.Option.{slice_get_within, same_Some}
use Rattle.racers.specs.declared.racer.Racer.{Racer}
use Rattle.tect_race.specs.declared.workers.Worker.{Worker}
use Rattle.tect_race.specs.Ready.{AreAssigned, AreCollected, CanBeCollected}
use Rattle.list_laws.proofs.Shares.{IsShare, some_at, set_cases, share_last, share_less, share_more, share_some, share_stayed, share_stays}
use Rattle.list_laws.proofs.Shares.{together, at_end, not_end}

module _ {S : Type 0} (w : ℕ) (pos : 0 < w) (rs : List (Racer S)) where
  abbrev at : ℕ
  at = length rs % w

  pub worker_within : (old : List (Racer S)) (cs : List (Worker S)) → AreAssigned w old cs → at < length cs
  worker_within old cs a = let m = mod-lt (length rs) pos in let e = a.count in omega arith

  -- the worker at that place has another share, and the others keep theirs
  reassigned : (old new : List (Racer S)) (cs : List (Worker S)) (c d : Worker S) → AreAssigned w old cs → slice_get cs at ≡ Some c
      → d.number ≡ c.number
      → IsShare w pos new at d.racers.items
      → ((k : ℕ) (ys : List (Racer S)) → k < w → k ≢ at → IsShare w pos old k ys → IsShare w pos new k ys) → AreAssigned w new (set cs at d)
  reassigned old new cs c d a e number share others = record {
    count = length-set cs at d ∙ a.count;
    numbers = λ k x f. elim (set_cases cs at d k x (worker_within old cs a) f) [
      | inl h ↦ ap (λ (y : Worker S). y.number) h.1 ∙ number ∙ a.numbers at c e ∙ sym h.0
      | inr h ↦ a.numbers k x h.1
    ];
    each = λ k x f. elim (set_cases cs at d k x (worker_within old cs a) f) [
      | inl h ↦ subst (λ (y : Worker S). IsShare w pos new k y.racers.items) (sym h.1)
          (subst (λ j. IsShare w pos new j d.racers.items) (sym h.0) share)
      | inr h ↦ others k x.racers.items (let l = slice_get_within cs k x h.1 in let s = a.count in omega arith) h.0 (a.each k x h.1)
    ];
  }

  -- one client more
  pub assigned_on : (cs : List (Worker S)) (r : Racer S) (c d : Worker S) → AreAssigned w rs cs → slice_get cs at ≡ Some c
      → d.number ≡ c.number
      → d.racers.items ≡ c.racers.items ++ r ∷ [] → AreAssigned w (rs ++ r ∷ []) (set cs at d)
  assigned_on cs r c d a e number items =
      reassigned rs (rs ++ r ∷ []) cs c d a e number
      (subst (λ (ys : List (Racer S)). IsShare w pos (rs ++ r ∷ []) at ys) (sym items)
      (share_more w pos rs r c.racers.items (a.each at c e)))
      (share_stays w pos rs r)

  -- one client less
  module _ (r : Racer S) (cs : List (Worker S)) (a : AreAssigned w (rs ++ r ∷ []) cs) (c : Worker S) (e : slice_get cs at ≡ Some c) where
    pub some_there : 0 < length c.racers.items
    some_there = share_some w pos rs r c.racers.items (a.each at c e)

    module _ (d : Worker S) (x : Racer S) (number : d.number ≡ c.number) (items : c.racers.items ≡ d.racers.items ++ x ∷ []) where
      pub popped : x ≡ r
      popped = share_last w pos rs r d.racers.items c.racers.items x items (a.each at c e)

      pub unassigned : AreAssigned w rs (set cs at d)
      unassigned =
          reassigned (rs ++ r ∷ []) rs cs c d a e number (share_less w pos rs r d.racers.items c.racers.items x items (a.each at c e))
          (share_stayed w pos rs r)

-- ---- all of them taken out, the last one first

split_last : {A : Type 0} (xs : List A) (n : ℕ) → length xs ≡ suc n → (front : List A) × (x : A) × (xs ≡ front ++ x ∷ [])
    × (length front ≡ n)
split_last [] n e = absurd (omega arith)
split_last (x ∷ []) n e = ([], x, refl, omega arith)
split_last (x ∷ y ∷ ys) zero e = absurd (omega arith)
split_last (x ∷ y ∷ ys) (suc n) e = let s = split_last (y ∷ ys) n (omega arith) in (x ∷ s.0, s.1, ap (λ l. x ∷ l) s.2, ap suc s.3)

-- the clients of the worker at a place
abbrev items_at : {S : Type 0} → List (Worker S) → ℕ → List (Racer S)
items_at [] k = []
items_at (c ∷ cs) zero = c.racers.items
items_at (c ∷ cs) (suc k) = items_at cs k

items_is : {S : Type 0} (cs : List (Worker S)) (k : ℕ) (c : Worker S) → slice_get cs k ≡ Some c → items_at cs k ≡ c.racers.items
items_is [] k c e = absurd cc
items_is (x ∷ cs) zero c e = ap (λ (y : Worker _). y.racers.items) (same_Some x c e)
items_is (x ∷ cs) (suc k) c e = items_is cs k c e

-- the clients whose workers these are
pub collectable : {S : Type 0} (clients : ℕ) (cs : List (Worker S)) → 0 < length cs → CanBeCollected clients cs
    → (all : List (Racer S)) × (length all ≡ clients) × AreAssigned (length cs) all cs
collectable clients cs some can =
    let share : ℕ → List (Racer _) = λ k. items_at cs k in
    let all = together (length cs) some clients share (λ k low. let c = some_at cs k low in
    rw (items_is cs k c.0 c.1) (can.filled k c.0 c.1)) in (
      all.0,
      all.1,
      record {
        count = refl;
        numbers = can.numbers;
        each = λ k c e. rw (← items_is cs k c e) (all.2 k (slice_get_within cs k c e));
      },
    )

pub collected_none : {S : Type 0} (w clients : ℕ) (all : List (Racer S)) (cs : List (Worker S)) → length all ≡ clients
    → AreAssigned w all cs
    → AreCollected w clients all cs []
collected_none w clients all cs e a = record
    { before = all; behind = []; whole = sym (append-nil all); left_are = e; assigned = a; taken = refl }

pub collected_all : {S : Type 0} (w : ℕ) (all : List (Racer S)) (cs : List (Worker S)) (rs : List (Racer S)) → AreCollected w 0 all cs rs
    → reverse rs ≡ all
collected_all w all cs rs is =
    ap (λ (l : List (Racer _)). reverse l) is.taken ∙ reverse-reverse is.behind ∙ sym
    (is.whole ∙ ap (λ l. l ++ is.behind) (none is.before is.left_are))
  where
    none : {X : Type 0} (xs : List X) → length xs ≡ 0 → xs ≡ []
    none [] e = refl
    none (x ∷ xs) e = absurd (omega arith)

module _ {S : Type 0} (w : ℕ) (pos : 0 < w) (left : ℕ) (some : 0 < left) (all : List (Racer S)) (cs : List (Worker S)) (rs : List (Racer S))
    (is : AreCollected w left all cs rs) where
  abbrev split : (front : List (Racer S)) × (x : Racer S) × (is.before ≡ front ++ x ∷ []) × (length front ≡ left - 1)
  split = split_last is.before (left - 1) (let e = is.left_are in omega arith)

  still : AreAssigned w (split.0 ++ split.1 ∷ []) cs
  still = subst (λ (l : List (Racer S)). AreAssigned w l cs) split.2 is.assigned

  at_is : length split.0 % w ≡ (left - 1) % w
  at_is = ap (λ n. n % w) split.3

  pub collected_within : (left - 1) % w < length cs
  collected_within = subst (λ k. k < length cs) at_is (worker_within w pos split.0 (split.0 ++ split.1 ∷ []) cs still)

  module _ (c : Worker S) (e : slice_get cs ((left - 1) % w) ≡ Some c) where
    there : slice_get cs (length split.0 % w) ≡ Some c
    there = subst (λ k. slice_get cs k ≡ Some c) (sym at_is) e

    pub collected_some : 0 < length c.racers.items
    collected_some = some_there w pos split.0 split.1 cs still c there

    pub collected_on : (d : Worker S) (x : Racer S) (now : List (Racer S)) → d.number ≡ c.number → c.racers.items ≡ d.racers.items ++ x ∷ []
        → now ≡ rs ++ x ∷ []
        → AreCollected w (left - 1) all (set cs ((left - 1) % w) d) now
    collected_on d x now number items taken =
        let same : x ≡ split.1 = popped w pos split.0 split.1 cs still c there d x number items in
        record {
          before = split.0;
          behind = x ∷ is.behind;
          whole = is.whole ∙ ap (λ l. l ++ is.behind) split.2 ∙ append_assoc split.0 (split.1 ∷ []) is.behind
              ∙ ap (λ (y : Racer S). split.0 ++ y ∷ is.behind) (sym same);
          left_are = split.3;
          assigned = subst (λ k. AreAssigned w split.0 (set cs k d)) at_is
              (unassigned w pos split.0 split.1 cs still c there d x number items);
          taken = taken ∙ ap (λ l. l ++ x ∷ []) is.taken ∙ sym (reverse-append (x ∷ []) is.behind);
        }

-- ---- idle workers

at_last : {A : Type 0} (xs : List A) (x : A) (k : ℕ) (y : A) → slice_get (xs ++ x ∷ []) k ≡ Some y
    → (slice_get xs k ≡ Some y) ⊎ ((k ≡ length xs) × (y ≡ x))
at_last xs x k y f = elim (cases_lt k (length xs)) [
  | inl l ↦ inl (sym (not_end xs x k (λ e. omega (arith, e, l))) ∙ f)
  | inr g ↦ (let h = slice_get_within (xs ++ x ∷ []) k y f in
      let l = length-append xs (x ∷ []) in
      let e : k ≡ length xs = omega arith in
      let p : Some y ≡ Some x = sym (subst (λ j. slice_get (xs ++ x ∷ []) j ≡ Some y) e f) ∙ at_end xs x in
      inr (e, (let q : y ≡ x = cc in q)))
]

-- one more
pub idle_more : {S : Type 0} (n : ℕ) (cs ds : List (Worker S)) (c : Worker S) → AreAssigned n [] cs → ds ≡ cs ++ c ∷ [] → c.number ≡ n
    → c.racers.items ≡ [] → AreAssigned (n + 1) [] ds
idle_more n cs ds c a is number none = subst (AreAssigned (n + 1) []) (sym is) (record {
  count = length-append cs (c ∷ []) ∙ ap (λ k. k + 1) a.count;
  numbers = λ k d f. elim (at_last cs c k d f) [
    | inl h ↦ a.numbers k d h
    | inr h ↦ ap (λ (x : Worker _). x.number) h.1 ∙ number ∙ sym (h.0 ∙ a.count)
  ];
  each = λ k d f slot. elim (at_last cs c k d f) [
    | inl h ↦ a.each k d h slot
    | inr h ↦ ap (λ (x : Worker _). slice_get x.racers.items slot) h.1 ∙ ap (λ (ys : List (Racer _)). slice_get ys slot) none
  ];
})
