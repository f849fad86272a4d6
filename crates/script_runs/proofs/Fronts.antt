-- fronts of lists, and of what an op does
use Rattle.std.proofs.Common.{◌≡◌, ◌≤◌, ◌+◌, ◌⊎◌, inl, inr, ℕ, List, [], ◌∷◌, ◌++◌, refl, sym}
use Rattle.std.proofs.Common.{subst, ◌∙◌, arith}
use Rattle.tect_ids.specs.declared.ids.OpId.{OpId}
use Rattle.world_runs.specs.declared.event.Event.{Event}
use Rattle.world_runs.specs.Follows.{Acts, EndsAfter, EndsWithin}

-- ---- fronts of lists

-- of two fronts of one list the one is a front of the other
pub record Within (h rest part : List Event) (later : List Event) : Type 0 where
  pub tail : List Event
  pub parts : part ≡ h ++ tail
  pub rests : rest ≡ tail ++ later

pub record Beyond (h rest part : List Event) (later : List Event) : Type 0 where
  pub first : Event
  pub tail : List Event
  pub parts : h ≡ part ++ first ∷ tail
  pub laters : later ≡ first ∷ tail ++ rest

pub fronts : (h rest part later : List Event) → h ++ rest ≡ part ++ later → Within h rest part later ⊎ Beyond h rest part later
fronts [] rest part later e = inl record { tail = part; parts = refl; rests = e }
fronts (d ∷ h) rest [] later e = inr record { first = d; tail = h; parts = refl; laters = sym e }
fronts (d ∷ h) rest (c ∷ part) later e =
    let same : d ≡ c = cc in
    let others : h ++ rest ≡ part ++ later = cc in
    elim (fronts h rest part later others) [
      | inl w ↦ inl record { tail = w.tail; parts = λ i. (sym same) i ∷ w.parts i; rests = w.rests }
      | inr b ↦ inr record { first = b.first; tail = b.tail; parts = λ i. same i ∷ b.parts i; laters = b.laters }
    ]

-- two lists that make none
pub both_none : (es fs : List Event) → es ++ fs ≡ [] → es ≡ []
both_none [] fs e = refl
both_none (d ∷ es) fs e = absurd (let k : d ∷ (es ++ fs) ≡ [] = e in cc)

-- ---- the front of what an op does

pub record ActsSome (op : OpId) (n : ℕ) (h : List Event) : Type 0 where
  pub count : ℕ
  pub few : count ≤ n
  pub acts : Acts op count h

pub acts_front : (op : OpId) (n : ℕ) (h tail : List Event) → Acts op n (h ++ tail) → ActsSome op n h
acts_front op n [] tail acts = record { count = 0; few = omega arith; acts = refl }
acts_front op n (e ∷ h) tail acts =
    let rest : ActsSome op (acts.1).0 h = acts_front op (acts.1).0 h tail (acts.1).2 in
    record { count = rest.count + 1; few = omega (arith, rest.few, (acts.1).1); acts = (acts.0, (rest.count, refl, rest.acts)) }

-- it came to its end, or did but transactions
pub end_front : (op : OpId) (n : ℕ) (h tail front : List Event) (end : Event) → h ++ tail ≡ front ++ end ∷ [] → Acts op n front
    → (h ≡ front ++ end ∷ []) ⊎ ActsSome op n h
end_front op n h tail front end is acts =
    elim (fronts h tail front (end ∷ []) is) [
      | inl w ↦ inr (acts_front op n h w.tail (subst (λ (l : List Event). Acts op n l) w.parts acts))
      | inr b ↦
          let last : end ∷ [] ≡ b.first ∷ (b.tail ++ tail) = b.laters in
          let same : b.first ≡ end = cc in
          let others : [] ≡ b.tail ++ tail = cc in
          let none : b.tail ≡ [] = both_none b.tail tail (sym others) in
          inl (b.parts ∙ λ i. front ++ same i ∷ none i)
    ]

pub ends_front : (op : OpId) (n : ℕ) (h tail : List Event) → EndsAfter op n (h ++ tail) → EndsAfter op n h ⊎ ActsSome op n h
ends_front op n h tail e =
    elim (end_front op n h tail e.0 e.1 e.2 e.3) [ inl all ↦ inl (e.0, e.1, all, e.3, e.4) | inr some ↦ inr some ]

pub within_front : (op : OpId) (n : ℕ) (h tail : List Event) → EndsWithin op n (h ++ tail) → EndsWithin op n h ⊎ ActsSome op n h
within_front op n h tail e =
    elim (end_front op e.0 h tail e.1 e.2 e.3 e.4) [
      | inl all ↦ inl (e.0, e.1, e.2, all, e.4, e.5, e.6)
      | inr some ↦ inr record { count = some.count; few = omega (arith, some.few, e.6); acts = some.acts }
    ]
