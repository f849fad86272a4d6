-- one client more that did nothing
use Rattle.std.proofs.Common.{zero, suc, ◌≡◌, ℕ, ◌+◌, ◌<◌, ◌⊎◌, inl, inr, List, [], ◌∷◌, ◌++◌, length, get_or, refl, sym, ap, ◌∙◌, subst}
use Rattle.std.proofs.Common.{arith, length-append}
use Rattle.std.proofs.lemmas.Bool.{cases_lt}
use Rattle.tect_ids.specs.declared.ids.Counts.{Counts}
use Rattle.program_forms.specs.Kinds.{Programs}
use Rattle.clients.specs.Lives.{ClientLife, IsLife, idle_life}
use Rattle.tect_world.specs.Clients.{AreIdle}

got_front : {X : Type 0} (xs : List X) (y d : X) (i : ℕ) → i < length xs → get_or (xs ++ y ∷ []) i d ≡ get_or xs i d
got_front [] y d i lt = absurd (omega (arith, lt))
got_front (x ∷ xs) y d zero lt = refl
got_front (x ∷ xs) y d (suc i) lt = got_front xs y d i (omega (arith, lt))

got_last : {X : Type 0} (xs : List X) (y d : X) → get_or (xs ++ y ∷ []) (length xs) d ≡ y
got_last [] y d = refl
got_last (x ∷ xs) y d = got_last xs y d

last_or : (n i : ℕ) → i < n + 1 → (i < n) ⊎ (i ≡ n)
last_or n i lt = elim (cases_lt i n) [ inl h ↦ inl h | inr h ↦ inr (omega (arith, h, lt)) ]

pub idle_push : {S : Type 0} (P : Programs S) (c : Counts) (ls : List ClientLife) (n : ℕ) (l : ClientLife) → AreIdle P c ls n
    → l ≡ idle_life (n + 1) c → IsLife P l → AreIdle P c (ls ++ l ∷ []) (n + 1)
idle_push P c ls n l idle is life = record {
  number = length-append ls (l ∷ []) ∙ omega (arith, idle.number);
  each = λ i lt. elim (last_or n i lt) [
    | inl h ↦ got_front ls l (idle_life 0 c) i (omega (arith, h, idle.number)) ∙ idle.each i h
    | inr h ↦
        let at : i ≡ length ls = omega (arith, h, idle.number) in
        ap (λ (k : ℕ). get_or (ls ++ l ∷ []) k (idle_life 0 c)) at ∙ got_last ls l (idle_life 0 c) ∙ is ∙ ap
        (λ (k : ℕ). idle_life (k + 1) c) (sym h)
  ];
  lives = λ i lt. elim (last_or n i lt) [
    | inl h ↦ subst (IsLife P) (sym (got_front ls l (idle_life 0 c) i (omega (arith, h, idle.number)))) (idle.lives i h)
    | inr h ↦
        let at : i ≡ length ls = omega (arith, h, idle.number) in
        subst (IsLife P) (sym (ap (λ (k : ℕ). get_or (ls ++ l ∷ []) k (idle_life 0 c)) at ∙ got_last ls l (idle_life 0 c))) life
  ];
}
