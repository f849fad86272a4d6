-- Parts that end, client by client; and clients that begin.
use Rattle.std.proofs.Common.{◌≡◌, ℕ, zero, suc, ◌+◌, ◌<◌, ◌≤◌, Some, List, [], ◌∷◌, ◌++◌, length, length-append, set, take, drop, get_or}
use Rattle.std.proofs.Common.{refl, sym, ap, subst, ◌∙◌, arith, inl, inr, slice_get}
use Rattle.std.specs.List.{AllZip}
use Rattle.std.proofs.lemmas.Bool.{cases_lt}
use Rattle.std.proofs.lemmas.Option.{slice_get_within}
use Rattle.tect_ids.specs.declared.ids.Counts.{Counts}
use Rattle.clients.specs.Lives.{idle_life}
use Rattle.racers.specs.declared.racer.Racer.{Racer}
use Rattle.racer_stories.specs.Done.{AreNew}
use Rattle.list_laws.proofs.Shares.{at_end, not_end, same_at}

-- the item at i is changed, and those behind it are not yet
module _ {S : Type 0} (R : Racer S → Racer S → Type 0) where
  pub zip_on : (i : ℕ) (xs ys : List (Racer S)) (r t : Racer S) → i < length ys → AllZip R (take i xs) (take i ys) → drop i ys ≡ drop i xs
      → r ≡ get_or ys i r → R r t
      → AllZip R (take (suc i) xs) (take (suc i) (set ys i t))
  zip_on zero [] [] r t l z d v p = absurd (omega arith)
  zip_on zero [] (y ∷ ys) r t l z d v p = cc
  zip_on zero (x ∷ xs) [] r t l z d v p = absurd (omega arith)
  zip_on zero (x ∷ xs) (y ∷ ys) r t l z d v p =
      let same : y ≡ x = cc in
      (subst (λ w. R w t) (v ∙ same) p, tt)
  zip_on (suc i) [] [] r t l z d v p = absurd (omega arith)
  zip_on (suc i) [] (y ∷ ys) r t l z d v p = absurd z
  zip_on (suc i) (x ∷ xs) [] r t l z d v p = absurd (omega arith)
  zip_on (suc i) (x ∷ xs) (y ∷ ys) r t l z d v p = (z.0, zip_on i xs ys r t (omega arith) z.1 d v p)

get_past : {S : Type 0} (i : ℕ) (ys : List (Racer S)) (r : Racer S) → drop i ys ≡ [] → r ≡ get_or ys i r
get_past zero [] r d = refl
get_past zero (y ∷ ys) r d = cc
get_past (suc i) [] r d = refl
get_past (suc i) (y ∷ ys) r d = get_past i ys r d

drop_past : {S : Type 0} (i : ℕ) (ys : List (Racer S)) (t : Racer S) → drop i ys ≡ [] → drop (suc i) (set ys i t) ≡ []
drop_past zero [] t d = refl
drop_past zero (y ∷ ys) t d = cc
drop_past (suc i) [] t d = refl
drop_past (suc i) (y ∷ ys) t d = drop_past i ys t d

drop_past_sym : {S : Type 0} (i : ℕ) (xs : List (Racer S)) → [] ≡ drop i xs → [] ≡ drop (suc i) xs
drop_past_sym zero [] d = refl
drop_past_sym zero (x ∷ xs) d = cc
drop_past_sym (suc i) [] d = refl
drop_past_sym (suc i) (x ∷ xs) d = drop_past_sym i xs d

pub drop_on : {S : Type 0} (i : ℕ) (xs ys : List (Racer S)) (t : Racer S) → drop i ys ≡ drop i xs → drop (suc i)
    (set ys i t) ≡ drop (suc i) xs
drop_on zero [] [] t d = refl
drop_on zero [] (y ∷ ys) t d = cc
drop_on zero (x ∷ xs) [] t d = cc
drop_on zero (x ∷ xs) (y ∷ ys) t d = cc
drop_on (suc i) [] [] t d = refl
drop_on (suc i) [] (y ∷ ys) t d = drop_past i ys t d
drop_on (suc i) (x ∷ xs) [] t d = drop_past_sym i xs d
drop_on (suc i) (x ∷ xs) (y ∷ ys) t d = drop_on i xs ys t d

-- what stood at i stands there still
pub get_left : {S : Type 0} (i : ℕ) (xs ys : List (Racer S)) (r : Racer S) → drop i ys ≡ drop i xs → get_or xs i r ≡ get_or ys i r
get_left zero [] [] r d = refl
get_left zero [] (y ∷ ys) r d = cc
get_left zero (x ∷ xs) [] r d = cc
get_left zero (x ∷ xs) (y ∷ ys) r d = cc
get_left (suc i) [] [] r d = refl
get_left (suc i) [] (y ∷ ys) r d = get_past i ys r d
get_left (suc i) (x ∷ xs) [] r d = sym (get_past i xs r (sym d))
get_left (suc i) (x ∷ xs) (y ∷ ys) r d = get_left i xs ys r d

module _ {S : Type 0} (rs : List (Racer S)) (r : Racer S) where
  last_place : (i : ℕ) (t : Racer S) → slice_get (rs ++ r ∷ []) i ≡ Some t → length rs ≤ i → (i ≡ length rs) × (t ≡ r)
  last_place i t f g =
      let h = slice_get_within (rs ++ r ∷ []) i t f in
      let l = length-append rs (r ∷ []) in
      let e : i ≡ length rs = omega arith in
      (e, same_at (rs ++ r ∷ []) (length rs) t r (subst (λ k. slice_get (rs ++ r ∷ []) k ≡ Some t) e f) (at_end rs r))

pub new_on : {S : Type 0} (counts : Counts) (n : ℕ) (rs ts : List (Racer S)) (r : Racer S) → AreNew counts n rs → ts ≡ rs ++ r ∷ []
    → r.client ≡ idle_life (n + 1) counts → r.answers.items ≡ [] → AreNew counts (n + 1) ts
new_on counts n rs ts r new e life none = subst (AreNew counts (n + 1)) (sym e) (record {
  count = length-append rs (r ∷ []) ∙ ap (λ k. k + 1) new.count;
  lives = λ i t f. elim (cases_lt i (length rs)) [
    | inl l ↦ new.lives i t (sym (not_end rs r i (λ e. omega (arith, e, l))) ∙ f)
    | inr g ↦ (let p = last_place rs r i t f g
        in subst (λ (x : Racer _). x.client ≡ idle_life (i + 1) counts) (sym p.1)
        (life ∙ ap (λ k. idle_life (k + 1) counts) (sym (p.0 ∙ new.count))))
  ];
  answers = λ i t f. elim (cases_lt i (length rs)) [
    | inl l ↦ new.answers i t (sym (not_end rs r i (λ e. omega (arith, e, l))) ∙ f)
    | inr g ↦ ap (λ (x : Racer _). x.answers.items) (last_place rs r i t f g).1 ∙ none
  ];
})
