-- Histories, along which the stamps rise.
use Rattle.std.proofs.Common.{◌≡◌, ℕ, zero, suc, ◌<◌, ◌≤◌, true, inl, inr, List, [], ◌∷◌, ◌++◌, refl, sym, ap, subst, arith, ltb, map}
use Rattle.std.proofs.lemmas.List.{get_or_past}
use borrow.Author.Tests.{ltb-true}
use Rattle.place_kit.specs.declared.any.AnyKept.{AnyKept}
use Rattle.entry_words.specs.declared.entry.Entry.{Entry}
use Rattle.place_kit.specs.Kept.{clock_of, history_of}
use Rattle.place_kit.proofs.AllKinds.{kept_rising}
use Rattle.place_kit.specs.Replay.{stamps_rise}
use Rattle.merge_runs.specs.Walks.{list_at, IsLacking}
use Rattle.merge_runs.proofs.Order.{In, both}
use Rattle.merge_runs.proofs.Members.{in_append_right}

pub later : (low high : ℕ) (es : List Entry) (e : Entry) → stamps_rise low high es ≡ true → In e es → low < e.stamp
later low high [] e h i = absurd i
later low high (x ∷ xs) e h (inl q) =
    let l : low < x.stamp = ltb-true low x.stamp (both (ltb low x.stamp) (stamps_rise x.stamp high xs) h).0 in
    let t : x.stamp ≡ e.stamp = ap (λ (y : Entry). y.stamp) q in
    omega arith
later low high (x ∷ xs) e h (inr i) =
    let w = both (ltb low x.stamp) (stamps_rise x.stamp high xs) h in
    let l : low < x.stamp = ltb-true low x.stamp w.0 in
    let r = later x.stamp high xs e w.1 i in
    omega arith

-- what stands before an entry is earlier
pub front_earlier : (low high : ℕ) (front : List Entry) (x : Entry) (rest : List Entry) (e : Entry)
    → stamps_rise low high (front ++ x ∷ rest) ≡ true → In e front → e.stamp < x.stamp
front_earlier low high [] x rest e h i = absurd i
front_earlier low high (y ∷ ys) x rest e h (inl q) =
    let w = both (ltb low y.stamp) (stamps_rise y.stamp high (ys ++ x ∷ rest)) h in
    let l = later y.stamp high (ys ++ x ∷ rest) x w.1 (in_append_right ys (x ∷ rest) x (inl refl)) in
    let s : y.stamp ≡ e.stamp = ap (λ (z : Entry). z.stamp) q in
    omega arith
front_earlier low high (y ∷ ys) x rest e h (inr i) =
    front_earlier y.stamp high ys x rest e (both (ltb low y.stamp) (stamps_rise y.stamp high (ys ++ x ∷ rest)) h).1 i

-- and what stands behind it is later
rest_later : (low high : ℕ) (front : List Entry) (x : Entry) (rest : List Entry) (e : Entry)
    → stamps_rise low high (front ++ x ∷ rest) ≡ true → In e rest → x.stamp < e.stamp
rest_later low high [] x rest e h i = later x.stamp high rest e (both (ltb low x.stamp) (stamps_rise x.stamp high rest) h).1 i
rest_later low high (y ∷ ys) x rest e h i =
    rest_later y.stamp high ys x rest e (both (ltb low y.stamp) (stamps_rise y.stamp high (ys ++ x ∷ rest)) h).1 i

-- what a list lacks in front it lacks
pub not_in_rest : (high : ℕ) (front rest : List Entry) (e : Entry) → stamps_rise 0 high (front ++ rest) ≡ true → IsLacking rest e
    → In e rest → ⊥
not_in_rest high front [] e r l i = absurd i
not_in_rest high front (x ∷ rest) e r l (inl q) = (l x rest refl).0 q
not_in_rest high front (x ∷ rest) e r l (inr i) =
    let a : x.stamp < e.stamp = rest_later 0 high front x rest e r i in
    let b : e.stamp ≤ x.stamp = (l x rest refl).1 in
    absurd (omega arith)

abbrev pub Rises : List Entry → Type 0
Rises es = (high : ℕ) × (stamps_rise 0 high es ≡ true)

pub rises_at : (ks : List AnyKept) (n : ℕ) → Rises (list_at (map history_of ks) n)
rises_at [] n = subst (λ es. Rises es) (sym (get_or_past {X = List Entry} [] n [] (omega arith))) (0, refl)
rises_at (k ∷ ks) zero = (clock_of k, kept_rising k)
rises_at (k ∷ ks) (suc n) = rises_at ks n
