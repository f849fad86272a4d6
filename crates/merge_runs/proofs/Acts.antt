-- The entries of a list are those of the transactions among its moments, however they were heard.
use Rattle.std.proofs.Common.{◌≡◌, inl, inr, ℕ, List, [], ◌∷◌, ◌++◌, refl, ◌∙◌, ap, subst}
use Rattle.std.specs.List.{filter}
use Rattle.std.proofs.lemmas.List.Elements.{filter-append}
use borrow.Author.Tests.{eqb-true, eq-eqb}
use Rattle.entry_words.specs.declared.entry.Entry.{Entry}
use Rattle.entry_words.specs.declared.entry.Moment.{Moment}
use Rattle.entry_words.specs.declared.entry.Moment.TheVariants.{Act, Local}
use Rattle.program_forms.specs.declared.heard.Heard.{Heard}
use Rattle.entry_words.specs.Moments.{is_at, trail_of}
use Rattle.merge_runs.specs.Walks.{acted_at}
use Rattle.merge_runs.specs.Splits.{IsActOf}
use Rattle.merge_runs.proofs.Order.{In}
use Rattle.merge_runs.proofs.Members.{in_filter, filter_in}

pub act_in : (ms : List Moment) (e : Entry) → In e (trail_of ms) → (heard : Heard) × In (Act e heard) ms
act_in [] e i = absurd i
act_in (Act x heard ∷ ms) e (inl h) = (heard, inl (ap (λ (y : Entry). Act y heard) h))
act_in (Act x heard ∷ ms) e (inr i) = let r = act_in ms e i in (r.0, inr r.1)
act_in (Local s a n ∷ ms) e i = let r = act_in ms e i in (r.0, inr r.1)

pub entry_in : (ms : List Moment) (e : Entry) (heard : Heard) → In (Act e heard) ms → In e (trail_of ms)
entry_in [] e heard i = absurd i
entry_in (Act x k ∷ ms) e heard (inl h) = inl cc
entry_in (Act x k ∷ ms) e heard (inr i) = inr (entry_in ms e heard i)
entry_in (Local s a n ∷ ms) e heard (inl h) = absurd cc
entry_in (Local s a n ∷ ms) e heard (inr i) = entry_in ms e heard i

-- the same of the moment itself
pub act_of_in : (ms : List Moment) (e : Entry) (m : Moment) → IsActOf e m → In m ms → In e (trail_of ms)
act_of_in ms e (Act x heard) h i = entry_in ms e heard (subst (λ y. In (Act y heard) ms) h i)
act_of_in ms e (Local s a n) h i = absurd h

trail_append : (xs ys : List Moment) → trail_of (xs ++ ys) ≡ trail_of xs ++ trail_of ys
trail_append [] ys = refl
trail_append (Act e heard ∷ xs) ys = ap (λ es. e ∷ es) (trail_append xs ys)
trail_append (Local s a n ∷ xs) ys = trail_append xs ys

pub acted_append : (n : ℕ) (xs ys : List Moment) → acted_at n (xs ++ ys) ≡ acted_at n xs ++ acted_at n ys
acted_append n xs ys = ap trail_of (filter-append (is_at n) xs ys) ∙ trail_append (filter (is_at n) xs) (filter (is_at n) ys)

-- the entries at a place are those of the moments that name it
pub acted_in : (n : ℕ) (ms : List Moment) (e : Entry) → In e (acted_at n ms) → In e (trail_of ms) × (e.place.0 ≡ n)
acted_in n ms e i =
    let a = act_in (filter (is_at n) ms) e i in
    let f = in_filter (is_at n) ms (Act e a.0) a.1 in
    (entry_in ms e a.0 f.0, eqb-true e.place.0 n f.1)

pub in_acted : (ms : List Moment) (e : Entry) → In e (trail_of ms) → In e (acted_at e.place.0 ms)
in_acted ms e i =
    let a = act_in ms e i in
    entry_in (filter (is_at e.place.0) ms) e a.0
    (filter_in (is_at e.place.0) ms (Act e a.0) a.1 (eq-eqb e.place.0 e.place.0 refl))
