-- Entries with rising names: when they rise, and how a name is found among them.
use Rattle.std.proofs.Common.{◌≡◌, ℕ, suc, ◌+◌, ◌<◌, ◌≤◌, Bool, true, false, List, [], ◌∷◌, T, map, length, get_or, Some, None}
use Rattle.std.proofs.Common.{Ok, Err, refl, sym, ap, subst, ◌∙◌, arith}
use Rattle.std.specs.declared.cmp.Ordering.{Ordering}
use Rattle.std.specs.declared.cmp.Ordering.TheVariants.{Less, Equal}
use Rattle.std.specs.Cmp.{IsTotalOrder}
use Rattle.std.specs.Cmp.Lexicographic.{slice_cmp}
use Rattle.std.specs.FinMap.{is_sorted}
use Rattle.std.specs.FinMap as maps
use Rattle.std.specs.FinMap.Entries.{below_all}
use Rattle.std.specs.List.{IsAllAdjacentAnswer}
use Rattle.std.specs.List.Sorted.{IsBinarySearchResult}
use Rattle.std.specs.Ordering.{is_lt, nat_cmp}
use Rattle.std.proofs.lemmas.Cmp.{nat_list_cmp_total}
use Rattle.std.proofs.lemmas.List.{length-map}
use Rattle.std.proofs.Math.ListN.{get_or-map}
use Rattle.map_words.proofs.Finds.{below_later, find_at, find_gap, searched}
use Rattle.tect_ids.specs.declared.ids.Node.{Node}
use Rattle.tect_ids.specs.declared.ids.Node.TheVariants.{Dir}
use Rattle.tect_ids.specs.declared.values.Listed.{Listed}
use Rattle.tect_ids.specs.Keys.{name_eq}
use Rattle.sealed_cache.specs.Sealed.{names_rise, node_in}

module _ {K V : Type 0} (R : K → K → Ordering) (o : IsTotalOrder R) where
  -- each key is below the next
  Steps : List (K × V) → Type 0
  Steps es = (k : ℕ) (d : K × V) → k + 1 < length es → is_lt (R (get_or es k d).0 (get_or es (k + 1) d).0) ≡ true

  below_through : (x y : K) (es : List (K × V)) → R x y ≡ Less → T (below_all R y es) → T (below_all R x es)
  below_through x y [] less below = tt
  below_through x y (e ∷ es) less below = grind (arith, o.trans x y e.0, below_through x y es less)

  later : (e f : K × V) (es : List (K × V)) → Steps (e ∷ f ∷ es) → Steps (f ∷ es)
  unfolding Steps
  later e f es steps k d lt = let next : suc k + 1 ≡ suc (k + 1) = omega arith in rw next at (steps (suc k) d (omega arith))

  rising_by_steps : (es : List (K × V)) → Steps es → T (is_sorted R es)
  unfolding Steps
  rising_by_steps [] steps = tt
  rising_by_steps (e ∷ []) steps = tt
  rising_by_steps (e ∷ f ∷ es) steps =
      let first = steps 0 e (omega arith) in
      grind (arith, first, rising_by_steps (f ∷ es) (later e f es steps), below_through e.0 f.0 es)

abbrev name_cmp : List ℕ → List ℕ → Ordering
name_cmp = slice_cmp nat_cmp

-- an entry as a pair of its name and its node, and back
abbrev pair : Listed → List ℕ × Node
pair e = (e.name, e.node)

abbrev entry : List ℕ × Node → Listed
entry p = record { name = p.0; node = p.1 }

abbrev pairs : List Listed → List (List ℕ × Node)
pairs items = map pair items

pair_at : (items : List Listed) (i : ℕ) (d : List ℕ × Node) → get_or (pairs items) i d ≡ pair (get_or items i (entry d))
pair_at items i d = get_or-map pair items i (entry d)

length-pairs : (items : List Listed) → length (pairs items) ≡ length items
length-pairs items = length-map items pair

is_true : (b : Bool) → T b → true ≡ b
is_true true h = refl
is_true false h = elim h [ ]

some_entry : Listed
some_entry = record { name = []; node = Dir (record { 0 = 0 }) }

-- whether each name is below the next is whether the names rise
pub rising_names : (items : List Listed) (r : Bool) → IsAllAdjacentAnswer (λ x y b. b ≡ is_lt (name_cmp x.name y.name)) items r
    → r ≡ names_rise items
unfolding Steps
rising_names items true steps = is_true (names_rise items) (rising_by_steps name_cmp nat_list_cmp_total (pairs items) below)
  where
    below : Steps name_cmp nat_list_cmp_total (pairs items)
    below k d lt = rw (pair_at items k d, pair_at items (k + 1) d) (sym (steps k (entry d) (rw (length-pairs items) at lt)))
rising_names items false steps = at (names_rise items) refl
  where
    k : ℕ
    k = steps.0

    at : (b : Bool) → names_rise items ≡ b → false ≡ names_rise items
    at false falls = sym falls
    at true rises =
        let d = pair some_entry in
        let in_range : k + 1 < length (pairs items) = rw (length-pairs items) steps.1 in
        let less = below_later name_cmp (pairs items) k (k + 1) d (subst T (sym rises) tt) (omega arith) in_range in
        let below = rw (pair_at items k d, pair_at items (k + 1) d) at less in
        let not_below = steps.2 some_entry in
        absurd (grind (arith, below, not_below))

node_in_find : (items : List Listed) (name : List ℕ) → node_in items name ≡ maps.find name_cmp name (pairs items)
unfolding name_eq
node_in_find [] name = refl
node_in_find (e ∷ items) name = grind (arith, node_in_find items name)

-- what a binary search by name finds
module _ (items : List Listed) (name : List ℕ) (rises : names_rise items ≡ true) where
  rising : T (names_rise items)
  rising = subst T (sym rises) tt

  pub found_at : (i : ℕ) (d : Listed) → i < length items → ((e : Listed) → name_cmp (get_or items i e).name name ≡ Equal)
      → node_in items name ≡ Some (get_or items i d).node
  found_at i d in_range equal =
      let here : (p : List ℕ × Node) → name_cmp (get_or (pairs items) i p).0 name ≡ Equal = λ p. rw (pair_at items i p) (equal (entry p)) in
      let search = searched name_cmp nat_list_cmp_total name (pairs items) rising (Ok i) (rw (length-pairs items) in_range) here in
      node_in_find items name ∙ find_at name_cmp name (pairs items) i (pair d) search.0
      ∙ ap (λ (p : List ℕ × Node). Some p.1) (pair_at items i (pair d))

  pub found_none : (i : ℕ) → i ≤ length items → IsBinarySearchResult (λ e. name_cmp e.name name) items (Err i) → node_in items name ≡ None
  found_none i in_range parted =
      let search = searched name_cmp nat_list_cmp_total name (pairs items) rising (Err i) (rw (length-pairs items) in_range) as_pairs in
      node_in_find items name ∙ find_gap name_cmp name nat_list_cmp_total (pairs items) i rising search.1
    where
      as_pairs : IsBinarySearchResult (λ p. name_cmp p.0 name) (pairs items) (Err i)
      as_pairs rise =
          let split = parted (λ a b e le lt.
          let in_range : b < length (pairs items) = rw (length-pairs items) lt in
          rw (pair_at items a (pair e), pair_at items b (pair e)) at (rise a b (pair e) le in_range)) in (
            λ j d low lt. rw (pair_at items j d) (split.0 j (entry d) low lt),
            λ j d low lt. rw (pair_at items j d) (split.1 j (entry d) low (rw (length-pairs items) at lt)),
          )
