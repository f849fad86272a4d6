-- Pairs with rising keys: what is among them past some keys, and without one.
use Rattle.std.specs.Prelude.{◌≡◌, Bool, true, not, T, List, map, Option, None, Some}
use Rattle.std.specs.List.{filter}
use Rattle.std.specs.declared.cmp.Ordering.{Ordering}
use Rattle.std.specs.declared.cmp.Ordering.TheVariants.{Less}
use Rattle.std.specs.Ordering.{eq_by_cmp, is_lt}
use Rattle.std.specs.FinMap.{is_sorted}
use Rattle.std.specs.Borrow.{Bor}

-- each key is below the next
abbrev pub IsRising : {K V : Type 0} → (K → K → Ordering) → List (K × V) → Type 0
IsRising R rows = T (is_sorted R rows)

-- the pairs with another key
abbrev pub without : {K V : Type 0} → (K → K → Ordering) → K → List (K × V) → List (K × V)
without R k rows = filter (λ pair. not (eq_by_cmp R k pair.0)) rows

-- whether the key x is greater than the one that is given, if one is
abbrev pub is_after : {K : Type 0} → (K → K → Ordering) → Option K → K → Bool
is_after R None x = true
is_after R (Some k) x = is_lt (R k x)

-- the pairs whose keys are
abbrev pub pairs_after : {K V : Type 0} → (K → K → Ordering) → Option K → List (K × V) → List (K × V)
pairs_after R k rows = filter (λ pair. is_after R k pair.0) rows

-- the pairs whose keys fail the test p
abbrev pub pairs_past : {K V : Type 0} → (K → Bool) → List (K × V) → List (K × V)
pairs_past p rows = filter (λ pair. not (p pair.0)) rows

-- p passes each key that is less than one that it passes
abbrev pub IsDownwardClosed : {K : Type 0} → (K → K → Ordering) → (K → Bool) → Type 0
IsDownwardClosed {K} R p = (x y : K) → R x y ≡ Less → p y ≡ true → p x ≡ true

-- the pairs that a cursor has left, in the order of their keys
abbrev pub left : {K V : Type 0} → List (K × V) → List (K × V)
left rest = rest

-- the key and the value behind two references
abbrev pub pair_of : {K V : Type 0} → Bor K × Bor V → K × V
pair_of item = (item.0.now, item.1.now)

-- each pair with the value that f makes of its own
abbrev pub with_values : {K V W : Type 0} → (V → W) → List (K × V) → List (K × W)
with_values f rows = map (λ pair. (pair.0, f pair.1)) rows
