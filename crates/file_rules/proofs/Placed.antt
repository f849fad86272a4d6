-- The rows of a new block: one more at their end, and that no two are on one disk.
use Rattle.std.proofs.Common.{◌≡◌, ◌<◌, ◌≤◌, ◌%◌, ◌+◌, ◌-◌, ◌∙◌, ap, ℕ, zero, suc, List, [], ◌∷◌, ◌++◌, map}
use Rattle.std.proofs.Common.{Bool, true, false, eqb, refl, arith}
use Rattle.std.specs.Prelude.{nat_lt, if◌then◌else◌}
use Rattle.std.specs.List.{IsDistinct, AllByRecursion}
use Rattle.std.proofs.Math.Nat.{add-mod_left, mod-eq_of_lt}
use Rattle.tect_ids.specs.declared.ids.DiskId.{DiskId}
use Rattle.tect_ids.specs.declared.ids.OpId.{OpId}
use Rattle.tect_ids.specs.declared.values.NewRow.{NewRow}
use Rattle.tect_ids.specs.Keys.{disk_eq}
use Rattle.file_rules.specs.Placing.{rows_on}

-- ---- one row more

-- the row with that part
abbrev row_on : ℕ → OpId → ℕ → ℕ → NewRow
row_on disks op from part = record { disk = record { 0 = (from + part) % disks }; tag = record { op = op; part = part } }

pub rows_none : (disks : ℕ) (op : OpId) (from part : ℕ) → rows_on disks op from part 0 ≡ []
unfolding rows_on
rows_none disks op from part = refl

more : (disks : ℕ) (op : OpId) (from part n : ℕ)
    → rows_on disks op from part (suc n) ≡ rows_on disks op from part n ++ row_on disks op from (part + n) ∷ []
unfolding rows_on
more disks op from part zero = ap (λ k. row_on disks op from k ∷ []) (let e : part ≡ part + 0 = omega arith in e)
more disks op from part (suc n) =
    let e : part + 1 + n ≡ part + suc n = omega arith in
    ap (λ rows. row_on disks op from part ∷ rows)
    (more disks op from (part + 1) n ∙ ap (λ k. rows_on disks op from (part + 1) n ++ row_on disks op from k ∷ []) e)

pub rows_more : (disks : ℕ) (op : OpId) (from n : ℕ)
    → rows_on disks op from 0 (n + 1) ≡ rows_on disks op from 0 n ++ row_on disks op from n ∷ []
rows_more disks op from n =
    ap (λ k. rows_on disks op from 0 k) (let e : n + 1 ≡ suc n = omega arith in e) ∙ more disks op from 0 n
    ∙ ap (λ k. rows_on disks op from 0 n ++ row_on disks op from k ∷ []) (let e : 0 + n ≡ n = omega arith in e)

-- ---- the disks differ

-- a number below twice the count of disks, taken round
around : (d x : ℕ) (b : Bool) → nat_lt x d ≡ b → x < d + d → x % d ≡ (if b then x else x - d)
around d x true e high = mod-eq_of_lt (grind arith)
around d x false e high =
    let low : d ≤ x = grind arith in
    let whole : x ≡ d + (x - d) = omega arith in
    ap (λ y. y % d) whole ∙ add-mod_left d (x - d) ∙ mod-eq_of_lt (omega arith)

differ_by : (d a b : ℕ) (p q : Bool) → nat_lt a d ≡ p → nat_lt b d ≡ q
    → a < b → b < a + d → b < d + d → eqb (a % d) (b % d) ≡ false
differ_by d a b true true ep eq less near high = grind (arith, around d a true ep (omega arith), around d b true eq high)
differ_by d a b true false ep eq less near high = grind (arith, around d a true ep (omega arith), around d b false eq high)
differ_by d a b false true ep eq less near high = grind (arith, around d a false ep (omega arith), around d b true eq high)
differ_by d a b false false ep eq less near high = grind (arith, around d a false ep (omega arith), around d b false eq high)

differ : (d a b : ℕ) → a < b → b < a + d → b < d + d → eqb (a % d) (b % d) ≡ false
differ d a b less near high = differ_by d a b (nat_lt a d) (nat_lt b d) refl refl less near high

abbrev disks_of : List NewRow → List DiskId
disks_of rows = map (λ row. row.disk) rows

module _ (disks : ℕ) (op : OpId) (from : ℕ) (begins : from < disks) where
  others : (first part n : ℕ) → first < part → part + n ≤ disks
      → AllByRecursion (λ d. disk_eq record { 0 = (from + first) % disks } d ≡ false) (disks_of (rows_on disks op from part n))
  unfolding rows_on disk_eq
  others first part zero less few = tt
  others first part (suc n) less few = (
    differ disks (from + first) (from + part) (omega arith) (omega arith) (omega arith),
    others first (part + 1) n (omega arith) (omega arith),
  )

  each : (part n : ℕ) → part + n ≤ disks → IsDistinct disk_eq (disks_of (rows_on disks op from part n))
  unfolding rows_on IsDistinct
  each part zero few = tt
  each part (suc n) few = (others part (part + 1) n (omega arith) (omega arith), each (part + 1) n (omega arith))

pub rows_differ : (disks : ℕ) (op : OpId) (from n : ℕ) → from < disks → n ≤ disks
    → IsDistinct disk_eq (map (λ row. row.disk) (rows_on disks op from 0 n))
rows_differ disks op from n begins few = each disks op from begins 0 n (omega arith)
