-- the rows that a block is made with: one for each copy, on different disks, with different tags of the op
use Rattle.std.proofs.Common.{◌≡◌, ℕ, zero, suc, ◌+◌, ◌*◌, ◌/◌, ◌%◌, ◌<◌, ◌≤◌, length, Bool, true, false, if◌then◌else◌}
use Rattle.std.proofs.Common.{is_some, Some, None, refl, ap, arith}
use Rattle.std.proofs.lemmas.Nat.{div-add-mod', mul-le, row_fits}
use Rattle.tect_ids.specs.declared.ids.OpId.{OpId}
use Rattle.tect_ids.specs.declared.ids.Tag.{Tag}
use Rattle.tect_ids.specs.Keys.{disk_eq, tag_eq}
use Rattle.tect_ids.proofs.KeyTests.{block_keys}
use Rattle.file_rules.specs.Placing.{rows_on}
use Rattle.store_pasts.specs.Contents.{tag_at, disk_at, Apart}

-- ---- places on a ring

-- two numbers with the same rest are not nearer to one another than the divisor
same_rest : (p q r s d x y : ℕ) → p * d + r ≡ x → q * d + s ≡ y → r ≡ s → x < y → y < x + d → ⊥
same_rest p q r s d x y at to e below near =
    let over : q ≤ p → ⊥ = λ le. (let m : q * d ≤ p * d = mul-le q d p d le (omega arith) in omega arith) in
    let under : p < q → ⊥ = λ lt. (let m : p * d + d ≤ q * d = row_fits p d q d lt (omega arith) in omega arith) in
    omega arith

apart_on_ring : (a i k d : ℕ) → i < k → k < i + d → (a + i) % d ≡ (a + k) % d → ⊥
apart_on_ring a i k d below near e = same_rest ((a + i) / d) ((a + k) / d) ((a + i) % d) ((a + k) % d) d (a + i) (a + k)
    (div-add-mod' (a + i) d) (div-add-mod' (a + k) d) e (omega arith) (omega arith)

-- ---- disks and tags of rows

same_disk : (a b : ℕ) → disk_eq record { 0 = a } record { 0 = b } ≡ true → a ≡ b
same_disk a b e = grind (arith, block_keys)

other_disk : (a i k d : ℕ) → i < k → k < i + d → disk_eq record { 0 = (a + i) % d } record { 0 = (a + k) % d } ≡ false
other_disk a i k d below near = split (disk_eq record { 0 = (a + i) % d } record { 0 = (a + k) % d }) refl
  where
    split : (b : Bool) → disk_eq record { 0 = (a + i) % d } record { 0 = (a + k) % d } ≡ b → b ≡ false
    split true e = absurd (apart_on_ring a i k d below near (same_disk ((a + i) % d) ((a + k) % d) e))
    split false e = refl

other_tag : (op : OpId) (i k : ℕ) → i < k → tag_eq record { op = op; part = i } record { op = op; part = k } ≡ false
other_tag op i k below = grind (arith, block_keys)

pub same_tag : (a b : Tag) → tag_eq a b ≡ true → a ≡ b
same_tag a b e = grind (arith, block_keys)

-- ---- the rows

pub count_rows : (disks : ℕ) (op : OpId) (from part n : ℕ) → length (rows_on disks op from part n) ≡ n
unfolding rows_on
count_rows disks op from part zero = refl
count_rows disks op from part (suc n) = ap suc (count_rows disks op from (part + 1) n)

-- their tags are the op's
pub own_tags : (disks : ℕ) (op : OpId) (from part n : ℕ) (t : Tag) → is_some (disk_at (rows_on disks op from part n) t) ≡ true → t.op ≡ op
unfolding rows_on disk_at
own_tags disks op from part zero t is = absurd (let f : false ≡ true = is in cc)
own_tags disks op from part (suc n) t is =
    split (λ later. own_tags disks op from (part + 1) n t later) (tag_eq t record { op = op; part = part }) refl is
  where
    split : (is_some (disk_at (rows_on disks op from (part + 1) n) t) ≡ true → t.op ≡ op) → (b : Bool)
        → tag_eq t record { op = op; part = part } ≡ b
        → is_some (if b then Some record { 0 = (from + part) % disks } else disk_at (rows_on disks op from (part + 1) n) t) ≡ true
        → t.op ≡ op
    split ih true e is = ap (λ (x : Tag). x.op) (same_tag t record { op = op; part = part } e)
    split ih false e is = ih is

-- an earlier one's tag, or disk, is not among those of the later ones
no_tag : (disks : ℕ) (op : OpId) (from part k n : ℕ) → part < k → disk_at (rows_on disks op from k n) record { op = op; part = part } ≡ None
unfolding rows_on disk_at
no_tag disks op from part k zero below = refl
no_tag disks op from part k (suc n) below = rw (other_tag op part k below) (no_tag disks op from part (k + 1) n (omega arith))

no_disk : (disks : ℕ) (op : OpId) (from part k n : ℕ) → part < k → k + n ≤ part + disks
    → tag_at (rows_on disks op from k n) record { 0 = (from + part) % disks } ≡ None
unfolding rows_on tag_at
no_disk disks op from part k zero below near = refl
no_disk disks op from part k (suc n) below near =
    rw (other_disk from part k disks below (omega arith)) (no_disk disks op from part (k + 1) n (omega arith) (omega arith))

pub apart_rows : (disks : ℕ) (op : OpId) (from part n : ℕ) → n ≤ disks → Apart (rows_on disks op from part n)
unfolding rows_on Apart
apart_rows disks op from part zero few = tt
apart_rows disks op from part (suc n) few = (
  no_disk disks op from part (part + 1) n (omega arith) (omega arith),
  no_tag disks op from part (part + 1) n (omega arith),
  apart_rows disks op from (part + 1) n (omega arith),
)
