-- which blocks have a row on which disk: pairs in rows, those at the front of a list that are of one disk, and all of that disk
use Rattle.std.proofs.Common.{◌≡◌, ◌≢◌, Bool, true, false, not, ◌&&◌, eqb, List, [], ◌∷◌, ◌⊎◌, Option, Some, None, cond, map}
use Rattle.std.proofs.Common.{if◌then◌else◌, refl, sym, ap, ◌∙◌, arith}
use Rattle.std.specs.declared.cmp.Ordering.TheVariants.{Equal}
use Rattle.std.specs.List.{filter}
use Rattle.std.specs.Ordering.{is_lt, eq_by_cmp}
use Rattle.std.specs.Cmp.{IsTotalOrder}
use Rattle.std.specs.FinMap.{FinMap, empty, get, find, put, from_sorted}
use Rattle.tect_ids.specs.declared.ids.DiskId.{DiskId}
use Rattle.tect_ids.specs.Keys.{blk_eq, disk_eq, disk_cmp}
use Rattle.tect_ids.proofs.KeyTests.{blk_eq_cases, disk_eq_cases}
use Rattle.map_words.specs.Pairs.{IsRising, IsDownwardClosed, pairs_past, without}
use Rattle.map_words.specs.Maps.{set_at}
use Rattle.map_words.proofs.Entries.{take_while-past}
use Rattle.map_words.proofs.Made.{map_new, map_get, map_put, map_take, map_entries}
use Rattle.map_words.proofs.Maps.{get-set_at}
use Rattle.block_maps.specs.contracts.disk_blk.DiskBlkOrd.TheImpl.Laws as disk_blk_laws
use Rattle.block_maps.specs.declared.disk_blk.DiskBlk.{DiskBlk}
use Rattle.block_maps.specs.DiskIndexes.{disk_blk_cmp, disk_blk_eq, blks_of_front, blks_on}

pub disk_blk_cmp_total : IsTotalOrder disk_blk_cmp
disk_blk_cmp_total = disk_blk_laws.total-law

pub disk_blk_eq_cases : (a b : DiskBlk) → ((disk_blk_eq a b ≡ true) × (a ≡ b)) ⊎ ((disk_blk_eq a b ≡ false) × (a ≢ b))
unfolding disk_blk_eq
disk_blk_eq_cases a b = grind (arith, disk_eq_cases, blk_eq_cases)

pub disk_blk_ties : (a b : DiskBlk) → eq_by_cmp disk_blk_cmp a b ≡ disk_blk_eq a b
unfolding disk_blk_eq disk_eq blk_eq
disk_blk_ties a b = grind arith

tied_cases : (a b : DiskBlk) → disk_blk_cmp a b ≡ Equal → eq_by_cmp disk_blk_cmp a b ≡ true
tied_cases a b e = grind (arith, e)

pub disk_blk_antisymmetric : (a b : DiskBlk) → disk_blk_cmp a b ≡ Equal → a ≡ b
disk_blk_antisymmetric a b e = grind (arith, disk_blk_eq_cases a b, disk_blk_ties a b, tied_cases a b e)

pub get-disk_blk_at : {X : Type 0} (m : FinMap disk_blk_cmp X) (k : DiskBlk) (w : Option X) (q : DiskBlk) → get (set_at m k w) q
    ≡ (if disk_blk_eq q k then w else get m q)
get-disk_blk_at m k w q = get-set_at disk_blk_cmp_total m k w q ∙ ap (λ b. cond b w (get m q)) (disk_blk_ties q k)

pub disk_blk_rows_new : ◌≡◌ {A = FinMap disk_blk_cmp (Unit {0})} (from_sorted []) empty
disk_blk_rows_new = map_new disk_blk_cmp disk_blk_cmp_total disk_blk_antisymmetric

module _ (rows : List (DiskBlk × Unit {0})) (k : DiskBlk) where
  pub disk_blk_rows_get : IsRising disk_blk_cmp rows → get (from_sorted {R = disk_blk_cmp} rows) k ≡ find disk_blk_cmp k rows
  disk_blk_rows_get rising = map_get disk_blk_cmp rows k rising

  pub disk_blk_rows_put : (v : Unit {0}) → IsRising disk_blk_cmp rows → from_sorted {R = disk_blk_cmp} (put disk_blk_cmp k v rows)
      ≡ set_at (from_sorted rows) k (Some v)
  disk_blk_rows_put v rising = map_put disk_blk_cmp disk_blk_cmp_total disk_blk_antisymmetric rows k v rising

  pub disk_blk_rows_take : IsRising disk_blk_cmp rows → from_sorted {R = disk_blk_cmp} (without disk_blk_cmp k rows)
      ≡ set_at (from_sorted rows) k None
  disk_blk_rows_take rising = map_take disk_blk_cmp disk_blk_cmp_total disk_blk_antisymmetric rows k rising

pub ruleset disk_blk_rows = (disk_blk_rows_new, disk_blk_rows_get, disk_blk_rows_put, disk_blk_rows_take)

pub disk_eq_is : (a b : DiskId) → disk_eq a b ≡ eqb a.0 b.0
unfolding disk_eq
disk_eq_is a b = refl

pub front-nil : (d : DiskId) → blks_of_front d [] ≡ []
unfolding blks_of_front
front-nil d = refl

pub front-cons : (d : DiskId) (e : DiskBlk × Unit {0}) (rows : List (DiskBlk × Unit {0})) → blks_of_front d (e ∷ rows)
    ≡ (if disk_eq e.0.disk d then e.0.blk ∷ blks_of_front d rows else [])
unfolding blks_of_front
front-cons d e rows = grind arith

pub ruleset blk_fronts = (disk_eq_is, front-nil, front-cons)

-- whether a pair stands before those of the disk
abbrev pub is_before : DiskId → DiskBlk → Bool
is_before d k = is_lt (disk_cmp k.disk d)

abbrev not_past : DiskId → DiskBlk → Bool
not_past d k = not (is_lt (disk_cmp d k.disk))

pub before_closed : (d : DiskId) → IsDownwardClosed disk_blk_cmp (is_before d)
before_closed d x y less passes = grind arith

not_past_closed : (d : DiskId) → IsDownwardClosed disk_blk_cmp (not_past d)
not_past_closed d x y less passes = grind arith

between : (d : DiskId) (k : DiskBlk) → disk_eq k.disk d ≡ (not (is_before d k) && not_past d k)
unfolding disk_eq
between d k = grind arith

-- past the pairs before the disk its blocks are at the front
pub blks_past : (rows : List (DiskBlk × Unit {0})) (d : DiskId) → IsRising disk_blk_cmp rows
    → blks_of_front d (pairs_past (is_before d) rows) ≡ blks_on (from_sorted rows) d
unfolding blks_of_front
blks_past rows d rising =
    ap (map (λ e. e.0.blk)) (take_while-past disk_blk_cmp rows (is_before d) (not_past d) (λ k. disk_eq k.disk d) rising (not_past_closed d) (between d))
    ∙ ap (λ es. map (λ e. e.0.blk) (filter (λ e. disk_eq e.0.disk d) es)) (sym (map_entries disk_blk_cmp rows rising))
