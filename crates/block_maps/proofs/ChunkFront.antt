-- the chunks at the front of a list that are of one disk, and of all
use Rattle.std.proofs.Common.{◌≡◌, Bool, not, ◌&&◌, eqb, List, [], ◌∷◌, if◌then◌else◌, refl, sym, ap, ◌∙◌, arith}
use Rattle.std.specs.List.{filter}
use Rattle.std.specs.Ordering.{is_lt}
use Rattle.std.specs.FinMap.{FinMap, entries, from_sorted}
use Rattle.tect_ids.specs.declared.ids.DiskId.{DiskId}
use Rattle.tect_ids.specs.declared.key.ChunkKey.{ChunkKey}
use Rattle.tect_ids.specs.Keys.{disk_eq, disk_cmp, chunk_cmp}
use Rattle.tect_ids.proofs.KeyTests.{chunk_cmp_total, chunk_antisymmetric}
use Rattle.map_words.specs.Pairs.{IsRising, IsDownwardClosed, pairs_past}
use Rattle.map_words.proofs.Entries.{take_while-past, entries-retain_keys}
use Rattle.map_words.proofs.Made.{map_entries}
use Rattle.block_maps.specs.Chunks.{on_disk, front_on}

pub disk_eq_is : (a b : DiskId) → disk_eq a b ≡ eqb a.0 b.0
unfolding disk_eq
disk_eq_is a b = refl

pub front_on-cons : {X : Type 0} (d : DiskId) (e : ChunkKey × X) (rows : List (ChunkKey × X)) → front_on d (e ∷ rows)
    ≡ (if disk_eq e.0.disk d then e ∷ front_on d rows else [])
front_on-cons d e rows = grind arith

pub ruleset chunk_fronts = (disk_eq_is, front_on-cons)

-- whether a chunk stands before those of the disk
abbrev pub is_before : DiskId → ChunkKey → Bool
is_before d k = is_lt (disk_cmp k.disk d)

abbrev not_past : DiskId → ChunkKey → Bool
not_past d k = not (is_lt (disk_cmp d k.disk))

pub before_closed : (d : DiskId) → IsDownwardClosed chunk_cmp (is_before d)
before_closed d x y less passes = grind arith

not_past_closed : (d : DiskId) → IsDownwardClosed chunk_cmp (not_past d)
not_past_closed d x y less passes = grind arith

between : (d : DiskId) (k : ChunkKey) → disk_eq k.disk d ≡ (not (is_before d k) && not_past d k)
unfolding disk_eq
between d k = grind arith

pub entries-on_disk : {X : Type 0} (m : FinMap chunk_cmp X) (d : DiskId)
    → entries (on_disk m d) ≡ filter (λ e. disk_eq e.0.disk d) (entries m)
unfolding on_disk
entries-on_disk m d = entries-retain_keys chunk_cmp chunk_cmp_total chunk_antisymmetric m (λ k. disk_eq k.disk d)

-- past the chunks before the disk its own are at the front
pub front_on-past : {X : Type 0} (rows : List (ChunkKey × X)) (d : DiskId) → IsRising chunk_cmp rows
    → front_on d (pairs_past (is_before d) rows) ≡ entries (on_disk (from_sorted {R = chunk_cmp} rows) d)
front_on-past rows d rising =
    take_while-past chunk_cmp rows (is_before d) (not_past d) (λ k. disk_eq k.disk d) rising (not_past_closed d) (between d)
    ∙ sym (entries-on_disk (from_sorted rows) d ∙ ap (filter (λ e. disk_eq e.0.disk d)) (map_entries chunk_cmp rows rising))
