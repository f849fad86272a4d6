-- The disks of which a shard has chunks.
use Rattle.std.proofs.Common.{◌≡◌, ◌≢◌, ℕ, suc, Bool, true, false, ◌||◌, cond, List, [], ◌∷◌, map, refl, sym, ap, ◌∙◌, arith}
use Rattle.std.specs.List.{All, filter, list_any}
use Rattle.std.specs.Ordering.{eq_by_cmp}
use Rattle.std.specs.FinMap.{contains_key, contains_key-keys, empty, entries, from_entries, get, keys}
use Rattle.tect_ids.specs.declared.ids.DiskId.{DiskId}
use Rattle.tect_ids.specs.declared.key.ChunkKey.{ChunkKey}
use Rattle.tect_ids.specs.Keys.{chunk_cmp, disk_cmp, disk_eq}
use Rattle.tect_ids.proofs.KeyTests.{disk_eq_cases, disk_ties}
use Rattle.block_maps.specs.Chunks.{on_disk}
use Rattle.block_maps.proofs.ChunkFront.{entries-on_disk}
use Rattle.store_rules.specs.Disks.{Chunks}
use Rattle.store_rules.specs.Dumps.{chunk_line}
use Rattle.store_shards.specs.Shards.{KeepsChunks}
use Rattle.disk_store.specs.Dumps.{disk_dump, disks_of, used_disks}
use Rattle.disk_store.proofs.ByDisk.{chunk_of_used, same_on_disk, used_is}
use Rattle.layers.proofs.Alone.{none_in}
use Rattle.layers.proofs.Sorted.{or_none}

pub no_disks : disks_of empty ≡ []
no_disks = ap (λ es. keys (from_entries {R = disk_cmp} (map (λ e. (e.0.disk, tt)) es))) (none_in (List ℕ) chunk_cmp) ∙ ap (map (λ e. e.0))
    (none_in (Unit {0}) disk_cmp)

pub none_on_disk : (d : DiskId) → disk_dump empty d ≡ []
none_on_disk d = ap (map chunk_line) (entries-on_disk empty d ∙ ap (filter (λ e. disk_eq e.0.disk d)) (none_in (List ℕ) chunk_cmp))

module _ (here : DiskId → Bool) (s w : Chunks) (is : KeepsChunks here s w) (d : DiskId) where
  own_chunk : here d ≡ true → (k : ChunkKey) → disk_eq k.disk d ≡ true → get s k ≡ get w k
  own_chunk own k on = grind (arith, disk_eq_cases k.disk d, is k)

  -- of a disk that is here all chunks are
  pub same_there : here d ≡ true → on_disk s d ≡ on_disk w d
  same_there own = same_on_disk s w d (own_chunk own)

  -- no disk has chunks here but those that are here
  pub used_here : contains_key (used_disks s) d ≡ true → here d ≡ true
  used_here used =
      let found = chunk_of_used s d used in
      let k : ChunkKey = found.0.0 in
      grind (arith, disk_eq_cases k.disk d, is k, found.1, found.2)

-- ---- a number that is none of the disks'

both_fail : (a b : Bool) → a ≡ false → b ≡ false → (a || b) ≡ false
both_fail true b e f = absurd (grind (arith, e))
both_fail false b e f = f

none_passes : {A : Type 0} (p : A → Bool) (xs : List A) → list_any p xs ≡ false → filter p xs ≡ []
none_passes p [] none = refl
none_passes {A = A} p (x ∷ xs) none =
    let parts = or_none (p x) (list_any p xs) none in
    ap (λ (t : Bool). cond t (x ∷ filter p xs) (filter p xs)) parts.0 ∙ none_passes p xs parts.1

another : (a b : DiskId) → a ≢ b → disk_eq a b ≡ false
another a b apart = grind (arith, disk_eq_cases a b)

not_numbered : (n : ℕ) (ds : List DiskId) → All (λ d. d.0 ≢ n) ds → list_any (eq_by_cmp disk_cmp (record { 0 = n })) ds ≡ false
not_numbered n [] all = refl
not_numbered n (d ∷ ds) all =
    let q : DiskId = record { 0 = n } in
    let apart : d.0 ≢ n = all 0 d (omega arith) in
    both_fail (eq_by_cmp disk_cmp q d) _ (disk_ties q d ∙ another q d (λ e. apart (ap (λ (o : DiskId). o.0) (sym e))))
    (not_numbered n ds (λ k o lt. all (suc k) o (omega (arith, lt))))

pub no_such_disk : (s : Chunks) (n : ℕ) → All (λ d. d.0 ≢ n) (disks_of s) → disk_dump s (record { 0 = n }) ≡ []
no_such_disk s n all =
    let q : DiskId = record { 0 = n } in
    let unused : contains_key (used_disks s) q ≡ false = contains_key-keys (used_disks s) q ∙ not_numbered n (disks_of s) all in
    ap (map chunk_line)
    (entries-on_disk s q ∙ none_passes (λ e. disk_eq e.0.disk q) (entries s) (sym (used_is s q) ∙ unused))
