-- the disks of chunks in their order, each once
use Rattle.std.proofs.Common.{◌≡◌, Bool, true, false, ◌&&◌, T, cond, Option, Some, None, List, [], ◌∷◌, ◌++◌, map}
use Rattle.std.proofs.Common.{refl, sym, ap, ◌∙◌, subst, arith}
use Rattle.std.specs.List.{dedup, dedup_from}
use Rattle.std.specs.declared.cmp.Ordering.{Ordering}
use Rattle.std.specs.declared.cmp.Ordering.TheVariants.{Less}
use Rattle.std.specs.Ordering.{eq_by_cmp, is_lt}
use Rattle.std.specs.FinMap.{entries, entries_sorted, from_entries, find, keys, is_sorted, get-entries, get-from_entries}
use Rattle.std.specs.FinMap.Entries.{below_all, same_entries}
use Rattle.tect_ids.specs.declared.ids.DiskId.{DiskId}
use Rattle.tect_ids.specs.declared.key.ChunkKey.{ChunkKey}
use Rattle.tect_ids.specs.Keys.{disk_eq, disk_cmp, chunk_cmp}
use Rattle.tect_ids.proofs.KeyTests.{disk_eq_cases, disk_ties, disk_cmp_total, disk_antisymmetric}
use Rattle.disk_store.proofs.ByDisk.{both, is_less, disks_tagged}

abbrev last_of : DiskId → List DiskId → DiskId
last_of k [] = k
last_of k (x ∷ xs) = last_of x xs

-- the last of some disks
abbrev pub last_disk : List DiskId → Option DiskId
last_disk [] = None
last_disk (x ∷ xs) = Some (last_of x xs)

last_of-more : (k : DiskId) (xs : List DiskId) (x : DiskId) → last_of k (xs ++ x ∷ []) ≡ x
last_of-more k [] x = refl
last_of-more k (y ∷ ys) x = last_of-more y ys x

pub last_disk-more : (xs : List DiskId) (x : DiskId) → last_disk (xs ++ x ∷ []) ≡ Some x
last_disk-more [] x = refl
last_disk-more (y ∷ ys) x = ap (λ (d : DiskId). Some d) (last_of-more y ys x)

same_again : (k : DiskId) (xs : List DiskId) (x : DiskId) → last_of k xs ≡ x → dedup_from disk_eq k (xs ++ x ∷ []) ≡ dedup_from disk_eq k xs
same_again k [] x is = grind (arith, is, disk_eq_cases x k)
same_again k (y ∷ ys) x is = by_test (disk_eq y k) refl (same_again k ys x) (same_again y ys x is)
  where
    by_test : (t : Bool) → disk_eq y k ≡ t → (last_of k ys ≡ x → dedup_from disk_eq k (ys ++ x ∷ []) ≡ dedup_from disk_eq k ys)
        → dedup_from disk_eq y (ys ++ x ∷ []) ≡ dedup_from disk_eq y ys
        → cond t (dedup_from disk_eq k (ys ++ x ∷ [])) (k ∷ dedup_from disk_eq y (ys ++ x ∷ []))
        ≡ cond t (dedup_from disk_eq k ys) (k ∷ dedup_from disk_eq y ys)
    by_test true e kept gone =
        let same : y ≡ k = grind (arith, e, disk_eq_cases y k) in
        kept (subst (λ (d : DiskId). last_of d ys ≡ x) same is)
    by_test false e kept gone = ap (λ (ds : List DiskId). k ∷ ds) gone

-- a disk that is the last already is not there once more
pub dedup-again : (xs : List DiskId) (x : DiskId) → last_disk xs ≡ Some x → dedup disk_eq (xs ++ x ∷ []) ≡ dedup disk_eq xs
dedup-again [] x is = absurd (grind (arith, is))
dedup-again (y ∷ ys) x is = same_again y ys x (grind (arith, is))

another : (k : DiskId) (xs : List DiskId) (x : DiskId) → (last_of k xs ≡ x → ⊥)
    → dedup_from disk_eq k (xs ++ x ∷ []) ≡ dedup_from disk_eq k xs ++ x ∷ []
another k [] x other = by_test (disk_eq x k) refl
  where
    by_test : (t : Bool) → disk_eq x k ≡ t → cond t (k ∷ []) (k ∷ x ∷ []) ≡ k ∷ x ∷ []
    by_test true e = absurd (other (grind (arith, e, disk_eq_cases x k)))
    by_test false e = refl
another k (y ∷ ys) x other = by_test (disk_eq y k) refl (another k ys x) (another y ys x other)
  where
    by_test : (t : Bool) → disk_eq y k ≡ t
        → ((last_of k ys ≡ x → ⊥) → dedup_from disk_eq k (ys ++ x ∷ []) ≡ dedup_from disk_eq k ys ++ x ∷ [])
        → dedup_from disk_eq y (ys ++ x ∷ []) ≡ dedup_from disk_eq y ys ++ x ∷ []
        → cond t (dedup_from disk_eq k (ys ++ x ∷ [])) (k ∷ dedup_from disk_eq y (ys ++ x ∷ []))
        ≡ cond t (dedup_from disk_eq k ys) (k ∷ dedup_from disk_eq y ys) ++ x ∷ []
    by_test true e kept gone =
        let same : y ≡ k = grind (arith, e, disk_eq_cases y k) in
        kept (subst (λ (d : DiskId). last_of d ys ≡ x → ⊥) same other)
    by_test false e kept gone = ap (λ (ds : List DiskId). k ∷ ds) gone

-- another disk comes behind them
pub dedup-another : (xs : List DiskId) (x : DiskId) → (last_disk xs ≡ Some x → ⊥)
    → dedup disk_eq (xs ++ x ∷ []) ≡ dedup disk_eq xs ++ x ∷ []
dedup-another [] x other = refl
dedup-another (y ∷ ys) x other = another y ys x (λ is. other (ap (λ (d : DiskId). Some d) is))

-- ---- they are the keys of the map of used disks

join : (a b : Bool) → T a → T b → T (a && b)
join true b p q = q
join false b p q = absurd p

less_is : (r : Ordering) → r ≡ Less → T (is_lt r)
less_is r e = subst (λ (x : Ordering). T (is_lt x)) (sym e) tt

-- disks as entries without values
abbrev tagged : List DiskId → List (DiskId × Unit {0})
tagged ds = map (λ d. (d, tt)) ds

untagged : (ds : List DiskId) → map (λ e. e.0) (tagged ds) ≡ ds
untagged [] = refl
untagged (d ∷ ds) = ap (λ (es : List DiskId). d ∷ es) (untagged ds)

below_each : (a k : DiskId) (ds : List DiskId) → disk_cmp a k ≡ Less → T (below_all disk_cmp a (tagged ds))
    → T (below_all disk_cmp a (tagged (dedup_from disk_eq k ds)))
below_each a k [] less all = join _ true (less_is _ less) tt
below_each a k (x ∷ ds) less all = by_test (disk_eq x k) (below_each a k ds less (both _ _ all).1)
    (below_each a x ds (is_less _ (both _ _ all).0) (both _ _ all).1)
  where
    by_test : (t : Bool) → T (below_all disk_cmp a (tagged (dedup_from disk_eq k ds)))
        → T (below_all disk_cmp a (tagged (dedup_from disk_eq x ds)))
        → T (below_all disk_cmp a (tagged (cond t (dedup_from disk_eq k ds) (k ∷ dedup_from disk_eq x ds))))
    by_test true kept gone = kept
    by_test false kept gone = join _ _ (less_is _ less) gone

-- a chunk's disk is at least that of a chunk before it
still_past : (a : DiskId) (b c : ChunkKey) → disk_cmp a b.disk ≡ Less → chunk_cmp b c ≡ Less → disk_cmp a c.disk ≡ Less
still_past a b c less later = grind arith

rises : (b c : ChunkKey) → chunk_cmp b c ≡ Less → disk_eq c.disk b.disk ≡ false → disk_cmp b.disk c.disk ≡ Less
unfolding disk_eq
rises b c later other = grind arith

module _ {X : Type 0} where
  past_each : (a : DiskId) (b : ChunkKey) (es : List (ChunkKey × X)) → disk_cmp a b.disk ≡ Less → T (below_all chunk_cmp b es)
      → T (below_all disk_cmp a (tagged (map (λ e. e.0.disk) es)))
  past_each a b [] less below = tt
  past_each a b (e ∷ es) less below =
      join _ _ (less_is _ (still_past a b e.0 less (is_less _ (both _ _ below).0))) (past_each a b es less (both _ _ below).1)

  sorted_once : (e : ChunkKey × X) (es : List (ChunkKey × X)) → T (below_all chunk_cmp e.0 es) → T (is_sorted chunk_cmp es)
      → T (is_sorted disk_cmp (tagged (dedup_from disk_eq e.0.disk (map (λ x. x.0.disk) es))))
  sorted_once e [] below rising = tt
  sorted_once e (x ∷ es) below rising =
      by_test (disk_eq x.0.disk e.0.disk) refl (sorted_once e es (both _ _ below).1 (both _ _ rising).1)
      (sorted_once x es (both _ _ rising).0 (both _ _ rising).1)
    where
      by_test : (t : Bool) → disk_eq x.0.disk e.0.disk ≡ t
          → T (is_sorted disk_cmp (tagged (dedup_from disk_eq e.0.disk (map (λ x. x.0.disk) es))))
          → T (is_sorted disk_cmp (tagged (dedup_from disk_eq x.0.disk (map (λ x. x.0.disk) es))))
          → T (is_sorted disk_cmp (tagged (cond t (dedup_from disk_eq e.0.disk (map (λ x. x.0.disk) es))
          (e.0.disk ∷ dedup_from disk_eq x.0.disk (map (λ x. x.0.disk) es)))))
      by_test true same here behind = here
      by_test false other here behind =
          let less : disk_cmp e.0.disk x.0.disk ≡ Less = rises e.0 x.0 (is_less _ (both _ _ below).0) other in
          join _ _ (below_each e.0.disk x.0.disk (map (λ x. x.0.disk) es) less (past_each e.0.disk x.0 es less (both _ _ rising).0)) behind

  tags : (es : List (ChunkKey × X)) → tagged (map (λ e. e.0.disk) es) ≡ disks_tagged es
  tags [] = refl
  tags (e ∷ es) = ap (λ (ds : List (DiskId × Unit {0})). (e.0.disk, tt) ∷ ds) (tags es)

shadowed : (s t : Bool) (o : Option (Unit {0})) → s ≡ t → cond s (Some tt) o ≡ cond s (Some tt) (cond t (Some tt) o)
shadowed true t o same = refl
shadowed false true o same = absurd (grind (arith, same))
shadowed false false o same = refl

found_once : (q k : DiskId) (ds : List DiskId)
    → find disk_cmp q (tagged (dedup_from disk_eq k ds)) ≡ find disk_cmp q ((k, tt) ∷ tagged ds)
found_once q k [] = refl
found_once q k (x ∷ ds) = by_test (disk_eq x k) refl (found_once q k ds) (found_once q x ds)
  where
    by_test : (t : Bool) → disk_eq x k ≡ t → find disk_cmp q (tagged (dedup_from disk_eq k ds)) ≡ find disk_cmp q ((k, tt) ∷ tagged ds)
        → find disk_cmp q (tagged (dedup_from disk_eq x ds)) ≡ find disk_cmp q ((x, tt) ∷ tagged ds)
        → find disk_cmp q (tagged (cond t (dedup_from disk_eq k ds) (k ∷ dedup_from disk_eq x ds)))
        ≡ find disk_cmp q ((k, tt) ∷ (x, tt) ∷ tagged ds)
    by_test true e kept gone =
        let same : k ≡ x = grind (arith, e, disk_eq_cases x k) in
        kept ∙ shadowed (eq_by_cmp disk_cmp q k) (eq_by_cmp disk_cmp q x) (find disk_cmp q (tagged ds))
        (ap (λ (d : DiskId). eq_by_cmp disk_cmp q d) same)
    by_test false e kept gone = ap (λ (o : Option (Unit {0})). cond (eq_by_cmp disk_cmp q k) (Some tt) o) gone

pub once_keys : {X : Type 0} (rows : List (ChunkKey × X)) → T (is_sorted chunk_cmp rows)
    → dedup disk_eq (map (λ e. e.0.disk) rows) ≡ keys (from_entries {R = disk_cmp} (disks_tagged rows))
once_keys rows rising =
    sym (untagged (dedup disk_eq (map (λ e. e.0.disk) rows)))
    ∙ ap (map (λ e. e.0))
    (same_entries disk_cmp disk_cmp_total disk_antisymmetric (tagged (dedup disk_eq (map (λ e. e.0.disk) rows)))
    (entries (from_entries {R = disk_cmp} (disks_tagged rows))) (sorted rows rising) (entries_sorted (from_entries (disks_tagged rows)))
    (λ q. found rows q ∙ sym (get-from_entries disk_cmp_total (disks_tagged rows) q)
    ∙ get-entries (from_entries (disks_tagged rows)) q))
  where
    sorted : {X : Type 0} (es : List (ChunkKey × X)) → T (is_sorted chunk_cmp es)
        → T (is_sorted disk_cmp (tagged (dedup disk_eq (map (λ e. e.0.disk) es))))
    sorted [] up = tt
    sorted (e ∷ es) up = sorted_once e es (both _ _ up).0 (both _ _ up).1

    found : {X : Type 0} (es : List (ChunkKey × X)) (q : DiskId)
        → find disk_cmp q (tagged (dedup disk_eq (map (λ e. e.0.disk) es))) ≡ find disk_cmp q (disks_tagged es)
    found [] q = refl
    found (e ∷ es) q =
        found_once q e.0.disk (map (λ x. x.0.disk) es)
        ∙ ap (λ (ds : List (DiskId × Unit {0})). find disk_cmp q ((e.0.disk, tt) ∷ ds)) (tags es)
