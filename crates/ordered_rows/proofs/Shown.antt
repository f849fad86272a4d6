-- what stands in a list's parts, when the list is searched and edited
use Rattle.std.proofs.Common.{◌≡◌, ℕ, suc, ◌<◌, ◌≤◌, Bool, List, [], ◌∷◌, map, length, take, drop, arith}
use Rattle.std.specs.List.{insert, remove, HoldsAt, AllWithin}
use Rattle.std.specs.List.Sorted.{IsPartitionedBy, IsPartitionPoint}
use Rattle.std.proofs.lemmas.List.{get_or-map, length-map, map-append, take-map, drop-map}

module _ {X Y : Type 0} (f : X → Y) where
  pub map-insert : (xs : List X) (i : ℕ) (x : X) → map f (insert xs i x) ≡ insert (map f xs) i (f x)
  map-insert xs i x = grind (arith, map-append f (take i xs) (x ∷ drop i xs), take-map f i xs, drop-map f i xs)

  pub map-remove : (xs : List X) (i : ℕ) → map f (remove xs i) ≡ remove (map f xs) i
  map-remove xs i = grind (arith, map-append f (take i xs) (drop (suc i) xs), take-map f i xs, drop-map f (suc i) xs)

  -- what holds of f at the place holds there of the list that f makes
  holds_in_map : (P : Y → Type 0) (xs : List X) (i : ℕ) → i < length xs → HoldsAt (λ x. P (f x)) xs i → HoldsAt P (map f xs) i
  holds_in_map P [] i lt holds d = absurd (omega arith)
  holds_in_map P (x ∷ xs) i lt holds d = rw (get_or-map f (x ∷ xs) i x d lt) (holds x)

  all_in_map : (P : Y → Type 0) (xs : List X) (low high : ℕ) → high ≤ length xs → AllWithin (λ x. P (f x)) xs low high
      → AllWithin P (map f xs) low high
  all_in_map P xs low high in_range holds k d from below = holds_in_map P xs k (omega arith) (λ x. holds k x from below) d

  pub parted_map : (P Q : Y → Type 0) (xs : List X) (i : ℕ) → i ≤ length xs
      → IsPartitionPoint (λ x. P (f x)) (λ x. Q (f x)) xs i → IsPartitionPoint P Q (map f xs) i
  parted_map P Q xs i in_range parted =
      (all_in_map P xs 0 i in_range parted.0, rw (length-map xs f) (all_in_map Q xs i (length xs) (omega arith) parted.1))

  -- what parts the list that f makes parts the list
  pub partitioned_map : (p : Y → Bool) (xs : List X) → IsPartitionedBy p (map f xs) → IsPartitionedBy (λ x. p (f x)) xs
  partitioned_map p xs parted i j d le in_range passes =
      grind (arith, parted i j (f d) le, length-map xs f, get_or-map f xs i d (f d), get_or-map f xs j d (f d))
