-- What is kept under the numbers of ids, in the words of what is kept under the ids.
use Rattle.std.proofs.Common.{◌≡◌, ℕ, suc, ◌+◌, ◌-◌, ◌<◌, ◌≤◌, Bool, List, [], ◌∷◌, length, take, nat_eq, Option, Some, None}
use Rattle.std.proofs.Common.{refl, sym, ap, subst, ◌∙◌, arith}
use Rattle.std.specs.Map.{lookup, lookup_entry, remove_entry}
use Rattle.std.specs.Option.{option_map, option_map_or}
use Rattle.std.proofs.lemmas.List.{take_all, take-map}
use Rattle.lru.specs.LruCache.{LruCache, promoted, put_entries}
use Rattle.tect_ids.specs.declared.ids.BlkId.{BlkId}
use Rattle.tect_ids.specs.declared.ids.DirId.{DirId}
use Rattle.tect_ids.specs.declared.ids.FileId.{FileId}
use Rattle.tect_ids.specs.Keys.{blk_eq, dir_eq, file_eq}
use Rattle.sealed_cache.specs.Lists.{found, without, used, kept}
use Rattle.sealed_cache.specs.Numbered.{by_ids, blk_of, dir_of, file_of}

module _ {V : Type 0} (n : ℕ) where
  entry_found : (es : List (ℕ × V)) → lookup_entry (nat_eq n) es ≡ option_map (λ v. (n, v)) (lookup (nat_eq n) es)
  entry_found [] = refl
  entry_found (e ∷ es) = grind (arith, entry_found es)

  without_none : (es : List (ℕ × V)) → lookup (nat_eq n) es ≡ None → remove_entry (nat_eq n) es ≡ es
  without_none [] gone = refl
  without_none (e ∷ es) gone = grind (arith, without_none es)

  length-without : (es : List (ℕ × V)) (v : V) → lookup (nat_eq n) es ≡ Some v → length (remove_entry (nat_eq n) es) + 1 ≡ length es
  length-without [] v there = cc
  length-without (e ∷ es) v there = grind (arith, length-without es v)

  -- ids are equal where their numbers are
  module _ {K : Type 0} (id : ℕ → K) (eq : K → K → Bool) (by_number : (m : ℕ) → eq (id n) (id m) ≡ nat_eq n m) where
    found_by_ids : (es : List (ℕ × V)) → found eq (id n) (by_ids id es) ≡ lookup (nat_eq n) es
    found_by_ids [] = refl
    found_by_ids (e ∷ es) = rw (by_number e.0, found_by_ids es) refl

    without_by_ids : (es : List (ℕ × V)) → without eq (id n) (by_ids id es) ≡ by_ids id (remove_entry (nat_eq n) es)
    without_by_ids [] = refl
    without_by_ids (e ∷ es) = grind (arith, by_number e.0, without_by_ids es)

    used_by_ids : (es : List (ℕ × V)) → by_ids id (promoted (nat_eq n) es) ≡ used eq (id n) (by_ids id es)
    used_by_ids es = rw (entry_found es, found_by_ids es, without_by_ids es) (at (lookup (nat_eq n) es))
      where
        at : (o : Option V) → by_ids id (option_map_or (λ e. e ∷ remove_entry (nat_eq n) es) (option_map (λ v. (n, v)) o) es)
            ≡ option_map_or (λ v. (id n, v) ∷ by_ids id (remove_entry (nat_eq n) es)) o (by_ids id es)
        at None = refl
        at (Some v) = refl

    module _ (c : LruCache ℕ V) (v : V) (some : 0 < c.cap) (fits : length c.entries ≤ c.cap) where
      put_first : List (ℕ × V)
      put_first = take c.cap ((n, v) ∷ remove_entry (nat_eq n) c.entries)

      put_at : (o : Option V) → lookup (nat_eq n) c.entries ≡ o → put_entries nat_eq c n v ≡ put_first
      unfolding put_first
      put_at None gone =
          let more : c.cap ≡ suc (c.cap - 1) = omega arith in
          let same = without_none c.entries gone in
          rw (entry_found c.entries, gone, same)
          (subst (λ m. (n, v) ∷ take (c.cap - 1) c.entries ≡ take m ((n, v) ∷ c.entries)) (sym more) refl)
      put_at (Some w) there =
          let short = length-without c.entries w there in
          rw (entry_found c.entries, there) (sym (take_all c.cap ((n, v) ∷ remove_entry (nat_eq n) c.entries) (omega (arith, short))))

      kept_by_ids : by_ids id (put_entries nat_eq c n v) ≡ kept eq c.cap (id n) v (by_ids id c.entries)
      unfolding put_first
      kept_by_ids =
          let all = (n, v) ∷ remove_entry (nat_eq n) c.entries in
          ap (by_ids id) (put_at (lookup (nat_eq n) c.entries) refl) ∙ sym (take-map (λ (e : ℕ × V). (id e.0, e.1)) c.cap all)
          ∙ ap (λ l. take c.cap ((id n, v) ∷ l)) (sym (without_by_ids c.entries))

dir_eq_number : (n m : ℕ) → dir_eq (dir_of n) (dir_of m) ≡ nat_eq n m
unfolding dir_eq
dir_eq_number n m = refl

file_eq_number : (n m : ℕ) → file_eq (file_of n) (file_of m) ≡ nat_eq n m
unfolding file_eq
file_eq_number n m = refl

blk_eq_number : (n m : ℕ) → blk_eq (blk_of n) (blk_of m) ≡ nat_eq n m
unfolding blk_eq
blk_eq_number n m = refl

module _ {V : Type 0} (es : List (ℕ × V)) where
  pub found_dir : (dir : DirId) → lookup (nat_eq dir.0) es ≡ found dir_eq dir (by_ids dir_of es)
  found_dir dir = sym (found_by_ids dir.0 dir_of dir_eq (dir_eq_number dir.0) es)

  pub used_dir : (dir : DirId) → by_ids dir_of (promoted (nat_eq dir.0) es) ≡ used dir_eq dir (by_ids dir_of es)
  used_dir dir = used_by_ids dir.0 dir_of dir_eq (dir_eq_number dir.0) es

  pub found_file : (file : FileId) → lookup (nat_eq file.0) es ≡ found file_eq file (by_ids file_of es)
  found_file file = sym (found_by_ids file.0 file_of file_eq (file_eq_number file.0) es)

  pub used_file : (file : FileId) → by_ids file_of (promoted (nat_eq file.0) es) ≡ used file_eq file (by_ids file_of es)
  used_file file = used_by_ids file.0 file_of file_eq (file_eq_number file.0) es

  pub found_blk : (blk : BlkId) → lookup (nat_eq blk.0) es ≡ found blk_eq blk (by_ids blk_of es)
  found_blk blk = sym (found_by_ids blk.0 blk_of blk_eq (blk_eq_number blk.0) es)

  pub used_blk : (blk : BlkId) → by_ids blk_of (promoted (nat_eq blk.0) es) ≡ used blk_eq blk (by_ids blk_of es)
  used_blk blk = used_by_ids blk.0 blk_of blk_eq (blk_eq_number blk.0) es

-- a cache that holds at most that many
module _ {V : Type 0} (c : LruCache ℕ V) (v : V) (some : 0 < c.cap) (fits : length c.entries ≤ c.cap) (bound : ℕ)
    (holds : c.cap ≡ bound) where
  pub kept_dir : (dir : DirId) → by_ids dir_of (put_entries nat_eq c dir.0 v) ≡ kept dir_eq bound dir v (by_ids dir_of c.entries)
  kept_dir dir = kept_by_ids dir.0 dir_of dir_eq (dir_eq_number dir.0) c v some fits
      ∙ ap (λ b. kept dir_eq b dir v (by_ids dir_of c.entries)) holds

  pub kept_file : (file : FileId) → by_ids file_of (put_entries nat_eq c file.0 v) ≡ kept file_eq bound file v (by_ids file_of c.entries)
  kept_file file = kept_by_ids file.0 file_of file_eq (file_eq_number file.0) c v some fits
      ∙ ap (λ b. kept file_eq b file v (by_ids file_of c.entries)) holds

  pub kept_blk : (blk : BlkId) → by_ids blk_of (put_entries nat_eq c blk.0 v) ≡ kept blk_eq bound blk v (by_ids blk_of c.entries)
  kept_blk blk = kept_by_ids blk.0 blk_of blk_eq (blk_eq_number blk.0) c v some fits
      ∙ ap (λ b. kept blk_eq b blk v (by_ids blk_of c.entries)) holds
