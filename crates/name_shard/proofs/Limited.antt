-- no directory comes to have too many entries
use Rattle.std.proofs.Common.{◌≡◌, ℕ, ◌<◌, ◌≤◌, true, List, Option, Some, None, is_some, refl, arith}
use Rattle.std.specs.FinMap.{FinMap, get, len}
use Rattle.tect_ids.specs.declared.ids.DirId.{DirId}
use Rattle.tect_ids.specs.declared.key.Key.{Key}
use Rattle.tect_ids.specs.Keys.{key_cmp}
use Rattle.tect_ids.proofs.KeyTests.{dir_eq_cases}
use Rattle.map_words.specs.Maps.{set_at}
use Rattle.key_words.specs.Maps.{within as entries_of}
use Rattle.key_words.proofs.Counts.{len-within_put, len-within_taken, len-within_positive}
use Rattle.store_rules.specs.declared.names.DirectoryEntry.{DirectoryEntry}
use Rattle.store_rules.specs.Names.{entry_limit, key_in}
use Rattle.name_shard.specs.Limits.{HasRoom, IsWithinLimit}

pub limit_put : (m : FinMap key_cmp DirectoryEntry) (k : Key) (e : DirectoryEntry) → IsWithinLimit m
    → HasRoom m k → IsWithinLimit (set_at m k (Some e))
limit_put m k e s room = record { count = λ d. put d (get m k) refl }
  where
    put : (d : DirId) (x : Option DirectoryEntry) → get m k ≡ x → len (entries_of (set_at m k (Some e)) d) ≤ entry_limit
    put d None is = grind (arith, len-within_put m k e d, s.count d, is, room is, dir_eq_cases k.dir d)
    put d (Some x) is = grind (arith, len-within_put m k e d, s.count d, is)

pub limit_taken : (m : FinMap key_cmp DirectoryEntry) (k : Key) → IsWithinLimit m → IsWithinLimit (set_at m k None)
limit_taken m k s = record { count = λ d. grind (arith, len-within_taken m k d, s.count d) }

-- after a swap: where the new name was free, the old one has made room
pub limit_swapped : (s : FinMap key_cmp DirectoryEntry) (d : DirId) (n m : List ℕ) (e : DirectoryEntry) → IsWithinLimit s
    → is_some (get s (key_in d n)) ≡ true → IsWithinLimit (set_at (set_at s (key_in d n) None) (key_in d m) (Some e))
limit_swapped s d n m e within stands = limit_put (set_at s (key_in d n) None) (key_in d m) e (limit_taken s (key_in d n) within) (λ free.
    by_entry (get s (key_in d n)) refl)
  where
    by_entry : (old : Option DirectoryEntry) → get s (key_in d n) ≡ old → len (entries_of (set_at s (key_in d n) None) d) < entry_limit
    by_entry None is = absurd (grind (arith, is, stands))
    by_entry (Some old) is = grind (
      arith,
      len-within_taken s (key_in d n) d,
      len-within_positive s (key_in d n) old is,
      within.count d,
      is,
      dir_eq_cases d d,
    )
