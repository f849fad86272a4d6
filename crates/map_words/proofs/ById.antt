-- pairs by number as maps
use Rattle.std.proofs.Common.{◌≡◌, ℕ, List, [], Some, None, Option, length}
use Rattle.std.specs.Ordering.{nat_cmp}
use Rattle.std.specs.Cmp.{nat_cmp_total}
use Rattle.std.specs.FinMap.{FinMap, empty, get, len, entries, find, put, from_sorted, nat_cmp-IsAntisymmetric}
use Rattle.map_words.specs.Pairs.{IsRising, without, pairs_after}
use Rattle.map_words.specs.Maps.{set_at, entries_after}
use Rattle.map_words.proofs.Made.{map_new, map_get, map_put, map_take, map_len, map_after, map_entries}

pub id_rows_new : {X : Type 0} → ◌≡◌ {A = FinMap nat_cmp X} (from_sorted []) empty
id_rows_new = map_new nat_cmp nat_cmp_total nat_cmp-IsAntisymmetric

module _ {X : Type 0} (rows : List (ℕ × X)) where
  pub id_rows_len : IsRising nat_cmp rows → len (from_sorted {R = nat_cmp} rows) ≡ length rows
  id_rows_len rising = map_len nat_cmp rows rising

  pub id_rows_get : (k : ℕ) → IsRising nat_cmp rows → get (from_sorted {R = nat_cmp} rows) k ≡ find nat_cmp k rows
  id_rows_get k rising = map_get nat_cmp rows k rising

  pub id_rows_put : (k : ℕ) (v : X) → IsRising nat_cmp rows → from_sorted {R = nat_cmp} (put nat_cmp k v rows)
      ≡ set_at (from_sorted rows) k (Some v)
  id_rows_put k v rising = map_put nat_cmp nat_cmp_total nat_cmp-IsAntisymmetric rows k v rising

  pub id_rows_take : (k : ℕ) → IsRising nat_cmp rows → from_sorted {R = nat_cmp} (without nat_cmp k rows) ≡ set_at (from_sorted rows) k None
  id_rows_take k rising = map_take nat_cmp nat_cmp_total nat_cmp-IsAntisymmetric rows k rising

  pub id_rows_after : (k : Option ℕ) → IsRising nat_cmp rows → entries_after (from_sorted {R = nat_cmp} rows) k ≡ pairs_after nat_cmp k rows
  id_rows_after k rising = map_after nat_cmp rows k rising

  pub id_rows_entries : IsRising nat_cmp rows → entries (from_sorted {R = nat_cmp} rows) ≡ rows
  id_rows_entries rising = map_entries nat_cmp rows rising

pub ruleset id_rows = (id_rows_new, id_rows_len, id_rows_get, id_rows_put, id_rows_take, id_rows_after, id_rows_entries)
