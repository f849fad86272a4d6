-- rows by path as a map
use Rattle.std.proofs.Common.{◌≡◌, ℕ, List, [], Some}
use Rattle.std.specs.Cmp.{IsTotalOrder}
use Rattle.std.specs.FinMap.{FinMap, IsAntisymmetric, empty, get, find, put, from_sorted, slice_cmp-IsAntisymmetric, nat_cmp-IsAntisymmetric}
use Rattle.map_words.specs.Pairs.{IsRising}
use Rattle.map_words.specs.Maps.{set_at}
use Rattle.map_words.proofs.Made.{map_new, map_get, map_put}
use Rattle.program_forms.specs.Memories.{OpenedFile, path_cmp}
use Rattle.memories.specs.contracts.path_key.PathKeyOrd.TheImpl.Laws as path_laws

path_cmp_total : IsTotalOrder path_cmp
path_cmp_total = path_laws.total-law

path_antisymmetric : IsAntisymmetric path_cmp
path_antisymmetric = slice_cmp-IsAntisymmetric (slice_cmp-IsAntisymmetric nat_cmp-IsAntisymmetric)

pub opened_rows_new : ◌≡◌ {A = FinMap path_cmp OpenedFile} (from_sorted []) empty
opened_rows_new = map_new path_cmp path_cmp_total path_antisymmetric

module _ (rows : List (List (List ℕ) × OpenedFile)) (path : List (List ℕ)) where
  pub opened_rows_get : IsRising path_cmp rows → get (from_sorted {R = path_cmp} rows) path ≡ find path_cmp path rows
  opened_rows_get rising = map_get path_cmp rows path rising

  pub opened_rows_put : (opened : OpenedFile) → IsRising path_cmp rows → from_sorted {R = path_cmp} (put path_cmp path opened rows)
      ≡ set_at (from_sorted rows) path (Some opened)
  opened_rows_put opened rising = map_put path_cmp path_cmp_total path_antisymmetric rows path opened rising

pub ruleset opened_rows = (opened_rows_new, opened_rows_get, opened_rows_put)
