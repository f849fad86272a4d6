-- Holds of rows that were granted, and neither bound nor given up.
use Rattle.std.specs.Prelude.{◌≡◌, ◌≢◌, ℕ, true, Some, is_some}
use Rattle.std.specs.FinMap.{get}
use Rattle.tect_ids.specs.declared.ids.FileId.{FileId}
use Rattle.tect_ids.specs.declared.key.Upper.TheVariants as uppers
use Rattle.store_rules.specs.declared.file_rows.FileRow.{FileRow}
use Rattle.store_rules.specs.Holds.{RowGrant}
use Rattle.store_rules.specs.Store.{Store}
use Rattle.store_pasts.specs.Pasts.{row_at}
use Rattle.store_world.specs.Sound.{lists_row}

-- It is bound at no row, and its block stands and lists it for a row of its file.
pub record IsRowHeld (s : Store) (g : RowGrant) : Type 0 where
  pub bound_nowhere : (f : FileId) (i : ℕ) (r : FileRow) → row_at s f i ≡ Some r → r.hold ≢ g.hold
  pub stands : is_some (get s.blocks g.blk) ≡ true
  pub listed : lists_row s g.blk g.hold ≡ Some (uppers.Row g.file)
