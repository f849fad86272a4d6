-- How rows of files are stored as plain data, which tells their values apart.
use Rattle.std.specs.Prelude.{ℕ, refl}
use Rattle.std.specs.Coded.{Coded, code_by, coded×, coded_ℕ}
use Rattle.tect_ids.specs.declared.ids.BlkId.{BlkId}
use Rattle.tect_ids.specs.declared.ids.Hold.{Hold}
use Rattle.tect_ids.specs.Codes.{blk_code, hold_code}
use Rattle.store_rules.specs.declared.file_rows.FileRow.{FileRow}

abbrev pub file_row_code : Coded FileRow
file_row_code =
    code_by (BlkId × (ℕ × Hold)) (coded× blk_code (coded× coded_ℕ hold_code)) (λ r. (r.blk, (r.len, r.hold)))
    (λ p. record { blk = p.0; len = p.1.0; hold = p.1.1 }) (λ _. refl)
