-- How a shard's files are stored as plain data, which tells their values apart.
use Rattle.std.specs.Prelude.{Bool, List, Option, refl}
use Rattle.std.specs.Coded.{Coded, code_by, coded×, coded_bool, coded_list, coded_option}
use Rattle.std.specs.FinMap as map
use Rattle.std.specs.FinMap.{FinMap}
use Rattle.tect_ids.specs.declared.ids.OpId.{OpId}
use Rattle.tect_ids.specs.declared.key.Upper.{Upper}
use Rattle.tect_ids.specs.Keys.{hold_cmp}
use Rattle.tect_ids.specs.Codes.{file_code, op_code, hold_code, upper_code}
use Rattle.store_rules.specs.declared.file_rows.FileRow.{FileRow}
use Rattle.store_rules.specs.declared.files.File.{File}
use Rattle.store_rules.specs.Codes.{file_row_code}
use Rattle.store_rules.specs.Files.{Files}

abbrev pub row_code : Coded File
row_code =
    code_by (Option OpId × (Bool × (FinMap hold_cmp Upper × List FileRow)))
    (coded× (coded_option op_code) (coded× coded_bool (coded× (map.code hold_code upper_code) (coded_list file_row_code))))
    (λ f. (f.token, (f.sealed, (f.holds, f.rows))))
    (λ p. record { token = p.0; sealed = p.1.0; holds = p.1.1.0; rows = p.1.1.1 }) (λ _. refl)

abbrev pub files_code : Coded Files
files_code = map.code file_code row_code
