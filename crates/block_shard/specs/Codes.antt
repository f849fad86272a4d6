-- How a shard's blocks are stored as plain data, which tells their values apart.
use Rattle.std.specs.Prelude.{◌≡◌, ℕ, Bool, refl}
use Rattle.std.specs.Coded.{Coded, code_by, coded×, coded_bool, coded_ℕ}
use Rattle.std.specs.FinMap as map
use Rattle.std.specs.FinMap.{FinMap}
use Rattle.tect_ids.specs.declared.key.Upper.{Upper}
use Rattle.tect_ids.specs.declared.values.BlockRow.{BlockRow}
use Rattle.tect_ids.specs.declared.values.Class.{Class}
use Rattle.tect_ids.specs.declared.values.Class.TheVariants.{Copies}
use Rattle.tect_ids.specs.Keys.{disk_cmp, hold_cmp}
use Rattle.tect_ids.specs.Codes.{blk_code, block_row_code, disk_code, hold_code, upper_code}
use Rattle.store_rules.specs.declared.blocks.Block.{Block}
use Rattle.store_rules.specs.Blocks.{Blocks}

abbrev pub class_number : Class → ℕ
class_number Copies = 0

abbrev pub class_of_number : ℕ → Class
class_of_number _ = Copies

abbrev pub class_of_its_number : (c : Class) → class_of_number (class_number c) ≡ c
class_of_its_number Copies = refl

abbrev pub class_code : Coded Class
class_code = code_by ℕ coded_ℕ class_number class_of_number class_of_its_number

abbrev pub block_code : Coded Block
block_code =
    code_by (Class × (ℕ × (Bool × (ℕ × (FinMap hold_cmp Upper × FinMap disk_cmp BlockRow)))))
    (coded× class_code (coded× coded_ℕ (coded× coded_bool (coded× coded_ℕ
    (coded× (map.code hold_code upper_code) (map.code disk_code block_row_code))))))
    (λ b. (b.class, (b.len, (b.sealed, (b.version, (b.holds, b.rows))))))
    (λ p. record { class = p.0; len = p.1.0; sealed = p.1.1.0; version = p.1.1.1.0; holds = p.1.1.1.1.0; rows = p.1.1.1.1.1 }) (λ _. refl)

abbrev pub blocks_code : Coded Blocks
blocks_code = map.code blk_code block_code
