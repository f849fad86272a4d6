-- How blocks of files are stored as plain data, which tells their values apart.
use Rattle.std.specs.Prelude.{ℕ, List, refl}
use Rattle.std.specs.Coded.{Coded, code_by, coded×, coded_ℕ, coded_list}
use Rattle.tect_ids.specs.declared.ids.BlkId.{BlkId}
use Rattle.tect_ids.specs.Codes.{blk_code}
use Rattle.tree_model.specs.declared.blocks.TreeBlock.{TreeBlock}

abbrev pub tree_block_code : Coded TreeBlock
tree_block_code =
    code_by (BlkId × List ℕ) (coded× blk_code (coded_list coded_ℕ)) (λ b. (b.blk, b.bytes)) (λ p. record { blk = p.0; bytes = p.1 })
    (λ _. refl)
