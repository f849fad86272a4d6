-- How the tree is stored as plain data, which tells its values apart.
use Rattle.std.specs.Prelude.{Bool, List, Option, refl}
use Rattle.std.specs.Coded.{Coded, code_by, coded×, coded_bool, coded_list, coded_option}
use base.Stored.{coded_unit}
use Rattle.std.specs.FinMap as map
use Rattle.std.specs.FinMap.{FinMap}
use Rattle.tect_ids.specs.declared.ids.DirId.{DirId}
use Rattle.tect_ids.specs.declared.ids.OpId.{OpId}
use Rattle.tect_ids.specs.declared.ids.Node.{Node}
use Rattle.tect_ids.specs.Keys.{dir_cmp, file_cmp, key_cmp, node_cmp}
use Rattle.tect_ids.specs.Codes.{dir_code, file_code, key_code, node_code, op_code}
use Rattle.tree_model.specs.declared.blocks.TreeBlock.{TreeBlock}
use Rattle.tree_model.specs.declared.step.TreeDir.{TreeDir}
use Rattle.tree_model.specs.declared.step.TreeFile.{TreeFile}
use Rattle.tree_model.specs.BlockCodes.{tree_block_code}
use Rattle.tree_model.specs.Tree.{Tree}

abbrev pub tree_dir_code : Coded TreeDir
tree_dir_code = code_by (DirId × Bool) (coded× dir_code coded_bool) (λ d. (d.parent, d.sealed)) (λ p. record {
  parent =
      p.0;
  sealed = p.1;
}) (λ _. refl)

abbrev pub tree_file_code : Coded TreeFile
tree_file_code =
    code_by (Option OpId × (Bool × List TreeBlock)) (coded× (coded_option op_code) (coded× coded_bool (coded_list tree_block_code)))
    (λ f. (f.token, (f.sealed, f.blocks))) (λ p. record { token = p.0; sealed = p.1.0; blocks = p.1.1 }) (λ _. refl)

abbrev pub tree_code : Coded Tree
tree_code =
    code_by (FinMap dir_cmp TreeDir × (FinMap key_cmp Node × (FinMap file_cmp TreeFile × FinMap node_cmp (Unit {0}))))
    (coded× (map.code dir_code tree_dir_code) (coded× (map.code key_code node_code)
    (coded× (map.code file_code tree_file_code) (map.code node_code coded_unit))))
    (λ t. (t.dirs, (t.entries, (t.files, t.made)))) (λ p. record {
      dirs = p.0;
      entries = p.1.0;
      files = p.1.1.0;
      made =
          p.1.1.1;
    }) (λ _. refl)
