-- a change of a directory that leaves it as it is
use Rattle.std.proofs.Common.{◌≡◌, Option, sym}
use Rattle.std.specs.FinMap.{FinMap, get}
use Rattle.tect_ids.specs.declared.ids.DirId.{DirId}
use Rattle.tect_ids.specs.Keys.{dir_cmp}
use Rattle.tect_ids.proofs.KeyTests.{dir_cmp_total, dir_antisymmetric}
use Rattle.map_words.specs.Maps.{set_at}
use Rattle.map_words.proofs.Maps.{set_at_same}
use Rattle.tree_model.specs.declared.step.TreeDir.{TreeDir}

-- a directory that is not there, or stays as it was
pub same_dirs : (dirs : FinMap dir_cmp TreeDir) (d : DirId) (x : Option TreeDir) → get dirs d ≡ x → dirs ≡ set_at dirs d x
same_dirs dirs d x is = sym (set_at_same dir_cmp_total dir_antisymmetric dirs d x is)
