-- a change of a file that leaves it as it is
use Rattle.std.proofs.Common.{◌≡◌, Option, sym}
use Rattle.std.specs.FinMap.{FinMap, get}
use Rattle.tect_ids.specs.declared.ids.FileId.{FileId}
use Rattle.tect_ids.specs.Keys.{file_cmp}
use Rattle.tect_ids.proofs.KeyTests.{file_cmp_total, file_antisymmetric}
use Rattle.map_words.specs.Maps.{set_at}
use Rattle.map_words.proofs.Maps.{set_at_same}
use Rattle.tree_model.specs.declared.step.TreeFile.{TreeFile}

-- a file that is not there, or stays as it was
pub same_files : (files : FinMap file_cmp TreeFile) (f : FileId) (x : Option TreeFile) → get files f ≡ x → files ≡ set_at files f x
same_files files f x is = sym (set_at_same file_cmp_total file_antisymmetric files f x is)
