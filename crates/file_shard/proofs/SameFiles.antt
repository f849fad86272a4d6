-- a change of a file that leaves it as it is
use Rattle.std.proofs.Common.{◌≡◌, Option, sym}
use Rattle.std.specs.FinMap.{get}
use Rattle.tect_ids.specs.declared.ids.FileId.{FileId}
use Rattle.tect_ids.proofs.KeyTests.{file_cmp_total, file_antisymmetric}
use Rattle.map_words.specs.Maps.{set_at}
use Rattle.map_words.proofs.Maps.{set_at_same}
use Rattle.store_rules.specs.declared.files.File.{File}
use Rattle.store_rules.specs.Files.{Files}

-- a file that is not there, or whose row stays as it was
pub same_files : (files : Files) (f : FileId) (x : Option File) → get files f ≡ x → files ≡ set_at files f x
same_files files f x is = sym (set_at_same file_cmp_total file_antisymmetric files f x is)
