-- What is kept under the numbers of ids, as what is kept under the ids.
use Rattle.std.specs.Prelude.{ℕ, List, map}
use Rattle.tect_ids.specs.declared.ids.BlkId.{BlkId}
use Rattle.tect_ids.specs.declared.ids.DirId.{DirId}
use Rattle.tect_ids.specs.declared.ids.FileId.{FileId}

abbrev pub dir_of : ℕ → DirId
dir_of n = record { 0 = n }

abbrev pub file_of : ℕ → FileId
file_of n = record { 0 = n }

abbrev pub blk_of : ℕ → BlkId
blk_of n = record { 0 = n }

abbrev pub by_ids : {K V : Type 0} → (ℕ → K) → List (ℕ × V) → List (K × V)
by_ids id l = map (λ e. (id e.0, e.1)) l
