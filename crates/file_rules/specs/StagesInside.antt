-- What is so of the stages of an append.
use Rattle.std.specs.Prelude.{◌≡◌, Some, length, take}
use Rattle.std.specs.List.{slice_get}
use Rattle.tect_calls.specs.MadeBlocks.{chunks_of}
use Rattle.file_rules.specs.declared.putting.Putting.TheInside as putting
use Rattle.file_rules.specs.declared.putting.Sealing.TheInside as sealing

-- the chunks that are stored are those of the first rows, and the one that is put is that of the next
pub record IsPutting (a : putting.Inside) : Type 0 where
  pub stored : a.stored ≡ take (length a.stored) (chunks_of a.made)
  pub next : slice_get (chunks_of a.made) (length a.stored) ≡ Some a.row

-- the chunk of each row is stored
pub record IsSealing (a : sealing.Inside) : Type 0 where
  pub stored : a.stored ≡ chunks_of a.made
