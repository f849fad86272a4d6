-- Where the bytes of a name lie.
use Rattle.std.specs.Prelude.{ℕ, ◌<◌, List, length}
use Rattle.tect_ids.specs.declared.name_bytes.NameBytes.{NameBytes}
use Rattle.tect_ids.specs.declared.name_bytes.NameBytes.TheVariants.{Inline, Heap}

abbrev pub bytes_of : NameBytes → List ℕ
bytes_of (Inline short) = short
bytes_of (Heap bytes) = bytes.items

-- only bytes that are too many for the value itself lie in an allocation
abbrev pub IsPlaced : NameBytes → Type 0
IsPlaced (Inline short) = Unit {0}
IsPlaced (Heap bytes) = 30 < length bytes.items
