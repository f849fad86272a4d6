-- On which disks a new block lies, and with which tags.
use Rattle.std.specs.Prelude.{ℕ, zero, suc, ◌+◌, ◌%◌, List, [], ◌∷◌, max}
use Rattle.tect_ids.specs.declared.ids.Counts.{Counts}
use Rattle.tect_ids.specs.declared.ids.OpId.{OpId}
use Rattle.tect_ids.specs.declared.values.NewRow.{NewRow}
use Rattle.tect_ids.specs.Places.{id_hash}

-- over how many disks blocks are spread, and on how many of them each lies
pub record Spread : Type 0 where
  pub disks : ℕ
  pub copies : ℕ

-- a block lies on at least one disk
abbrev pub copies_of : Counts → ℕ
copies_of c = max c.copies 1

abbrev pub spread_of : Counts → Spread
spread_of c = record { disks = c.disks; copies = copies_of c }

-- the first of its disks: its number, spread over the disks
abbrev pub first_disk : Spread → ℕ → ℕ
first_disk p number = id_hash number % p.disks

-- So many rows on the disks from that one upwards, and round. Their tags are numbered from that one.
unfoldable pub rows_on : ℕ → OpId → ℕ → ℕ → ℕ → List NewRow
rows_on disks op from part zero = []
rows_on disks op from part (suc n) =
    record { disk = record { 0 = (from + part) % disks }; tag = record { op = op; part = part } } ∷ rows_on disks op from (part + 1) n

-- the rows of the block with that number, which an op makes: one for each copy
abbrev pub new_rows : Spread → OpId → ℕ → List NewRow
new_rows p op number = rows_on p.disks op (first_disk p number) 0 p.copies
