-- What is read of the past: what was made, and how far a hold has come.
use Rattle.std.specs.Prelude.{◌≡◌, ℕ, Bool, true, false, List, Option, Some, None, is_some}
use Rattle.std.specs.FinMap.{get}
use Rattle.tect_ids.specs.declared.ids.BlkId.{BlkId}
use Rattle.tect_ids.specs.declared.ids.DirId.{DirId}
use Rattle.tect_ids.specs.declared.ids.DiskId.{DiskId}
use Rattle.tect_ids.specs.declared.ids.FileId.{FileId}
use Rattle.tect_ids.specs.declared.ids.Hold.{Hold}
use Rattle.tect_ids.specs.declared.ids.Node.{Node}
use Rattle.tect_ids.specs.declared.ids.OpId.{OpId}
use Rattle.tect_ids.specs.declared.ids.Tag.{Tag}
use Rattle.tect_ids.specs.declared.key.Key.{Key}
use Rattle.tect_ids.specs.declared.key.Upper.{Upper}
use Rattle.tect_ids.specs.declared.key.Upper.TheVariants as uppers
use Rattle.store_rules.specs.declared.file_rows.FileRow.{FileRow}
use Rattle.store_rules.specs.declared.names.Directory.{Directory}
use Rattle.store_rules.specs.Blocks.{Blocks}
use Rattle.store_rules.specs.Store.{Store}
use Rattle.store_pasts.specs.Ghosts.{HoldPhase, Live, Set, Past, Given, Ghost, World, RowLive, Born, TagHome}
use Rattle.store_pasts.specs.Contents.{row_given_spent, born_content, row_in, chunk_of}

-- whether the node was ever made
abbrev pub was_made : Ghost → Node → Bool
was_made g n = is_some (get g.made n)

-- whether the op can bind nothing in that directory any more: it stands no more
abbrev pub dead : Option Directory → OpId → Bool
dead None op = true
dead (Some d) op = false

-- the same of a directory by its identifier
abbrev pub dead_in : Store → DirId → OpId → Bool
dead_in s d op = dead (get s.names.dirs d) op

-- the node that a hold holds, and what it was granted for
abbrev pub leads : Option Given → Option (Node × Upper)
leads None = None
leads (Some g) = Some (g.lower, uppers.Entry g.upper)

-- whether a hold in that phase is not bound and never will be
abbrev pub phase_spent : HoldPhase → Bool → Bool
phase_spent Live no_more = no_more
phase_spent Set no_more = false
phase_spent Past no_more = true

-- the same of a hold that was granted, or not
abbrev pub given_spent : Store → OpId → Option Given → Bool
given_spent s op None = false
given_spent s op (Some g) = phase_spent g.phase (dead_in s g.upper.dir op)

-- whether the hold is not bound and never will be
abbrev pub is_spent : World → Hold → Bool
is_spent w h = given_spent w.store h.op (w.ghost.given h)

-- the hold was granted for that key, and is not bound yet
abbrev pub IsGranted : World → Hold → Node → Key → Type 0
IsGranted w h n k = w.ghost.given h ≡ Some record { lower = n; upper = k; phase = Live }

-- ---- of the rows of files, and of blocks

-- the row of a file at an index
abbrev pub row_at : Store → FileId → ℕ → Option FileRow
row_at s f i = row_in (get s.files f) i

-- the hold was granted for a row of that file, and is not bound yet
abbrev pub IsRowGranted : World → Hold → BlkId → FileId → Type 0
IsRowGranted w h b f = w.ghost.row_given h ≡ Some record { blk = b; file = f; phase = RowLive }

-- whether the hold is not bound to a row and never will be
abbrev pub is_row_spent : World → Hold → Bool
is_row_spent w h = row_given_spent (w.ghost.row_given h)

-- the content of a block: the bytes that its maker's command appends
abbrev pub content : Ghost → BlkId → Option (List ℕ)
content g b = born_content g.said (g.born b)

-- whether the chunk of that row stands
abbrev pub has_chunk : Store → BlkId → DiskId → Tag → Bool
has_chunk s b d t = is_some (get s.chunks (chunk_of b d t))

-- the blocks beside their past
pub record BlocksPart : Type 0 where
  pub now : Blocks
  pub born : BlkId → Option Born
  pub tagged : Tag → Option TagHome
  pub said : OpId → Option (List ℕ)

abbrev pub blocks_part : World → BlocksPart
blocks_part w = record { now = w.store.blocks; born = w.ghost.born; tagged = w.ghost.tagged; said = w.ghost.said }
