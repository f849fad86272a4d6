-- What a request leaves as it was, by what it touches.
use Rattle.std.specs.Prelude.{◌≡◌, ℕ, ◌/◌, ◌^◌, Bool, true, false, eqb, List, Option, Some, None, is_some}
use Rattle.std.specs.FinMap.{get}
use Rattle.tect_ids.specs.declared.ids.BlkId.{BlkId}
use Rattle.tect_ids.specs.declared.ids.FileId.{FileId}
use Rattle.tect_ids.specs.declared.ids.Hold.{Hold}
use Rattle.tect_ids.specs.declared.ids.Node.{Node}
use Rattle.tect_ids.specs.declared.ids.Node.TheVariants.{Dir, File}
use Rattle.tect_ids.specs.declared.ids.OpId.{OpId}
use Rattle.tect_ids.specs.declared.ids.Tag.{Tag}
use Rattle.tect_ids.specs.declared.key.ChunkKey.{ChunkKey}
use Rattle.tect_ids.specs.declared.key.Upper.{Upper}
use Rattle.store_rules.specs.declared.file_rows.FileRow.{FileRow}
use Rattle.store_rules.specs.Disks.{Chunks}
use Rattle.store_pasts.specs.Contents.{RowLive, RowGiven, Born, TagHome, row_leads, row_given_spent, sealed_length, is_unsealed}
use Rattle.store_pasts.specs.Ghosts.{Live, Given, World}
use Rattle.store_pasts.specs.Pasts.{was_made, leads, is_spent, row_at, BlocksPart, blocks_part}

-- What a request touches: the holds for entries that it grants or binds, the nodes that it makes, and those that it names first; the holds
-- for rows that it grants or binds, the blocks that it makes, the tags that it gives to rows or keeps chunks under, and the blocks that it
-- seals. A command's begin touches what its op says.
pub record Touched : Type 0 where
  pub hold : Hold → Bool
  pub made : Node → Bool
  pub named : Node → Bool
  pub row_hold : Hold → Bool
  pub born : BlkId → Bool
  pub tag : Tag → Bool
  pub sealed : BlkId → Bool
  pub said : OpId → Bool

-- what may have been done to the rows of files and to their holds: a row stays as it is
pub record LaterRows (by : Touched) (was now : FileId → ℕ → Option FileRow) (given then : Hold → Option RowGiven) : Type 0 where
  pub row : (f : FileId) (i : ℕ) (r : FileRow) → was f i ≡ Some r → now f i ≡ Some r
  pub fresh : (h : Hold) → by.row_hold h ≡ false → given h ≡ None → then h ≡ None
  pub live : (h : Hold) (g : RowGiven) → by.row_hold h ≡ false → given h ≡ Some g → g.phase ≡ RowLive → then h ≡ Some g
  pub kept : (h : Hold) (p : BlkId × Upper) → row_leads (given h) ≡ Some p → row_leads (then h) ≡ Some p
  pub spent : (h : Hold) → row_given_spent (given h) ≡ true → row_given_spent (then h) ≡ true

-- what may have been done to blocks: what they were made as stays, and a block that is sealed stays so
pub record LaterBlocks (by : Touched) (p q : BlocksPart) : Type 0 where
  pub born : (b : BlkId) (m : Born) → p.born b ≡ Some m → q.born b ≡ Some m
  pub unborn : (b : BlkId) → by.born b ≡ false → p.born b ≡ None → q.born b ≡ None
  pub tagged : (t : Tag) (m : TagHome) → p.tagged t ≡ Some m → q.tagged t ≡ Some m
  pub untagged : (t : Tag) → by.tag t ≡ false → p.tagged t ≡ None → q.tagged t ≡ None
  pub said : (op : OpId) (bytes : List ℕ) → p.said op ≡ Some bytes → q.said op ≡ Some bytes
  pub unsaid : (op : OpId) → by.said op ≡ false → p.said op ≡ None → q.said op ≡ None
  pub sealed : (b : BlkId) (n : ℕ) → sealed_length (get p.now b) ≡ Some n → sealed_length (get q.now b) ≡ Some n
  pub unsealed : (b : BlkId) → by.sealed b ≡ false → is_unsealed (get p.now b) ≡ true → is_unsealed (get q.now b) ≡ true

-- what may have been done to chunks: one that stands stays with its bytes
pub record LaterChunks (by : Touched) (chunks now : Chunks) : Type 0 where
  pub chunk : (c : ChunkKey) (bytes : List ℕ) → get chunks c ≡ Some bytes → get now c ≡ Some bytes
  pub no_chunk : (c : ChunkKey) → by.tag c.tag ≡ false → get chunks c ≡ None → get now c ≡ None

-- what may have been done from w to v, where no more was touched
pub record Later (by : Touched) (w v : World) : Type 0 where
  pub made : (n : Node) → was_made w.ghost n ≡ true → was_made v.ghost n ≡ true
  pub unmade : (n : Node) → by.made n ≡ false → was_made w.ghost n ≡ false → was_made v.ghost n ≡ false
  pub named : (n : Node) → is_some (w.ghost.home n) ≡ true → is_some (v.ghost.home n) ≡ true
  pub unnamed : (n : Node) → by.named n ≡ false → w.ghost.home n ≡ None → v.ghost.home n ≡ None
  pub fresh : (h : Hold) → by.hold h ≡ false → w.ghost.given h ≡ None → v.ghost.given h ≡ None
  pub live : (h : Hold) (g : Given) → by.hold h ≡ false → w.ghost.given h ≡ Some g → g.phase ≡ Live → v.ghost.given h ≡ Some g
  pub kept : (h : Hold) (p : Node × Upper) → leads (w.ghost.given h) ≡ Some p → leads (v.ghost.given h) ≡ Some p
  pub spent : (h : Hold) → is_spent w h ≡ true → is_spent v h ≡ true
  pub rows : LaterRows by (row_at w.store) (row_at v.store) w.ghost.row_given v.ghost.row_given
  pub blocks : LaterBlocks by (blocks_part w) (blocks_part v)
  pub chunks : LaterChunks by w.store.chunks v.store.chunks

-- the actor that made a node
abbrev pub actor_of : Node → ℕ
actor_of (Dir d) = d.0 / 2 ^ 32
actor_of (File f) = f.0 / 2 ^ 32

-- the actor that made a block
abbrev pub maker_of : BlkId → ℕ
maker_of b = b.0 / 2 ^ 32

-- what an actor may touch at all: its own holds, nodes, blocks and tags
abbrev pub by_actor : ℕ → Touched
by_actor a = record {
  hold = λ h. eqb h.op.actor a;
  made = λ n. eqb (actor_of n) a;
  named = λ n. eqb (actor_of n) a;
  row_hold = λ h. eqb h.op.actor a;
  born = λ b. eqb (maker_of b) a;
  tag = λ t. eqb t.op.actor a;
  sealed = λ b. eqb (maker_of b) a;
  said = λ op. eqb op.actor a;
}

-- whatever t touches, u touches
pub record Within (t u : Touched) : Type 0 where
  pub hold : (h : Hold) → u.hold h ≡ false → t.hold h ≡ false
  pub made : (n : Node) → u.made n ≡ false → t.made n ≡ false
  pub named : (n : Node) → u.named n ≡ false → t.named n ≡ false
  pub row_hold : (h : Hold) → u.row_hold h ≡ false → t.row_hold h ≡ false
  pub born : (b : BlkId) → u.born b ≡ false → t.born b ≡ false
  pub tag : (x : Tag) → u.tag x ≡ false → t.tag x ≡ false
  pub sealed : (b : BlkId) → u.sealed b ≡ false → t.sealed b ≡ false
  pub said : (op : OpId) → u.said op ≡ false → t.said op ≡ false
