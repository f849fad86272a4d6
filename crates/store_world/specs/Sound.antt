-- When a world is sound. Its clauses stand in groups, each a record over the parts that it reads.
use Rattle.std.specs.Prelude.{◌≡◌, ◌≢◌, ◌≤◌, ℕ, zero, suc, Bool, true, false, if◌then◌else◌, List, Option, Some, None, is_some}
use Rattle.std.specs.FinMap.{FinMap, get}
use Rattle.tect_ids.specs.declared.ids.BlkId.{BlkId}
use Rattle.tect_ids.specs.declared.ids.DirId.{DirId}
use Rattle.tect_ids.specs.declared.ids.DiskId.{DiskId}
use Rattle.tect_ids.specs.declared.ids.FileId.{FileId}
use Rattle.tect_ids.specs.declared.ids.Hold.{Hold}
use Rattle.tect_ids.specs.declared.ids.Node.{Node}
use Rattle.tect_ids.specs.declared.ids.Node.TheVariants.{Dir, File}
use Rattle.tect_ids.specs.declared.ids.OpId.{OpId}
use Rattle.tect_ids.specs.declared.ids.Tag.{Tag}
use Rattle.tect_ids.specs.declared.key.ChunkKey.{ChunkKey}
use Rattle.tect_ids.specs.declared.key.Key.{Key}
use Rattle.tect_ids.specs.declared.key.Upper.{Upper}
use Rattle.tect_ids.specs.declared.key.Upper.TheVariants as uppers
use Rattle.tect_ids.specs.declared.values.BlockRow.{BlockRow}
use Rattle.tect_ids.specs.declared.values.Class.{Class}
use Rattle.tect_ids.specs.Keys.{key_cmp, disk_cmp}
use Rattle.tect_ids.specs.Numbers.{root}
use Rattle.small_maps.specs.RowsOfBlocks.{all_placed}
use Rattle.store_rules.specs.declared.blocks.Block.{Block}
use Rattle.store_rules.specs.declared.file_rows.FileRow.{FileRow}
use Rattle.store_rules.specs.declared.names.Directory.{Directory}
use Rattle.store_rules.specs.declared.names.DirectoryEntry.{DirectoryEntry}
use Rattle.store_rules.specs.Names.{dir_lists}
use Rattle.store_rules.specs.Files.{file_lists}
use Rattle.store_rules.specs.Blocks.{rows_from, block_lists}
use Rattle.store_rules.specs.Disks.{Chunks}
use Rattle.store_rules.specs.Store.{Store}
use Rattle.store_pasts.specs.Ghosts.{Live, Set, Given, World, RowLive, RowSet, RowGiven, Born, TagHome}
use Rattle.store_pasts.specs.Contents.{Apart, row_leads, born_shape, born_length, born_count, born_tag, born_content, bytes_length}
use Rattle.store_pasts.specs.Contents.{block_sealed, sealed_length, chunk_of}
use Rattle.store_pasts.specs.Pasts.{was_made, dead_in, leads, row_at, BlocksPart, blocks_part}

-- what the node lists the hold for; nothing where the node does not stand
abbrev pub lists : Store → Node → Hold → Option Upper
lists s (Dir d) h = dir_lists (get s.names.dirs d) h
lists s (File f) h = file_lists (get s.files f) h

-- whether the node stands
abbrev pub stands : Store → Node → Bool
stands s (Dir d) = is_some (get s.names.dirs d)
stands s (File f) = is_some (get s.files f)

-- the hold of an entry
abbrev pub hold_of : Option DirectoryEntry → Option Hold
hold_of None = None
hold_of (Some e) = Some e.hold

-- of the entries: each one's hold is bound at just its key, and its node is at home there
pub record SoundEntries (entries : FinMap key_cmp DirectoryEntry) (standing : DirId → Bool) (given : Hold → Option Given)
    (home : Node → Option Key) : Type 0 where
  pub bound : (k : Key) (e : DirectoryEntry) → get entries k ≡ Some e
      → given e.hold ≡ Some record { lower = e.node; upper = k; phase = Set }
  pub at_home : (k : Key) (e : DirectoryEntry) → get entries k ≡ Some e → home e.node ≡ Some k
  pub in_dir : (k : Key) → is_some (get entries k) ≡ true → standing k.dir ≡ true
  -- a hold that is bound is bound at its key
  pub set : (h : Hold) (g : Given) → given h ≡ Some g → g.phase ≡ Set → hold_of (get entries g.upper) ≡ Some h

-- of the holds: what is bound is listed, and so is what may still be bound
pub record SoundHolds (lists : Node → Hold → Option Upper) (dead : DirId → OpId → Bool) (given : Hold → Option Given)
    (made : Node → Bool) : Type 0 where
  pub set : (h : Hold) (g : Given) → given h ≡ Some g → g.phase ≡ Set → lists g.lower h ≡ Some (uppers.Entry g.upper)
  pub live : (h : Hold) (g : Given) → given h ≡ Some g → g.phase ≡ Live → dead g.upper.dir h.op ≡ false
      → lists g.lower h ≡ Some (uppers.Entry g.upper)
  -- what a node lists, was granted so
  pub listed : (n : Node) (h : Hold) (u : Upper) → lists n h ≡ Some u → leads (given h) ≡ Some (n, u)
  pub lower_made : (h : Hold) (g : Given) → given h ≡ Some g → made g.lower ≡ true
  pub upper_made : (h : Hold) (g : Given) → given h ≡ Some g → made (Dir g.upper.dir) ≡ true

-- of the nodes: what stands was made, and so was what has been named
pub record SoundNodes (standing : Node → Bool) (made : Node → Bool) (home : Node → Option Key) : Type 0 where
  pub standing_made : (n : Node) → standing n ≡ true → made n ≡ true
  pub named_made : (n : Node) → is_some (home n) ≡ true → made n ≡ true

abbrev pub parent_in : Option Directory → Option DirId
parent_in None = None
parent_in (Some x) = Some x.parent

-- the parent that a directory names, where it stands
abbrev pub parent : Store → DirId → Option DirId
parent s d = parent_in (get s.names.dirs d)

abbrev pub at_parent : Option DirId → (DirId → Option DirId) → Option DirId
at_parent None f = None
at_parent (Some d) f = f d

-- the directory that is so many parents above
abbrev pub above : (DirId → Option DirId) → ℕ → DirId → Option DirId
above parents zero d = Some d
above parents (suc n) d = at_parent (parents d) (λ e. above parents n e)

-- of the parents of directories
pub record SoundTree (parents : DirId → Option DirId) (given : Hold → Option Given) (home : Node → Option Key) (made : Node → Bool) : Type 0
  where
    -- where a directory has been named, its parent is the directory of that name
    pub named : (d p : DirId) (k : Key) → parents d ≡ Some p → home (Dir d) ≡ Some k → p ≡ k.dir
    -- where none has, its parent is the directory that its holds are for
    pub unnamed : (h : Hold) (g : Given) (d p : DirId) → given h ≡ Some g → g.lower ≡ Dir d → home (Dir d) ≡ None → parents d ≡ Some p
        → p ≡ g.upper.dir
    -- no directory is removed
    pub stands : (d : DirId) → made (Dir d) ≡ true → is_some (parents d) ≡ true
    pub climbs : (d : DirId) → is_some (parents d) ≡ true → (n : ℕ) × (above parents n d ≡ Some root)
    -- the root was made, was never named, and no hold is its
    pub root_made : made (Dir root) ≡ true
    pub root_home : home (Dir root) ≡ None
    pub root_free : (h : Hold) (g : Given) → given h ≡ Some g → g.lower ≢ Dir root

-- what a block lists the hold for; nothing where the block does not stand
abbrev pub lists_row : Store → BlkId → Hold → Option Upper
lists_row s b h = block_lists (get s.blocks b) h

-- the hold of a row
abbrev pub hold_of_row : Option FileRow → Option Hold
hold_of_row None = None
hold_of_row (Some r) = Some r.hold

-- of the rows of files: each one's hold is bound at just its row, and its block lists the hold, is sealed and is as long as the row says
pub record SoundRows (row : FileId → ℕ → Option FileRow) (lists : BlkId → Hold → Option Upper) (sealed : BlkId → Option ℕ)
    (given : Hold → Option RowGiven) (made : Node → Bool) : Type 0 where
  pub bound : (f : FileId) (i : ℕ) (r : FileRow) → row f i ≡ Some r
      → given r.hold ≡ Some record { blk = r.blk; file = f; phase = RowSet i }
  pub has_hold : (f : FileId) (i : ℕ) (r : FileRow) → row f i ≡ Some r → lists r.blk r.hold ≡ Some (uppers.Row f)
  pub sealed_as : (f : FileId) (i : ℕ) (r : FileRow) → row f i ≡ Some r → sealed r.blk ≡ Some r.len
  -- a hold that is bound is bound at its row
  pub set : (h : Hold) (g : RowGiven) (i : ℕ) → given h ≡ Some g → g.phase ≡ RowSet i → hold_of_row (row g.file i) ≡ Some h
  -- what may still be bound is listed
  pub live : (h : Hold) (g : RowGiven) → given h ≡ Some g → g.phase ≡ RowLive → lists g.blk h ≡ Some (uppers.Row g.file)
  -- what a block lists, was granted so
  pub listed : (b : BlkId) (h : Hold) (u : Upper) → lists b h ≡ Some u → row_leads (given h) ≡ Some (b, u)
  pub file_made : (h : Hold) (g : RowGiven) → given h ≡ Some g → made (File g.file) ≡ true

-- the length of a block, and how its bytes lie on its disks
abbrev pub shape_of : Option Block → Option (Class × ℕ)
shape_of None = None
shape_of (Some x) = Some (x.class, x.len)

abbrev pub rows_of : Option Block → Option (FinMap disk_cmp BlockRow)
rows_of None = None
rows_of (Some x) = Some x.rows

abbrev pub version_of : Option Block → ℕ
version_of None = 0
version_of (Some x) = x.version

-- the rows that a block was born with: all are placed once it is sealed, and none before
abbrev pub born_rows : Option Born → Bool → Option (FinMap disk_cmp BlockRow)
born_rows None sealed = None
born_rows (Some m) sealed = Some (if sealed then all_placed (rows_from m.rows) else rows_from m.rows)

-- of the blocks: one stands just where it was born, as it was born, or as it was sealed since
pub record SoundBlocks (p : BlocksPart) : Type 0 where
  pub shape : (b : BlkId) → shape_of (get p.now b) ≡ born_shape (p.born b)
  pub rows : (b : BlkId) → rows_of (get p.now b) ≡ born_rows (p.born b) (block_sealed (get p.now b))
  pub version : (b : BlkId) → version_of (get p.now b) ≡ (if block_sealed (get p.now b) then 1 else 0)
  -- its content is as long as the block
  pub length : (b : BlkId) → bytes_length (born_content p.said (p.born b)) ≡ born_length (p.born b)
  -- it has rows
  pub some : (b : BlkId) (n : ℕ) → born_count (p.born b) ≡ Some n → 1 ≤ n
  -- no disk stands twice among its rows, and no tag
  pub apart : (b : BlkId) (m : Born) → p.born b ≡ Some m → Apart m.rows
  -- each of its rows is the home of its tag
  pub at_home : (b : BlkId) (d : DiskId) (t : Tag) → born_tag (p.born b) d ≡ Some t → p.tagged t ≡ Some record { blk = b; disk = d }
  -- and a tag that was given is that of its home
  pub tagged_born : (t : Tag) (b : BlkId) (d : DiskId) → p.tagged t ≡ Some record { blk = b; disk = d } → born_tag (p.born b) d ≡ Some t

-- of the chunks: each is the one of its tag's row, with the content of its block; and of a sealed block the chunk of each row stands
pub record SoundChunks (chunks : Chunks) (sealed : BlkId → Bool) (born : BlkId → Option Born) (tagged : Tag → Option TagHome)
    (said : OpId → Option (List ℕ)) : Type 0 where
  pub at_home : (c : ChunkKey) → is_some (get chunks c) ≡ true → tagged c.tag ≡ Some record { blk = c.blk; disk = c.disk }
  pub content : (c : ChunkKey) (bytes : List ℕ) → get chunks c ≡ Some bytes → born_content said (born c.blk) ≡ Some bytes
  pub stored : (b : BlkId) (d : DiskId) (t : Tag) → sealed b ≡ true → born_tag (born b) d ≡ Some t
      → is_some (get chunks (chunk_of b d t)) ≡ true

-- of a world: all seven
pub record Sound (w : World) : Type 0 where
  pub entries : SoundEntries w.store.names.entries (λ d. is_some (get w.store.names.dirs d)) w.ghost.given w.ghost.home
  pub holds : SoundHolds (lists w.store) (dead_in w.store) w.ghost.given (was_made w.ghost)
  pub nodes : SoundNodes (stands w.store) (was_made w.ghost) w.ghost.home
  pub tree : SoundTree (parent w.store) w.ghost.given w.ghost.home (was_made w.ghost)
  pub rows : SoundRows (row_at w.store) (lists_row w.store) (λ b. sealed_length (get w.store.blocks b)) w.ghost.row_given
      (was_made w.ghost)
  pub blocks : SoundBlocks (blocks_part w)
  pub chunks : SoundChunks w.store.chunks (λ b. block_sealed (get w.store.blocks b)) w.ghost.born w.ghost.tagged w.ghost.said
