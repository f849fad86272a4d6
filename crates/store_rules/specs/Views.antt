-- A reply seen as the one that matters to a request. What else it may be is not looked at.
use Rattle.std.specs.Prelude.{ℕ, Bool, true, false, Option, Some, None, List}
use Rattle.tect_ids.specs.declared.ids.DirId.{DirId}
use Rattle.tect_ids.specs.declared.ids.Hold.{Hold}
use Rattle.tect_ids.specs.declared.ids.Node.{Node}
use Rattle.tect_ids.specs.declared.values.Listed.{Listed}
use Rattle.tect_ids.specs.declared.values.Location.{Location}
use Rattle.tect_ids.specs.declared.values.RowPart.{RowPart}
use Rattle.store_rules.specs.declared.names.Replaced.{Replaced}
use Rattle.store_rules.specs.declared.names.NameReply.TheVariants as names
use Rattle.store_rules.specs.declared.files.FileReply.TheVariants as files
use Rattle.store_rules.specs.declared.blocks.BlockReply.TheVariants as blocks
use Rattle.store_rules.specs.declared.disks.DiskReply.TheVariants as disks
use Rattle.store_rules.specs.declared.any.AnyReply.{AnyReply}
use Rattle.store_rules.specs.declared.any.AnyReply.TheVariants.{Name, File, Block, Disk}

abbrev pub as_parent : AnyReply → Option (DirId × Bool)
as_parent (Name (names.DirIs p sealed)) = Some (p, sealed)
as_parent _ = None

abbrev pub as_found : AnyReply → Option Node
as_found (Name (names.Found n)) = Some n
as_found _ = None

abbrev pub as_listing : AnyReply → Option (List Listed)
as_listing (Name (names.Listing sealed items)) = Some items
as_listing _ = None

-- a directory, a file or a block was made, with a hold
abbrev pub is_made : AnyReply → Bool
is_made (Name names.Made) = true
is_made (File files.Made) = true
is_made (Block blocks.Made) = true
is_made _ = false

-- a hold was granted
abbrev pub is_granted : AnyReply → Bool
is_granted (Name names.Made) = true
is_granted (Name names.Granted) = true
is_granted (File files.Made) = true
is_granted (File files.Granted) = true
is_granted (Block blocks.Made) = true
is_granted (Block blocks.Granted) = true
is_granted _ = false

abbrev pub as_bound : AnyReply → Option (Option Replaced)
as_bound (Name (names.Bound old)) = Some old
as_bound _ = None

abbrev pub as_unbound : AnyReply → Option (Node × Hold)
as_unbound (Name (names.Unbound n h)) = Some (n, h)
as_unbound _ = None

abbrev pub as_swapped : AnyReply → Option (Hold × Option Replaced)
as_swapped (Name (names.Swapped h old)) = Some (h, old)
as_swapped _ = None

-- a token was written into a file
abbrev pub is_opened : AnyReply → Bool
is_opened (File files.Opened) = true
is_opened _ = false

-- the index at which a block was added to a file
abbrev pub as_attached : AnyReply → Option ℕ
as_attached (File (files.Attached i)) = Some i
as_attached _ = None

abbrev pub as_block_list : AnyReply → Option (List RowPart)
as_block_list (File (files.Blocks sealed rows)) = Some rows
as_block_list _ = None

-- where a block lies
abbrev pub as_location : AnyReply → Option Location
as_location (Block (blocks.BlockIs c n sealed v rows)) = Some record { class = c; len = n; sealed = sealed; version = v; rows = rows }
as_location _ = None

-- a directory or a file is sealed now
abbrev pub is_sealed : AnyReply → Bool
is_sealed (Name names.SealedNow) = true
is_sealed (File files.SealedNow) = true
is_sealed _ = false

-- a block was sealed
abbrev pub is_block_sealed : AnyReply → Bool
is_block_sealed (Block blocks.SealedNow) = true
is_block_sealed _ = false

-- a disk keeps a chunk now
abbrev pub is_stored : AnyReply → Bool
is_stored (Disk disks.Stored) = true
is_stored _ = false

-- the bytes of a chunk
abbrev pub as_bytes : AnyReply → Option (List ℕ)
as_bytes (Disk (disks.Got bytes)) = Some bytes
as_bytes _ = None
