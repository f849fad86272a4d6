-- The bytes of a reply that are counted: those of names and of contents, and 32 for each item of a list.
use Rattle.std.specs.Prelude.{ℕ, ◌+◌, ◌*◌, length}
use Rattle.std.specs.List.{sum_by}
use Rattle.tect_ids.specs.declared.values.Listed.{Listed}
use Rattle.store_rules.specs.declared.blocks.BlockReply.TheVariants.{BlockIs}
use Rattle.store_rules.specs.declared.disks.DiskReply.TheVariants.{Got}
use Rattle.store_rules.specs.declared.files.FileReply.TheVariants.{Blocks}
use Rattle.store_rules.specs.declared.names.NameReply.TheVariants.{Listing}
use Rattle.store_rules.specs.declared.any.AnyReply.{AnyReply}
use Rattle.store_rules.specs.declared.any.AnyReply.TheVariants.{Name, File, Block, Disk}

abbrev pub item_bytes : Listed → ℕ
item_bytes item = length item.name + 32

abbrev pub reply_bytes : AnyReply → ℕ
reply_bytes (Name (Listing sealed items)) = sum_by item_bytes items
reply_bytes (File (Blocks sealed rows)) = 32 * length rows
reply_bytes (Block (BlockIs class len sealed version rows)) = 32 * length rows
reply_bytes (Disk (Got bytes)) = length bytes
reply_bytes _ = 0
