-- What a client keeps of sealed objects: in each list the latest used first.
use Rattle.std.specs.Prelude.{ℕ, List, []}
use Rattle.tect_ids.specs.declared.ids.BlkId.{BlkId}
use Rattle.tect_ids.specs.declared.ids.DirId.{DirId}
use Rattle.tect_ids.specs.declared.ids.FileId.{FileId}
use Rattle.tect_ids.specs.declared.values.Listed.{Listed}
use Rattle.tect_ids.specs.declared.values.Location.{Location}
use Rattle.tect_ids.specs.declared.values.RowPart.{RowPart}
use Rattle.tect_ids.specs.Keys.{blk_eq, dir_eq, file_eq}
use Rattle.sealed_cache.specs.Lists.{used, kept}

-- listings of directories, lists of blocks of files, and where blocks lie
pub record Caches : Type 0 where
  pub listings : List (DirId × List Listed)
  pub blocks : List (FileId × List RowPart)
  pub locations : List (BlkId × Location)

abbrev pub no_caches : Caches
no_caches = record { listings = []; blocks = []; locations = [] }

-- how many of each are kept at most
abbrev pub listing_bound : ℕ
listing_bound = 64

abbrev pub block_list_bound : ℕ
block_list_bound = 256

abbrev pub location_bound : ℕ
location_bound = 1024

-- after a look-up
abbrev pub use_listing : DirId → Caches → Caches
use_listing d c = record c { listings = used dir_eq d c.listings }

abbrev pub use_blocks : FileId → Caches → Caches
use_blocks f c = record c { blocks = used file_eq f c.blocks }

abbrev pub use_location : BlkId → Caches → Caches
use_location b c = record c { locations = used blk_eq b c.locations }

-- after a keep
abbrev pub keep_listing : DirId → List Listed → Caches → Caches
keep_listing d items c = record c { listings = kept dir_eq listing_bound d items c.listings }

abbrev pub keep_blocks : FileId → List RowPart → Caches → Caches
keep_blocks f rows c = record c { blocks = kept file_eq block_list_bound f rows c.blocks }

abbrev pub keep_location : BlkId → Location → Caches → Caches
keep_location b location c = record c { locations = kept blk_eq location_bound b location c.locations }
