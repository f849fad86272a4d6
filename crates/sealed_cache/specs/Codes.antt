-- How what is kept is stored as plain data, which tells its values apart.
use Rattle.std.specs.Prelude.{List, refl}
use Rattle.std.specs.Coded.{Coded, code_by, coded×, coded_list}
use Rattle.tect_ids.specs.declared.ids.BlkId.{BlkId}
use Rattle.tect_ids.specs.declared.ids.DirId.{DirId}
use Rattle.tect_ids.specs.declared.ids.FileId.{FileId}
use Rattle.tect_ids.specs.declared.values.Listed.{Listed}
use Rattle.tect_ids.specs.declared.values.Location.{Location}
use Rattle.tect_ids.specs.declared.values.RowPart.{RowPart}
use Rattle.tect_ids.specs.contracts.values.Listed as listed
use Rattle.tect_ids.specs.contracts.values.Location as location
use Rattle.tect_ids.specs.contracts.values.RowPart as row_part
use Rattle.tect_ids.specs.Codes.{blk_code, dir_code, file_code}
use Rattle.sealed_cache.specs.Caches.{Caches}

abbrev pub listing_code : Coded (List Listed)
listing_code = coded_list listed.the_row.coded

abbrev pub block_list_code : Coded (List RowPart)
block_list_code = coded_list row_part.the_row.coded

abbrev pub location_code : Coded Location
location_code = location.the_row.coded

abbrev pub caches_code : Coded Caches
caches_code =
    code_by (List (DirId × List Listed) × (List (FileId × List RowPart) × List (BlkId × Location)))
    (coded× (coded_list (coded× dir_code listing_code))
    (coded× (coded_list (coded× file_code block_list_code)) (coded_list (coded× blk_code location_code))))
    (λ c. (c.listings, (c.blocks, c.locations))) (λ p. record { listings = p.0; blocks = p.1.0; locations = p.1.1 }) (λ _. refl)
