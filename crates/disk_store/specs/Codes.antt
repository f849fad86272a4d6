-- How chunks are stored as plain data, which tells their values apart.
use Rattle.std.specs.Coded.{Coded, coded_ℕ, coded_list}
use Rattle.std.specs.FinMap as map
use Rattle.tect_ids.specs.Codes.{chunk_code}
use Rattle.store_rules.specs.Disks.{Chunks}

abbrev pub chunks_code : Coded Chunks
chunks_code = map.code chunk_code (coded_list coded_ℕ)
