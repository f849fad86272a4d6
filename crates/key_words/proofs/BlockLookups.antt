-- what is found in a map of blocks, of disks or of chunks after a change
use Rattle.std.proofs.Common.{◌≡◌, Option, if◌then◌else◌}
use Rattle.std.specs.FinMap.{FinMap, get, get-empty}
use Rattle.tect_ids.specs.declared.ids.BlkId.{BlkId}
use Rattle.tect_ids.specs.declared.ids.DiskId.{DiskId}
use Rattle.tect_ids.specs.declared.key.ChunkKey.{ChunkKey}
use Rattle.tect_ids.specs.Keys.{blk_eq, disk_eq, chunk_eq, blk_cmp, disk_cmp, chunk_cmp}
use Rattle.tect_ids.proofs.KeyTests.{block_keys, blk_cmp_total, disk_cmp_total, chunk_cmp_total, blk_ties, disk_ties, chunk_ties}
use Rattle.map_words.specs.Maps.{set_at}
use Rattle.map_words.proofs.Maps.{get-set_at-by}

pub get-blk_at : {X : Type 0} (m : FinMap blk_cmp X) (k : BlkId) (w : Option X) (q : BlkId) → get (set_at m k w) q
    ≡ (if blk_eq q k then w else get m q)
get-blk_at m k w q = get-set_at-by blk_cmp_total blk_eq blk_ties m k w q

pub get-disk_at : {X : Type 0} (m : FinMap disk_cmp X) (k : DiskId) (w : Option X) (q : DiskId) → get (set_at m k w) q
    ≡ (if disk_eq q k then w else get m q)
get-disk_at m k w q = get-set_at-by disk_cmp_total disk_eq disk_ties m k w q

pub get-chunk_at : {X : Type 0} (m : FinMap chunk_cmp X) (k : ChunkKey) (w : Option X) (q : ChunkKey) → get (set_at m k w) q
    ≡ (if chunk_eq q k then w else get m q)
get-chunk_at m k w q = get-set_at-by chunk_cmp_total chunk_eq chunk_ties m k w q

-- all that is needed to read a changed map of these
pub ruleset block_maps = (block_keys, get-blk_at, get-disk_at, get-chunk_at, get-empty)
