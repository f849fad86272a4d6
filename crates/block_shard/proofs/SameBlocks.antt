-- a change of a block that leaves it as it is
use Rattle.std.proofs.Common.{◌≡◌, Option, sym}
use Rattle.std.specs.FinMap.{get}
use Rattle.tect_ids.specs.declared.ids.BlkId.{BlkId}
use Rattle.tect_ids.proofs.KeyTests.{blk_cmp_total, blk_antisymmetric}
use Rattle.map_words.specs.Maps.{set_at}
use Rattle.map_words.proofs.Maps.{set_at_same}
use Rattle.store_rules.specs.declared.blocks.Block.{Block}
use Rattle.store_rules.specs.Blocks.{Blocks}

-- a block that is not there, or that stays as it was
pub same_blocks : (blocks : Blocks) (b : BlkId) (x : Option Block) → get blocks b ≡ x → blocks ≡ set_at blocks b x
same_blocks blocks b x is = sym (set_at_same blk_cmp_total blk_antisymmetric blocks b x is)
