use Rattle.std.proofs.Common.{ap, ◌∙◌}
use Rattle.store_rules.specs.Blocks.{Blocks}
use Rattle.block_shard.specs.Index.{blocks_on}
use Rattle.block_shard.proofs.OnDisk.{blks_on_disk}
use Rattle.block_shard.proofs.shard.BlockShard.on_disk.Goals as goal

pub returns : goal.returns
returns c =
    c.on.ensures ∙ blks_on_disk c.self.inside.index c.self.inside.blocks c.self.invariant c.args.disk
    ∙ ap (λ (s : Blocks). blocks_on s c.args.disk) c.self.view_is
