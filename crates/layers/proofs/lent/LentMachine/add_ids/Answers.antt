use Rattle.layers.proofs.Elsewhere.{none_added, none_by_blocks, none_by_chunks, none_by_files, none_by_names}
use Rattle.layers.proofs.lent.LentMachine.add_ids.Goals as goal

pub returns-in_default : goal.returns-in_default
returns-in_default c =
    rw c.in-Name.is (none_added _ _ (none_by_names c.in-Name.shard.now c.args.layer c.in_default.not-Names).0)

pub returns-in_default-layer : goal.returns-in_default-layer
returns-in_default-layer c =
    rw c.in-File.is (none_added _ _ (none_by_files c.in-File.shard.now c.args.layer c.in_default-layer.not-Files).0)

pub returns-in_default-layer-2 : goal.returns-in_default-layer-2
returns-in_default-layer-2 c =
    rw c.in-Block.is (none_added _ _ (none_by_blocks c.in-Block.shard.now c.args.layer c.in_default-layer-2.not-Blocks).0)

pub returns-in_default-layer-3 : goal.returns-in_default-layer-3
returns-in_default-layer-3 c =
    rw c.in-Disk.is (none_added _ _ (none_by_chunks c.in-Disk.disk.now c.args.layer c.in_default-layer-3.not-Disks).0)
