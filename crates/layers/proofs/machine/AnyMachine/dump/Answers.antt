use Rattle.layers.proofs.Alone.{blocks_shown_alone, chunks_shown_alone, files_shown_alone, names_shown_alone}
use Rattle.layers.proofs.machine.AnyMachine.dump.Goals as goal

pub returns-in-Name : goal.returns-in-Name
returns-in-Name c = rw (c.in-Name.is, names_shown_alone c.in-Name.shard) c.dump.ensures

pub returns-in-File : goal.returns-in-File
returns-in-File c = rw (c.in-File.is, files_shown_alone c.in-File.shard) c.dump-in-File.ensures

pub returns-in-Block : goal.returns-in-Block
returns-in-Block c = rw (c.in-Block.is, blocks_shown_alone c.in-Block.shard) c.dump-in-Block.ensures

pub returns-in-Disk : goal.returns-in-Disk
returns-in-Disk c = rw (c.in-Disk.is, chunks_shown_alone c.in-Disk.disk) c.dump-in-Disk.ensures
