-- Kept shards of any layer may go to another thread. A search for it alone stops at its limits.
use denote.Param.Send.{IsSend, sendable, enum_send, recorded_send}
use Rattle.std.proofs.Crossing.{crosses}
use Rattle.block_shard.specs.contracts.shard.BlockShard as BlockShard
use Rattle.block_shard.proofs.shard.BlockShard.TheSendSync as blocks
use Rattle.disk_store.specs.contracts.shard.Disk as Disk
use Rattle.disk_store.proofs.shard.Disk.TheSendSync as disks
use Rattle.file_shard.specs.contracts.shard.FileShard as FileShard
use Rattle.file_shard.proofs.shard.FileShard.TheSendSync as files
use Rattle.name_shard.specs.contracts.shard.NameShard as NameShard
use Rattle.name_shard.proofs.shard.NameShard.TheSendSync as names
use Rattle.entry_words.specs.contracts.entry.Entry as Entry
use Rattle.place_kit.specs.contracts.any.AnyKept as AnyKept
use Rattle.place_kit.specs.contracts.blocks.BlockShardMachine.TheImpl as BlockMachine
use Rattle.place_kit.specs.contracts.disks.DiskMachine.TheImpl as DiskMachine
use Rattle.place_kit.specs.contracts.files.FileShardMachine.TheImpl as FileMachine
use Rattle.place_kit.specs.contracts.kept.Kept as Kept
use Rattle.passes.specs.contracts.log.Log as Log
use Rattle.place_kit.specs.contracts.names.NameShardMachine.TheImpl as NameMachine
use Rattle.entry_words.proofs.entry.Entry.TheSendSync as entry
use Rattle.entry_words.proofs.entry.Label.TheSendSync as label
use Rattle.passes.proofs.log.Log.TheSendSync as log
use Rattle.store_rules.specs.contracts.blocks.BlockReq as BlockReq
use Rattle.store_rules.specs.contracts.blocks.BlockReply as BlockReply
use Rattle.store_rules.specs.contracts.disks.DiskReq as DiskReq
use Rattle.store_rules.specs.contracts.disks.DiskReply as DiskReply
use Rattle.store_rules.specs.contracts.files.FileReq as FileReq
use Rattle.store_rules.specs.contracts.files.FileReply as FileReply
use Rattle.store_rules.specs.contracts.names.NameReq as NameReq
use Rattle.store_rules.specs.contracts.names.NameReply as NameReply

history : IsSend (Log.the_row Entry.the_row)
history = log.the_send Entry.the_row entry.the_send

kept_names : IsSend (Kept.the_row NameShard.the_row NameReq.the_row NameReply.the_row NameMachine.ghosts)
kept_names = search (sendable, crosses, label.the_send, names.the_send, history) depth 20

kept_files : IsSend (Kept.the_row FileShard.the_row FileReq.the_row FileReply.the_row FileMachine.ghosts)
kept_files = search (sendable, crosses, label.the_send, files.the_send, history) depth 20

kept_blocks : IsSend (Kept.the_row BlockShard.the_row BlockReq.the_row BlockReply.the_row BlockMachine.ghosts)
kept_blocks = search (sendable, crosses, label.the_send, blocks.the_send, history) depth 20

kept_disks : IsSend (Kept.the_row Disk.the_row DiskReq.the_row DiskReply.the_row DiskMachine.ghosts)
kept_disks = search (sendable, crosses, label.the_send, disks.the_send, history) depth 20

kept : IsSend (AnyKept.the_field).row
kept =
    search (
      sendable,
      crosses,
      enum_send,
      label.the_send,
      names.the_send,
      files.the_send,
      blocks.the_send,
      disks.the_send,
      history,
      kept_names,
      kept_files,
      kept_blocks,
      kept_disks,
    ) depth 40

pub AnyKept-send : IsSend AnyKept.the_row
AnyKept-send = search (sendable, crosses, recorded_send, kept) depth 20
