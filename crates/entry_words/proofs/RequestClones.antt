-- A clone of a request or of a reply is the same one.
use Rattle.std.proofs.Common.{◌≡◌, ap, arith, rules}
use Rattle.store_rules.specs.contracts.any.AnyReqClone.TheImpl as any_req
use Rattle.store_rules.specs.contracts.any.AnyReplyClone.TheImpl as any_reply
use Rattle.store_rules.specs.contracts.blocks.BlockReqClone.TheImpl as block_req
use Rattle.store_rules.specs.contracts.blocks.BlockReplyClone.TheImpl as block_reply
use Rattle.store_rules.specs.contracts.disks.DiskReqClone.TheImpl as disk_req
use Rattle.store_rules.specs.contracts.disks.DiskReplyClone.TheImpl as disk_reply
use Rattle.store_rules.specs.contracts.files.FileReqClone.TheImpl as file_req
use Rattle.store_rules.specs.contracts.files.FileReplyClone.TheImpl as file_reply
use Rattle.store_rules.specs.contracts.names.NameReqClone.TheImpl as name_req
use Rattle.store_rules.specs.contracts.names.NameReplyClone.TheImpl as name_reply
use Rattle.store_rules.specs.declared.any.AnyReply.{AnyReply}
use Rattle.store_rules.specs.declared.any.AnyReply.TheVariants.{Name, File, Block, Disk}
use Rattle.store_rules.specs.declared.any.AnyReq.{AnyReq}
use Rattle.store_rules.specs.declared.blocks.BlockReq.{BlockReq}
use Rattle.store_rules.specs.declared.blocks.BlockReply.{BlockReply}
use Rattle.store_rules.specs.declared.disks.DiskReq.{DiskReq}
use Rattle.store_rules.specs.declared.disks.DiskReply.{DiskReply}
use Rattle.store_rules.specs.declared.files.FileReq.{FileReq}
use Rattle.store_rules.specs.declared.files.FileReply.{FileReply}
use Rattle.store_rules.specs.declared.names.NameReply.{NameReply}
use Rattle.store_rules.specs.declared.names.NameReq.{NameReq}

pub same_name_req : (a b : NameReq) → (name_req.ghosts).is_clone a b → b ≡ a
same_name_req a b h = search rules

pub same_file_req : (a b : FileReq) → (file_req.ghosts).is_clone a b → b ≡ a
same_file_req a b h = search rules

pub same_block_req : (a b : BlockReq) → (block_req.ghosts).is_clone a b → b ≡ a
same_block_req a b h = search rules

pub same_disk_req : (a b : DiskReq) → (disk_req.ghosts).is_clone a b → b ≡ a
same_disk_req a b h = search rules

pub same_name_reply : (a b : NameReply) → (name_reply.ghosts).is_clone a b → b ≡ a
same_name_reply a b h = search rules

pub same_file_reply : (a b : FileReply) → (file_reply.ghosts).is_clone a b → b ≡ a
same_file_reply a b h = search rules

pub same_block_reply : (a b : BlockReply) → (block_reply.ghosts).is_clone a b → b ≡ a
same_block_reply a b h = search rules

pub same_disk_reply : (a b : DiskReply) → (disk_reply.ghosts).is_clone a b → b ≡ a
same_disk_reply a b h = search rules

pub same_req : (a b : AnyReq) → (any_req.ghosts).is_clone a b → b ≡ a
same_req a b h = search (rules, same_name_req, same_file_req, same_block_req, same_disk_req)

pub same_reply : (a b : AnyReply) → (any_reply.ghosts).is_clone a b → b ≡ a
same_reply a b h = search (rules, same_name_reply, same_file_reply, same_block_reply, same_disk_reply)
