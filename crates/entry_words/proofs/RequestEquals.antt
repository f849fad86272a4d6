-- Requests and replies are equal where `==` says so.
use Rattle.std.proofs.Common.{◌≡◌, Decides, ℕ, eqb, List, ap, refl, arith}
use Rattle.std.specs.Cmp.Lexicographic.{pointwise}
use Rattle.std.proofs.lemmas.Bool.Decides.{Decides-like}
use Rattle.std.proofs.lemmas.Slice.Eq.{slice_eq-Decides}
use Rattle.tect_ids.specs.NameEquality.{same_names}
use Rattle.tect_ids.specs.contracts.values.ListedPartialEq.TheImpl as listed
use Rattle.tect_ids.specs.contracts.values.NewRowPartialEq.TheImpl as new_row
use Rattle.tect_ids.specs.contracts.values.RowPartPartialEq.TheImpl as row_part
use Rattle.tect_ids.specs.contracts.values.RowPartialEq.TheImpl as row
use Rattle.tect_ids.specs.declared.values.Listed.{Listed}
use Rattle.tect_ids.specs.declared.values.NewRow.{NewRow}
use Rattle.tect_ids.specs.declared.values.Row.{Row}
use Rattle.tect_ids.specs.declared.values.RowPart.{RowPart}
use Rattle.entry_words.proofs.WordEquals.{key_decides, listed_decides}
use Rattle.store_rules.specs.contracts.any.AnyReplyPartialEq.TheImpl as any_reply
use Rattle.store_rules.specs.contracts.any.AnyReqPartialEq.TheImpl as any_req
use Rattle.store_rules.specs.contracts.blocks.BlockReplyPartialEq.TheImpl as block_reply
use Rattle.store_rules.specs.contracts.blocks.BlockReqPartialEq.TheImpl as block_req
use Rattle.store_rules.specs.contracts.disks.DiskReplyPartialEq.TheImpl as disk_reply
use Rattle.store_rules.specs.contracts.disks.DiskReqPartialEq.TheImpl as disk_req
use Rattle.store_rules.specs.contracts.files.FileReplyPartialEq.TheImpl as file_reply
use Rattle.store_rules.specs.contracts.files.FileReqPartialEq.TheImpl as file_req
use Rattle.store_rules.specs.contracts.names.NameReplyPartialEq.TheImpl as name_reply
use Rattle.store_rules.specs.contracts.names.NameReqPartialEq.TheImpl as name_req
use Rattle.store_rules.specs.declared.any.AnyReply.{AnyReply}
use Rattle.store_rules.specs.declared.any.AnyReply.TheVariants as any
use Rattle.store_rules.specs.declared.any.AnyReq.{AnyReq}
use Rattle.store_rules.specs.declared.any.AnyReq.TheVariants as reqs
use Rattle.store_rules.specs.declared.blocks.BlockReply.{BlockReply}
use Rattle.store_rules.specs.declared.blocks.BlockReply.TheVariants as block_replies
use Rattle.store_rules.specs.declared.blocks.BlockReq.{BlockReq}
use Rattle.store_rules.specs.declared.blocks.BlockReq.TheVariants as blocks
use Rattle.store_rules.specs.declared.disks.DiskReply.{DiskReply}
use Rattle.store_rules.specs.declared.disks.DiskReply.TheVariants as disk_replies
use Rattle.store_rules.specs.declared.disks.DiskReq.{DiskReq}
use Rattle.store_rules.specs.declared.disks.DiskReq.TheVariants as disks
use Rattle.store_rules.specs.declared.files.FileReply.{FileReply}
use Rattle.store_rules.specs.declared.files.FileReply.TheVariants as file_replies
use Rattle.store_rules.specs.declared.files.FileReq.{FileReq}
use Rattle.store_rules.specs.declared.names.NameReply.{NameReply}
use Rattle.store_rules.specs.declared.names.NameReply.TheVariants as replies
use Rattle.store_rules.specs.declared.names.NameReq.{NameReq}
use Rattle.store_rules.specs.declared.names.NameReq.TheVariants as names

file_req_decides : (a b : FileReq) → Decides ((file_req.ghosts).eq a b) (a ≡ b)
file_req_decides a b = grind (arith, key_decides)

row_part_decides : (a b : RowPart) → Decides ((row_part.ghosts).eq a b) (a ≡ b)
row_part_decides a b = grind arith

parts_decide : (a b : List RowPart) → Decides (pointwise (row_part.ghosts).eq a b) (a ≡ b)
parts_decide a b = slice_eq-Decides row_part_decides a b (pointwise (row_part.ghosts).eq a b) refl

new_row_decides : (a b : NewRow) → Decides ((new_row.ghosts).eq a b) (a ≡ b)
new_row_decides a b = grind arith

new_rows_decide : (a b : List NewRow) → Decides (pointwise (new_row.ghosts).eq a b) (a ≡ b)
new_rows_decide a b = slice_eq-Decides new_row_decides a b (pointwise (new_row.ghosts).eq a b) refl

row_decides : (a b : Row) → Decides ((row.ghosts).eq a b) (a ≡ b)
row_decides a b = grind arith

rows_decide : (a b : List Row) → Decides (pointwise (row.ghosts).eq a b) (a ≡ b)
rows_decide a b = slice_eq-Decides row_decides a b (pointwise (row.ghosts).eq a b) refl

byte_decides : (a b : ℕ) → Decides (eqb a b) (a ≡ b)
byte_decides a b = grind arith

bytes_decide : (a b : List ℕ) → Decides (pointwise eqb a b) (a ≡ b)
bytes_decide a b = slice_eq-Decides byte_decides a b (pointwise eqb a b) refl

file_reply_decides : (a b : FileReply) → Decides ((file_reply.ghosts).eq a b) (a ≡ b)
file_reply_decides file_replies.Made b = grind arith
file_reply_decides file_replies.Granted b = grind arith
file_reply_decides (file_replies.Released was) b = grind arith
file_reply_decides file_replies.Opened b = grind arith
file_reply_decides (file_replies.Attached index) b = grind arith
file_reply_decides (file_replies.Blocks sealed rows) b = grind (arith, parts_decide)
file_reply_decides file_replies.SealedNow b = grind arith
file_reply_decides file_replies.HasId b = grind arith
file_reply_decides (file_replies.Refused why) b = grind arith

block_req_decides : (a b : BlockReq) → Decides ((block_req.ghosts).eq a b) (a ≡ b)
block_req_decides (blocks.MakeBlock blk class len file hold rows) b = grind (arith, new_rows_decide)
block_req_decides (blocks.SealBlock blk) b = grind arith
block_req_decides (blocks.GetBlock blk) b = grind arith
block_req_decides (blocks.Grant blk hold file) b = grind arith
block_req_decides (blocks.Release blk hold) b = grind arith

block_reply_decides : (a b : BlockReply) → Decides ((block_reply.ghosts).eq a b) (a ≡ b)
block_reply_decides block_replies.Made b = grind arith
block_reply_decides block_replies.SealedNow b = grind arith
block_reply_decides (block_replies.BlockIs class len sealed version rows) b = grind (arith, rows_decide)
block_reply_decides block_replies.Granted b = grind arith
block_reply_decides (block_replies.Released was) b = grind arith
block_reply_decides block_replies.HasId b = grind arith
block_reply_decides block_replies.NoBlock b = grind arith
block_reply_decides block_replies.Sealed b = grind arith
block_reply_decides block_replies.NotSealed b = grind arith

disk_req_decides : (a b : DiskReq) → Decides ((disk_req.ghosts).eq a b) (a ≡ b)
disk_req_decides (disks.Put chunk bytes) b = grind (arith, bytes_decide)
disk_req_decides (disks.Get chunk) b = grind arith

disk_reply_decides : (a b : DiskReply) → Decides ((disk_reply.ghosts).eq a b) (a ≡ b)
disk_reply_decides disk_replies.Stored b = grind arith
disk_reply_decides (disk_replies.Got bytes) b = grind (arith, bytes_decide)
disk_reply_decides disk_replies.HasChunk b = grind arith
disk_reply_decides disk_replies.NoChunk b = grind arith
disk_reply_decides disk_replies.Lost b = grind arith

name_req_decides : (a b : NameReq) → Decides ((name_req.ghosts).eq a b) (a ≡ b)
name_req_decides (names.CheckDir dir) b = grind arith
name_req_decides (names.Look key) b = grind (arith, key_decides)
name_req_decides (names.List dir) b = grind arith
name_req_decides (names.MakeDir dir parent hold key) b = grind (arith, key_decides)
name_req_decides (names.Bind key node hold over) b = grind (arith, key_decides)
name_req_decides (names.Swap dir from to node hold) b = grind (arith, same_names)
name_req_decides (names.Unbind key want) b = grind (arith, key_decides)
name_req_decides (names.Grant dir hold key) b = grind (arith, key_decides)
name_req_decides (names.Release dir hold) b = grind arith
name_req_decides (names.SealDir dir) b = grind arith

items_decide : (a b : List Listed) → Decides (pointwise (listed.ghosts).eq a b) (a ≡ b)
items_decide a b = slice_eq-Decides listed_decides a b (pointwise (listed.ghosts).eq a b) refl

name_reply_decides : (a b : NameReply) → Decides ((name_reply.ghosts).eq a b) (a ≡ b)
name_reply_decides (replies.DirIs parent sealed) b = grind arith
name_reply_decides (replies.Found node) b = grind arith
name_reply_decides (replies.Listing sealed items) b = grind (arith, items_decide)
name_reply_decides replies.Made b = grind arith
name_reply_decides (replies.Bound old) b = grind arith
name_reply_decides (replies.Swapped hold old) b = grind arith
name_reply_decides (replies.Unbound node hold) b = grind arith
name_reply_decides replies.Granted b = grind arith
name_reply_decides (replies.Released was) b = grind arith
name_reply_decides replies.SealedNow b = grind arith
name_reply_decides replies.HasId b = grind arith
name_reply_decides (replies.Refused why) b = grind arith

pub req_decides : (a b : AnyReq) → Decides ((any_req.ghosts).eq a b) (a ≡ b)
req_decides (reqs.Name a) (reqs.Name b) = Decides-like _ (λ e. ap reqs.Name e) (λ e. cc) (name_req_decides a b)
req_decides (reqs.Name a) (reqs.File b) = grind arith
req_decides (reqs.Name a) (reqs.Block b) = grind arith
req_decides (reqs.Name a) (reqs.Disk b) = grind arith
req_decides (reqs.File a) (reqs.Name b) = grind arith
req_decides (reqs.File a) (reqs.File b) = Decides-like _ (λ e. ap reqs.File e) (λ e. cc) (file_req_decides a b)
req_decides (reqs.File a) (reqs.Block b) = grind arith
req_decides (reqs.File a) (reqs.Disk b) = grind arith
req_decides (reqs.Block a) (reqs.Name b) = grind arith
req_decides (reqs.Block a) (reqs.File b) = grind arith
req_decides (reqs.Block a) (reqs.Block b) = Decides-like _ (λ e. ap reqs.Block e) (λ e. cc) (block_req_decides a b)
req_decides (reqs.Block a) (reqs.Disk b) = grind arith
req_decides (reqs.Disk a) (reqs.Name b) = grind arith
req_decides (reqs.Disk a) (reqs.File b) = grind arith
req_decides (reqs.Disk a) (reqs.Block b) = grind arith
req_decides (reqs.Disk a) (reqs.Disk b) = Decides-like _ (λ e. ap reqs.Disk e) (λ e. cc) (disk_req_decides a b)

pub reply_decides : (a b : AnyReply) → Decides ((any_reply.ghosts).eq a b) (a ≡ b)
reply_decides (any.Name a) (any.Name b) = Decides-like _ (λ e. ap any.Name e) (λ e. cc) (name_reply_decides a b)
reply_decides (any.Name a) (any.File b) = grind arith
reply_decides (any.Name a) (any.Block b) = grind arith
reply_decides (any.Name a) (any.Disk b) = grind arith
reply_decides (any.File a) (any.Name b) = grind arith
reply_decides (any.File a) (any.File b) = Decides-like _ (λ e. ap any.File e) (λ e. cc) (file_reply_decides a b)
reply_decides (any.File a) (any.Block b) = grind arith
reply_decides (any.File a) (any.Disk b) = grind arith
reply_decides (any.Block a) (any.Name b) = grind arith
reply_decides (any.Block a) (any.File b) = grind arith
reply_decides (any.Block a) (any.Block b) = Decides-like _ (λ e. ap any.Block e) (λ e. cc) (block_reply_decides a b)
reply_decides (any.Block a) (any.Disk b) = grind arith
reply_decides (any.Disk a) (any.Name b) = grind arith
reply_decides (any.Disk a) (any.File b) = grind arith
reply_decides (any.Disk a) (any.Block b) = grind arith
reply_decides (any.Disk a) (any.Disk b) = Decides-like _ (λ e. ap any.Disk e) (λ e. cc) (disk_reply_decides a b)
