-- The chunks on disks, and the rule of each request to a disk.
use Rattle.std.specs.Prelude.{ℕ, Bool, false, List, Some, is_some, if◌then◌else◌}
use Rattle.std.specs.FinMap.{FinMap, get}
use Rattle.map_words.specs.Maps.{set_at}
use Rattle.tect_ids.specs.declared.ids.DiskId.{DiskId}
use Rattle.tect_ids.specs.declared.key.ChunkKey.{ChunkKey}
use Rattle.tect_ids.specs.Keys.{chunk_cmp}
use Rattle.store_rules.specs.declared.disks.DiskReq.{DiskReq}
use Rattle.store_rules.specs.declared.disks.DiskReq.TheVariants as req
use Rattle.store_rules.specs.declared.disks.DiskReply.{DiskReply}
use Rattle.store_rules.specs.declared.disks.DiskReply.TheVariants as replies
use Rattle.store_rules.specs.declared.outcome.Outcome.{Outcome}
use Rattle.store_rules.specs.declared.outcome.Outcome.TheVariants.{Leaves, Changes}
use Rattle.store_rules.specs.Outcomes.{changes, refuse, found}

-- the bytes that stand on disks
abbrev pub Chunks : Type 0
Chunks = FinMap chunk_cmp (List ℕ)

-- Put
abbrev pub put_answer : Chunks → ChunkKey → Outcome DiskReply
put_answer s c = refuse (is_some (get s c)) replies.HasChunk (Changes replies.Stored)

abbrev pub put_change : Chunks → ChunkKey → List ℕ → Chunks
put_change s c bytes = set_at s c (Some bytes)

-- Get
abbrev pub get_answer : Chunks → ChunkKey → Outcome DiskReply
get_answer s c = found (get s c) replies.NoChunk (λ bytes. Leaves (replies.Got bytes))

-- The rule of a request: the disk that it concerns, what is answered, what is changed where it is not refused, and whether it is done
-- without memory.
pub record DiskRule : Type 0 where
  pub disk : DiskId
  pub answer : Chunks → Outcome DiskReply
  pub change : Chunks → Chunks
  pub free : Bool

-- the whole table
abbrev pub disk_rule : DiskReq → DiskRule
disk_rule (req.Put c bytes) = record { disk = c.disk; answer = λ s. put_answer s c; change = λ s. put_change s c bytes; free = false }
disk_rule (req.Get c) = record { disk = c.disk; answer = λ s. get_answer s c; change = λ s. s; free = false }

abbrev pub disk_answer : Chunks → DiskReq → Outcome DiskReply
disk_answer s q = (disk_rule q).answer s

abbrev pub disk_change : Chunks → DiskReq → Chunks
disk_change s q = (disk_rule q).change s

abbrev pub disk_step : Chunks → DiskReq → Chunks
disk_step s r = if changes (disk_answer s r) then disk_change s r else s
