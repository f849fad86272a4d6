-- a request to a disk is answered and done as on all disks together, and leaves the other disks
use Rattle.std.proofs.Common.{◌≡◌, ℕ, Bool, true, false, Option, List, if◌then◌else◌, arith}
use Rattle.std.specs.FinMap.{get, same_map}
use Rattle.tect_ids.specs.declared.ids.DiskId.{DiskId}
use Rattle.tect_ids.specs.declared.key.ChunkKey.{ChunkKey}
use Rattle.tect_ids.proofs.KeyTests.{chunk_antisymmetric, chunk_cmp_total, chunk_eq_cases}
use Rattle.map_words.specs.Maps.{set_at}
use Rattle.key_words.proofs.BlockLookups.{get-chunk_at}
use Rattle.store_rules.specs.declared.disks.DiskReq.{DiskReq}
use Rattle.store_rules.specs.declared.disks.DiskReq.TheVariants as req
use Rattle.store_rules.specs.Disks.{Chunks, DiskRule, disk_rule, disk_answer, disk_change, disk_step}
use Rattle.store_rules.specs.Outcomes.{changes}
use Rattle.store_rules.specs.Places.{disk_of}
use Rattle.store_shards.specs.Shards.{KeepsChunks}

module _ (here : DiskId → Bool) (s w : Chunks) (is : KeepsChunks here s w) where
  -- what is found on a disk that is here
  own_chunk : (k : ChunkKey) → here k.disk ≡ true → get s k ≡ get w k
  own_chunk k own = grind (arith, is k)

  -- a chunk put on a disk that is here, in the shard and in the whole
  own_set : (k : ChunkKey) (x : Option (List ℕ)) → here k.disk ≡ true → KeepsChunks here (set_at s k x) (set_at w k x)
  own_set k x own q = grind (arith, chunk_eq_cases, get-chunk_at, is q)

  -- a chunk put on a disk that is not here, in the whole alone
  other_set : (k : ChunkKey) (x : Option (List ℕ)) → here k.disk ≡ false → KeepsChunks here s (set_at w k x)
  other_set k x other q = grind (arith, chunk_eq_cases, get-chunk_at, is q)

  -- What a rule owes: at its disk it answers and changes as on all of them; on all of them it changes nothing that another
  -- disk has.
  record IsLocal (rule : DiskRule) : Type 0 where
    answers : here rule.disk ≡ true → rule.answer s ≡ rule.answer w
    own : here rule.disk ≡ true → KeepsChunks here (rule.change s) (rule.change w)
    other : here rule.disk ≡ false → KeepsChunks here s (rule.change w)

  -- each request
  local : (r : DiskReq) → IsLocal (disk_rule r)
  local (req.Put k bytes) = record {
    answers = λ own. rw (own_chunk k own);
    own = λ own. own_set k _ own;
    other = λ other. other_set k _ other;
  }
  local (req.Get k) = record { answers = λ own. rw (own_chunk k own); own = λ own. is; other = λ other. is }

  pub same_disk_answer : (r : DiskReq) → here (disk_of r) ≡ true → disk_answer s r ≡ disk_answer w r
  same_disk_answer r own = (local r).answers own

  -- the same, refused or not
  own_by : (r : DiskReq) (b : Bool) → here (disk_of r) ≡ true
      → KeepsChunks here (if b then disk_change s r else s) (if b then disk_change w r else w)
  own_by r true own = (local r).own own
  own_by r false own = is

  other_by : (r : DiskReq) (b : Bool) → here (disk_of r) ≡ false → KeepsChunks here s (if b then disk_change w r else w)
  other_by r true other = (local r).other other
  other_by r false other = is

  -- the disk does its own requests, and else stays
  pub chunks_kept : (r : DiskReq) (b : Bool) → here (disk_of r) ≡ b → KeepsChunks here (if b then disk_step s r else s) (disk_step w r)
  chunks_kept r true own = rw (same_disk_answer r own) (own_by r (changes (disk_answer w r)) own)
  chunks_kept r false other = other_by r (changes (disk_answer w r)) other

-- chunks with the same look-ups are the same
pub same_chunks : (v w : Chunks) → ((k : ChunkKey) → get v k ≡ get w k) → v ≡ w
same_chunks v w alike = same_map chunk_cmp_total chunk_antisymmetric v w alike
