-- A shard of the Block layer, and the rule of each request to it.
use Rattle.std.specs.Prelude.{ℕ, Bool, true, false, not, List, [], ◌∷◌, map, Option, Some, None, is_some, if◌then◌else◌}
use Rattle.std.specs.FinMap.{FinMap, empty, get, entries}
use Rattle.map_words.specs.Maps.{set_at}
use Rattle.small_maps.specs.RowsOfBlocks.{all_placed}
use Rattle.tect_ids.specs.declared.ids.BlkId.{BlkId}
use Rattle.tect_ids.specs.declared.ids.DiskId.{DiskId}
use Rattle.tect_ids.specs.declared.ids.FileId.{FileId}
use Rattle.tect_ids.specs.declared.ids.Hold.{Hold}
use Rattle.tect_ids.specs.declared.key.Upper.{Upper}
use Rattle.tect_ids.specs.declared.key.Upper.TheVariants as uppers
use Rattle.tect_ids.specs.declared.values.BlockRow.{BlockRow}
use Rattle.tect_ids.specs.declared.values.Class.{Class}
use Rattle.tect_ids.specs.declared.values.NewRow.{NewRow}
use Rattle.tect_ids.specs.declared.values.Row.{Row}
use Rattle.tect_ids.specs.Keys.{blk_cmp, disk_cmp}
use Rattle.store_rules.specs.declared.blocks.Block.{Block}
use Rattle.store_rules.specs.declared.blocks.BlockReq.{BlockReq}
use Rattle.store_rules.specs.declared.blocks.BlockReq.TheVariants as req
use Rattle.store_rules.specs.declared.blocks.BlockReply.{BlockReply}
use Rattle.store_rules.specs.declared.blocks.BlockReply.TheVariants as replies
use Rattle.store_rules.specs.declared.outcome.Outcome.{Outcome}
use Rattle.store_rules.specs.declared.outcome.Outcome.TheVariants.{Leaves, Changes}
use Rattle.store_rules.specs.Outcomes.{changes, refuse, found}

abbrev pub Blocks : Type 0
Blocks = FinMap blk_cmp Block

-- MakeBlock

-- the rows that a block is made with: none is placed
unfoldable pub rows_from : List NewRow → FinMap disk_cmp BlockRow
rows_from [] = empty
rows_from (r ∷ rs) = set_at (rows_from rs) r.disk (Some record { tag = r.tag; placed = false })

abbrev pub new_block : Class → ℕ → FileId → Hold → List NewRow → Block
new_block c n f h rs =
    record { class = c; len = n; sealed = false; version = 0; holds = set_at empty h (Some (uppers.Row f)); rows = rows_from rs }

abbrev pub make_block_answer : Blocks → BlkId → Outcome BlockReply
make_block_answer s b = refuse (is_some (get s b)) replies.HasId (Changes replies.Made)

abbrev pub make_block_change : Blocks → BlkId → Class → ℕ → FileId → Hold → List NewRow → Blocks
make_block_change s b c n f h rs = set_at s b (Some (new_block c n f h rs))

-- SealBlock
abbrev pub sealed_block : Option Block → Option Block
sealed_block None = None
sealed_block (Some x) = Some record x { sealed = true; version = 1; rows = all_placed x.rows }

abbrev pub seal_block_answer : Blocks → BlkId → Outcome BlockReply
seal_block_answer s b = found (get s b) replies.NoBlock (λ x. refuse x.sealed replies.Sealed (Changes replies.SealedNow))

abbrev pub seal_block_change : Blocks → BlkId → Blocks
seal_block_change s b = set_at s b (sealed_block (get s b))

-- GetBlock
abbrev pub shown_row : DiskId × BlockRow → Row
shown_row e = record { disk = e.0; tag = (e.1).tag; placed = (e.1).placed }

abbrev pub get_block_answer : Blocks → BlkId → Outcome BlockReply
get_block_answer s b =
    found (get s b) replies.NoBlock (λ x. Leaves (replies.BlockIs x.class x.len x.sealed x.version (map shown_row (entries x.rows))))

-- Grant
abbrev pub block_with_hold : Option Block → Hold → Option Upper → Option Block
block_with_hold None h u = None
block_with_hold (Some x) h u = Some record x { holds = set_at x.holds h u }

abbrev pub grant_block_answer : Blocks → BlkId → Outcome BlockReply
grant_block_answer s b = found (get s b) replies.NoBlock (λ x. refuse (not x.sealed) replies.NotSealed (Changes replies.Granted))

abbrev pub grant_block_change : Blocks → BlkId → Hold → FileId → Blocks
grant_block_change s b h f = set_at s b (block_with_hold (get s b) h (Some (uppers.Row f)))

-- Release
abbrev pub block_lists : Option Block → Hold → Option Upper
block_lists None h = None
block_lists (Some x) h = get x.holds h

abbrev pub release_block_answer : Blocks → BlkId → Hold → Outcome BlockReply
release_block_answer s b h =
    refuse (not (is_some (block_lists (get s b) h))) (replies.Released false) (Changes (replies.Released true))

abbrev pub release_block_change : Blocks → BlkId → Hold → Blocks
release_block_change s b h = set_at s b (block_with_hold (get s b) h None)

-- The rule of a request: the block that it concerns, what is answered, what is changed where it is not refused, and whether it is done
-- without memory.
pub record BlockRule : Type 0 where
  pub blk : BlkId
  pub answer : Blocks → Outcome BlockReply
  pub change : Blocks → Blocks
  pub free : Bool

-- the whole table
abbrev pub block_rule : BlockReq → BlockRule
block_rule (req.MakeBlock b c n f h rs) =
    record { blk = b; answer = λ s. make_block_answer s b; change = λ s. make_block_change s b c n f h rs; free = false }
block_rule (req.SealBlock b) = record { blk = b; answer = λ s. seal_block_answer s b; change = λ s. seal_block_change s b; free = true }
block_rule (req.GetBlock b) = record { blk = b; answer = λ s. get_block_answer s b; change = λ s. s; free = false }
block_rule (req.Grant b h f) =
    record { blk = b; answer = λ s. grant_block_answer s b; change = λ s. grant_block_change s b h f; free = false }
block_rule (req.Release b h) =
    record { blk = b; answer = λ s. release_block_answer s b h; change = λ s. release_block_change s b h; free = true }

abbrev pub block_answer : Blocks → BlockReq → Outcome BlockReply
block_answer s q = (block_rule q).answer s

abbrev pub block_change : Blocks → BlockReq → Blocks
block_change s q = (block_rule q).change s

abbrev pub block_step : Blocks → BlockReq → Blocks
block_step s r = if changes (block_answer s r) then block_change s r else s
