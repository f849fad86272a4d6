-- a request to a shard that has its block is answered and done as on the whole, and leaves the other shards
use Rattle.std.proofs.Common.{◌≡◌, Bool, true, false, Option, Some, None, if◌then◌else◌, ap, arith}
use Rattle.std.specs.FinMap.{get, same_map}
use Rattle.tect_ids.specs.declared.ids.BlkId.{BlkId}
use Rattle.tect_ids.specs.declared.key.Upper.TheVariants as uppers
use Rattle.tect_ids.proofs.KeyTests.{blk_antisymmetric, blk_cmp_total, blk_eq_cases}
use Rattle.map_words.specs.Maps.{set_at}
use Rattle.key_words.proofs.BlockLookups.{get-blk_at}
use Rattle.store_rules.specs.declared.blocks.Block.{Block}
use Rattle.store_rules.specs.declared.blocks.BlockReply.{BlockReply}
use Rattle.store_rules.specs.declared.blocks.BlockReq.{BlockReq}
use Rattle.store_rules.specs.declared.blocks.BlockReq.TheVariants as req
use Rattle.store_rules.specs.Blocks.{Blocks, BlockRule, block_with_hold, new_block, sealed_block}
use Rattle.store_rules.specs.Blocks.{block_rule, block_answer, block_change, block_step}
use Rattle.store_rules.specs.declared.outcome.Outcome.{Outcome}
use Rattle.store_rules.specs.Outcomes.{changes}
use Rattle.store_rules.specs.Places.{blk_of}
use Rattle.store_shards.specs.Shards.{KeepsBlocks}

module _ (here : BlkId → Bool) (s w : Blocks) (is : KeepsBlocks here s w) where
  -- what is found of a block that is here
  own_block : (b : BlkId) → here b ≡ true → get s b ≡ get w b
  own_block b own = grind (arith, is b)

  -- a change at a block that is here, in the shard and in the whole
  own_set : (b : BlkId) (x y : Option Block) → here b ≡ true → x ≡ y → KeepsBlocks here (set_at s b x) (set_at w b y)
  own_set b x y own same g = grind (arith, blk_eq_cases, get-blk_at, is g)

  -- a change at a block that is not here, in the whole alone
  other_set : (b : BlkId) (y : Option Block) → here b ≡ false → KeepsBlocks here s (set_at w b y)
  other_set b y other g = grind (arith, blk_eq_cases, get-blk_at, is g)

  -- What a rule owes: in a shard that has its block it answers and changes as on the whole; in the whole alone it changes
  -- nothing that a shard of another block has.
  record IsLocal (rule : BlockRule) : Type 0 where
    answers : here rule.blk ≡ true → rule.answer s ≡ rule.answer w
    own : here rule.blk ≡ true → KeepsBlocks here (rule.change s) (rule.change w)
    other : here rule.blk ≡ false → KeepsBlocks here s (rule.change w)

  -- a rule that changes nothing
  reads : (b : BlkId) (answer : Blocks → Outcome BlockReply) (free : Bool) → (here b ≡ true → answer s ≡ answer w)
      → IsLocal record { blk = b; answer = answer; change = λ v. v; free = free }
  reads b answer free same = record { answers = same; own = λ own. is; other = λ other. is }

  -- a rule that sets its block by what that was
  sets_block : (b : BlkId) (x : Option Block → Option Block) (answer : Blocks → Outcome BlockReply) (free : Bool)
      → (here b ≡ true → answer s ≡ answer w)
      → IsLocal record { blk = b; answer = answer; change = λ v. set_at v b (x (get v b)); free = free }
  sets_block b x answer free same = record {
    answers = same;
    own = λ own. own_set b _ _ own (ap x (own_block b own));
    other = λ other. other_set b _ other;
  }

  -- each request
  local : (r : BlockReq) → IsLocal (block_rule r)
  local (req.MakeBlock b c n f h rs) = sets_block b (λ x. Some (new_block c n f h rs)) _ _ (λ own. rw (own_block b own))
  local (req.SealBlock b) = sets_block b sealed_block _ _ (λ own. rw (own_block b own))
  local (req.GetBlock b) = reads b _ _ (λ own. rw (own_block b own))
  local (req.Grant b h f) = sets_block b (λ x. block_with_hold x h (Some (uppers.Row f))) _ _ (λ own. rw (own_block b own))
  local (req.Release b h) = sets_block b (λ x. block_with_hold x h None) _ _ (λ own. rw (own_block b own))

  pub same_block_answer : (r : BlockReq) → here (blk_of r) ≡ true → block_answer s r ≡ block_answer w r
  same_block_answer r own = (local r).answers own

  -- the same, refused or not
  own_by : (r : BlockReq) (b : Bool) → here (blk_of r) ≡ true
      → KeepsBlocks here (if b then block_change s r else s) (if b then block_change w r else w)
  own_by r true own = (local r).own own
  own_by r false own = is

  other_by : (r : BlockReq) (b : Bool) → here (blk_of r) ≡ false → KeepsBlocks here s (if b then block_change w r else w)
  other_by r true other = (local r).other other
  other_by r false other = is

  -- the shard does the request where it has the block, and else stays
  pub blocks_kept : (r : BlockReq) (b : Bool) → here (blk_of r) ≡ b → KeepsBlocks here (if b then block_step s r else s) (block_step w r)
  blocks_kept r true own = rw (same_block_answer r own) (own_by r (changes (block_answer w r)) own)
  blocks_kept r false other = other_by r (changes (block_answer w r)) other

-- blocks with the same look-ups are the same
pub same_blocks : (v w : Blocks) → ((b : BlkId) → get v b ≡ get w b) → v ≡ w
same_blocks v w alike = same_map blk_cmp_total blk_antisymmetric v w alike
