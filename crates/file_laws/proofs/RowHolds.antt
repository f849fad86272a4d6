-- what requests for blocks and chunks touch is the op's own; and what others do leaves what an append knows
use Rattle.std.proofs.Common.{◌≡◌, ℕ, ◌<◌, ◌^◌, List, length, eqb, Bool, true, false, is_some, Some, refl, sym, ap, ◌∙◌, arith}
use Rattle.std.specs.List.{slice_get}
use Rattle.tect_ids.specs.declared.ids.BlkId.{BlkId}
use Rattle.tect_ids.specs.declared.ids.FileId.{FileId}
use Rattle.tect_ids.specs.declared.ids.Hold.{Hold}
use Rattle.tect_ids.specs.declared.ids.OpId.{OpId}
use Rattle.tect_ids.specs.declared.ids.Tag.{Tag}
use Rattle.tect_ids.specs.declared.key.ChunkKey.{ChunkKey}
use Rattle.tect_ids.specs.declared.values.Class.{Class}
use Rattle.tect_ids.specs.declared.values.NewRow.{NewRow}
use Rattle.tect_ids.specs.Keys.{op_eq, hold_eq, tag_eq, blk_eq}
use Rattle.tect_ids.specs.Numbers.{object_number, own_hold}
use Rattle.tect_ids.proofs.KeyTests.{keys, block_keys}
use Rattle.store_rules.specs.declared.blocks.BlockReq.TheVariants as blocks
use Rattle.store_rules.specs.declared.disks.DiskReq.TheVariants as disks
use Rattle.store_rules.specs.declared.any.AnyReq.TheVariants as any
use Rattle.store_rules.specs.Holds.{RowGrant}
use Rattle.tect_calls.specs.MadeBlocks.{NewBlock, chunks_of}
use Rattle.program_forms.specs.Memories.{Memory}
use Rattle.file_rules.specs.declared.states.Appending.{Appending}
use Rattle.store_pasts.specs.Contents.{disk_at}
use Rattle.store_pasts.specs.Worlds.{World}
use Rattle.store_pasts.specs.Later.{maker_of, Touched, Later, Within}
use Rattle.store_pasts.specs.Requests.{touched_by}
use Rattle.program_laws.specs.Known.{IsApart, by_op}
use Rattle.part_laws.proofs.Own.{same_op}
use Rattle.file_laws.specs.Known.{HasRowHold, HasMade, HasPut, SealKnows, AttachKnows}
use Rattle.file_laws.proofs.Spread.{same_tag}
use Rattle.file_laws.proofs.Chunks.{is_chunk}

-- ---- what a request touches

-- a block's number tells its actor
pub block_number : (op : OpId) (serial : ℕ) → serial < 2 ^ 32 → maker_of record { 0 = object_number op.actor serial } ≡ op.actor
block_number op serial few = omega arith

-- a test that can't be passed
not_passed : (b : Bool) → (b ≡ true → ⊥) → b ≡ false
not_passed true never = absurd (never refl)
not_passed false never = refl

module _ (op : OpId) (m : Memory) where
  other_hold : (x : Hold) → op_eq x.op op ≡ false → hold_eq x (own_hold op) ≡ false
  other_hold x other = grind (arith, keys)

  -- tags that are the op's are none of another op
  other_tag : (b : Bool) (t : Tag) → (b ≡ true → t.op ≡ op) → op_eq t.op op ≡ false → b ≡ false
  other_tag b t own other = not_passed b (λ is.
      let same : op_eq t.op op ≡ true = rw (own is) (same_op op) in
      let f : false ≡ true = sym other ∙ same in cc)

  other_block : (x b : BlkId) → maker_of b ≡ op.actor → eqb (maker_of x) op.actor ≡ false → blk_eq x b ≡ false
  other_block x b mine other = grind (arith, block_keys)

  pub new_block_own : (c : Class) (n : ℕ) (f : FileId) (rs : List NewRow) → ((t : Tag) → is_some (disk_at rs t) ≡ true → t.op ≡ op)
      → Within (touched_by (any.Block (blocks.MakeBlock record { 0 = object_number op.actor m.serial } c n f (own_hold op) rs)))
      (by_op op m)
  new_block_own c n f rs own = record {
    hold = λ h o. refl;
    made = λ n o. refl;
    named = λ n o. refl;
    row_hold = λ x o. other_hold x o;
    born = λ b o. o;
    tag = λ t o. other_tag (is_some (disk_at rs t)) t (own t) o;
    sealed = λ b o. refl;
    said = λ x o. refl;
  }

  pub put_own : (c : ChunkKey) (bytes : List ℕ) → (c.tag).op ≡ op → Within (touched_by (any.Disk (disks.Put c bytes))) (by_op op m)
  put_own c bytes own = record {
    hold = λ h o. refl;
    made = λ n o. refl;
    named = λ n o. refl;
    row_hold = λ x o. refl;
    born = λ b o. refl;
    tag = λ t o. other_tag (tag_eq t c.tag) t (λ is. ap (λ (x : Tag). x.op) (same_tag t c.tag is) ∙ own) o;
    sealed = λ b o. refl;
    said = λ x o. refl;
  }

  pub seal_own : (b : BlkId) → maker_of b ≡ op.actor → Within (touched_by (any.Block (blocks.SealBlock b))) (by_op op m)
  seal_own b mine = record {
    hold = λ h o. refl;
    made = λ n o. refl;
    named = λ n o. refl;
    row_hold = λ x o. refl;
    born = λ x o. refl;
    tag = λ t o. refl;
    sealed = λ x o. other_block x b mine o;
    said = λ x o. refl;
  }

-- ---- what is left so

-- the tags of the rows' chunks are the op's own
pub chunk_own : (w : World) (op : OpId) (a : Appending) (made : NewBlock) → HasMade w op a made → (i : ℕ) (c : ChunkKey)
    → slice_get (chunks_of made) i ≡ Some c → (c.tag).op ≡ op
chunk_own w op a made k i c is = k.own c.tag (rw (is_chunk made.blk made.rows k.apart i c is).disk refl)

module _ (by : Touched) (w v : World) (op : OpId) (l : Later by w v) where
  module _ (hold : (h : Hold) → h.op ≡ op → by.hold h ≡ false) (row_hold : (h : Hold) → h.op ≡ op → by.row_hold h ≡ false) where
    pub hold_stays : (g : RowGrant) → HasRowHold w op g → HasRowHold v op g
    hold_stays g k = record {
      own = k.own;
      none = λ h own. l.fresh h (hold h own) (k.none h own);
      granted = l.rows.live g.hold _ (row_hold g.hold k.own) k.granted refl;
    }

    pub made_stays : (a : Appending) (made : NewBlock) → by.sealed made.blk ≡ false → HasMade w op a made → HasMade v op a made
    made_stays a made alone k = record {
      hold = hold_stays a.hold k.hold;
      same = k.same;
      mine = k.mine;
      born = l.blocks.born made.blk _ k.born;
      said = l.blocks.said op a.bytes k.said;
      apart = k.apart;
      own = k.own;
      tagged = λ d t is. l.blocks.tagged t _ (k.tagged d t is);
      unsealed = l.blocks.unsealed made.blk alone k.unsealed;
    }

  -- by what others do
  module _ (apart : IsApart by op) where
    pub block_stays : (a : Appending) (made : NewBlock) → HasMade w op a made → HasMade v op a made
    block_stays a made k = made_stays apart.hold apart.row_hold a made (apart.sealed made.blk k.mine) k

    pub puts_stay : (a : Appending) (made : NewBlock) (at : ℕ) → HasPut w op a made at → HasPut v op a made at
    puts_stay a made at k = record {
      block = block_stays a made k.block;
      stored = λ i c below is. l.chunks.chunk c a.bytes (k.stored i c below is);
      free = λ i c after is. l.chunks.no_chunk c (apart.tag c.tag (chunk_own w op a made k.block i c is)) (k.free i c after is);
    }

    pub seal_stays : (a : Appending) (made : NewBlock) → SealKnows w op a made → SealKnows v op a made
    seal_stays a made k = record {
      block = block_stays a made k.block;
      stored = λ i c is. l.chunks.chunk c a.bytes (k.stored i c is);
    }

    pub attach_stays : (a : Appending) (b : BlkId) → AttachKnows w op a b → AttachKnows v op a b
    attach_stays a b k = record {
      hold = hold_stays apart.hold apart.row_hold a.hold k.hold;
      same = k.same;
      sealed = l.blocks.sealed b (length a.bytes) k.sealed;
    }
