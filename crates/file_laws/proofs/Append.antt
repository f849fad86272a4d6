-- appending: a block is made with a hold for a row, its chunks are put, it is sealed, and attached by the hold, or the hold is given up
use Rattle.std.proofs.Common.{◌≡◌, ℕ, ◌+◌, ◌<◌, ◌≤◌, List, length, eqb, Bool, true, false, is_some, Option, Some, None}
use Rattle.std.proofs.Common.{refl, sym, ap, ◌∙◌, arith}
use Rattle.std.specs.List.{slice_get}
use Rattle.std.specs.FinMap.{get}
use Rattle.tect_ids.specs.declared.ids.BlkId.{BlkId}
use Rattle.tect_ids.specs.declared.ids.FileId.{FileId}
use Rattle.tect_ids.specs.declared.ids.Hold.{Hold}
use Rattle.tect_ids.specs.declared.ids.OpId.{OpId}
use Rattle.tect_ids.specs.declared.ids.Place.{Place}
use Rattle.tect_ids.specs.declared.ids.Tag.{Tag}
use Rattle.tect_ids.specs.declared.key.ChunkKey.{ChunkKey}
use Rattle.tect_ids.specs.declared.values.Class.TheVariants.{Copies}
use Rattle.tect_ids.specs.declared.values.NewRow.{NewRow}
use Rattle.tect_ids.specs.declared.answer.Answer.{Answer}
use Rattle.tect_ids.specs.Keys.{tag_eq}
use Rattle.tect_ids.specs.Numbers.{object_number, own_hold}
use Rattle.store_rules.specs.declared.files.FileReq.TheVariants as files
use Rattle.store_rules.specs.declared.blocks.Block.{Block}
use Rattle.store_rules.specs.declared.blocks.BlockReq.TheVariants as blocks
use Rattle.store_rules.specs.declared.disks.DiskReq.TheVariants as disks
use Rattle.store_rules.specs.declared.any.AnyReq.{AnyReq}
use Rattle.store_rules.specs.declared.any.AnyReq.TheVariants as any
use Rattle.store_rules.specs.declared.any.AnyReply.{AnyReply}
use Rattle.store_rules.specs.Places.{request_place}
use Rattle.store_rules.specs.Store.{Store, store_reply}
use Rattle.store_rules.specs.Views.{is_made, is_granted, is_stored, is_block_sealed, as_attached}
use Rattle.tect_calls.specs.MadeBlocks.{NewBlock, chunks_of}
use Rattle.tect_calls.specs.Readings.{given_if, new_block}
use Rattle.program_forms.specs.Memories.{Memory}
use Rattle.program_parts.specs.declared.next.Next.TheVariants.{Goes}
use Rattle.file_rules.specs.declared.states.Appending.{Appending}
use Rattle.file_rules.specs.declared.states.Append.{Append}
use Rattle.file_rules.specs.declared.states.Append.TheVariants.{Make, Put, Seal, Attach, Release}
use Rattle.file_rules.specs.Finds.{file_refusal}
use Rattle.file_rules.specs.Placing.{Spread, first_disk, new_rows}
use Rattle.file_rules.specs.Stages.{Putting}
use Rattle.file_rules.specs.Append.{append, append_decided, put_next, put_on, block_made, put, sealed, attached}
use Rattle.store_pasts.specs.Contents.{Born, tag_at, disk_at, sealed_length, is_unsealed, born_tag}
use Rattle.store_pasts.specs.Worlds.{World, Given, next, settled}
use Rattle.store_pasts.specs.Later.{Touched, Later}
use Rattle.store_pasts.specs.Learned.{NewBlockNeeds, NewBlockTaught, SealNeeds, SealTaught, PutNeeds, AttachTaught}
use Rattle.store_pasts.specs.Requests.{touched_by}
use Rattle.store_pasts.proofs.Over.{over_row_spent}
use Rattle.program_laws.specs.Known.{Remembers, IsActor, is_odd}
use Rattle.part_laws.specs.Parts.{PartLaws, NextKnows, next_decided}
use Rattle.part_laws.proofs.States.{LawsIn, WaitsAt, part_laws, waits}
use Rattle.part_laws.proofs.Own.{nothing_own, bound_own, plain, making, block_free, same_op, new_stays}
use Rattle.file_laws.specs.Known.{MakeKnows, HasMade, HasPut, PutKnows, SealKnows, AttachKnows, append_known, append_deciding}
use Rattle.file_laws.proofs.Finds.{attach_not_odd}
use Rattle.file_laws.proofs.Spread.{count_rows, own_tags, apart_rows}
use Rattle.file_laws.proofs.Chunks.{IsChunk, is_chunk, tags_differ, chunk_at, before_end}
use Rattle.file_laws.proofs.RowHolds.{block_number, new_block_own, put_own, seal_own, chunk_own, hold_stays, made_stays}
use Rattle.file_laws.proofs.RowHolds.{puts_stay, seal_stays, attach_stays}

-- the op has no hold for an entry
no_entry : (w : World) (op : OpId) → ((h : Hold) → h.op ≡ op → w.ghost.given h ≡ None) → (h : Hold) (g : Given) → h.op ≡ op
    → w.ghost.given h ≡ Some g → ⊥
no_entry w op none h g own is = let f : None ≡ Some g = sym (none h own) ∙ is in cc

-- ---- the next chunk is put, or the block is sealed

module _ (v : World) (op : OpId) (n : Memory) (a : Appending) (made : NewBlock) (at : ℕ) (puts : HasPut v op a made at) where
  next_knows : (o : Option ChunkKey) → slice_get (chunks_of made) at ≡ o
      → NextKnows append_known (settled op None (append_decided (put_next a made at o)) v) op n (Goes (put_next a made at o))
  next_knows None e = record { block = puts.block; stored = λ i c is. puts.stored i c (before_end (chunks_of made) i at c e is) is }
  next_knows (Some c) e = record { puts = puts; next = e }

  put_on_knows : NextKnows append_known (settled op None (append_decided (put_on a made at)) v) op n (Goes (put_on a made at))
  put_on_knows = next_knows (slice_get (chunks_of made) at) refl

-- ---- the block is made

-- what its request needs
module _ (w : World) (op : OpId) (m : Memory) (r : Remembers w op.actor m) (a : IsActor op m) (f : FileId) (bytes : List ℕ) (p : Spread)
    (k : MakeKnows w op m f bytes p) where
  abbrev number : ℕ
  number = object_number op.actor m.serial

  abbrev rows : List NewRow
  rows = new_rows p op number

  rows_own : (t : Tag) → is_some (disk_at rows t) ≡ true → t.op ≡ op
  rows_own t is = own_tags p.disks op (first_disk p number) 0 p.copies t is

  make_needs : NewBlockNeeds w record { 0 = number } (length bytes) f (own_hold op) rows
  make_needs = record {
    unborn = block_free w op m r a;
    new_hold = (k.new).row_given (own_hold op) refl;
    file_made = k.made;
    said = rw k.said refl;
    some = rw (count_rows p.disks op (first_disk p number) 0 p.copies) k.some;
    apart = apart_rows p.disks op (first_disk p number) 0 p.copies k.enough;
    own = rows_own;
    untagged = λ t is. (k.new).tagged t (rows_own t is);
  }

  -- none of its chunks stands yet
  module _ (v : World) (by : Touched) (l : Later by w v) (x : AnyReply)
      (t : NewBlockTaught v record { 0 = number } Copies (length bytes) f (own_hold op) rows x)
      (hold : (h : Hold) → h.op ≡ op → by.hold h ≡ false) (token : OpId) where
    abbrev begun : Appending
    begun = record { token = token; bytes = bytes; hold = record { blk = record { 0 = number }; hold = own_hold op; file = f } }

    abbrev block : NewBlock
    block = record { blk = record { 0 = number }; rows = rows }

    free_yet : (i : ℕ) (c : ChunkKey) → slice_get (chunks_of block) i ≡ Some c → get v.store.chunks c ≡ None
    free_yet i c is =
        let chunk : IsChunk block.blk rows c = is_chunk block.blk rows make_needs.apart i c is in
        rw chunk.is (t.no_chunk c.disk c.tag chunk.tag)

    puts_none : HasPut v op begun block 0
    puts_none = record {
      block = record {
        hold = record { own = refl; none = λ h own. l.fresh h (hold h own) ((k.new).given h own); granted = t.granted };
        same = refl;
        mine = block_number op m.serial a.few;
        born = t.born;
        said = l.blocks.said op bytes k.said;
        apart = make_needs.apart;
        own = rows_own;
        tagged = t.tagged;
        unsealed = t.unsealed;
      };
      stored = λ i c below is. absurd (omega arith);
      free = λ i c after is. free_yet i c is;
    }

made_knows : (v : World) (op : OpId) (n : Memory) (place : Place) (token : OpId) (bytes : List ℕ) (b : BlkId) (f : FileId)
    (rows : List NewRow) (is : Bool) → is ≡ true
    → HasPut v op record { token = token; bytes = bytes; hold = record { blk = b; hold = own_hold op; file = f } }
    record { blk = b; rows = rows } 0
    → NextKnows append_known
    (settled op None
    (next_decided append_deciding (block_made place token bytes (given_if (new_block b f (own_hold op) rows) is))) v) op n
    (block_made place token bytes (given_if (new_block b f (own_hold op) rows) is))
made_knows v op n place token bytes b f rows true e puts = put_on_knows v op n _ _ 0 puts
made_knows v op n place token bytes b f rows false e puts = absurd (let k : false ≡ true = e in cc)

make_waits : (f : FileId) (token : OpId) (bytes : List ℕ) (p : Spread) → WaitsAt append append_deciding append_known (Make f token bytes p)
make_waits f token bytes p = record {
  looks = λ c m op. refl;
  undecided = refl;
  meets = λ c w op m r a k.
      making w op m _ k.left (make_needs w op m r a f bytes p k)
      (new_block_own op m Copies (length bytes) f (new_rows p op (object_number op.actor m.serial)) (rows_own w op m r a f bytes p k));
  stays = λ by w v op m l apart k. record {
    made = l.made _ k.made;
    said = l.blocks.said op bytes k.said;
    new = new_stays by w v op l apart k.new;
    left = k.left;
    some = k.some;
    enough = k.enough;
  };
  goes_on = λ c w op m n r a k kept serial.
      let number : ℕ = object_number op.actor m.serial in
      let b : BlkId = record { 0 = number } in
      let rows : List NewRow = new_rows p op number in
      let q : AnyReq = any.Block (blocks.MakeBlock b Copies (length bytes) f (own_hold op) rows) in
      let x : AnyReply = store_reply w.store q in
      made_knows (next w q) op n (request_place c q) token bytes b f rows (is_made x) (kept.taught).made
      (puts_none w op m r a f bytes p k (next w q) (touched_by q) kept.later x kept.taught (λ h own. refl) token);
  learns = λ c w op m r a k kept. tt;
  spends = λ c w op m r a k x h g now own is live. absurd (no_entry w op (k.new).given h g own is);
  grants = λ c w op m r a k kept h free touched granted. absurd (let f : false ≡ true = touched in cc);
}

-- ---- a chunk is put

-- it is stored, since no chunk stands there
put_stored : (s : Store) (c : ChunkKey) (bytes : List ℕ) → get s.chunks c ≡ None
    → is_stored (store_reply s (any.Disk (disks.Put c bytes))) ≡ true
put_stored s c bytes none = rw none refl

module _ (w : World) (op : OpId) (a : Appending) (p : Putting) (k : PutKnows w op a p) where
  put_chunk : IsChunk (p.made).blk (p.made).rows p.chunk
  put_chunk = is_chunk (p.made).blk (p.made).rows ((k.puts).block).apart p.at p.chunk k.next

  put_needs : PutNeeds w p.chunk a.bytes
  put_needs =
      let block : HasMade w op a p.made = (k.puts).block in
      let chunk : IsChunk (p.made).blk (p.made).rows p.chunk = put_chunk in
      let blk : (p.chunk).blk ≡ (p.made).blk = ap (λ (c : ChunkKey). c.blk) chunk.is in
      rw blk (block.tagged (p.chunk).disk (p.chunk).tag chunk.tag, rw block.born block.said)

  -- one more chunk stands
  module _ (v : World) (by : Touched) (l : Later by w v) (hold : (h : Hold) → h.op ≡ op → by.hold h ≡ false)
      (row_hold : (h : Hold) → h.op ≡ op → by.row_hold h ≡ false) (alone : by.sealed (p.made).blk ≡ false)
      (tag : (t : Tag) → tag_eq t (p.chunk).tag ≡ false → by.tag t ≡ false) (now : get v.store.chunks p.chunk ≡ Some a.bytes) where
    stored_now : (i : ℕ) (c : ChunkKey) → i < p.at + 1 → slice_get (chunks_of p.made) i ≡ Some c → get v.store.chunks c ≡ Some a.bytes
    stored_now i c below is = by_place (eqb i p.at) refl
      where
        by_place : (b : Bool) → eqb i p.at ≡ b → get v.store.chunks c ≡ Some a.bytes
        by_place true e =
            let at : i ≡ p.at = grind arith in
            let two : Some c ≡ Some p.chunk = sym is ∙ (rw at k.next) in
            let same : c ≡ p.chunk = cc in
            rw same now
        by_place false e = l.chunks.chunk c a.bytes ((k.puts).stored i c (grind arith) is)

    free_still : (i : ℕ) (c : ChunkKey) → p.at + 1 ≤ i → slice_get (chunks_of p.made) i ≡ Some c → get v.store.chunks c ≡ None
    free_still i c after is =
        let other : tag_eq c.tag (p.chunk).tag ≡ false =
        tags_differ (p.made).blk (p.made).rows ((k.puts).block).apart p.at i p.chunk c (omega arith) k.next is in
        l.chunks.no_chunk c (tag c.tag other) ((k.puts).free i c (omega arith) is)

    puts_more : HasPut v op a p.made (p.at + 1)
    puts_more = record {
      block = made_stays by w v op l hold row_hold a p.made alone (k.puts).block;
      stored = stored_now;
      free = free_still;
    }

put_knows : (v : World) (op : OpId) (n : Memory) (place : Place) (a : Appending) (p : Putting) (x : AnyReply) (is : Bool) → is ≡ true
    → HasPut v op a p.made (p.at + 1)
    → NextKnows append_known (settled op None (next_decided append_deciding (put place a p x is)) v) op n (put place a p x is)
put_knows v op n place a p x true e puts = put_on_knows v op n a p.made (p.at + 1) puts
put_knows v op n place a p x false e puts = absurd (let k : false ≡ true = e in cc)

put_waits : (a : Appending) (p : Putting) → WaitsAt append append_deciding append_known (Put a p)
put_waits a p = record {
  looks = λ c m op. refl;
  undecided = refl;
  meets = λ c w op m r actor k.
      plain w op m _ refl (put_needs w op a p k)
      (put_own op m p.chunk a.bytes (chunk_own w op a p.made (k.puts).block p.at p.chunk k.next));
  stays = λ by w v op m l apart k. record { puts = puts_stay by w v op l apart a p.made p.at k.puts; next = k.next };
  goes_on = λ c w op m n r actor k kept serial.
      let q : AnyReq = any.Disk (disks.Put p.chunk a.bytes) in
      let x : AnyReply = store_reply w.store q in
      put_knows (next w q) op n (request_place c q) a p x (is_stored x)
      (put_stored w.store p.chunk a.bytes ((k.puts).free p.at p.chunk (omega arith) k.next))
      (puts_more w op a p k (next w q) (touched_by q) kept.later (λ h own. refl) (λ h own. refl) refl (λ t other. other) kept.taught);
  learns = λ c w op m r actor k kept. tt;
  spends = λ c w op m r actor k x h g now own is live. absurd (no_entry w op (((k.puts).block).hold).none h g own is);
  grants = λ c w op m r actor k kept h free touched granted. absurd (let f : false ≡ true = touched in cc);
}

-- ---- the block is sealed

-- it is sealed, since it stands unsealed
seal_now : (o : Option Block) (b : BlkId) (s : Store) → get s.blocks b ≡ o → is_unsealed o ≡ true
    → is_block_sealed (store_reply s (any.Block (blocks.SealBlock b))) ≡ true
seal_now None b s e is = absurd (let f : false ≡ true = is in cc)
seal_now (Some x) b s e is = rw e (let unsealed : x.sealed ≡ false = grind arith in rw unsealed refl)

module _ (w : World) (op : OpId) (a : Appending) (made : NewBlock) (k : SealKnows w op a made) where
  seal_needs : SealNeeds w made.blk
  seal_needs = record {
    born = rw (k.block).born refl;
    stored = λ d t is.
        let at : tag_at made.rows d ≡ Some t = sym (ap (λ (o : Option Born). born_tag o d) (k.block).born) ∙ is in
        let chunk = chunk_at made.blk made.rows d t at in
        rw (k.stored chunk.0 _ chunk.1) refl;
  }

  sealed_length_now : (v : World) (by : Touched) → Later by w v → SealTaught v made.blk
      → sealed_length (get v.store.blocks made.blk) ≡ Some (length a.bytes)
  sealed_length_now v by l taught = taught ∙ (rw (l.blocks.born made.blk _ (k.block).born) refl)

sealed_knows : (v : World) (op : OpId) (n : Memory) (place : Place) (a : Appending) (made : NewBlock) (is : Bool) → is ≡ true
    → AttachKnows v op a made.blk
    → NextKnows append_known (settled op None (next_decided append_deciding (sealed place a made is)) v) op n (sealed place a made is)
sealed_knows v op n place a made true e knows = knows
sealed_knows v op n place a made false e knows = absurd (let k : false ≡ true = e in cc)

seal_waits : (a : Appending) (made : NewBlock) → WaitsAt append append_deciding append_known (Seal a made)
seal_waits a made = record {
  looks = λ c m op. refl;
  undecided = refl;
  meets = λ c w op m r actor k. plain w op m _ refl (seal_needs w op a made k) (seal_own op m made.blk (k.block).mine);
  stays = λ by w v op m l apart k. seal_stays by w v op l apart a made k;
  goes_on = λ c w op m n r actor k kept serial.
      let q : AnyReq = any.Block (blocks.SealBlock made.blk) in
      let x : AnyReply = store_reply w.store q in
      sealed_knows (next w q) op n (request_place c q) a made (is_block_sealed x)
      (seal_now (get w.store.blocks made.blk) made.blk w.store refl (k.block).unsealed)
      record {
        hold = hold_stays (touched_by q) w (next w q) op kept.later (λ h own. refl) (λ h own. refl) a.hold (k.block).hold;
        same = (k.block).same;
        sealed = sealed_length_now w op a made k (next w q) (touched_by q) kept.later kept.taught;
      };
  learns = λ c w op m r actor k kept. tt;
  spends = λ c w op m r actor k x h g now own is live. absurd (no_entry w op ((k.block).hold).none h g own is);
  grants = λ c w op m r actor k kept h free touched granted. absurd (let f : false ≡ true = touched in cc);
}

-- ---- the block is attached

-- where that is refused its hold is given up
attached_knows : (v : World) (op : OpId) (n : Memory) (place : Place) (a : Appending) (b : BlkId) (x : AnyReply) (o : Option ℕ)
    → ((a.hold).hold).op ≡ op → (o ≡ None → is_odd (file_refusal place (a.hold).file x) ≡ false)
    → AttachTaught v (a.hold).file b (length a.bytes) (a.hold).hold o
    → NextKnows append_known (settled op None (next_decided append_deciding (attached place a x o)) v) op n (attached place a x o)
attached_knows v op n place a b x None own plain taught = record {
  spent = over_row_spent v op (a.hold).hold b (a.hold).file (rw own (same_op op)) taught;
  plain = plain refl;
}
attached_knows v op n place a b x (Some i) own plain taught = refl

attach_grants_none : (s : Store) (f : FileId) (t : OpId) (b : BlkId) (len : ℕ) (h : Hold)
    → is_granted (store_reply s (any.File (files.Attach f t b len h))) ≡ false
attach_grants_none s f t b len h = grind arith

attach_waits : (a : Appending) (b : BlkId) → WaitsAt append append_deciding append_known (Attach a b)
attach_waits a b = record {
  looks = λ c m op. refl;
  undecided = refl;
  meets = λ c w op m r actor k.
      plain w op m _ refl (rw k.same (k.hold).granted, k.sealed) (bound_own op m (a.hold).hold (k.hold).own);
  stays = λ by w v op m l apart k. attach_stays by w v op l apart a b k;
  goes_on = λ c w op m n r actor k kept serial.
      let q : AnyReq = any.File (files.Attach (a.hold).file a.token b (length a.bytes) (a.hold).hold) in
      let x : AnyReply = store_reply w.store q in
      attached_knows (next w q) op n (request_place c q) a b x (as_attached x) (k.hold).own
      (attach_not_odd w.store (request_place c q) (a.hold).file (a.hold).file a.token b (length a.bytes) (a.hold).hold) kept.taught;
  learns = λ c w op m r actor k kept. tt;
  spends = λ c w op m r actor k x h g now own is live. absurd (no_entry w op (k.hold).none h g own is);
  grants = λ c w op m r actor k kept h free touched granted.
      absurd (let f : false ≡ true =
      sym (attach_grants_none w.store (a.hold).file a.token b (length a.bytes) (a.hold).hold) ∙ granted in cc);
}

-- ---- the hold is released

release_at : (b : BlkId) (h : Hold) (answer : Answer) → LawsIn append append_deciding append_known (Release b h answer)
release_at b h answer = record {
  turns = λ c w op m r k. (r, refl, k);
  turned = λ c m op. refl;
  meets = λ c w op m r a k. plain w op m _ refl k.spent (nothing_own op m);
  stays = λ by w v op m l apart k. record { spent = l.rows.spent h k.spent; plain = k.plain };
  goes_on = λ c w op m n r a k kept serial. k.plain;
  learns = λ c w op m r a k kept. tt;
  heard = λ c m op q x r e. e;
  spends = λ c w op m r a k e. absurd (let f : Some answer ≡ None = e in cc);
  grants = λ c w op m r a k e. absurd (let f : Some answer ≡ None = e in cc);
}

-- ---- the laws

append_at : (s : Append) → LawsIn append append_deciding append_known s
append_at (Make f token bytes p) = waits (make_waits f token bytes p)
append_at (Put a p) = waits (put_waits a p)
append_at (Seal a made) = waits (seal_waits a made)
append_at (Attach a b) = waits (attach_waits a b)
append_at (Release b h answer) = release_at b h answer

pub append_laws : PartLaws append append_deciding append_known
append_laws = part_laws append_at (λ by w v a l e. e)
