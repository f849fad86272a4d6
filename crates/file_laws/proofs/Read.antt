-- reading: the blocks that a file lists are sealed, so each has a place, and the chunk of its first row stands there
use Rattle.std.proofs.Common.{◌≡◌, ℕ, ◌+◌, ◌≤◌, List as Items, [], ◌∷◌, ◌++◌, length, Bool, true, false, is_some, All}
use Rattle.std.proofs.Common.{Option, Some, None, refl, sym, ap, ◌∙◌, arith}
use Rattle.std.specs.List.{slice_get}
use Rattle.std.specs.FinMap.{get}
use Rattle.tect_ids.specs.declared.ids.BlkId.{BlkId}
use Rattle.tect_ids.specs.declared.ids.FileId.{FileId}
use Rattle.tect_ids.specs.declared.ids.Node.{Node}
use Rattle.tect_ids.specs.declared.ids.Node.TheVariants as nodes
use Rattle.tect_ids.specs.declared.ids.OpId.{OpId}
use Rattle.tect_ids.specs.declared.ids.Place.{Place}
use Rattle.tect_ids.specs.declared.key.ChunkKey.{ChunkKey}
use Rattle.tect_ids.specs.declared.key.Key.{Key}
use Rattle.tect_ids.specs.declared.values.Location.{Location}
use Rattle.tect_ids.specs.declared.values.Row.{Row}
use Rattle.tect_ids.specs.declared.values.RowPart.{RowPart}
use Rattle.store_rules.specs.declared.names.NameReq.TheVariants as names
use Rattle.store_rules.specs.declared.files.FileReq.TheVariants as files
use Rattle.store_rules.specs.declared.blocks.Block.{Block}
use Rattle.store_rules.specs.declared.blocks.BlockReq.TheVariants as blocks
use Rattle.store_rules.specs.declared.disks.DiskReq.TheVariants as disks
use Rattle.store_rules.specs.declared.any.AnyReq.{AnyReq}
use Rattle.store_rules.specs.declared.any.AnyReq.TheVariants as any
use Rattle.store_rules.specs.declared.any.AnyReply.{AnyReply}
use Rattle.store_rules.specs.Places.{request_place}
use Rattle.store_rules.specs.Store.{store_reply}
use Rattle.store_rules.specs.Views.{as_found, as_block_list, as_location, as_bytes}
use Rattle.program_forms.specs.Memories.{Memory}
use Rattle.program_parts.specs.Refused.{refusal}
use Rattle.file_rules.specs.declared.states.Read.{Read}
use Rattle.file_rules.specs.declared.states.Read.TheVariants.{Find, List as Listing, Locate, Fetch}
use Rattle.file_rules.specs.Finds.{file_refusal, found_file}
use Rattle.file_rules.specs.Stages.{Reading, Fetching}
use Rattle.file_rules.specs.Read.{read, located, read_on, begins_reading, placed_chunks, fetch_on, begins_fetching, got}
use Rattle.store_pasts.specs.Contents.{sealed_length}
use Rattle.store_pasts.specs.Worlds.{World, next, settled}
use Rattle.store_pasts.specs.Later.{Touched, Later}
use Rattle.store_pasts.specs.Learned.{ListedTaught, BlockTaught, LocationTaught, IsStored, GotTaught}
use Rattle.store_pasts.specs.Requests.{touched_by}
use Rattle.program_laws.specs.Known.{IsNewOp, is_odd}
use Rattle.part_laws.specs.Parts.{PartLaws, NextKnows, next_decided}
use Rattle.part_laws.proofs.States.{LawsIn, WaitsAt, part_laws, waits}
use Rattle.part_laws.proofs.Own.{nothing_own, plain, no_hold, new_stays, new_untouched}
use Rattle.part_laws.proofs.Refused.{look_not_odd}
use Rattle.file_laws.specs.Known.{is_sealed, ReadsSealed, read_known, read_deciding}
use Rattle.file_laws.proofs.Finds.{list_not_odd}

-- ---- what is left so

-- what is sealed stays so
sealed_as : (by : Touched) (w v : World) → Later by w v → (b : BlkId) (o : Option ℕ) → sealed_length (get w.store.blocks b) ≡ o
    → is_some o ≡ true → is_sealed v b ≡ true
sealed_as by w v l b None e is = absurd (let f : false ≡ true = is in cc)
sealed_as by w v l b (Some n) e is = rw (l.blocks.sealed b n e) refl

-- and so does a chunk
stands_as : (by : Touched) (w v : World) → Later by w v → (c : ChunkKey) (o : Option (Items ℕ)) → get w.store.chunks c ≡ o
    → is_some o ≡ true → is_some (get v.store.chunks c) ≡ true
stands_as by w v l c None e is = absurd (let f : false ≡ true = is in cc)
stands_as by w v l c (Some bytes) e is = rw (l.chunks.chunk c bytes e) refl

module _ (by : Touched) (w v : World) (op : OpId) (l : Later by w v) where
  sealed_stays : (b : BlkId) → is_sealed w b ≡ true → is_sealed v b ≡ true
  sealed_stays b is = sealed_as by w v l b (sealed_length (get w.store.blocks b)) refl is

  stands_stays : (c : ChunkKey) → is_some (get w.store.chunks c) ≡ true → is_some (get v.store.chunks c) ≡ true
  stands_stays c is = stands_as by w v l c (get w.store.chunks c) refl is

  reads_stay : IsNewOp v op → (r : Reading) → ReadsSealed w op r → ReadsSealed v op r
  reads_stay new r k = record { new = new; parts = λ i p is. sealed_stays p.blk (k.parts i p is) }

-- ---- at the reply

module _ (v : World) (op : OpId) (m : Memory) where
  found_knows : (place : Place) (k : Key) (x : AnyReply) (o : Option Node) → IsNewOp v op
      → (o ≡ None → is_odd (refusal place k x) ≡ false)
      → NextKnows read_known (settled op None (next_decided read_deciding (found_file place k x (λ f. Listing f) o)) v) op m
      (found_file place k x (λ f. Listing f) o)
  found_knows place k x None new plain = plain refl
  found_knows place k x (Some (nodes.Dir d)) new plain = refl
  found_knows place k x (Some (nodes.File f)) new plain = new

  located_knows : (r : Reading) → ReadsSealed v op r → (o : Option RowPart) → slice_get r.parts r.at ≡ o
      → NextKnows read_known (settled op None (next_decided read_deciding (located r o)) v) op m (located r o)
  located_knows r k None e = refl
  located_knows r k (Some p) e = record { reads = k; sealed = k.parts r.at p e }

  read_on_knows : (r : Reading) → ReadsSealed v op r
      → NextKnows read_known (settled op None (next_decided read_deciding (read_on r)) v) op m (read_on r)
  read_on_knows r k = located_knows r k (slice_get r.parts r.at) refl

  -- each block that is listed is sealed
  listed_knows : (place : Place) (f : FileId) (x : AnyReply) (o : Option (Items RowPart)) → IsNewOp v op
      → (o ≡ None → is_odd (file_refusal place f x) ≡ false) → ListedTaught v f o
      → NextKnows read_known (settled op None (next_decided read_deciding (begins_reading place f x o)) v) op m (begins_reading place f x o)
  listed_knows place f x None new plain taught = plain refl
  listed_knows place f x (Some parts) new plain taught =
      read_on_knows record { parts = parts; at = 0; bytes = [] } record { new = new; parts = λ i p is. rw (taught.sealed i p is) refl }

  -- a block that is sealed has rows, and all of them are stored
  first_knows : (place : Place) (r : Reading) (b : BlkId) (rows : Items Row) → ReadsSealed v op r → 1 ≤ length rows
      → All (IsStored v b) rows
      → NextKnows read_known (settled op None (next_decided read_deciding (fetch_on place r (placed_chunks b rows) 0)) v) op m
      (fetch_on place r (placed_chunks b rows) 0)
  first_knows place r b [] k some stored = absurd (omega arith)
  first_knows place r b (row ∷ rows) k some stored =
      let first : IsStored v b row = stored 0 row (omega arith) in
      rw first.0 record { reads = k; stands = first.1 }

  is_whole : (x : Location) (b : BlkId) (s : Bool) → x.sealed ≡ s → LocationTaught v b x → is_sealed v b ≡ true → x.sealed ≡ true
  is_whole x b true e taught is = e
  is_whole x b false e taught is =
      let none : sealed_length (get v.store.blocks b) ≡ None = taught.sealed ∙ (rw e refl) in
      absurd (let f : false ≡ true = sym (ap (λ (o : Option ℕ). is_some o) none) ∙ is in cc)

  fetching_knows : (place : Place) (r : Reading) (b : BlkId) (o : Option Location) → ReadsSealed v op r → is_sealed v b ≡ true
      → BlockTaught v b o
      → NextKnows read_known (settled op None (next_decided read_deciding (begins_fetching place r b o)) v) op m
      (begins_fetching place r b o)
  fetching_knows place r b None k is none =
      absurd (let f : false ≡ true = sym (ap (λ (o : Option Block). is_some (sealed_length o)) none) ∙ is in cc)
  fetching_knows place r b (Some x) k is taught =
      first_knows place r b x.rows k taught.some (taught.stored (is_whole x b x.sealed refl taught is))

  -- a chunk that stands is got
  got_knows : (place : Place) (r : Reading) (t : Fetching) (o : Option (Items ℕ)) → ReadsSealed v op r
      → is_some (get v.store.chunks t.chunk) ≡ true → GotTaught v t.chunk o
      → NextKnows read_known (settled op None (next_decided read_deciding (got place r t o)) v) op m (got place r t o)
  got_knows place r t None k is none =
      absurd (let f : false ≡ true = sym (ap (λ (o : Option (Items ℕ)). is_some o) none) ∙ is in cc)
  got_knows place r t (Some bytes) k is taught =
      read_on_knows record { parts = r.parts; at = r.at + 1; bytes = r.bytes ++ bytes } record { new = k.new; parts = k.parts }

-- ---- in each state

find_waits : (k : Key) → WaitsAt read read_deciding read_known (Find k)
find_waits k = record {
  looks = λ c m op. refl;
  undecided = refl;
  meets = λ c w op m r a new. plain w op m _ refl tt (nothing_own op m);
  stays = λ by w v op m l apart new. new_stays by w v op l apart new;
  goes_on = λ c w op m n r a new kept serial.
      let q : AnyReq = any.Name (names.Look k) in
      let x : AnyReply = store_reply w.store q in
      found_knows (next w q) op n (request_place c q) k x (as_found x)
      (new_untouched (touched_by q) w (next w q) op kept.later (λ h own. refl) (λ h own. refl) (λ t own. refl) new)
      (look_not_odd w.store (request_place c q) k k);
  learns = λ c w op m r a new kept. tt;
  spends = λ c w op m r a new x h g now own is live. absurd (no_hold w op new h g own is);
  grants = λ c w op m r a new kept h free touched granted. absurd (let f : false ≡ true = touched in cc);
}

list_waits : (f : FileId) → WaitsAt read read_deciding read_known (Listing f)
list_waits f = record {
  looks = λ c m op. refl;
  undecided = refl;
  meets = λ c w op m r a new. plain w op m _ refl tt (nothing_own op m);
  stays = λ by w v op m l apart new. new_stays by w v op l apart new;
  goes_on = λ c w op m n r a new kept serial.
      let q : AnyReq = any.File (files.ListBlocks f) in
      let x : AnyReply = store_reply w.store q in
      listed_knows (next w q) op n (request_place c q) f x (as_block_list x)
      (new_untouched (touched_by q) w (next w q) op kept.later (λ h own. refl) (λ h own. refl) (λ t own. refl) new)
      (list_not_odd w.store (request_place c q) f f) kept.taught;
  learns = λ c w op m r a new kept. tt;
  spends = λ c w op m r a new x h g now own is live. absurd (no_hold w op new h g own is);
  grants = λ c w op m r a new kept h free touched granted. absurd (let f : false ≡ true = touched in cc);
}

locate_waits : (r : Reading) (b : BlkId) → WaitsAt read read_deciding read_known (Locate r b)
locate_waits r b = record {
  looks = λ c m op. refl;
  undecided = refl;
  meets = λ c w op m remembers a k. plain w op m _ refl tt (nothing_own op m);
  stays = λ by w v op m l apart k. record {
    reads = reads_stay by w v op l (new_stays by w v op l apart (k.reads).new) r k.reads;
    sealed = sealed_stays by w v op l b k.sealed;
  };
  goes_on = λ c w op m n remembers a k kept serial.
      let q : AnyReq = any.Block (blocks.GetBlock b) in
      let x : AnyReply = store_reply w.store q in
      fetching_knows (next w q) op n (request_place c q) r b (as_location x)
      (reads_stay (touched_by q) w (next w q) op kept.later
      (new_untouched (touched_by q) w (next w q) op kept.later (λ h own. refl) (λ h own. refl) (λ t own. refl) (k.reads).new) r k.reads)
      (sealed_stays (touched_by q) w (next w q) op kept.later b k.sealed) kept.taught;
  learns = λ c w op m remembers a k kept. tt;
  spends = λ c w op m remembers a k x h g now own is live. absurd (no_hold w op (k.reads).new h g own is);
  grants = λ c w op m remembers a k kept h free touched granted. absurd (let f : false ≡ true = touched in cc);
}

fetch_waits : (r : Reading) (t : Fetching) → WaitsAt read read_deciding read_known (Fetch r t)
fetch_waits r t = record {
  looks = λ c m op. refl;
  undecided = refl;
  meets = λ c w op m remembers a k. plain w op m _ refl tt (nothing_own op m);
  stays = λ by w v op m l apart k. record {
    reads = reads_stay by w v op l (new_stays by w v op l apart (k.reads).new) r k.reads;
    stands = stands_stays by w v op l t.chunk k.stands;
  };
  goes_on = λ c w op m n remembers a k kept serial.
      let q : AnyReq = any.Disk (disks.Get t.chunk) in
      let x : AnyReply = store_reply w.store q in
      got_knows (next w q) op n (request_place c q) r t (as_bytes x)
      (reads_stay (touched_by q) w (next w q) op kept.later
      (new_untouched (touched_by q) w (next w q) op kept.later (λ h own. refl) (λ h own. refl) (λ s own. refl) (k.reads).new) r k.reads)
      (stands_stays (touched_by q) w (next w q) op kept.later t.chunk k.stands) kept.taught;
  learns = λ c w op m remembers a k kept. tt;
  spends = λ c w op m remembers a k x h g now own is live. absurd (no_hold w op (k.reads).new h g own is);
  grants = λ c w op m remembers a k kept h free touched granted. absurd (let f : false ≡ true = touched in cc);
}

-- ---- the laws

read_at : (s : Read) → LawsIn read read_deciding read_known s
read_at (Find k) = waits (find_waits k)
read_at (Listing f) = waits (list_waits f)
read_at (Locate r b) = waits (locate_waits r b)
read_at (Fetch r t) = waits (fetch_waits r t)

pub read_laws : PartLaws read read_deciding read_known
read_laws = part_laws read_at (λ by w v a l e. e)
