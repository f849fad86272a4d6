-- reading: the look, or the listing, decides where it is refused, and else the tree says the bytes that were read at the listing
use Rattle.std.proofs.Common.{◌≡◌, ℕ, ◌+◌, List as Items, [], ◌∷◌, ◌++◌, length, Option, Some, None}
use Rattle.std.proofs.Common.{refl, sym, ap, subst, ◌∙◌, inl, inr}
use Rattle.std.proofs.lemmas.List.{length-map}
use Rattle.std.specs.FinMap.{get}
use Rattle.std.specs.List.{slice_get, filter}
use Rattle.std.specs.Option.{option_map}
use Rattle.tect_ids.specs.declared.ids.BlkId.{BlkId}
use Rattle.tect_ids.specs.declared.ids.Counts.{Counts}
use Rattle.tect_ids.specs.declared.ids.FileId.{FileId}
use Rattle.tect_ids.specs.declared.ids.OpId.{OpId}
use Rattle.tect_ids.specs.declared.ids.Place.{Place}
use Rattle.tect_ids.specs.declared.key.ChunkKey.{ChunkKey}
use Rattle.tect_ids.specs.declared.values.Location.{Location}
use Rattle.tect_ids.specs.declared.values.RowPart.{RowPart}
use Rattle.tect_ids.specs.declared.command.Command.{Command}
use Rattle.tect_ids.specs.declared.command.Command.TheVariants as commands
use Rattle.tect_ids.specs.declared.answer.Answer.{Answer}
use Rattle.tect_ids.specs.declared.answer.Answer.TheVariants as answers
use Rattle.tect_ids.specs.Numbers.{root}
use Rattle.store_rules.specs.declared.blocks.BlockReq.TheVariants as blocks
use Rattle.store_rules.specs.declared.disks.DiskReq.TheVariants as disks
use Rattle.store_rules.specs.declared.files.FileReq.TheVariants as files
use Rattle.store_rules.specs.declared.any.AnyReq.{AnyReq}
use Rattle.store_rules.specs.declared.any.AnyReq.TheVariants as any
use Rattle.store_rules.specs.declared.any.AnyReply.{AnyReply}
use Rattle.store_rules.specs.Files.{row_part}
use Rattle.store_rules.specs.Places.{request_place}
use Rattle.store_rules.specs.Store.{Store, opening_store}
use Rattle.store_rules.specs.Views.{as_block_list, as_location, as_bytes}
use Rattle.tree_model.specs.declared.step.TreeStep.TheVariants as step
use Rattle.tree_model.specs.declared.step.StepValue.TheVariants as shown
use Rattle.tree_model.specs.declared.step.TreeReply.{TreeReply}
use Rattle.tree_model.specs.declared.step.TreeReply.TheVariants.{Ok}
use Rattle.tree_model.specs.Tree.{Tree, tree_reply}
use Rattle.program_forms.specs.declared.heard.Heard.{Heard}
use Rattle.file_rules.specs.declared.states.Read.{Read}
use Rattle.file_rules.specs.declared.states.Read.TheVariants.{Find, List, Locate, Fetch}
use Rattle.file_rules.specs.Finds.{find_ask, file_refusal}
use Rattle.file_rules.specs.Read.{read, located, read_on, begins_reading, placed_chunks, fetched, fetch_on, begins_fetching, got}
use Rattle.file_rules.specs.Stages.{Reading, Fetching}
use Rattle.world_runs.specs.declared.event.Event.{Event}
use Rattle.world_runs.specs.OwnRuns.{stored_after}
use Rattle.claim_words.specs.Commands.{content_of, content_in, or_nothing}
use Rattle.claim_words.specs.FilesBecause.{ReadPoint}
use Rattle.claim_words.specs.Points.{way, of_op, Walked, file_key, IsRefusal}
use Rattle.claim_words.specs.TreeSteps.{says, told_as, told_of, tree_steps}
use Rattle.telling_laws.specs.Parts.{NextTells, PartTells}
use Rattle.telling_laws.specs.Telling.{IsSeen, tree_of}
use Rattle.telling_laws.specs.View.{shown_file}
use Rattle.telling_laws.proofs.Contents.{known_stays}
use Rattle.telling_laws.proofs.Histories.{steps_more}
use Rattle.telling_laws.proofs.Steps.{reply_at, act_at, Allows}
use Rattle.telling_laws.proofs.PartsTell.{TellsIn, part_tells, waits_tell}
use Rattle.telling_laws.proofs.ValuesSeen.{get-map_values}
use Rattle.files_told.specs.FilesTelling.{FoundFile, Reads, IsReadNow, AreChunks, Fetches, ReadBefore, bytes_of}
use Rattle.file_laws.specs.Known.{read_deciding}
use Rattle.files_told.specs.FilesTelling.{read_telling, files_why}
use Rattle.files_told.proofs.Finding.{decided_now, still_came, still_found, found_tells}
use Rattle.files_told.proofs.Lasting.{why_lasts, read_point_lasts}
use Rattle.files_told.proofs.Parts.{AllPartsKnown, take_ended, bytes_same, first_bytes_same, bytes_more, rows_known, shown_bytes, reads_all}
use Rattle.files_told.proofs.Parts.{map_of_block}
use Rattle.files_told.proofs.Replies.{RefusesFile, ListsFile, refusal_no, list_some, list_none, got_stands}

-- after any event more
still_reads : (h : Items Event) (e : Event) (op : OpId) (c : Command) (r : Reading) → Reads h op c r → Reads (h ++ e ∷ []) op c r
still_reads h e op c r was = record {
  path = was.path;
  is = was.is;
  known = λ i p is. known_stays h e p.blk (was.known i p is);
  point = subst (λ (b : Items ℕ). ReadPoint (tree_steps (h ++ e ∷ [])) op was.path b) (sym (bytes_same h e r.parts was.known))
      (rw (steps_more h e) (read_point_lasts (tree_steps h) (told_of h e) op was.path (bytes_of h r.parts) was.point));
  so_far = was.so_far ∙ sym (first_bytes_same h e r.at r.parts was.known);
}

module _ (counts : Counts) where
  -- ---- a block is read, or all are

  read_ended : (h : Items Event) (op : OpId) (c : Command) (r : Reading) → Reads h op c r → slice_get r.parts r.at ≡ None
      → files_why counts h op c (answers.Read r.bytes)
  read_ended h op c r was e =
      let all : bytes_of h r.parts ≡ r.bytes = sym (was.so_far ∙ ap (λ (l : Items RowPart). bytes_of h l) (take_ended r.parts r.at e)) in
      let point : ReadPoint (tree_steps h) op was.path r.bytes =
      subst (λ (b : Items ℕ). ReadPoint (tree_steps h) op was.path b) all was.point in
      inl (inr (rw was.is (inr (r.bytes, refl, point))))

  located_tells : (h : Items Event) (op : OpId) (c : Command) (r : Reading) → Reads h op c r → (o : Option RowPart)
      → slice_get r.parts r.at ≡ o → NextTells read_deciding (read_telling counts) h op c (located r o)
  located_tells h op c r was None e = read_ended h op c r was e
  located_tells h op c r was (Some p) e = (was, record { part = p; now = e; blk = refl })

  read_on_tells : (h : Items Event) (op : OpId) (c : Command) (r : Reading) → Reads h op c r
      → NextTells read_deciding (read_telling counts) h op c (read_on r)
  read_on_tells h op c r was = located_tells h op c r was (slice_get r.parts r.at) refl

  -- ---- the blocks are listed

  module _ (h : Items Event) (op : OpId) (c : Command) (how : Heard) (f : FileId) (p : Items (Items ℕ))
      (was : FoundFile commands.Read h op c f p) where
    -- the request, its reply, the event and the history then, and the store before
    abbrev q : AnyReq
    q = any.File (files.ListBlocks f)

    abbrev x : AnyReply
    x = reply_at h q

    abbrev event : Event
    event = act_at h op q how

    abbrev more : Items Event
    more = h ++ event ∷ []

    abbrev store : Store
    store = stored_after opening_store h

    list_refused : (a : Answer) → Allows h event → IsRefusal (file_key f) (says x) a → files_why counts more op c a
    list_refused a run l = decided_now counts h op c q how (step.Blocks f) refl was.dir a was.walked run (rw was.is (was.found, l))

    module _ (seen : IsSeen h q) (parts : Items RowPart) (so : ListsFile store f parts) where
      known : AllPartsKnown h parts
      known =
          subst (λ (l : Items RowPart). AllPartsKnown h l) so.rows
          (rows_known h (so.file).rows (λ i r is. seen.known f i r (rw so.is is)))

      in_tree : get (tree_of h).files f ≡ Some (shown_file (content_in h) so.file)
      in_tree =
          ap (λ (t : Tree). get t.files f) (sym seen.shows) ∙ get-map_values (shown_file (content_in h)) store.files f
          ∙ ap (option_map (shown_file (content_in h))) so.is

      as_many : length (shown_file (content_in h) so.file).blocks ≡ length parts
      as_many = length-map (so.file).rows _ ∙ sym (length-map (so.file).rows row_part) ∙ ap length so.rows

      by_tree : tree_reply (tree_of h) op (step.Read f (length parts)) ≡ Ok (shown.Bytes (bytes_of more parts))
      by_tree =
          reads_all (tree_of h) f (shown_file (content_in h) so.file) (length parts) in_tree as_many
          ∙ ap (λ (b : Items ℕ). Ok (shown.Bytes b)) (shown_bytes h (so.file).rows ∙ ap (λ (l : Items RowPart). bytes_of h l) so.rows
          ∙ sym (bytes_same h event parts known))

      walked_read : Walked root (way (commands.Read p)) (of_op op (tree_steps h)) was.dir []
      walked_read = subst (λ (k : Command). Walked root (way k) (of_op op (tree_steps h)) was.dir []) was.is was.walked

      point : ReadPoint (tree_steps more) op p (bytes_of more parts)
      point = record {
        before = tree_steps h;
        file = f;
        sealed = (so.file).sealed;
        rows = parts;
        later = [];
        there = steps_more h event ∙ ap (λ (r : TreeReply). tree_steps h ++ told_as op (Some (step.Blocks f)) r) so.said;
        dir = was.dir;
        walked = walked_read;
        found = was.found;
        by_tree = by_tree;
      }

      reads : Reads more op c record { parts = parts; at = 0; bytes = [] }
      reads = record {
        path = p;
        is = was.is;
        known = λ i r is. known_stays h event r.blk (known i r is);
        point = point;
        so_far = refl;
      }

    begins_tells : (place : Place) → IsSeen h q → Allows h event → (o : Option (Items RowPart)) → as_block_list x ≡ o
        → NextTells read_deciding (read_telling counts) more op c (begins_reading place f x o)
    begins_tells place seen run None e =
        let no : RefusesFile place f x = list_none store place f e in
        list_refused (file_refusal place f x) run (refusal_no (file_key f) (file_refusal place f x) (says x) no.0 no.1)
    begins_tells place seen run (Some parts) e =
        read_on_tells more op c record { parts = parts; at = 0; bytes = [] } (reads seen parts (list_some store f parts e))

  -- ---- a chunk is asked for

  fetched_tells : (h : Items Event) (op : OpId) (c : Command) (place : Place) (r : Reading) (b : BlkId) (chunks : Items ChunkKey)
      (tried : ℕ) → Reads h op c r → IsReadNow r b → AreChunks chunks b → (o : Option ChunkKey) → slice_get chunks tried ≡ o
      → NextTells read_deciding (read_telling counts) h op c (fetched place r chunks tried o)
  fetched_tells h op c place r b chunks tried was now all None e = inr refl
  fetched_tells h op c place r b chunks tried was now all (Some k) e =
      let same : b ≡ k.blk = sym (all tried k e) in (
        was,
        record {
          now = subst (λ (d : BlkId). IsReadNow r d) same now;
          all = subst (λ (d : BlkId). AreChunks chunks d) same all;
        },
      )

  fetch_on_tells : (h : Items Event) (op : OpId) (c : Command) (place : Place) (r : Reading) (b : BlkId) (chunks : Items ChunkKey)
      (tried : ℕ) → Reads h op c r → IsReadNow r b → AreChunks chunks b
      → NextTells read_deciding (read_telling counts) h op c (fetch_on place r chunks tried)
  fetch_on_tells h op c place r b chunks tried was now all =
      fetched_tells h op c place r b chunks tried was now all (slice_get chunks tried) refl

  begins_fetching_tells : (h : Items Event) (op : OpId) (c : Command) (place : Place) (r : Reading) (b : BlkId) → Reads h op c r
      → IsReadNow r b → (o : Option Location) → NextTells read_deciding (read_telling counts) h op c (begins_fetching place r b o)
  begins_fetching_tells h op c place r b was now None = inr refl
  begins_fetching_tells h op c place r b was now (Some l) =
      fetch_on_tells h op c place r b (placed_chunks b l.rows) 0 was now (map_of_block b (filter (λ w. w.placed) l.rows))

  -- ---- a chunk is got

  module _ (h : Items Event) (op : OpId) (c : Command) (how : Heard) (place : Place) (r : Reading) (t : Fetching) where
    -- the request, its reply, the event and the history then
    abbrev get_chunk : AnyReq
    get_chunk = any.Disk (disks.Get t.chunk)

    abbrev chunk : AnyReply
    chunk = reply_at h get_chunk

    abbrev then_got : Event
    then_got = act_at h op get_chunk how

    -- the bytes of one block more
    one_more : (bytes : Items ℕ) → Reads h op c r → IsReadNow r (t.chunk).blk → content_of h (t.chunk).blk ≡ Some bytes
        → Reads h op c record { parts = r.parts; at = r.at + 1; bytes = r.bytes ++ bytes }
    one_more bytes was now consists =
        let so : content_in h (now.part).blk ≡ bytes = rw now.blk (ap or_nothing consists) in
        record {
          path = was.path;
          is = was.is;
          known = was.known;
          point = was.point;
          so_far = ap (λ (l : Items ℕ). l ++ bytes) was.so_far ∙ bytes_more h r.parts r.at now.part bytes now.now so;
        }

    got_tells : IsSeen h get_chunk → Reads h op c r → Fetches r t → (o : Option (Items ℕ)) → as_bytes chunk ≡ o
        → NextTells read_deciding (read_telling counts) (h ++ then_got ∷ []) op c (got place r t o)
    got_tells seen was fetches None e =
        fetch_on_tells (h ++ then_got ∷ []) op c place r (t.chunk).blk t.chunks (t.tried + 1) (still_reads h then_got op c r was)
        fetches.now fetches.all
    got_tells seen was fetches (Some bytes) e =
        let next : Reading = record { parts = r.parts; at = r.at + 1; bytes = r.bytes ++ bytes } in
        read_on_tells (h ++ then_got ∷ []) op c next
        (still_reads h then_got op c next (one_more bytes was fetches.now
        ((seen.fresh).chunks t.chunk bytes (got_stands (stored_after opening_store h) t.chunk bytes e))))

  -- ---- the laws

  read_at : (s : Read) → TellsIn counts read read_deciding (read_telling counts) s
  read_at (Find k) = waits_tell read read_deciding (read_telling counts) (Find k) record {
    looks = λ m op. refl;
    undecided = refl;
    hears = λ h op c m how seen before run.
        found_tells counts commands.Read (λ p own d j r a named finds. (named, finds)) h op c how (request_place counts (find_ask k)) k
        before.0 before.1 run read_deciding ReadBefore (λ f. List f) (λ f found. (before.0, found)) _ refl;
    stays = λ h e op c other before. (before.0, still_came commands.Read h e op c k before.0 before.1);
    learns = λ h op c m x before. refl;
  }
  read_at (List f) = waits_tell read read_deciding (read_telling counts) (List f) record {
    looks = λ m op. refl;
    undecided = refl;
    hears = λ h op c m how seen before run.
        begins_tells h op c how f before.0 before.1 (request_place counts (any.File (files.ListBlocks f))) seen run _ refl;
    stays = λ h e op c other before. (before.0, still_found commands.Read h e op c f before.0 before.1);
    learns = λ h op c m x before. refl;
  }
  read_at (Locate r b) = waits_tell read read_deciding (read_telling counts) (Locate r b) record {
    looks = λ m op. refl;
    undecided = refl;
    hears = λ h op c m how seen before run.
        let q : AnyReq = any.Block (blocks.GetBlock b) in
        begins_fetching_tells (h ++ act_at h op q how ∷ []) op c (request_place counts q) r b
        (still_reads h (act_at h op q how) op c r before.0) before.1 (as_location (reply_at h q));
    stays = λ h e op c other before. (still_reads h e op c r before.0, before.1);
    learns = λ h op c m x before. refl;
  }
  read_at (Fetch r t) = waits_tell read read_deciding (read_telling counts) (Fetch r t) record {
    looks = λ m op. refl;
    undecided = refl;
    hears = λ h op c m how seen before run.
        got_tells h op c how (request_place counts (any.Disk (disks.Get t.chunk))) r t seen before.0 before.1 _ refl;
    stays = λ h e op c other before. (still_reads h e op c r before.0, before.1);
    learns = λ h op c m x before. refl;
  }

  pub read_tells : PartTells counts read read_deciding (read_telling counts)
  read_tells = part_tells read_at (why_lasts counts)
