-- appending: a block is made of the command's bytes, and its attach decides
use Rattle.std.proofs.Common.{◌≡◌, ℕ, ◌+◌, Bool, true, false, List, [], ◌∷◌, ◌++◌}
use Rattle.std.proofs.Common.{length, Option, Some, None, refl, ap, ◌∙◌, arith, inr}
use Rattle.std.specs.List.{slice_get}
use Rattle.tect_ids.specs.declared.ids.BlkId.{BlkId}
use Rattle.tect_ids.specs.declared.ids.Counts.{Counts}
use Rattle.tect_ids.specs.declared.ids.FileId.{FileId}
use Rattle.tect_ids.specs.declared.ids.Hold.{Hold}
use Rattle.tect_ids.specs.declared.ids.OpId.{OpId}
use Rattle.tect_ids.specs.declared.ids.Place.{Place}
use Rattle.tect_ids.specs.declared.key.ChunkKey.{ChunkKey}
use Rattle.tect_ids.specs.declared.values.Class.TheVariants.{Copies}
use Rattle.tect_ids.specs.declared.values.NewRow.{NewRow}
use Rattle.tect_ids.specs.declared.command.Command.{Command}
use Rattle.tect_ids.specs.declared.answer.Answer.{Answer}
use Rattle.tect_ids.specs.declared.answer.Answer.TheVariants as answers
use Rattle.tect_ids.specs.Keys.{blk_eq}
use Rattle.tect_ids.specs.Numbers.{object_number, own_hold, root}
use Rattle.tect_ids.proofs.KeyTests.{blk_eq_cases}
use Rattle.store_rules.specs.declared.blocks.BlockReq.TheVariants as blocks
use Rattle.store_rules.specs.declared.disks.DiskReq.TheVariants as disks
use Rattle.store_rules.specs.declared.files.FileReq.TheVariants as files
use Rattle.store_rules.specs.declared.any.AnyReq.{AnyReq}
use Rattle.store_rules.specs.declared.any.AnyReq.TheVariants as any
use Rattle.store_rules.specs.declared.any.AnyReply.{AnyReply}
use Rattle.store_rules.specs.Holds.{RowGrant}
use Rattle.store_rules.specs.Places.{request_place}
use Rattle.store_rules.specs.Store.{opening_store}
use Rattle.store_rules.specs.Views.{is_made, as_attached}
use Rattle.tree_model.specs.declared.step.TreeStep.TheVariants as step
use Rattle.tect_calls.specs.MadeBlocks.{NewBlock, chunks_of}
use Rattle.tect_calls.specs.Readings.{given_if, new_block}
use Rattle.program_forms.specs.declared.heard.Heard.{Heard}
use Rattle.file_rules.specs.declared.states.Append.{Append}
use Rattle.file_rules.specs.declared.states.Append.TheVariants.{Make, Put, Seal, Attach, Release}
use Rattle.file_rules.specs.declared.states.Appending.{Appending}
use Rattle.file_rules.specs.Append.{append, put_next, put_on, block_made, put, sealed, attached}
use Rattle.file_rules.specs.Finds.{file_refusal}
use Rattle.file_rules.specs.Placing.{new_rows}
use Rattle.file_rules.specs.Stages.{Putting}
use Rattle.world_runs.specs.declared.event.Event.{Event}
use Rattle.world_runs.specs.OwnRuns.{stored_after}
use Rattle.claim_words.specs.Commands.{or_later, maker_by, maker_of, said_by, bytes_by, content_of, content_in, or_nothing}
use Rattle.claim_words.specs.Points.{of_op, Walked, Attaches, file_key}
use Rattle.claim_words.specs.TreeSteps.{Told, says, tree_steps}
use Rattle.telling_laws.specs.Parts.{NextTells, PartTells}
use Rattle.telling_laws.specs.Telling.{Tells}
use Rattle.telling_laws.proofs.Contents.{content_stays, maker_more, said_more}
use Rattle.telling_laws.proofs.Steps.{reply_at, act_at, Allows, WalkedTo}
use Rattle.telling_laws.proofs.PartsTell.{TellsIn, part_tells, waits_tell}
use Rattle.file_laws.specs.Known.{append_deciding}
use Rattle.files_told.specs.FilesTelling.{Appends, AppendsBlock, append_telling, files_why}
use Rattle.files_told.proofs.Finding.{decided_now}
use Rattle.files_told.proofs.Lasting.{was_open_lasts, why_lasts}
use Rattle.files_told.proofs.Replies.{RefusesFile, attaches_no, attaches_yes, attach_some, attach_none, put_not_lost}

-- ---- a command without a way is at the root

no_way : (own : List Told) → Walked root [] own root []
no_way [] = (refl, refl)
no_way (s ∷ ss) = no_way ss

-- ---- after any event more

module _ (h : List Event) (e : Event) (op : OpId) (c : Command) where
  still_appends : (f : FileId) (token : OpId) (bytes : List ℕ) → Appends h op c f token bytes → Appends (h ++ e ∷ []) op c f token bytes
  still_appends f token bytes a = record {
    path = a.path;
    is = a.is;
    said = said_more h e op ∙ ap (λ (o : Option (List ℕ)). or_later o (said_by e op)) a.said;
    opened = was_open_lasts h (e ∷ []) op c a.path f token a.opened;
  }

  still_block : (a : Appending) (b : BlkId) → AppendsBlock h op c a b → AppendsBlock (h ++ e ∷ []) op c a b
  still_block a b t = record {
    appends = still_appends (a.hold).file a.token a.bytes t.appends;
    made = content_stays h e b a.bytes t.made;
    hold = t.hold;
  }

module _ (counts : Counts) where
  -- ---- the next chunk is put

  put_next_tells : (h : List Event) (op : OpId) (c : Command) (a : Appending) (made : NewBlock) (at : ℕ) → AppendsBlock h op c a made.blk
      → (o : Option ChunkKey) → Tells append_deciding (append_telling counts) h op c (put_next a made at o)
  put_next_tells h op c a made at t None = t
  put_next_tells h op c a made at t (Some k) = t

  put_on_tells : (h : List Event) (op : OpId) (c : Command) (a : Appending) (made : NewBlock) (at : ℕ) → AppendsBlock h op c a made.blk
      → Tells append_deciding (append_telling counts) h op c (put_on a made at)
  put_on_tells h op c a made at t = put_next_tells h op c a made at t (slice_get (chunks_of made) at)

  -- ---- the block is made

  made_tells : (h : List Event) (op : OpId) (c : Command) (place : Place) (token : OpId) (bytes : List ℕ) (n : NewBlock × RowGrant)
      (x : AnyReply) → is_made x ≡ true → AppendsBlock h op c record { token = token; bytes = bytes; hold = n.1 } (n.0).blk
      → NextTells append_deciding (append_telling counts) h op c (block_made place token bytes (given_if n (is_made x)))
  made_tells h op c place token bytes n x e t = rw e (put_on_tells h op c record { token = token; bytes = bytes; hold = n.1 } n.0 0 t)

  module _ (h : List Event) (op : OpId) (c : Command) (how : Heard) (b : BlkId) (f : FileId) (token : OpId) (hold : Hold)
      (rows : List NewRow) (bytes : List ℕ) where
    -- the request, and the event
    abbrev making : AnyReq
    making = any.Block (blocks.MakeBlock b Copies (length bytes) f hold rows)

    abbrev event : Event
    event = act_at h op making how

    itself : blk_eq b b ≡ true
    itself = grind (arith, blk_eq_cases b b)

    made_by_it : is_made (reply_at h making) ≡ true → maker_by event b ≡ Some op
    made_by_it e = rw (itself, e) refl

    block_made_so : is_made (reply_at h making) ≡ true → maker_of h b ≡ None → Appends h op c f token bytes
        → content_of (h ++ event ∷ []) b ≡ Some bytes
    block_made_so e unmade a =
        ap (bytes_by (h ++ event ∷ []))
        (maker_more h event b ∙ ap (λ (o : Option OpId). or_later o (maker_by event b)) unmade ∙ made_by_it e)
        ∙ (still_appends h event op c f token bytes a).said

  -- ---- a chunk is put

  module _ (h : List Event) (op : OpId) (c : Command) (how : Heard) (place : Place) (a : Appending) (p : Putting)
      (t : AppendsBlock h op c a (p.made).blk) where
    -- the request, and its reply
    abbrev putting : AnyReq
    putting = any.Disk (disks.Put p.chunk a.bytes)

    abbrev stored : AnyReply
    stored = reply_at h putting

    put_tells : (b : Bool) → NextTells append_deciding (append_telling counts) (h ++ act_at h op putting how ∷ []) op c
        (put place a p stored b)
    put_tells true =
        put_on_tells (h ++ act_at h op putting how ∷ []) op c a p.made (p.at + 1)
        (still_block h (act_at h op putting how) op c a (p.made).blk t)
    put_tells false = rw (put_not_lost (stored_after opening_store h) p.chunk a.bytes) (inr refl)

  -- ---- the block is sealed

  sealed_tells : (h : List Event) (op : OpId) (c : Command) (place : Place) (a : Appending) (made : NewBlock)
      → AppendsBlock h op c a made.blk → (b : Bool)
      → NextTells append_deciding (append_telling counts) h op c (sealed place a made b)
  sealed_tells h op c place a made t true = t
  sealed_tells h op c place a made t false = inr refl

  -- ---- the block is attached

  module _ (h : List Event) (op : OpId) (c : Command) (how : Heard) (place : Place) (a : Appending) (b : BlkId)
      (t : AppendsBlock h op c a b) where
    -- the file, the request, its reply, and the history then
    abbrev file : FileId
    file = (a.hold).file

    abbrev attach : AnyReq
    attach = any.File (files.Attach file a.token b (length a.bytes) (a.hold).hold)

    abbrev x : AnyReply
    x = reply_at h attach

    abbrev more : List Event
    more = h ++ act_at h op attach how ∷ []

    content : content_in h b ≡ a.bytes
    content = ap or_nothing t.made

    at_root : WalkedTo h op c root []
    at_root = rw (t.appends).is (no_way (of_op op (tree_steps h)))

    module _ (run : Allows h (act_at h op attach how)) where
      ends : (answer : Answer) → Attaches (file_key file) b (says x) answer → files_why counts more op c answer
      ends answer l =
          decided_now counts h op c attach how (step.Attach file a.token b (content_in h b)) refl root answer at_root run
          (rw (t.appends).is (content, l))

      attached_tells : (o : Option ℕ) → as_attached x ≡ o
          → NextTells append_deciding (append_telling counts) more op c (attached place a x o)
      attached_tells None e =
          let no : RefusesFile place file x =
          attach_none (stored_after opening_store h) place file a.token b (length a.bytes) (a.hold).hold e in
          ends (file_refusal place file x) (attaches_no (file_key file) (file_refusal place file x) b (says x) no.0 no.1)
      attached_tells (Some i) e =
          rw t.hold (ends (answers.Appended b i) (attaches_yes (file_key file) b i (says x)
          (attach_some (stored_after opening_store h) place file a.token b (length a.bytes) (a.hold).hold i e)))

  -- ---- the laws

  append_at : (s : Append) → TellsIn counts append append_deciding (append_telling counts) s
  append_at (Make f token bytes p) = waits_tell append append_deciding (append_telling counts) (Make f token bytes p) record {
    looks = λ m op. refl;
    undecided = refl;
    hears = λ h op c m how seen a run.
        let b : BlkId = record { 0 = object_number op.actor m.serial } in
        let rows : List NewRow = new_rows p op (object_number op.actor m.serial) in
        let q : AnyReq = any.Block (blocks.MakeBlock b Copies (length bytes) f (own_hold op) rows) in
        let e : Event = act_at h op q how in
        made_tells (h ++ e ∷ []) op c (request_place counts q) token bytes (new_block b f (own_hold op) rows) (reply_at h q)
        ((seen.fresh).made refl) record {
          appends = still_appends h e op c f token bytes a.0;
          made = block_made_so h op c how b f token (own_hold op) rows bytes ((seen.fresh).made refl)
              ((seen.fresh).unmade b (itself h op c how b f token (own_hold op) rows bytes)) a.0;
          hold = refl;
        };
    stays = λ h e op c other a. (still_appends h e op c f token bytes a.0, a.1);
    learns = λ h op c m x a. refl;
  }
  append_at (Put a p) = waits_tell append append_deciding (append_telling counts) (Put a p) record {
    looks = λ m op. refl;
    undecided = refl;
    hears = λ h op c m how seen t run.
        put_tells h op c how (request_place counts (any.Disk (disks.Put p.chunk a.bytes))) a p t _;
    stays = λ h e op c other t. still_block h e op c a (p.made).blk t;
    learns = λ h op c m x t. refl;
  }
  append_at (Seal a made) = waits_tell append append_deciding (append_telling counts) (Seal a made) record {
    looks = λ m op. refl;
    undecided = refl;
    hears = λ h op c m how seen t run.
        let q : AnyReq = any.Block (blocks.SealBlock made.blk) in
        sealed_tells (h ++ act_at h op q how ∷ []) op c (request_place counts q) a made
        (still_block h (act_at h op q how) op c a made.blk t) _;
    stays = λ h e op c other t. still_block h e op c a made.blk t;
    learns = λ h op c m x t. refl;
  }
  append_at (Attach a b) = waits_tell append append_deciding (append_telling counts) (Attach a b) record {
    looks = λ m op. refl;
    undecided = refl;
    hears = λ h op c m how seen t run.
        attached_tells h op c how
        (request_place counts (any.File (files.Attach (a.hold).file a.token b (length a.bytes) (a.hold).hold))) a b t run _ refl;
    stays = λ h e op c other t. still_block h e op c a b t;
    learns = λ h op c m x t. refl;
  }
  append_at (Release b hold answer) = record {
    turns = λ h op c m before none. absurd (let k : Some answer ≡ None = none in cc);
    hears = λ h op c m how seen before none. absurd (let k : Some answer ≡ None = none in cc);
    stays = λ h e op c other before. tt;
    turned = λ m op. refl;
    heard = λ m op q x a is. is;
    learns = λ h op c m x before none. refl;
    learns_none = λ op c m x a is. refl;
    opened = λ m op. refl;
  }

  pub append_tells : PartTells counts append append_deciding (append_telling counts)
  append_tells = part_tells append_at (why_lasts counts)
