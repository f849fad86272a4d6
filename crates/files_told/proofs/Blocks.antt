-- listing: the look decides where it finds no file, and else the listing
use Rattle.std.proofs.Common.{◌≡◌, ℕ, List as Items, [], ◌∷◌, ◌++◌, Option, Some, None, refl}
use Rattle.tect_ids.specs.declared.ids.Counts.{Counts}
use Rattle.tect_ids.specs.declared.ids.FileId.{FileId}
use Rattle.tect_ids.specs.declared.ids.OpId.{OpId}
use Rattle.tect_ids.specs.declared.ids.Place.{Place}
use Rattle.tect_ids.specs.declared.values.RowPart.{RowPart}
use Rattle.tect_ids.specs.declared.command.Command.{Command}
use Rattle.tect_ids.specs.declared.command.Command.TheVariants as commands
use Rattle.tect_ids.specs.declared.answer.Answer.{Answer}
use Rattle.tect_ids.specs.declared.answer.Answer.TheVariants as answers
use Rattle.store_rules.specs.declared.files.FileReq.TheVariants as files
use Rattle.store_rules.specs.declared.any.AnyReq.{AnyReq}
use Rattle.store_rules.specs.declared.any.AnyReq.TheVariants as any
use Rattle.store_rules.specs.declared.any.AnyReply.{AnyReply}
use Rattle.store_rules.specs.Places.{request_place}
use Rattle.store_rules.specs.Store.{opening_store}
use Rattle.store_rules.specs.Views.{as_block_list}
use Rattle.tree_model.specs.declared.step.TreeStep.TheVariants as step
use Rattle.program_forms.specs.declared.heard.Heard.{Heard}
use Rattle.file_rules.specs.declared.states.Blocks.{Blocks}
use Rattle.file_rules.specs.declared.states.Blocks.TheVariants.{Find, List}
use Rattle.file_rules.specs.Blocks.{blocks, listed}
use Rattle.file_rules.specs.Finds.{find_ask, file_refusal}
use Rattle.world_runs.specs.declared.event.Event.{Event}
use Rattle.world_runs.specs.OwnRuns.{stored_after}
use Rattle.claim_words.specs.Points.{file_key, ListsBlocks}
use Rattle.claim_words.specs.TreeSteps.{says}
use Rattle.telling_laws.specs.Parts.{NextTells, PartTells}
use Rattle.telling_laws.proofs.Steps.{reply_at, act_at, Allows}
use Rattle.telling_laws.proofs.PartsTell.{TellsIn, part_tells, waits_tell}
use Rattle.file_laws.specs.Known.{blocks_deciding}
use Rattle.files_told.specs.FilesTelling.{FoundFile, BlocksBefore, blocks_telling, files_why}
use Rattle.files_told.proofs.Finding.{decided_now, still_came, still_found, found_tells}
use Rattle.files_told.proofs.Lasting.{why_lasts}
use Rattle.files_told.proofs.Replies.{RefusesFile, ListsFile, lists_no, lists_yes, list_some, list_none}

module _ (counts : Counts) where
  -- ---- the blocks are listed

  module _ (h : Items Event) (op : OpId) (c : Command) (how : Heard) (place : Place) (f : FileId) (p : Items (Items ℕ))
      (was : FoundFile commands.Blocks h op c f p) (run : Allows h (act_at h op (any.File (files.ListBlocks f)) how)) where
    -- the request, its reply, and the history then
    abbrev q : AnyReq
    q = any.File (files.ListBlocks f)

    abbrev x : AnyReply
    x = reply_at h q

    abbrev more : Items Event
    more = h ++ act_at h op q how ∷ []

    ends : (a : Answer) → ListsBlocks (file_key f) (says x) a → files_why counts more op c a
    ends a l = decided_now counts h op c q how (step.Blocks f) refl was.dir a was.walked run (rw was.is (was.found, l))

    listed_tells : (o : Option (Items RowPart)) → as_block_list x ≡ o
        → NextTells blocks_deciding (blocks_telling counts) more op c (listed place f x o)
    listed_tells None e =
        let no : RefusesFile place f x = list_none (stored_after opening_store h) place f e in
        ends (file_refusal place f x) (lists_no (file_key f) (file_refusal place f x) (says x) no.0 no.1)
    listed_tells (Some parts) e =
        let so : ListsFile (stored_after opening_store h) f parts = list_some (stored_after opening_store h) f parts e in
        ends (answers.Blocks parts) (lists_yes (file_key f) (so.file).sealed parts (says x) so.said)

  -- ---- the laws

  blocks_at : (s : Blocks) → TellsIn counts blocks blocks_deciding (blocks_telling counts) s
  blocks_at (Find k) = waits_tell blocks blocks_deciding (blocks_telling counts) (Find k) record {
    looks = λ m op. refl;
    undecided = refl;
    hears = λ h op c m how seen before run.
        found_tells counts commands.Blocks (λ p own d j r a named finds. (named, finds)) h op c how (request_place counts (find_ask k)) k
        before.0 before.1 run blocks_deciding BlocksBefore (λ f. List f) (λ f found. (before.0, found)) _ refl;
    stays = λ h e op c other before. (before.0, still_came commands.Blocks h e op c k before.0 before.1);
    learns = λ h op c m x before. refl;
  }
  blocks_at (List f) = waits_tell blocks blocks_deciding (blocks_telling counts) (List f) record {
    looks = λ m op. refl;
    undecided = refl;
    hears = λ h op c m how seen before run.
        listed_tells h op c how (request_place counts (any.File (files.ListBlocks f))) f before.0 before.1 run _ refl;
    stays = λ h e op c other before. (before.0, still_found commands.Blocks h e op c f before.0 before.1);
    learns = λ h op c m x before. refl;
  }

  pub blocks_tell : PartTells counts blocks blocks_deciding (blocks_telling counts)
  blocks_tell = part_tells blocks_at (why_lasts counts)
