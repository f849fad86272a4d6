-- opening: the look decides where it finds no file, and else the taking of the token
use Rattle.std.proofs.Common.{◌≡◌, ℕ, Bool, true, false, if◌then◌else◌, List, [], ◌∷◌, ◌++◌, Some, refl}
use Rattle.tect_ids.specs.declared.ids.Counts.{Counts}
use Rattle.tect_ids.specs.declared.ids.FileId.{FileId}
use Rattle.tect_ids.specs.declared.ids.OpId.{OpId}
use Rattle.tect_ids.specs.declared.ids.Place.{Place}
use Rattle.tect_ids.specs.declared.command.Command.{Command}
use Rattle.tect_ids.specs.declared.command.Command.TheVariants as commands
use Rattle.tect_ids.specs.declared.answer.Answer.{Answer}
use Rattle.tect_ids.specs.declared.answer.Answer.TheVariants as answers
use Rattle.store_rules.specs.declared.files.FileReq.TheVariants as files
use Rattle.store_rules.specs.declared.any.AnyReq.{AnyReq}
use Rattle.store_rules.specs.declared.any.AnyReq.TheVariants as any
use Rattle.store_rules.specs.declared.any.AnyReply.{AnyReply}
use Rattle.store_rules.specs.Places.{request_place}
use Rattle.store_rules.specs.Store.{opening_store}
use Rattle.store_rules.specs.Views.{is_opened}
use Rattle.tree_model.specs.declared.step.TreeStep.TheVariants as step
use Rattle.program_forms.specs.declared.heard.Heard.{Heard}
use Rattle.program_forms.specs.Memories.{Opens}
use Rattle.file_rules.specs.declared.states.Open.{Open}
use Rattle.file_rules.specs.declared.states.Open.TheVariants.{Find, Take}
use Rattle.file_rules.specs.Finds.{find_ask, file_refusal}
use Rattle.file_rules.specs.Open.{opening, open_learns, taken}
use Rattle.world_runs.specs.declared.event.Event.{Event}
use Rattle.world_runs.specs.OwnRuns.{stored_after}
use Rattle.claim_words.specs.Opened.{opened_at, opens_of}
use Rattle.claim_words.specs.Points.{done_answer, file_key}
use Rattle.claim_words.specs.TreeSteps.{says}
use Rattle.telling_laws.specs.Parts.{NextTells, PartTells}
use Rattle.telling_laws.proofs.Steps.{reply_at, act_at, Allows}
use Rattle.telling_laws.proofs.PartsTell.{TellsIn, part_tells, waits_tell}
use Rattle.file_laws.specs.Known.{open_deciding}
use Rattle.files_told.specs.FilesTelling.{FoundFile, OpenBefore, open_telling, files_why}
use Rattle.files_told.proofs.Finding.{decided_now, still_came, still_found, found_tells}
use Rattle.files_told.proofs.Lasting.{why_lasts}
use Rattle.files_told.proofs.Replies.{RefusesFile, done_no, opens_yes, take_yes, take_no}

-- of the reply its actor keeps just the file that was opened
keeps_opened : (op : OpId) (c : Command) (f : FileId) (path : List (List ℕ)) (x : AnyReply) → c ≡ commands.Open path
    → open_learns op (Take f path) x ≡ opens_of (Some c) (any.File (files.TakeToken f op)) x
keeps_opened op c f path x is =
    rw is (elim (is_opened x) as (λ b. (if b then Opens path f op ∷ [] else []) ≡ opened_at (Some (commands.Open path)) f op b)
    [ true ↦ refl | false ↦ refl ])

module _ (counts : Counts) where
  -- ---- its token is taken

  module _ (h : List Event) (op : OpId) (c : Command) (how : Heard) (place : Place) (f : FileId) (p : List (List ℕ))
      (was : FoundFile commands.Open h op c f p) (run : Allows h (act_at h op (any.File (files.TakeToken f op)) how)) where
    -- the request, its reply, and the history then
    abbrev q : AnyReq
    q = any.File (files.TakeToken f op)

    abbrev x : AnyReply
    x = reply_at h q

    abbrev more : List Event
    more = h ++ act_at h op q how ∷ []

    ends : (a : Answer) → a ≡ done_answer (file_key f) (answers.Opened f op) (says x) → files_why counts more op c a
    ends a e = decided_now counts h op c q how (step.Open f op) refl was.dir a was.walked run (rw was.is (was.found, e))

    taken_tells : (b : Bool) → is_opened x ≡ b → NextTells open_deciding (open_telling counts) more op c (taken place op f x b)
    taken_tells true e =
        ends (answers.Opened f op) (opens_yes (file_key f) (answers.Opened f op) (says x)
        (take_yes (stored_after opening_store h) place f op e))
    taken_tells false e =
        let no : RefusesFile place f x = take_no (stored_after opening_store h) place f op e in
        ends (file_refusal place f x) (done_no (file_key f) (file_refusal place f x) (answers.Opened f op) (says x) no.0 no.1)

  -- ---- the laws

  open_at : (s : Open) → TellsIn counts opening open_deciding (open_telling counts) s
  open_at (Find k path) = waits_tell opening open_deciding (open_telling counts) (Find k path) record {
    looks = λ m op. refl;
    undecided = refl;
    hears = λ h op c m how seen came run.
        found_tells counts commands.Open (λ p own d j r a named finds. (named, finds)) h op c how (request_place counts (find_ask k)) k
        path came run open_deciding OpenBefore (λ f. Take f path) (λ f found. found) _ refl;
    stays = λ h e op c other came. still_came commands.Open h e op c k path came;
    learns = λ h op c m x came. refl;
  }
  open_at (Take f path) = waits_tell opening open_deciding (open_telling counts) (Take f path) record {
    looks = λ m op. refl;
    undecided = refl;
    hears = λ h op c m how seen was run.
        taken_tells h op c how (request_place counts (any.File (files.TakeToken f op))) f path was run _ refl;
    stays = λ h e op c other was. still_found commands.Open h e op c f path was;
    learns = λ h op c m x was. keeps_opened op c f path x was.is;
  }

  pub open_tells : PartTells counts opening open_deciding (open_telling counts)
  open_tells = part_tells open_at (why_lasts counts)
