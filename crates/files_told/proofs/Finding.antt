-- a file is found under the last name of the command's path; and what was told stays so
use Rattle.std.proofs.Common.{◌≡◌, ℕ, Some, None, Option, List, [], ◌∷◌, ◌++◌, refl, inl}
use Rattle.tect_ids.specs.declared.ids.Counts.{Counts}
use Rattle.tect_ids.specs.declared.ids.DirId.{DirId}
use Rattle.tect_ids.specs.declared.ids.FileId.{FileId}
use Rattle.tect_ids.specs.declared.ids.Node.{Node}
use Rattle.tect_ids.specs.declared.ids.Node.TheVariants.{Dir, File}
use Rattle.tect_ids.specs.declared.ids.OpId.{OpId}
use Rattle.tect_ids.specs.declared.ids.Place.{Place}
use Rattle.tect_ids.specs.declared.key.Key.{Key}
use Rattle.tect_ids.specs.declared.command.Command.{Command}
use Rattle.tect_ids.specs.declared.answer.Answer.{Answer}
use Rattle.tect_ids.specs.declared.answer.Answer.TheVariants as answers
use Rattle.tect_ids.specs.Paths.{last_name}
use Rattle.store_rules.specs.declared.any.AnyReq.{AnyReq}
use Rattle.store_rules.specs.declared.any.AnyReply.{AnyReply}
use Rattle.store_rules.specs.Names.{key_in}
use Rattle.store_rules.specs.Store.{opening_store}
use Rattle.store_rules.specs.Views.{as_found}
use Rattle.tree_model.specs.declared.step.TreeStep.{TreeStep}
use Rattle.tree_model.specs.declared.step.TreeStep.TheVariants as step
use Rattle.tree_model.specs.declared.step.StepValue.TheVariants as shown
use Rattle.tree_model.specs.declared.step.TreeReply.{TreeReply}
use Rattle.tree_model.specs.declared.step.TreeReply.TheVariants.{Ok}
use Rattle.program_forms.specs.declared.heard.Heard.{Heard}
use Rattle.program_parts.specs.Refused.{refusal}
use Rattle.program_laws.specs.Known.{Deciding}
use Rattle.file_rules.specs.Finds.{find_ask, found_file}
use Rattle.world_runs.specs.declared.event.Event.{Event}
use Rattle.world_runs.specs.OwnRuns.{stored_after}
use Rattle.claim_words.specs.Commands.{content_in}
use Rattle.claim_words.specs.Points.{of_op, FindsNoFile, Decides}
use Rattle.claim_words.specs.TreeSteps.{Told, tree_step, says, tree_steps}
use Rattle.telling_laws.specs.Parts.{NextTells}
use Rattle.telling_laws.specs.Telling.{Tells}
use Rattle.telling_laws.proofs.Replies.{RefusesSo, look_some, look_none}
use Rattle.telling_laws.proofs.Steps.{reply_at, act_at, Allows, WalkedTo, over_then, saw_then, saw_now, decides_now}
use Rattle.files_told.specs.FilesTelling.{CameFor, FoundFile, files_why}
use Rattle.files_told.proofs.Replies.{no_file_no, no_file_dir}

-- the reply to that request decides the answer
pub decided_now : (counts : Counts) (h : List Event) (op : OpId) (c : Command) (q : AnyReq) (how : Heard) (s : TreeStep)
    → tree_step (content_in h) q (reply_at h q) ≡ Some s → (d : DirId) (a : Answer) → WalkedTo h op c d [] → Allows h (act_at h op q how)
    → Decides c (of_op op (tree_steps h)) d s (says (reply_at h q)) a → files_why counts (h ++ act_at h op q how ∷ []) op c a
decided_now counts h op c q how s is d a walked run decides =
    inl (inl (inl (decides_now h op c q (reply_at h q) how s is d [] a walked run decides)))

-- ---- after any event more

module _ (of : List (List ℕ) → Command) (h : List Event) (e : Event) (op : OpId) (c : Command) where
  pub still_came : (k : Key) (p : List (List ℕ)) → CameFor of h op c k p → CameFor of (h ++ e ∷ []) op c k p
  still_came k p came = record { is = came.is; walked = over_then h e op c k.dir came.walked; last = came.last }

  pub still_found : (f : FileId) (p : List (List ℕ)) → FoundFile of h op c f p → FoundFile of (h ++ e ∷ []) op c f p
  still_found f p was = record {
    is = was.is;
    dir = was.dir;
    walked = over_then h e op c was.dir was.walked;
    found = saw_then h e op c (step.Look (key_in was.dir (last_name p))) (Ok (shown.Node (File f))) was.found;
  }

-- ---- the look

-- a look decides commands of that kind where it finds no file
abbrev pub LooksForFile : (List (List ℕ) → Command) → Type 0
LooksForFile of = (p : List (List ℕ)) (own : List Told) (d : DirId) (k : Key) (r : TreeReply) (a : Answer) → k ≡ key_in d (last_name p)
    → FindsNoFile k r a → Decides (of p) own d (step.Look k) r a

module _ (counts : Counts) (of : List (List ℕ) → Command) (looks : LooksForFile of) (h : List Event) (op : OpId) (c : Command) (how : Heard)
    (place : Place) (k : Key) (p : List (List ℕ)) (came : CameFor of h op c k p) (run : Allows h (act_at h op (find_ask k) how)) where
  -- the look, its reply, and the history then
  abbrev q : AnyReq
  q = find_ask k

  abbrev x : AnyReply
  x = reply_at h q

  abbrev more : List Event
  more = h ++ act_at h op q how ∷ []

  named : k ≡ key_in k.dir (last_name p)
  named = rw came.last refl

  ends : (a : Answer) → FindsNoFile k (says x) a → files_why counts more op c a
  ends a f =
      decided_now counts h op c q how (step.Look k) refl k.dir a came.walked run
      (rw came.is (looks p (of_op op (tree_steps h)) k.dir k (says x) a named f))

  file_found : (f : FileId) → says x ≡ Ok (shown.Node (File f)) → FoundFile of more op c f p
  file_found f said = record {
    is = came.is;
    dir = k.dir;
    walked = over_then h (act_at h op q how) op c k.dir came.walked;
    found = rw came.last (saw_now h op c q x how (step.Look k) refl (Ok (shown.Node (File f))) said);
  }

  -- commands that go on so with the file
  module _ {S : Type 0} (D : Deciding S Answer) (Before : List Event → OpId → Command → S → Type 0) (next : FileId → S)
      (goes : (f : FileId) → FoundFile of more op c f p → Tells D record { Before = Before; because = files_why counts } more op c (next f))
    where
      pub found_tells : (o : Option Node) → as_found x ≡ o
          → NextTells D record { Before = Before; because = files_why counts } more op c (found_file place k x next o)
      found_tells None e =
          let no : RefusesSo place k x = look_none (stored_after opening_store h) place k e in
          ends (refusal place k x) (no_file_no k (refusal place k x) (says x) no.0 no.1)
      found_tells (Some (Dir d)) e =
          ends answers.IsDir (no_file_dir k d (says x) (look_some (stored_after opening_store h) place k (Dir d) e))
      found_tells (Some (File f)) e = goes f (file_found f (look_some (stored_after opening_store h) place k (File f) e))
