-- making: what is new is made, and its bind decides
use Rattle.std.proofs.Common.{◌≡◌, true, List, [], ◌∷◌, ◌++◌, Option, Some, None, refl}
use Rattle.tect_ids.specs.declared.ids.Counts.{Counts}
use Rattle.tect_ids.specs.declared.ids.DirId.{DirId}
use Rattle.tect_ids.specs.declared.ids.FileId.{FileId}
use Rattle.tect_ids.specs.declared.ids.Hold.{Hold}
use Rattle.tect_ids.specs.declared.ids.Node.{Node}
use Rattle.tect_ids.specs.declared.ids.Node.TheVariants.{Dir, File}
use Rattle.tect_ids.specs.declared.ids.OpId.{OpId}
use Rattle.tect_ids.specs.declared.ids.Place.{Place}
use Rattle.tect_ids.specs.declared.key.Key.{Key}
use Rattle.tect_ids.specs.declared.command.Command.{Command}
use Rattle.tect_ids.specs.declared.answer.Answer.{Answer}
use Rattle.tect_ids.specs.declared.answer.Answer.TheVariants as answers
use Rattle.tect_ids.specs.Numbers.{object_number, own_hold}
use Rattle.store_rules.specs.declared.names.NameReq.TheVariants as names
use Rattle.store_rules.specs.declared.names.Replaced.{Replaced}
use Rattle.store_rules.specs.declared.files.FileReq.TheVariants as files
use Rattle.store_rules.specs.declared.any.AnyReq.{AnyReq}
use Rattle.store_rules.specs.declared.any.AnyReq.TheVariants as any
use Rattle.store_rules.specs.declared.any.AnyReply.{AnyReply}
use Rattle.store_rules.specs.Names.{key_in}
use Rattle.store_rules.specs.Places.{request_place}
use Rattle.store_rules.specs.Store.{opening_store}
use Rattle.store_rules.specs.Views.{is_made, as_bound}
use Rattle.tree_model.specs.declared.step.TreeStep.TheVariants as step
use Rattle.tree_model.specs.declared.step.TreeReply.{TreeReply}
use Rattle.tect_calls.specs.Readings.{freed_old, bound_freed}
use Rattle.program_forms.specs.declared.heard.Heard.{Heard}
use Rattle.program_parts.specs.Refused.{refusal}
use Rattle.program_parts.specs.Releases.{then_release}
use Rattle.program_rules.specs.declared.states.NewNode.{NewNode}
use Rattle.program_rules.specs.declared.states.NewNode.TheVariants as new
use Rattle.program_rules.specs.declared.states.Make.{Make}
use Rattle.program_rules.specs.declared.states.Make.TheVariants.{New, Bind, Release}
use Rattle.program_rules.specs.declared.operation.Operation.TheVariants as operation
use Rattle.program_rules.specs.Make.{make, over_of, made, bound}
use Rattle.part_laws.specs.Releases.{release_deciding}
use Rattle.world_runs.specs.declared.event.Event.{Event}
use Rattle.world_runs.specs.OwnRuns.{stored_after}
use Rattle.claim_words.specs.TreeSteps.{Told, says, tree_steps}
use Rattle.claim_words.specs.Points.{of_op, done_answer, Decides}
use Rattle.claim_words.specs.Because.{because}
use Rattle.telling_laws.specs.Telling.{Telling}
use Rattle.telling_laws.specs.Parts.{NextTells, PartTells, release_telling}
use Rattle.telling_laws.proofs.Steps.{reply_at, act_at, Allows}
use Rattle.telling_laws.proofs.Replies.{RefusesSo}
use Rattle.telling_laws.proofs.PartsTell.{TellsIn, IsWithin, part_tells, tells_in, waits_tell, tells_within, within_tells}
use Rattle.telling_laws.proofs.PartsTell.{then_release_tells}
use Rattle.names_laws.proofs.Make.{make_deciding}
use Rattle.names_told.specs.NamesTelling.{CameTo, IsOfKind, MakeBefore}
use Rattle.names_told.proofs.Replies.{done_yes, done_no, ok_done, bind_some, bind_none}
use Rattle.names_told.proofs.Commands.{OfItsCommands}
use Rattle.files_told.proofs.Lasting.{because_lasts}
use Rattle.names_told.proofs.Causes.{releases_tell, still_came, decided_now}

module _ (counts : Counts) where
  abbrev pub make_telling : Telling Make
  make_telling = record { Before = MakeBefore; because = because counts }

  make_releases : IsWithin Release release_deciding (release_telling (because counts)) make_deciding make_telling
  make_releases = record { decided = λ r. refl; before = λ h op c r b. b; because = λ h op c a b. b }

  -- ---- it is made

  made_tells : (h : List Event) (op : OpId) (c : Command) (place : Place) (kind : NewNode) (k : Key) (n : Node) (x : AnyReply)
      → is_made x ≡ true → CameTo h op c k.dir (operation.Make kind k.name) → IsOfKind kind n
      → NextTells make_deciding make_telling h op c (made place op kind k n x)
  made_tells h op c place kind k n x e came is = rw e (came, is)

  -- ---- it is bound

  -- the reply to the bind decides a make
  bind_decides : (own : List Told) (kind : NewNode) (k : Key) (n : Node) (r : TreeReply) (a : Answer) → IsOfKind kind n
      → a ≡ done_answer k (answers.Found n) r
      → OfItsCommands (λ c. Decides c own k.dir (step.Bind k n (over_of kind)) r a) (operation.Make kind k.name)
  bind_decides own new.File k (File f) r a is e = λ p last. (rw last refl, e)
  bind_decides own new.Dir k (Dir d) r a is e = λ p last. (rw last refl, e)
  bind_decides own new.File k (Dir d) r a is e = absurd is
  bind_decides own new.Dir k (File f) r a is e = absurd is

  module _ (h : List Event) (op : OpId) (c : Command) (how : Heard) (place : Place) (kind : NewNode) (k : Key) (n : Node) (hold : Hold) where
    -- the request
    abbrev q : AnyReq
    q = any.Name (names.Bind k n hold (over_of kind))

    -- its reply
    abbrev x : AnyReply
    x = reply_at h q

    -- the history with it
    abbrev more : List Event
    more = h ++ act_at h op q how ∷ []

    bound_decides : (a : Answer) → CameTo h op c k.dir (operation.Make kind k.name) → IsOfKind kind n → Allows h (act_at h op q how)
        → a ≡ done_answer k (answers.Found n) (says x) → because counts more op c a
    bound_decides a came is run e =
        decided_now counts h op c q how (step.Bind k n (over_of kind)) refl k.dir (operation.Make kind k.name) a came run
        (bind_decides (of_op op (tree_steps h)) kind k n (says x) a is e)

    bound_tells : (o : Option (Option Replaced)) → as_bound x ≡ o → CameTo h op c k.dir (operation.Make kind k.name) → IsOfKind kind n
        → Allows h (act_at h op q how)
        → NextTells make_deciding make_telling more op c (bound place k n hold x (bound_freed o))
    bound_tells None e came is run =
        let no : RefusesSo place k x = bind_none (stored_after opening_store h) place k n hold (over_of kind) e in
        bound_decides (refusal place k x) came is run (done_no k (refusal place k x) (answers.Found n) (says x) no.0 no.1)
    bound_tells (Some old) e came is run =
        within_tells Release make_releases more op c (then_release (freed_old old) (answers.Found n))
        (then_release_tells (because counts) more op c (freed_old old) (answers.Found n)
        (bound_decides (answers.Found n) came is run (done_yes k (answers.Found n) (says x)
        (ok_done (says x) (bind_some (stored_after opening_store h) place k n hold (over_of kind) old e)))))

  -- ---- the laws

  make_at : (s : Make) → TellsIn counts make make_deciding make_telling s
  make_at (New new.File d n) = waits_tell make make_deciding make_telling (New new.File d n) record {
    looks = λ m op. refl;
    undecided = refl;
    hears = λ h op c m how fresh came run.
        let f : FileId = record { 0 = object_number op.actor m.serial } in
        let k : Key = key_in d n in
        let q : AnyReq = any.File (files.MakeFile f (own_hold op) k None) in
        made_tells (h ++ act_at h op q how ∷ []) op c (request_place counts q) new.File k (File f) (reply_at h q)
        ((fresh.fresh).made refl) (still_came h (act_at h op q how) op c d (operation.Make new.File n) came) tt;
    stays = λ h e op c other came. still_came h e op c d (operation.Make new.File n) came;
    learns = λ h op c m x before. refl;
  }
  make_at (New new.Dir d n) = waits_tell make make_deciding make_telling (New new.Dir d n) record {
    looks = λ m op. refl;
    undecided = refl;
    hears = λ h op c m how fresh came run.
        let g : DirId = record { 0 = object_number op.actor m.serial } in
        let k : Key = key_in d n in
        let q : AnyReq = any.Name (names.MakeDir g d (own_hold op) k) in
        made_tells (h ++ act_at h op q how ∷ []) op c (request_place counts q) new.Dir k (Dir g) (reply_at h q)
        ((fresh.fresh).made refl) (still_came h (act_at h op q how) op c d (operation.Make new.Dir n) came) tt;
    stays = λ h e op c other came. still_came h e op c d (operation.Make new.Dir n) came;
    learns = λ h op c m x before. refl;
  }
  make_at (Bind kind k n hold) = waits_tell make make_deciding make_telling (Bind kind k n hold) record {
    looks = λ m op. refl;
    undecided = refl;
    hears = λ h op c m how fresh before run.
        let q : AnyReq = any.Name (names.Bind k n hold (over_of kind)) in
        bound_tells h op c how (request_place counts q) kind k n hold _ refl before.0 before.1 run;
    stays = λ h e op c other before. (still_came h e op c k.dir (operation.Make kind k.name) before.0, before.1);
    learns = λ h op c m x before. refl;
  }
  make_at (Release r) = tells_within Release make_releases (tells_in (releases_tell counts) r)

  pub make_tells : PartTells counts make make_deciding make_telling
  make_tells = part_tells make_at (because_lasts counts)
