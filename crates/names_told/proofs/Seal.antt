-- sealing: the look decides where it is refused, and else the seal
use Rattle.std.proofs.Common.{◌≡◌, Bool, true, false, List, [], ◌∷◌, ◌++◌, Option, Some, None, refl, inl, inr}
use Rattle.tect_ids.specs.declared.ids.Counts.{Counts}
use Rattle.tect_ids.specs.declared.ids.DirId.{DirId}
use Rattle.tect_ids.specs.declared.ids.FileId.{FileId}
use Rattle.tect_ids.specs.declared.ids.Node.{Node}
use Rattle.tect_ids.specs.declared.ids.Node.TheVariants.{Dir, File}
use Rattle.tect_ids.specs.declared.ids.OpId.{OpId}
use Rattle.tect_ids.specs.declared.ids.Place.{Place}
use Rattle.tect_ids.specs.declared.key.Key.{Key}
use Rattle.tect_ids.specs.declared.command.Command.{Command}
use Rattle.tect_ids.specs.declared.answer.Answer.{Answer}
use Rattle.tect_ids.specs.declared.answer.Answer.TheVariants as answers
use Rattle.store_rules.specs.declared.names.NameReq.TheVariants as names
use Rattle.store_rules.specs.declared.any.AnyReq.{AnyReq}
use Rattle.store_rules.specs.declared.any.AnyReq.TheVariants as any
use Rattle.store_rules.specs.declared.any.AnyReply.{AnyReply}
use Rattle.store_rules.specs.Names.{key_in}
use Rattle.store_rules.specs.Places.{request_place}
use Rattle.store_rules.specs.Store.{Store, opening_store}
use Rattle.store_rules.specs.Views.{as_found, is_sealed}
use Rattle.tree_model.specs.declared.step.TreeStep.TheVariants as step
use Rattle.tree_model.specs.declared.step.StepValue.TheVariants as shown
use Rattle.tree_model.specs.declared.step.TreeReply.TheVariants.{Ok}
use Rattle.program_forms.specs.declared.heard.Heard.{Heard}
use Rattle.program_parts.specs.Refused.{refusal, dir_refusal}
use Rattle.file_rules.specs.Finds.{file_refusal}
use Rattle.program_rules.specs.declared.states.Seal.{Seal}
use Rattle.program_rules.specs.declared.states.Seal.TheVariants.{Find, Close}
use Rattle.program_rules.specs.declared.operation.Operation.TheVariants as operation
use Rattle.program_rules.specs.Seal.{seal, seal_ask, found, sealed}
use Rattle.world_runs.specs.declared.event.Event.{Event}
use Rattle.world_runs.specs.OwnRuns.{stored_after}
use Rattle.claim_words.specs.Opened.{opens_of}
use Rattle.claim_words.specs.TreeSteps.{says}
use Rattle.claim_words.specs.Points.{done_answer, file_key}
use Rattle.claim_words.specs.Because.{because}
use Rattle.telling_laws.specs.Telling.{Telling}
use Rattle.telling_laws.specs.Parts.{NextTells, PartTells}
use Rattle.telling_laws.proofs.Steps.{reply_at, act_at, Allows, saw_then, saw_now}
use Rattle.telling_laws.proofs.Replies.{RefusesSo, look_some, look_none}
use Rattle.telling_laws.proofs.PartsTell.{TellsIn, part_tells, waits_tell}
use Rattle.names_laws.proofs.Seal.{seal_deciding}
use Rattle.names_told.specs.NamesTelling.{CameTo, SealsDir, SealsFound, SealBefore}
use Rattle.names_told.proofs.Replies.{RefusesDir, done_yes, done_no, refusal_no, ok_done, seal_dir_yes, seal_dir_no}
use Rattle.names_told.proofs.Replies.{seal_file_yes, seal_file_no}
use Rattle.files_told.proofs.Lasting.{because_lasts}
use Rattle.files_told.proofs.Replies.{RefusesFile}
use Rattle.names_told.proofs.Causes.{still_came, decided_now}

module _ (counts : Counts) where
  abbrev pub seal_telling : Telling Seal
  seal_telling = record { Before = SealBefore; because = because counts }

  -- after any event more
  still_sealing : (h : List Event) (e : Event) (op : OpId) (c : Command) (n : Node) → SealBefore h op c (Close n)
      → SealBefore (h ++ e ∷ []) op c (Close n)
  still_sealing h e op c n (inl here) = inl record {
    dir = here.dir;
    here = here.here;
    came = still_came h e op c here.dir (operation.Seal None) here.came;
  }
  still_sealing h e op c n (inr found) = inr record {
    dir = found.dir;
    name = found.name;
    came = still_came h e op c found.dir (operation.Seal (Some found.name)) found.came;
    seen = saw_then h e op c (step.Look (key_in found.dir found.name)) (Ok (shown.Node n)) found.seen;
  }

  -- ---- it is found

  module _ (h : List Event) (op : OpId) (c : Command) (how : Heard) (place : Place) (k : Key) where
    -- the look, its reply, and the history then
    abbrev look : AnyReq
    look = any.Name (names.Look k)

    abbrev looked : AnyReply
    looked = reply_at h look

    abbrev then_looked : List Event
    then_looked = h ++ act_at h op look how ∷ []

    found_tells : (o : Option Node) → as_found looked ≡ o → CameTo h op c k.dir (operation.Seal (Some k.name))
        → Allows h (act_at h op look how) → NextTells seal_deciding seal_telling then_looked op c (found place k looked o)
    found_tells None e came run =
        let no : RefusesSo place k looked = look_none (stored_after opening_store h) place k e in
        decided_now counts h op c look how (step.Look k) refl k.dir (operation.Seal (Some k.name)) (refusal place k looked) came run
        (λ m ms last. (rw last refl, refusal_no k (refusal place k looked) (says looked) no.0 no.1))
    found_tells (Some n) e came run = inr record {
      dir = k.dir;
      name = k.name;
      came = still_came h (act_at h op look how) op c k.dir (operation.Seal (Some k.name)) came;
      seen = saw_now h op c look looked how (step.Look k) refl (Ok (shown.Node n)) (look_some (stored_after opening_store h) place k n e);
    }

  -- ---- it is sealed

  module _ (h : List Event) (op : OpId) (c : Command) (how : Heard) (place : Place) where
    -- what the store is then
    abbrev store : Store
    store = stored_after opening_store h

    -- the reply to a seal, and the history with it
    abbrev sealing : Node → AnyReply
    sealing n = reply_at h (seal_ask n)

    abbrev then_sealed : Node → List Event
    then_sealed n = h ++ act_at h op (seal_ask n) how ∷ []

    -- the reply makes the answer, where that answer is explained
    dir_sealed : (d : DirId) (k : Key) (b : Bool) → is_sealed (sealing (Dir d)) ≡ b
        → ((a : Answer) → a ≡ done_answer k answers.Done (says (sealing (Dir d))) → because counts (then_sealed (Dir d)) op c a)
        → NextTells seal_deciding seal_telling (then_sealed (Dir d)) op c (sealed place (Dir d) (sealing (Dir d)) b)
    dir_sealed d k true e explains =
        let x : AnyReply = sealing (Dir d) in
        explains answers.Done (done_yes k answers.Done (says x) (ok_done (says x) (seal_dir_yes store place d e)))
    dir_sealed d k false e explains =
        let x : AnyReply = sealing (Dir d) in
        let no : RefusesDir place k x = seal_dir_no store place d k e in
        explains (dir_refusal place x) (done_no k (dir_refusal place x) answers.Done (says x) no.0 no.1)

    file_sealed : (f : FileId) (b : Bool) → is_sealed (sealing (File f)) ≡ b
        → ((a : Answer) → a ≡ done_answer (file_key f) answers.Done (says (sealing (File f)))
        → because counts (then_sealed (File f)) op c a)
        → NextTells seal_deciding seal_telling (then_sealed (File f)) op c (sealed place (File f) (sealing (File f)) b)
    file_sealed f true e explains =
        let x : AnyReply = sealing (File f) in
        explains answers.Done (done_yes (file_key f) answers.Done (says x) (ok_done (says x) (seal_file_yes store place f e)))
    file_sealed f false e explains =
        let x : AnyReply = sealing (File f) in
        let no : RefusesFile place f x = seal_file_no store place f e in
        explains (file_refusal place f x) (done_no (file_key f) (file_refusal place f x) answers.Done (says x) no.0 no.1)

    -- a path without names led there
    here_tells : (n : Node) → SealsDir h op c n → Allows h (act_at h op (seal_ask n) how)
        → NextTells seal_deciding seal_telling (then_sealed n) op c (sealed place n (sealing n) (is_sealed (sealing n)))
    here_tells (Dir d) here run =
        let same : d ≡ here.dir = let is : Dir d ≡ Dir here.dir = here.here in cc in
        dir_sealed d (key_in here.dir []) _ refl
        (λ a is. decided_now counts h op c (seal_ask (Dir d)) how (step.SealDir d) refl here.dir (operation.Seal None) a here.came run
        (same, is))
    here_tells (File f) here run = absurd (let is : File f ≡ Dir here.dir = here.here in cc)

    -- it was found
    seen_tells : (n : Node) → SealsFound h op c n → Allows h (act_at h op (seal_ask n) how)
        → NextTells seal_deciding seal_telling (then_sealed n) op c (sealed place n (sealing n) (is_sealed (sealing n)))
    seen_tells (Dir d) was run =
        dir_sealed d (key_in was.dir was.name) _ refl
        (λ a is. decided_now counts h op c (seal_ask (Dir d)) how (step.SealDir d) refl was.dir (operation.Seal (Some was.name)) a
        was.came run (λ m ms last. rw last (was.seen, is)))
    seen_tells (File f) was run =
        file_sealed f _ refl
        (λ a is. decided_now counts h op c (seal_ask (File f)) how (step.SealFile f) refl was.dir (operation.Seal (Some was.name)) a
        was.came run (λ m ms last. rw last (was.seen, is)))

    sealed_tells : (n : Node) → SealBefore h op c (Close n) → Allows h (act_at h op (seal_ask n) how)
        → NextTells seal_deciding seal_telling (then_sealed n) op c (sealed place n (sealing n) (is_sealed (sealing n)))
    sealed_tells n (inl here) run = here_tells n here run
    sealed_tells n (inr was) run = seen_tells n was run

  -- ---- the laws

  -- a seal opens nothing
  seal_opens : (c : Option Command) (n : Node) (x : AnyReply) → [] ≡ opens_of c (seal_ask n) x
  seal_opens c (Dir d) x = refl
  seal_opens c (File f) x = refl

  seal_at : (s : Seal) → TellsIn counts seal seal_deciding seal_telling s
  seal_at (Find k) = waits_tell seal seal_deciding seal_telling (Find k) record {
    looks = λ m op. refl;
    undecided = refl;
    hears = λ h op c m how fresh came run. found_tells h op c how (request_place counts (any.Name (names.Look k))) k _ refl came run;
    stays = λ h e op c other came. still_came h e op c k.dir (operation.Seal (Some k.name)) came;
    learns = λ h op c m x before. refl;
  }
  seal_at (Close n) = waits_tell seal seal_deciding seal_telling (Close n) record {
    looks = λ m op. refl;
    undecided = refl;
    hears = λ h op c m how fresh before run. sealed_tells h op c how (request_place counts (seal_ask n)) n before run;
    stays = λ h e op c other before. still_sealing h e op c n before;
    learns = λ h op c m x before. seal_opens (Some c) n x;
  }

  pub seal_tells : PartTells counts seal seal_deciding seal_telling
  seal_tells = part_tells seal_at (because_lasts counts)
