-- looking, and listing: the one reply decides
use Rattle.std.proofs.Common.{◌≡◌, List as Items, [], ◌∷◌, ◌++◌, Bool, true, false, is_some, Option, Some, None, refl}
use Rattle.tect_ids.specs.declared.ids.Counts.{Counts}
use Rattle.tect_ids.specs.declared.ids.DirId.{DirId}
use Rattle.tect_ids.specs.declared.ids.Node.{Node}
use Rattle.tect_ids.specs.declared.ids.Node.TheVariants.{Dir}
use Rattle.tect_ids.specs.declared.ids.OpId.{OpId}
use Rattle.tect_ids.specs.declared.ids.Place.{Place}
use Rattle.tect_ids.specs.declared.key.Key.{Key}
use Rattle.tect_ids.specs.declared.values.Listed.{Listed}
use Rattle.tect_ids.specs.declared.command.Command.{Command}
use Rattle.tect_ids.specs.declared.answer.Answer.TheVariants as answers
use Rattle.store_rules.specs.declared.names.NameReq.TheVariants as names
use Rattle.store_rules.specs.declared.any.AnyReq.{AnyReq}
use Rattle.store_rules.specs.declared.any.AnyReq.TheVariants.{Name}
use Rattle.store_rules.specs.declared.any.AnyReply.{AnyReply}
use Rattle.store_rules.specs.Names.{key_in}
use Rattle.store_rules.specs.Places.{request_place}
use Rattle.store_rules.specs.Store.{Store, opening_store}
use Rattle.store_rules.specs.Views.{as_found, as_parent, as_listing}
use Rattle.tree_model.specs.declared.step.TreeStep.TheVariants as step
use Rattle.program_forms.specs.declared.heard.Heard.{Heard}
use Rattle.program_parts.specs.Refused.{refusal, dir_refusal}
use Rattle.program_rules.specs.declared.states.Look.{Look}
use Rattle.program_rules.specs.declared.states.Look.TheVariants.{Check, Entry}
use Rattle.program_rules.specs.declared.states.List.{List}
use Rattle.program_rules.specs.declared.operation.Operation.TheVariants as operation
use Rattle.program_rules.specs.Look.{look, checked, looked}
use Rattle.program_rules.specs.List.{list, listed}
use Rattle.world_runs.specs.declared.event.Event.{Event}
use Rattle.world_runs.specs.OwnRuns.{stored_after}
use Rattle.claim_words.specs.TreeSteps.{says}
use Rattle.claim_words.specs.Because.{because}
use Rattle.telling_laws.specs.Telling.{Telling}
use Rattle.telling_laws.specs.Parts.{NextTells, PartTells}
use Rattle.telling_laws.proofs.Steps.{reply_at, act_at, Allows}
use Rattle.telling_laws.proofs.Replies.{RefusesSo, look_some, look_none}
use Rattle.telling_laws.proofs.PartsTell.{TellsIn, part_tells, waits_tell}
use Rattle.names_laws.proofs.Look.{reading_deciding}
use Rattle.names_told.specs.NamesTelling.{CameTo, LookBefore}
use Rattle.names_told.proofs.Replies.{RefusesDir, done_yes, done_no, finds_no, finds_node, lists_no, check_some, check_none}
use Rattle.names_told.proofs.Replies.{list_some, list_none}
use Rattle.files_told.proofs.Lasting.{because_lasts}
use Rattle.names_told.proofs.Causes.{still_came, decided_now}

module _ (counts : Counts) where
  abbrev pub look_telling : Telling Look
  look_telling = record { Before = LookBefore; because = because counts }

  abbrev pub list_telling : Telling List
  list_telling = record { Before = λ h op c s. CameTo h op c s.dir operation.List; because = because counts }

  -- ---- at the reply

  module _ (h : Items Event) (op : OpId) (c : Command) (how : Heard) (place : Place) where
    -- what the store is then
    abbrev store : Store
    store = stored_after opening_store h

    -- the history with that request
    abbrev then_asked : AnyReq → Items Event
    then_asked q = h ++ act_at h op q how ∷ []

    checked_tells : (d : DirId) (b : Bool) → is_some (as_parent (reply_at h (Name (names.CheckDir d)))) ≡ b
        → CameTo h op c d (operation.Look None) → Allows h (act_at h op (Name (names.CheckDir d)) how)
        → NextTells reading_deciding look_telling (then_asked (Name (names.CheckDir d))) op c
        (checked place d (reply_at h (Name (names.CheckDir d))) b)
    checked_tells d true e came run =
        let q : AnyReq = Name (names.CheckDir d) in
        decided_now counts h op c q how (step.Check d) refl d (operation.Look None) (answers.Found (Dir d)) came run
        (refl, done_yes (key_in d []) (answers.Found (Dir d)) (says (reply_at h q)) (check_some store place d e))
    checked_tells d false e came run =
        let q : AnyReq = Name (names.CheckDir d) in
        let x : AnyReply = reply_at h q in
        let no : RefusesDir place (key_in d []) x = check_none store place d (key_in d []) e in
        decided_now counts h op c q how (step.Check d) refl d (operation.Look None) (dir_refusal place x) came run
        (refl, done_no (key_in d []) (dir_refusal place x) (answers.Found (Dir d)) (says x) no.0 no.1)

    looked_tells : (k : Key) (o : Option Node) → as_found (reply_at h (Name (names.Look k))) ≡ o
        → CameTo h op c k.dir (operation.Look (Some k.name)) → Allows h (act_at h op (Name (names.Look k)) how)
        → NextTells reading_deciding look_telling (then_asked (Name (names.Look k))) op c
        (looked place k (reply_at h (Name (names.Look k))) o)
    looked_tells k None e came run =
        let q : AnyReq = Name (names.Look k) in
        let x : AnyReply = reply_at h q in
        let no : RefusesSo place k x = look_none store place k e in
        decided_now counts h op c q how (step.Look k) refl k.dir (operation.Look (Some k.name)) (refusal place k x) came run
        (λ m ms last. (rw last refl, finds_no k (refusal place k x) (says x) no.0 no.1))
    looked_tells k (Some n) e came run =
        let q : AnyReq = Name (names.Look k) in
        decided_now counts h op c q how (step.Look k) refl k.dir (operation.Look (Some k.name)) (answers.Found n) came run
        (λ m ms last. (rw last refl, finds_node k n (says (reply_at h q)) (look_some store place k n e)))

    listed_tells : (d : DirId) (o : Option (Items Listed)) → as_listing (reply_at h (Name (names.List d))) ≡ o
        → CameTo h op c d operation.List → Allows h (act_at h op (Name (names.List d)) how)
        → NextTells reading_deciding list_telling (then_asked (Name (names.List d))) op c
        (listed place (reply_at h (Name (names.List d))) o)
    listed_tells d None e came run =
        let q : AnyReq = Name (names.List d) in
        let x : AnyReply = reply_at h q in
        let no : RefusesDir place (key_in d []) x = list_none store place d (key_in d []) e in
        decided_now counts h op c q how (step.List d) refl d operation.List (dir_refusal place x) came run
        (λ p. (refl, lists_no (key_in d []) (dir_refusal place x) (says x) no.0 no.1))
    listed_tells d (Some items) e came run =
        let q : AnyReq = Name (names.List d) in
        decided_now counts h op c q how (step.List d) refl d operation.List (answers.Entries items) came run
        (λ p. (refl, list_some store place d (key_in d []) items e))

  -- ---- the laws

  look_at : (s : Look) → TellsIn counts look reading_deciding look_telling s
  look_at (Check d) = waits_tell look reading_deciding look_telling (Check d) record {
    looks = λ m op. refl;
    undecided = refl;
    hears = λ h op c m how fresh came run.
        checked_tells h op c how (request_place counts (Name (names.CheckDir d))) d _ refl came run;
    stays = λ h e op c other came. still_came h e op c d (operation.Look None) came;
    learns = λ h op c m x before. refl;
  }
  look_at (Entry k) = waits_tell look reading_deciding look_telling (Entry k) record {
    looks = λ m op. refl;
    undecided = refl;
    hears = λ h op c m how fresh came run. looked_tells h op c how (request_place counts (Name (names.Look k))) k _ refl came run;
    stays = λ h e op c other came. still_came h e op c k.dir (operation.Look (Some k.name)) came;
    learns = λ h op c m x before. refl;
  }

  pub look_tells : PartTells counts look reading_deciding look_telling
  look_tells = part_tells look_at (because_lasts counts)

  list_at : (s : List) → TellsIn counts list reading_deciding list_telling s
  list_at s = waits_tell list reading_deciding list_telling s record {
    looks = λ m op. refl;
    undecided = refl;
    hears = λ h op c m how fresh came run.
        listed_tells h op c how (request_place counts (Name (names.List s.dir))) s.dir _ refl came run;
    stays = λ h e op c other came. still_came h e op c s.dir operation.List came;
    learns = λ h op c m x before. refl;
  }

  pub list_tells : PartTells counts list reading_deciding list_telling
  list_tells = part_tells list_at (because_lasts counts)
