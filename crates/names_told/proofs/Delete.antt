-- deleting: the unbind decides
use Rattle.std.proofs.Common.{◌≡◌, List, [], ◌∷◌, ◌++◌, Option, Some, None, refl}
use Rattle.tect_ids.specs.declared.ids.Counts.{Counts}
use Rattle.tect_ids.specs.declared.ids.Hold.{Hold}
use Rattle.tect_ids.specs.declared.ids.Node.{Node}
use Rattle.tect_ids.specs.declared.ids.OpId.{OpId}
use Rattle.tect_ids.specs.declared.ids.Place.{Place}
use Rattle.tect_ids.specs.declared.key.Key.{Key}
use Rattle.tect_ids.specs.declared.values.Want.TheVariants.{AnyFile}
use Rattle.tect_ids.specs.declared.command.Command.{Command}
use Rattle.tect_ids.specs.declared.answer.Answer.TheVariants as answers
use Rattle.store_rules.specs.declared.names.NameReq.TheVariants as names
use Rattle.store_rules.specs.declared.any.AnyReq.{AnyReq}
use Rattle.store_rules.specs.declared.any.AnyReq.TheVariants.{Name}
use Rattle.store_rules.specs.declared.any.AnyReply.{AnyReply}
use Rattle.store_rules.specs.Places.{request_place}
use Rattle.store_rules.specs.Store.{opening_store}
use Rattle.store_rules.specs.Views.{as_unbound}
use Rattle.tree_model.specs.declared.step.TreeStep.TheVariants as step
use Rattle.tect_calls.specs.Readings.{unbound_freed}
use Rattle.program_forms.specs.declared.heard.Heard.{Heard}
use Rattle.program_parts.specs.Refused.{refusal}
use Rattle.program_rules.specs.declared.states.Delete.{Delete}
use Rattle.program_rules.specs.declared.states.Delete.TheVariants.{Unbind, Release}
use Rattle.program_rules.specs.declared.operation.Operation.TheVariants as operation
use Rattle.program_rules.specs.Delete.{delete, unbound}
use Rattle.part_laws.specs.Releases.{release_deciding}
use Rattle.world_runs.specs.declared.event.Event.{Event}
use Rattle.world_runs.specs.OwnRuns.{stored_after}
use Rattle.claim_words.specs.TreeSteps.{says}
use Rattle.claim_words.specs.Because.{because}
use Rattle.telling_laws.specs.Telling.{Telling}
use Rattle.telling_laws.specs.Parts.{NextTells, PartTells, release_telling}
use Rattle.telling_laws.proofs.Steps.{reply_at, act_at, Allows}
use Rattle.telling_laws.proofs.Replies.{RefusesSo}
use Rattle.telling_laws.proofs.PartsTell.{TellsIn, IsWithin, part_tells, tells_in, waits_tell, tells_within}
use Rattle.names_laws.proofs.Delete.{delete_deciding}
use Rattle.names_told.specs.NamesTelling.{CameTo, DeleteBefore}
use Rattle.names_told.proofs.Replies.{done_yes, done_no, ok_done, unbind_some, unbind_none}
use Rattle.files_told.proofs.Lasting.{because_lasts}
use Rattle.names_told.proofs.Causes.{releases_tell, still_came, decided_now}

module _ (counts : Counts) where
  abbrev pub delete_telling : Telling Delete
  delete_telling = record { Before = DeleteBefore; because = because counts }

  delete_releases : IsWithin Release release_deciding (release_telling (because counts)) delete_deciding delete_telling
  delete_releases = record { decided = λ r. refl; before = λ h op c r b. b; because = λ h op c a b. b }

  -- ---- at the reply

  module _ (h : List Event) (op : OpId) (c : Command) (how : Heard) (place : Place) (k : Key) where
    -- the request
    abbrev q : AnyReq
    q = Name (names.Unbind k AnyFile)

    -- its reply
    abbrev x : AnyReply
    x = reply_at h q

    unbound_tells : (o : Option (Node × Hold)) → as_unbound x ≡ o → CameTo h op c k.dir (operation.Delete k.name)
        → Allows h (act_at h op q how)
        → NextTells delete_deciding delete_telling (h ++ act_at h op q how ∷ []) op c (unbound place k x (unbound_freed o))
    unbound_tells None e came run =
        let no : RefusesSo place k x = unbind_none (stored_after opening_store h) place k e in
        decided_now counts h op c q how (step.Unbind k AnyFile) refl k.dir (operation.Delete k.name) (refusal place k x) came run
        (λ p last. (rw last refl, done_no k (refusal place k x) answers.Done (says x) no.0 no.1))
    unbound_tells (Some p) e came run =
        decided_now counts h op c q how (step.Unbind k AnyFile) refl k.dir (operation.Delete k.name) answers.Done came run
        (λ b last.
        (rw last refl, done_yes k answers.Done (says x) (ok_done (says x) (unbind_some (stored_after opening_store h) place k p e))))

  -- ---- the laws

  delete_at : (s : Delete) → TellsIn counts delete delete_deciding delete_telling s
  delete_at (Unbind k) = waits_tell delete delete_deciding delete_telling (Unbind k) record {
    looks = λ m op. refl;
    undecided = refl;
    hears = λ h op c m how fresh came run.
        unbound_tells h op c how (request_place counts (Name (names.Unbind k AnyFile))) k _ refl came run;
    stays = λ h e op c other came. still_came h e op c k.dir (operation.Delete k.name) came;
    learns = λ h op c m x before. refl;
  }
  delete_at (Release r) = tells_within Release delete_releases (tells_in (releases_tell counts) r)

  pub delete_tells : PartTells counts delete delete_deciding delete_telling
  delete_tells = part_tells delete_at (because_lasts counts)
