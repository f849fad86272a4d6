-- what explains an answer: the step that decided it; and what the history told before stays so
use Rattle.std.proofs.Common.{◌≡◌, Some, List, [], ◌∷◌, ◌++◌, inl}
use Rattle.tect_ids.specs.declared.ids.Counts.{Counts}
use Rattle.tect_ids.specs.declared.ids.DirId.{DirId}
use Rattle.tect_ids.specs.declared.ids.OpId.{OpId}
use Rattle.tect_ids.specs.declared.command.Command.{Command}
use Rattle.tect_ids.specs.declared.answer.Answer.{Answer}
use Rattle.store_rules.specs.declared.any.AnyReq.{AnyReq}
use Rattle.tree_model.specs.declared.step.TreeStep.{TreeStep}
use Rattle.program_forms.specs.declared.heard.Heard.{Heard}
use Rattle.program_parts.specs.Releases.{releasing}
use Rattle.program_rules.specs.declared.operation.Operation.{Operation}
use Rattle.part_laws.specs.Releases.{release_deciding}
use Rattle.world_runs.specs.declared.event.Event.{Event}
use Rattle.claim_words.specs.Commands.{content_in}
use Rattle.claim_words.specs.TreeSteps.{tree_step, says, tree_steps}
use Rattle.claim_words.specs.Points.{of_op, Decides}
use Rattle.claim_words.specs.Because.{because}
use Rattle.telling_laws.specs.Parts.{PartTells, release_telling}
use Rattle.telling_laws.proofs.Steps.{reply_at, act_at, Allows, over_then, decides_now}
use Rattle.telling_laws.proofs.PartsTell.{release_tells}
use Rattle.files_told.proofs.Lasting.{because_lasts}
use Rattle.names_told.specs.NamesTelling.{CameTo}
use Rattle.names_told.proofs.Commands.{OfItsCommands, of_command}

-- the release, of each operation
pub releases_tell : (counts : Counts) → PartTells counts releasing release_deciding (release_telling (because counts))
releases_tell counts = release_tells counts (because counts) (because_lasts counts)

-- after any event more
pub still_came : (h : List Event) (e : Event) (op : OpId) (c : Command) (d : DirId) (o : Operation) → CameTo h op c d o
    → CameTo (h ++ e ∷ []) op c d o
still_came h e op c d o came = record { walked = over_then h e op c d came.walked; fits = came.fits }

-- the reply to that request decides the answer, where it does so for each command of the operation
pub decided_now : (counts : Counts) (h : List Event) (op : OpId) (c : Command) (q : AnyReq) (how : Heard) (s : TreeStep) → tree_step (content_in h) q (reply_at h q) ≡ Some s
    → (d : DirId) (o : Operation) (a : Answer) → CameTo h op c d o → Allows h (act_at h op q how)
    → OfItsCommands (λ k. Decides k (of_op op (tree_steps h)) d s (says (reply_at h q)) a) o
    → because counts (h ++ act_at h op q how ∷ []) op c a
decided_now counts h op c q how s is d o a came run decides =
    inl (inl (decides_now h op c q (reply_at h q) how s is d [] a came.walked run
    (of_command (λ k. Decides k (of_op op (tree_steps h)) d s (says (reply_at h q)) a) o decides c came.fits)))
