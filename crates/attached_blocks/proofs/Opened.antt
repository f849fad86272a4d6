-- a block is to be attached to the file, and with the token, that its op's actor had opened last at its path as the op began
use Rattle.std.proofs.Common.{Some, List, ◌∷◌, ◌++◌, sym, ap, subst, ◌∙◌}
use Rattle.tect_ids.specs.declared.ids.Counts.{Counts}
use Rattle.tect_ids.specs.declared.command.Command.{Command}
use Rattle.tect_ids.specs.declared.command.Command.TheVariants as commands
use Rattle.store_rules.specs.declared.files.FileReq.TheVariants as files
use Rattle.store_rules.specs.declared.any.AnyReq.{AnyReq}
use Rattle.store_rules.specs.declared.any.AnyReq.TheVariants as any
use Rattle.program_forms.specs.Kinds.{Programs}
use Rattle.world_runs.specs.declared.event.Event.{Event}
use Rattle.world_runs.specs.declared.event.Event.TheVariants.{Own}
use Rattle.world_runs.specs.declared.event.Happening.TheVariants.{Acted}
use Rattle.world_runs.specs.Moments.{IsWorldRun}
use Rattle.claim_words.specs.Attached.{AppendsToOpened, AttachesAreToOpened}
use Rattle.claim_words.specs.FilesBecause.{WasOpen}
use Rattle.files_told.proofs.Lasting.{was_open_lasts}
use Rattle.attached_blocks.proofs.Acknowledged.{command_lasts}
use Rattle.attached_blocks.proofs.Owing.{IsAppend, Owing, RequestsOwe}

pub attaches_to_opened : {S : Type 0} (P : Programs S) → RequestsOwe P → (counts : Counts) (es : List Event) → IsWorldRun P counts es
    → AttachesAreToOpened es
attaches_to_opened P knows counts es run op f token a =
    let q : AnyReq = any.File (files.Attach f token a.b a.n a.hold) in
    let e : Event = Own op (Acted q a.reply a.heard) in
    let whole : IsWorldRun P counts (a.before ++ e ∷ a.rest) = subst (λ (l : List Event). IsWorldRun P counts l) a.there run in
    let own : Owing counts a.before op q = knows counts a.before a.rest op q a.reply a.heard whole in
    let k : IsAppend a.before op own.command f token a.b = own.owes in
    let c : Command = commands.Append k.path k.bytes in
    let was : WasOpen a.before op c k.path f token = subst (λ (d : Command). WasOpen a.before op d k.path f token) k.is k.opened in
    let told : AppendsToOpened (a.before ++ e ∷ a.rest) op f token = record {
      path = k.path;
      bytes = k.bytes;
      command = command_lasts a.before (e ∷ a.rest) op c (own.begun ∙ ap (λ (d : Command). Some d) k.is);
      opened = was_open_lasts a.before (e ∷ a.rest) op c k.path f token was;
    } in
    subst (λ (l : List Event). AppendsToOpened l op f token) (sym a.there) told
