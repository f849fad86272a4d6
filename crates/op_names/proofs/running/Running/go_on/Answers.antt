use Rattle.std.proofs.Common.{◌≡◌, ◌∙◌, ap, sym, subst}
use Rattle.op_names.specs.Going.{went_on}
use Rattle.op_names.specs.OneBlock.{RunsWithOneBlock}
use Rattle.op_names.specs.Plain.{IsPlainState}
use Rattle.op_names.proofs.OneBlock.{one_block_after}
use Rattle.op_names.proofs.PlainStates.{plain_after}
use Rattle.op_names.proofs.running.Running.go_on.Goals as goal

pub invariant_of-self : goal.invariant_of-self
invariant_of-self c =
    let known = c.args.memory.now in
    let was = c.self.inside.state in
    let went : c.put.new.state ≡ went_on known.counts known.memory c.args.op was c.args.reply.now =
    c.put.ensures ∙ c.in-Ok.ensures.ok
    ∙ ap (λ p. went_on known.counts known.memory c.args.op p c.args.reply.now) c.replace.ensures.value in
    record {
      plain = subst IsPlainState (sym went)
          (plain_after known.counts known.memory c.args.op was c.args.reply.now c.self.invariant.plain);
      one_block = subst RunsWithOneBlock (sym went)
          (one_block_after known.counts known.memory c.args.op was c.args.reply.now c.self.invariant.one_block);
    }
