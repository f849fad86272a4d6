use Rattle.std.proofs.Common.{sym, subst}
use Rattle.op_names.specs.OneBlock.{RunsWithOneBlock}
use Rattle.op_names.specs.Plain.{IsPlainState}
use Rattle.op_names.proofs.OneBlock.{one_block_at_start}
use Rattle.op_names.proofs.PlainStates.{plain_start}
use Rattle.op_names.proofs.running.RunningPrograms.start.Goals as goal

pub invariant_of-result : goal.invariant_of-result
invariant_of-result c =
    let known = c.args.memory.now in
    record {
      plain = subst IsPlainState (sym c.in_ok-start.ensures) (plain_start known.counts known.memory c.args.command);
      one_block = subst RunsWithOneBlock (sym c.in_ok-start.ensures) (one_block_at_start known.counts known.memory c.args.command);
    }
