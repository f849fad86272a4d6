use Rattle.std.proofs.Common.{◌+◌}
use Rattle.entry_words.specs.Moments.{op_of}
use Rattle.passes.proofs.Keeping.{ends_none, ends_cost, run_by}
use Rattle.passes.proofs.pass.Pass.end.Goals as goal

pub add_note-requires-clause-running : goal.add_note-requires-clause-running
add_note-requires-clause-running c = ends_none c.args.self.now.running (c.args.self.now.clock + 1) c.args.self.now.actor
    c.args.note c.requires.end

pub add_note-requires-clause-own : goal.add_note-requires-clause-own
add_note-requires-clause-own c = let p = c.args.self.now in run_by p.actor p.running (op_of c.args.note) p.known.runs_own c.requires.running

pub add_note-requires-clause-cost : goal.add_note-requires-clause-cost
add_note-requires-clause-cost c = let p = c.args.self.now in ends_cost p.running (op_of c.args.note)
    (p.clock + 1) p.actor c.args.note c.requires.end c.requires.running
