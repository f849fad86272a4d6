use Rattle.passes.proofs.Keeping.{aside-le, few_steps}
use Rattle.passes.proofs.pass.Pass.note_that_small.Goals as goal

pub returns : goal.returns
returns c =
    let p = c.args.self.now in
    record {
      few = p.known.few;
      room = p.known.room;
      one = aside-le p.running;
      early = p.known.early;
      steps =
          few_steps p.actor p.clock p.steps p.bytes p.running p.moments p.known;
    }
