use Rattle.std.proofs.Common.{◌≢◌, ◌∙◌, sym, []}
use Rattle.clients.proofs.Closings.{life_here, some_items, some_there}
use Rattle.clients.proofs.Following.{same_op}
use Rattle.clients.proofs.RefusedSteps.{refused_step}
use Rattle.clients.proofs.client.Client.step.Goals as goal
use Rattle.clients.proofs.client.Client.step.Goals.{then-is_empty, else-is_empty}

pub returns-clause-step : goal.returns-clause-step
returns-clause-step g c =
    elim c.if-is_empty.branch [
      | then-is_empty w ↦ rw (w.self-is, w.at-is, w.turned-is) w.go_on-turned.ensures.step
      | else-is_empty w ↦
          let some : c.args.self.now.silent ≢ [] =
          some_there g.P.Programs.rules c.self.inside c.args.self.now c.self.invariant c.self.view_is
          (some_items c.self.inside (sym c.is_empty.ensures ∙ w.if-is_empty.false)) in
          rw (w.self-is, w.at-is, w.turned-is, w.end_refused.ensures.told)
          (refused_step g.P.Programs.rules c.args.self.now some g.C.Commits.done c.args.at.now w.end_refused.new.self
          (life_here g.P.Programs.rules c.self.inside c.args.self.now c.self.invariant c.self.view_is) c.requires.running
          w.end_refused.ensures.life)
    ]

pub returns-clause-same : goal.returns-clause-same
returns-clause-same g c = same_op g.P.Programs.rules g.C.Commits.done c.args.at.now c.if-is_empty.at c.args.self.now c.if-is_empty.self
    c.if-is_empty.turned (returns-clause-step g c)
