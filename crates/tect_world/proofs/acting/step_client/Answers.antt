use Rattle.std.proofs.Common.{◌≡◌, ◌++◌, List, ap, ◌∙◌, subst}
use Rattle.clients.specs.Lives.{ClientLife, events_in, op_in}
use Rattle.world_runs.specs.Report.{transactions}
use Rattle.clients.specs.Steps.{OwnStep}
use Rattle.kept_shards.specs.KeptStore as kept
use Rattle.world_lives.specs.declared.marks.Mark.{Mark}
use Rattle.tect_world.specs.Clients.{raised}
use Rattle.tect_world.specs.ClientSteps.{act_marks, end_marks}
use Rattle.tect_world.proofs.Marking.{step_marked}
use Rattle.tect_world.proofs.OneStep.{same_actor, same_counts}
use Rattle.tect_world.proofs.Outcomes.{acted_is}
use Rattle.tect_world.proofs.acting.step_client.Goals as goal

pub returns-clause-step : goal.returns-clause-step
returns-clause-step g c =
    let P = g.P.Programs.rules in
    let old = c.args.client.now in
    let r : ClientLife = raised old c.args.clock.now in
    let o = subst (λ (l : ClientLife). OwnStep P kept.Did c.args.shards.now c.step.new.at l c.step.new.self c.in-Ok.turned)
    c.raise.ensures.raised c.in-Ok.ensures.step in
    let actor = ap (λ (l : ClientLife). l.actor) o.life ∙ same_actor P r o.stamp o.tried (op_in P r) o.answer in
    let counts = ap (λ (l : ClientLife). l.counts) o.life ∙ same_counts P r o.stamp o.tried (op_in P r) o.answer in
    let acted = acted_is P r c.step.new.self o.tried o.answer c.transactions-before.result c.transactions.result actor counts o.events
    (subst (λ (l : ClientLife). c.transactions-before.result ≡ transactions (events_in l) (op_in P l)) c.raise.ensures.raised
    c.transactions-before.ensures.count) c.transactions.ensures.count in
    record {
      step = o;
      clock = c.clock.ensures;
      order = c.mark_step.ensures.items
          ∙ (λ i. c.args.order.now.items ++
          (act_marks (c.actor-actor.ensures i) (acted i) ++ end_marks (c.actor-actor.ensures i) (o.told i)))
          ∙ ap (λ (ms : List Mark). c.args.order.now.items ++ ms) (step_marked old.actor r.silent (op_in P r) o.tried o.answer);
    }
