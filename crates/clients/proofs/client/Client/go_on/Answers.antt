use Rattle.std.proofs.Common.{sym, refl, ◌+◌, subst}
use Rattle.clients.specs.ClientInside.{life_of}
use Rattle.clients.specs.Steps.{OwnStep}
use Rattle.clients.proofs.Closings.{turned_client, turned_step, actor_few}
use Rattle.clients.proofs.client.Client.go_on.Goals as goal

pub take_step-requires-clause-few : goal.take_step-requires-clause-few
take_step-requires-clause-few g c = actor_few g.P.Programs.rules c.self.inside c.args.self.now c.self.invariant c.self.view_is
    g.met.P.Programs.keeps_serial c.requires.noted c.requires.running

pub invariant_of-self-2 : goal.invariant_of-self-2
invariant_of-self-2 g c =
    let a = c.self.inside in
    turned_client g.P.Programs.rules g.C.Commits.done c.args.at.now c.take_step.new.at a
    (record {
      counts = a.counts;
      actor = c.take_step.new.actor;
      pass = c.take_step.new.pass;
      refused = a.refused;
      transactions = a.transactions + c.in_ok-step.step.transactions;
    })
    c.args.self.now c.self.invariant c.self.view_is c.requires.noted c.requires.running refl refl c.in_ok-step.step
    c.in_ok-step.ensures.step refl

pub returns-clause-step : goal.returns-clause-step
returns-clause-step g c =
    let a = c.self.inside in
    let new = record a {
      actor = c.take_step.new.actor;
      pass = c.take_step.new.pass;
      transactions = a.transactions + c.in_ok-step.step.transactions;
    } in
    subst (OwnStep g.P.Programs.rules g.C.Commits.done c.args.at.now c.take_step.new.at c.args.self.now (life_of new))
    (sym c.turned_of.ensures)
    (turned_step g.P.Programs.rules g.C.Commits.done c.args.at.now c.take_step.new.at a new c.args.self.now c.self.invariant c.self.view_is
    c.requires.noted c.requires.running refl refl c.in_ok-step.step c.in_ok-step.ensures.step)
