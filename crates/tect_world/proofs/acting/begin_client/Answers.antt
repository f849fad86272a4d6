use Rattle.std.proofs.Common.{ℕ, [], ◌∷◌, ◌++◌, ap, ◌∙◌, subst}
use Rattle.clients.specs.Lives.{ClientLife, Begins}
use Rattle.world_lives.specs.declared.marks.Mark.TheVariants.{Actor}
use Rattle.tect_world.proofs.acting.begin_client.Goals as goal

pub returns-clause-begins : goal.returns-clause-begins
returns-clause-begins g c = record {
  begins = subst (λ (l : ClientLife). Begins g.P.Programs.rules l c.begin.new.self c.args.command) c.raise.ensures.raised
      c.in_ok-begin.ensures.ok;
  clock = c.clock.ensures;
  order = c.push_mark.ensures.items ∙ ap (λ (n : ℕ). c.args.order.now.items ++ Actor n ∷ []) c.actor-actor.ensures;
}
