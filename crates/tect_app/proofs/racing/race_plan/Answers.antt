use Rattle.std.proofs.Common.{◌≢◌, arith, inl, inr, refl}
use Rattle.tect_app.specs.declared.status.Status.TheVariants.{Ok}
use Rattle.tect_app.proofs.Races.{race_shown, race_cut}
use Rattle.tect_app.proofs.racing.race_plan.Goals as goal

pub returns-in-Ok-clause-whole : goal.returns-in-Ok-clause-whole
returns-in-Ok-clause-whole g c done =
    race_shown c.args.plan.now c.in-Ok.raced.places.items c.in-Ok.raced.passes.items c.in-Ok.raced.report.items c.in-Ok.raced.report.items _ _
    c.in-Ok.ensures.raced refl (c.show.ensures.whole done)

pub returns-in-Ok-clause-cut : goal.returns-in-Ok-clause-cut
returns-in-Ok-clause-cut g c failed =
    let not_done : c.show.result ≢ Ok = grind (arith, failed) in
    inl (race_cut c.args.plan.now c.in-Ok.raced.places.items c.in-Ok.raced.passes.items c.in-Ok.raced.report.items c.in-Ok.raced.report.items _ _
    c.in-Ok.ensures.raced refl (c.show.ensures.cut not_done))

pub returns-in-Ok-clause-starved : goal.returns-in-Ok-clause-starved
returns-in-Ok-clause-starved g c starved =
    let not_done : c.show.result ≢ Ok = grind (arith, starved) in
    inr (race_cut c.args.plan.now c.in-Ok.raced.places.items c.in-Ok.raced.passes.items c.in-Ok.raced.report.items c.in-Ok.raced.report.items _ _
    c.in-Ok.ensures.raced refl (c.show.ensures.cut not_done))
