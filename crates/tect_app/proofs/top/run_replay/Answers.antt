use Rattle.std.proofs.Common.{◌≢◌, arith, inl, inr}
use Rattle.tect_app.specs.declared.mode.Mode.TheVariants.{Replay}
use Rattle.tect_app.specs.declared.status.Status.TheVariants.{Ok}
use Rattle.tect_app.proofs.Cuts.{cut_script}
use Rattle.tect_app.proofs.top.run_replay.Goals as goal

pub returns-in-Ok-clause-write_fault : goal.returns-in-Ok-clause-write_fault
returns-in-Ok-clause-write_fault g c failed =
    let not_done : c.play-status.result ≢ Ok = grind (arith, failed) in (
      c.play-status.ensures.failed failed,
      inr (inr (inl (cut_script Replay c.in-Ok.plan (g.S.Source.left c.args.source.now) _ _ c.in-Ok.ensures.spelled
          (c.play-status.ensures.cut not_done)))),
    )

pub returns-in-Ok-clause-no_memory : goal.returns-in-Ok-clause-no_memory
returns-in-Ok-clause-no_memory g c starved =
    let not_done : c.play-status.result ≢ Ok = grind (arith, starved) in
    inr (cut_script Replay c.in-Ok.plan (g.S.Source.left c.args.source.now) _ _ c.in-Ok.ensures.spelled (c.play-status.ensures.cut not_done))
