use Rattle.std.proofs.Common.{ℕ, List, length, sym, subst}
use Rattle.tect_ids.specs.declared.script.Line.{Line}
use Rattle.tect_ids.specs.declared.script.Plan.{Plan}
use Rattle.racer_stories.specs.Done.{IsScript}
use Rattle.racer_stories.proofs.Playing.{script_of}
use Rattle.tect_race.proofs.racing.race.Goals as goal

pub run_script-requires-clause-script : goal.run_script-requires-clause-script
run_script-requires-clause-script g c κs within =
    let plan : Plan = c.args.plan.now in
    subst (λ (ls : List Line). IsScript g.P.Programs.rules (length c.as_slice.result.now) ls) (sym c.as_slice-2.ensures)
    (subst (λ (names : List (List ℕ)). IsScript g.P.Programs.rules (length names) plan.lines) (sym c.as_slice.ensures)
    (script_of g.P.Programs.rules plan c.requires.plan))
