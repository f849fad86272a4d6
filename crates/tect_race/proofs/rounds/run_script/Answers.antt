use Rattle.std.proofs.Common.{◌+◌, [], List, length, sym, subst, ◌∙◌, arith}
use Rattle.std.proofs.lemmas.Bool.{false≢true}
use Rattle.tect_ids.specs.declared.script.Line.{Line}
use Rattle.race_ends.specs.declared.ended.EndedPart.{EndedPart}
use Rattle.tect_race.specs.Progress.{Stood, HasCome}
use Rattle.racer_stories.specs.Ready.{IsOfClient}
use Rattle.tect_race.proofs.Coming.{come_past}
use Rattle.tect_race.proofs.Looping.{stood_new}
use Rattle.list_laws.proofs.Parts.{none_yet}
use Rattle.tect_race.proofs.rounds.run_script.Goals as goal
use Rattle.tect_race.proofs.rounds.run_script.Goals.{then-matches+in_ok-progress, else-matches, in-Dump, in_default}

pub lines-init : goal.lines-init
lines-init g c =
    let names = c.args.shared.now.clients.now in
    let ls : List Line = c.args.shared.now.lines.now in
    let racers = c.in_ok-new_racers.field-0.items in
    let stood = subst (λ (es : List EndedPart). Stood g.P.Programs.rules c.args.counts names [] ls 0 racers es) (sym c.new.ensures.items)
    (stood_new g.P.Programs.rules c.args.counts names ls racers c.in_ok-new_racers.ensures c.requires.script) in
    record {
      low = omega arith;
      part = none_yet (IsOfClient (length names)) ls 0;
      stood = subst (λ w. Stood g.P.Programs.rules w names [] ls 0 racers c.new.result.items) c.requires.counts stood;
    }

pub lines-preserved : goal.lines-preserved
lines-preserved g c =
    let counts = c.args.shared.now.places.now in
    let names = c.args.shared.now.clients.now in
    let ls : List Line = c.args.shared.now.lines.now in
    let next = c.lines.number + 1 in
    elim c.if-matches.branch [
      | then-matches+in_ok-progress w ↦ subst (HasCome g.P.Programs.rules counts names ls next)
          (sym w.progress-is) w.in_ok-progress.ensures.dumped
      | else-matches w ↦
          let come = come_past g.P.Programs.rules counts names ls c.lines.progress c.lines.number c.line-item.result c.lines-test.true
          c.line-item.is
          (elim c.match-matches.branch
          [ in-Dump v ↦ absurd (false≢true (sym w.if-matches.false ∙ v.matches-is)) | in_default v ↦ v.in_default.not-Dump ])
          c.requires.script.asked c.lines.invariant in
          subst (HasCome g.P.Programs.rules counts names ls next) (sym w.progress-is) come
    ]
