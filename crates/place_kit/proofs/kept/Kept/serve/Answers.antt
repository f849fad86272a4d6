use Rattle.std.proofs.Common.{ap, ◌∙◌, refl}
use Rattle.passes.proofs.Keeping.{same_log}
use Rattle.place_kit.proofs.Keeping.{same_kept}
use Rattle.place_kit.proofs.kept.Kept.serve.Goals as goal

pub returns-in_default-clause-err : goal.returns-in_default-clause-err
returns-in_default-clause-err g c = same_kept g.row.M.coded _ c.args.self.now refl refl refl c.in_default.ensures.err refl refl

pub returns-in-Err-clause-err : goal.returns-in-Err-clause-err
returns-in-Err-clause-err g c =
    let err = c.in-Err.ensures.err in
    same_kept g.row.M.coded _ c.args.self.now (ap (λ k. k.label) err) (ap (λ k. k.machine) err) (ap (λ k. k.base) err)
    (same_log _ c.args.self.now.history _ c.spare-room.result c.lower.ensures (ap (λ k. k.history.items) err ∙ c.in-Ok.ensures.items)
    c.spare-room.ensures)
    (ap (λ k. k.clock) err) (ap (λ k. k.count) err)
