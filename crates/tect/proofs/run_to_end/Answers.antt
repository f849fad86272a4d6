use Rattle.std.proofs.lemmas.Result.{IfOk-weaker}
use Rattle.tect.proofs.Written.{no_fault, run_ok, reported_kept}
use Rattle.tect.proofs.run_to_end.Goals as goal

pub returns-clause-reported : goal.returns-clause-reported
returns-clause-reported g c =
    IfOk-weaker c.args.words _ _
    (λ words told ok. reported_kept _ _ _ _ _ _ (c.finish.ensures.written (no_fault c.finish.result ok))
    (told (run_ok c.finish.result c.run_words-status.result c.finish.ensures.only ok)))
    c.run_words-status.ensures.reported
