use Rattle.std.proofs.Common.{ℕ, List, rules, take}
use Rattle.std.specs.List.{flat_map}
use Rattle.tect_text.specs.AnswerText.{row_text}
use Rattle.tect_text.proofs.Prefixes.{starts_with_front}
use Rattle.tect_text.proofs.answers.push_rows.Goals as goal

pub returns-in_err-push_row-clause-err : goal.returns-in_err-push_row-clause-err
returns-in_err-push_row-clause-err c =
    let added : List ℕ = flat_map row_text (take c.loop-row.row-index c.args.rows.now) in
    search (rules, starts_with_front c.args.text.now.items added _ _ c.loop-row.invariant c.in_err-push_row.ensures.err)
