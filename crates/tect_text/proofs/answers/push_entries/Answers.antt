use Rattle.std.proofs.Common.{ℕ, List, rules, take}
use Rattle.std.specs.List.{flat_map}
use Rattle.tect_text.specs.AnswerText.{listed_text}
use Rattle.tect_text.proofs.Prefixes.{starts_with_front}
use Rattle.tect_text.proofs.answers.push_entries.Goals as goal

pub returns-in_err-push_entry-clause-err : goal.returns-in_err-push_entry-clause-err
returns-in_err-push_entry-clause-err c =
    let added : List ℕ = flat_map listed_text (take c.loop-entry.entry-index c.args.entries.now) in
    search (rules, starts_with_front c.args.text.now.items added _ _ c.loop-entry.invariant c.in_err-push_entry.ensures.err)
