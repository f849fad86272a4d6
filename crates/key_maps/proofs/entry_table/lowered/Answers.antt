use Rattle.std.proofs.Common.{◌-◌, ◌∙◌, ap, sym, unwrap_or}
use Rattle.key_maps.proofs.Tables.{lowered_at, lowest, own_at}
use Rattle.key_maps.proofs.entry_table.lowered.Goals as goal

pub returns-in-None-clause-lowered : goal.returns-in-None-clause-lowered
returns-in-None-clause-lowered c = lowest c.args.counts.now c.args.dir (sym (ap (λ n. unwrap_or n 0) c.in-None.ensures.value))

pub returns-in-Some-clause-left : goal.returns-in-Some-clause-left
returns-in-Some-clause-left c = own_at c.args.counts.now c.args.dir c.saturating_sub.result

pub returns-in-Some-clause-lowered : goal.returns-in-Some-clause-lowered
returns-in-Some-clause-lowered c =
    lowered_at c.args.counts.now c.args.dir c.saturating_sub.result
    (c.saturating_sub.ensures ∙ ap (λ n. unwrap_or n 0 - 1) c.in-Some.ensures.value)
