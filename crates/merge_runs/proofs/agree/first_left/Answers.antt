use Rattle.std.proofs.Common.{◌∙◌}
use Rattle.merge_runs.proofs.Taking.{list_read}
use Rattle.merge_runs.proofs.agree.first_left.Goals as goal

pub returns-in-Some : goal.returns-in-Some
returns-in-Some c = (
  c.loop-list.list-index,
  c.in-Some.field-0-1.now,
  list_read c.args.lists.now c.loop-list.list-index c.list-item.result c.loop-list-test.true c.list-item.is
      ∙ c.in-Some.ensures.cases.0,
)
