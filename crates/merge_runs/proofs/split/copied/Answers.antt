use Rattle.std.proofs.Common.{Some, ap}
use Rattle.entry_words.proofs.Clones.{same_entry}
use Rattle.merge_runs.proofs.split.copied.Goals as goal

pub returns-in_ok-clone-in-Some : goal.returns-in_ok-clone-in-Some
returns-in_ok-clone-in-Some c =
    rw c.in-Some.is (ap Some (same_entry c.in-Some.entry.now c.in_ok-clone-in-Some.field-0 c.in_ok-clone-in-Some.ensures.cases))
