-- What is so of each running command.
use Rattle.op_names.specs.declared.running.Running.TheInside.{Inside}
use Rattle.op_names.specs.OneBlock.{RunsWithOneBlock}
use Rattle.op_names.specs.Plain.{IsPlainState}

-- its answer, and the one that it comes to behind a release, is no want of memory or of room; and an append holds the block that it made
pub record IsRunning (a : Inside) : Type 0 where
  pub plain : IsPlainState a.state
  pub one_block : RunsWithOneBlock a.state
