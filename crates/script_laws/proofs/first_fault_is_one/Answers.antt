use Rattle.script_laws.proofs.OneFault.{one_first_fault, spelled_faultless}
use Rattle.script_laws.proofs.first_fault_is_one.Goals as goal

pub returns-clause-one : goal.returns-clause-one
returns-clause-one c = one_first_fault

pub returns-clause-none : goal.returns-clause-none
returns-clause-none c = spelled_faultless
