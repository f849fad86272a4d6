use Rattle.names_laws.proofs.Laws.{names_kind_laws, names_decided_laws, names_hold_laws, names_program_laws}
use Rattle.names_laws.proofs.names_are_lawful.Goals as goal

pub returns-clause-laws : goal.returns-clause-laws
returns-clause-laws c = names_kind_laws

pub returns-clause-once : goal.returns-clause-once
returns-clause-once c = names_decided_laws

pub returns-clause-holds : goal.returns-clause-holds
returns-clause-holds c = names_hold_laws

pub returns-clause-program : goal.returns-clause-program
returns-clause-program c = names_program_laws
