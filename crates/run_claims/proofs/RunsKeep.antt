-- the laws of every run, of the commands' own programs
use Rattle.run_laws.proofs.RunsKeep.{sound_at_each_moment as sound_moments, no_run_answers_odd as none_odd, numbers_stay_small as small_numbers}
use Rattle.run_laws.proofs.RunsKeep.{running_goes_on as goes_on, running_is_last_begun as last_begun}
use Rattle.run_laws.proofs.Grants.{granted_at_each_moment as granted_moments}
use Rattle.program_rules.specs.Served.{programs}
use Rattle.names_laws.specs.Known.{names_deciding, names_known}
use Rattle.names_laws.proofs.Laws.{names_program_laws, names_hold_laws}
use Rattle.run_laws.specs.Laws.{EveryMomentIsSound, EveryGrantedHoldIsListed, NoRunAnswersOdd, RunningGoesOn, NumbersStaySmall}
use Rattle.run_laws.specs.Laws.{RunningIsLastBegun}

pub sound_at_each_moment : EveryMomentIsSound programs
sound_at_each_moment = sound_moments programs names_deciding names_known names_program_laws

pub granted_at_each_moment : EveryGrantedHoldIsListed programs
granted_at_each_moment = granted_moments programs names_deciding names_known names_program_laws names_hold_laws

pub no_run_answers_odd : NoRunAnswersOdd programs
no_run_answers_odd = none_odd programs names_deciding names_known names_program_laws

pub running_goes_on : RunningGoesOn programs
running_goes_on = goes_on programs

pub numbers_stay_small : NumbersStaySmall programs
numbers_stay_small = small_numbers programs names_deciding names_known names_program_laws

pub running_is_last_begun : RunningIsLastBegun programs
running_is_last_begun = last_begun programs names_deciding names_known names_program_laws
