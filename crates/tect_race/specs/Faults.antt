-- What a client's fault is to its race.
use Rattle.std.specs.Prelude.{Result, Ok, Err}
use Rattle.players.specs.declared.fault.RacerFault.{RacerFault}
use Rattle.players.specs.declared.fault.RacerFault.TheVariants as racer_faults
use Rattle.race_ends.specs.declared.fault.RaceFault.{RaceFault}
use Rattle.race_ends.specs.declared.fault.RaceFault.TheVariants.{NoMemory, Astray}

abbrev pub race_fault : RacerFault → RaceFault
race_fault racer_faults.NoMemory = NoMemory
race_fault (racer_faults.Astray want found) = Astray want found

abbrev pub race_result : Result (Unit {0}) RacerFault → Result (Unit {0}) RaceFault
race_result (Ok done) = Ok done
race_result (Err fault) = Err (race_fault fault)
