-- Threads may share what a race has in common.
use denote.Param.Send.{IsSync}
use Rattle.tect_ids.proofs.name.Name.TheSendSync as name
use Rattle.tect_ids.proofs.script.Line.TheSendSync as line
use Rattle.tect_ids.specs.contracts.script.Line as Line
use Rattle.tect_ids.specs.contracts.name.Name as Name
use Rattle.place_locks.specs.contracts.places.Places as Places
use Rattle.place_locks.proofs.Crossing as locks

pub Places-sync : IsSync Places.the_row
Places-sync = locks.Places-sync

pub Line-sync : IsSync Line.the_row
Line-sync = line.the_sync

pub Name-sync : IsSync Name.the_row
Name-sync = name.the_sync
