use Rattle.std.proofs.Common.{◌≡◌, take}
use Rattle.std.specs.Map.{keys_of}
use Rattle.script_reader.proofs.clients.names_of.Given as goal

abbrev pub invariant-clients : goal.invariant-clients
invariant-clients l = l.names.items ≡ keys_of (take l.at l.clients.entries)
