use Rattle.std.proofs.Common.{sym}
use Rattle.script_reader.proofs.ClientNames.{keys_more}
use Rattle.script_reader.proofs.clients.name_at.Goals as goal

pub returns-in_ok-clone-in-Some : goal.returns-in_ok-clone-in-Some
returns-in_ok-clone-in-Some c =
    rw c.in_ok-clone-in-Some.ensures.cases
    (keys_more c.args.clients.now.entries c.args.at (c.in-Some.name.now, c.in-Some.field-0-1.now) c.requires (sym c.in-Some.ensures.entry))
