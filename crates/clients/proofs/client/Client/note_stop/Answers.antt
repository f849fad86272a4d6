use Rattle.std.proofs.Common.{refl}
use Rattle.std.specs.Prelude.{IsOk}
use Rattle.clients.proofs.Closings.{at_ok, stopped_client}
use Rattle.clients.proofs.client.Client.note_stop.Goals as goal

pub invariant_of-self : goal.invariant_of-self
invariant_of-self g c =
    let a = c.self.inside in
    let ok : IsOk c.note.result = c.note.ensures.ends refl in
    stopped_client g.P.Programs.rules a
    (record { counts = a.counts; actor = c.stop.new.self; pass = c.note.new.self; refused = a.refused; transactions = a.transactions })
    c.args.self.now c.self.invariant c.self.view_is c.requires.noted c.requires.running c.stop.ensures c.op-op.result c.op-op.ensures.op
    (at_ok c.note.result ok c.note.ensures.moments) (at_ok c.note.result ok c.note.ensures.clock)
    (at_ok c.note.result ok c.note.ensures.same).0 (at_ok c.note.result ok c.note.ensures.running)
    refl refl refl
