use Rattle.std.proofs.Common.{◌∙◌, sym, refl}
use Rattle.std.specs.Prelude.{IsOk}
use Rattle.passes.specs.Commits.{IsFullForBegin}
use Rattle.clients.proofs.Closings.{at_ok, ok_no_err, refuses_here, same_full, begun_client}
use Rattle.clients.proofs.Reserved.{reserved_pass}
use Rattle.clients.proofs.client.Client.note_begin.Goals as goal

pub invariant_of-self : goal.invariant_of-self
invariant_of-self g c = reserved_pass g.P.Programs.rules c.self.inside c.self.invariant c.reserve_begin.new.self
    c.in_err-reserve_begin.ensures.moments c.in_err-reserve_begin.ensures.same.4 c.in_err-reserve_begin.ensures.same.1
    c.in_err-reserve_begin.ensures.same.0

pub invariant_of-self-in_err-noted : goal.invariant_of-self-in_err-noted
invariant_of-self-in_err-noted g c = reserved_pass g.P.Programs.rules c.self.inside c.self.invariant c.reserve_begin.new.self
    c.in_ok-reserve_begin.ensures.moments c.in_ok-reserve_begin.ensures.same.4 c.in_ok-reserve_begin.ensures.same.1
    c.in_ok-reserve_begin.ensures.same.0

pub invariant_of-self-in_err-begin : goal.invariant_of-self-in_err-begin
invariant_of-self-in_err-begin g c = rw c.in_err-begin.ensures.err (
    reserved_pass g.P.Programs.rules c.self.inside c.self.invariant c.reserve_begin.new.self
    c.in_ok-reserve_begin.ensures.moments c.in_ok-reserve_begin.ensures.same.4 c.in_ok-reserve_begin.ensures.same.1
    c.in_ok-reserve_begin.ensures.same.0
    )

pub unreachable-requires : goal.unreachable-requires
unreachable-requires g c =
    let own : ¬ IsFullForBegin c.reserve_begin.new.self = λ full. c.requires.room
    (refuses_here g.P.Programs.rules c.self.inside c.args.self.now c.self.invariant c.self.view_is
    (same_full c.self.inside.pass c.reserve_begin.new.self c.in_ok-reserve_begin.ensures.moments c.in_ok-reserve_begin.ensures.same.4
    c.in_ok-reserve_begin.ensures.same.1 full)) in
    let free = c.note.ensures.begin_free refl c.in_ok-reserve_begin.ensures.room own in
    ok_no_err c.note.result free.0 (sym c.is_err.ensures.value ∙ c.if-is_err.true)

pub invariant_of-self-2 : goal.invariant_of-self-2
invariant_of-self-2 g c =
    let own : ¬ IsFullForBegin c.reserve_begin.new.self = λ full. c.requires.room
    (refuses_here g.P.Programs.rules c.self.inside c.args.self.now c.self.invariant c.self.view_is
    (same_full c.self.inside.pass c.reserve_begin.new.self c.in_ok-reserve_begin.ensures.moments c.in_ok-reserve_begin.ensures.same.4
    c.in_ok-reserve_begin.ensures.same.1 full)) in
    let ok : IsOk c.note.result = (c.note.ensures.begin_free refl c.in_ok-reserve_begin.ensures.room own).0 in
    begun_client g.P.Programs.rules c.self.inside
    (record {
      counts = c.self.inside.counts;
      actor = c.begin.new.self;
      pass = c.note.new.self;
      refused = c.self.inside.refused;
      transactions = 0;
    })
    c.reserve_begin.new.self c.args.command c.in_ok-noted.noted c.args.self.now c.self.invariant c.self.view_is c.requires.idle
    c.requires.goes_on c.requires.few c.requires.served c.requires.room
    c.in_ok-noted.ensures c.in_ok-reserve_begin.ensures.moments c.in_ok-reserve_begin.ensures.same.4 c.in_ok-reserve_begin.ensures.same.1
    c.in_ok-reserve_begin.ensures.same.0
    c.in_ok-begin.ensures.ok c.op-op.result c.op-op.ensures.op (at_ok c.note.result ok c.note.ensures.moments)
    (at_ok c.note.result ok c.note.ensures.clock)
    (at_ok c.note.result ok c.note.ensures.same).0 (at_ok c.note.result ok c.note.ensures.running) refl refl refl
