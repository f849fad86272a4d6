use Rattle.std.proofs.Common.{inl, inr, refl}
use Rattle.clients.proofs.Closings.{on_ok_map, full_here, refuses_here}
use Rattle.clients.proofs.Following.{begin_same}
use Rattle.clients.proofs.client.Client.begin.Goals as goal
use Rattle.clients.proofs.client.Client.begin.Goals.{then-is_full_for_begin, else-is_full_for_begin}

pub refuse-begun-requires-clause-full : goal.refuse-begun-requires-clause-full
refuse-begun-requires-clause-full g c = refuses_here g.P.Programs.rules c.self.inside c.args.self.now c.self.invariant c.self.view_is
    (c.if-is_full_for_begin.ensures.0 refl)

pub note_begin-begun-requires-clause-room : goal.note_begin-begun-requires-clause-room
note_begin-begun-requires-clause-room g c full = let bad = c.if-is_full_for_begin.ensures.1
    (full_here g.P.Programs.rules c.self.inside c.args.self.now c.self.invariant c.self.view_is full) in cc

pub returns-clause-ok : goal.returns-clause-ok
returns-clause-ok g c =
    elim c.if-is_full_for_begin.branch [
      | then-is_full_for_begin w ↦
          rw (w.self-is, w.begun-is) (on_ok_map w.refuse-begun.result
          (λ e. inr (
            refuses_here g.P.Programs.rules c.self.inside c.args.self.now c.self.invariant c.self.view_is
                (w.if-is_full_for_begin.ensures.0 refl),
            e,
          ))
          w.refuse-begun.ensures.ok)
      | else-is_full_for_begin w ↦
          rw (w.self-is, w.begun-is) (on_ok_map w.note_begin-begun.result
          (λ e. inl (
            λ full. let bad = w.if-is_full_for_begin.ensures.1
                (full_here g.P.Programs.rules c.self.inside c.args.self.now c.self.invariant c.self.view_is full) in cc,
            e,
          )) w.note_begin-begun.ensures.ok)
    ]

pub returns-clause-err : goal.returns-clause-err
returns-clause-err g c =
    elim c.if-is_full_for_begin.branch [
      | then-is_full_for_begin w ↦ rw (w.self-is, w.begun-is) w.refuse-begun.ensures.err
      | else-is_full_for_begin w ↦ rw (w.self-is, w.begun-is) w.note_begin-begun.ensures.err
    ]

pub returns-clause-same : goal.returns-clause-same
returns-clause-same g c = begin_same g.P.Programs.rules c.args.self.now c.if-is_full_for_begin.self c.args.command
    c.if-is_full_for_begin.begun (returns-clause-ok g c) (returns-clause-err g c)
