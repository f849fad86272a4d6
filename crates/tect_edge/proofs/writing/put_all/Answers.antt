use Rattle.std.proofs.Common.{◌-◌, length, drop, arith, rules, length-drop}
use Rattle.std.proofs.Math.Seq.{take-add}
use Rattle.std.proofs.lemmas.List.{take_all}
use Rattle.std.proofs.KnownBytes.{Appends-trans}
use Rattle.tect_edge.proofs.writing.put_all.Goals as goal

pub puts-preserved : goal.puts-preserved
puts-preserved g c =
    let piece = c.args.piece.now in
    let at = c.puts.at in
    record {
      within = search rules;
      appended = rw take-add
          (Appends-trans _ _ _ _ _ c.puts.invariant.appended
          (rw (take_all (length piece - at) (drop at piece) (omega (arith, length-drop at piece))) at c.in_ok-at.ensures.bytes));
      kept = search rules;
    }
