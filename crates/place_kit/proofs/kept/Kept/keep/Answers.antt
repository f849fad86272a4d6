use Rattle.std.proofs.Common.{arith, sym, ap, ◌∙◌, refl, ◌+◌}
use Rattle.place_kit.proofs.Keeping.{IsKept-push, same_kept}
use Rattle.entry_words.specs.declared.entry.Entry.{Entry}
use Rattle.passes.specs.Commits.{op_number}
use Rattle.place_kit.proofs.kept.Kept.keep.Goals as goal

pub returns-in_default-clause-err : goal.returns-in_default-clause-err
returns-in_default-clause-err g c = same_kept g.row.M.coded _ c.args.self.now refl c.in_default.ensures.err refl refl refl refl

pub invariant_of-self-2 : goal.invariant_of-self-2
invariant_of-self-2 g c = record {
  kept =
      let k = c.args.self.now in
      let m = g.M.Machine in
      let bounded = k.kept.bounded in
      let max = c.max-stamp.ensures in
      let w = c.own.ensures in
      let s = c.in-Ok.ensures.ok in
      let p = c.args.pass.now in
      let e : Entry = record {
        stamp = c.max-stamp.result + 1;
        place = k.label.place;
        actor = p.actor;
        number =
            op_number p.running;
        step = p.steps;
        req = c.own.result;
        reply = c.args.reply;
      } in
      rw (c.enter-receipt.ensures.history, c.enter-receipt.ensures.entry)
      (IsKept-push m.after m.answer m.opening k.label k.machine c.change.new.machine k.base.value k.history.items
      k.clock k.count e k.kept
      (s ∙ ap (λ q. m.after k.machine q) (sym w)) (c.requires.answer ∙ ap (λ q. m.answer k.machine q) (sym w)) refl (omega (arith, max))
      (omega (arith, max, c.requires.early, bounded)));
  layered = c.args.self.now.layered;
}
