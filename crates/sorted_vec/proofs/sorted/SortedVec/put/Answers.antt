use Rattle.std.proofs.Common.{Some, sym, ap, ◌∙◌, arith, slice_set}
use Rattle.std.specs.FinMap.{put}
use Rattle.std.specs.FinMap.Entries.{is_sorted-put}
use Rattle.map_words.proofs.Finds.{find_at, find_gap, put_at, put_gap}
use Rattle.sorted_vec.proofs.sorted.SortedVec.put.Goals as goal
use Rattle.sorted_vec.proofs.sorted.SortedVec.put.Goals.{in-Ok-insert, in-Err-insert}

-- the key was there
pub returns-in-Ok-clause-stored : goal.returns-in-Ok-clause-stored
returns-in-Ok-clause-stored g c =
    let R = g.K.Ord.cmp in
    let pairs = c.self.inside.items.items in
    let pair = c.index_mut in
    let made = c.replace.new.dest in
    let placed = put_at R c.args.key pairs c.in-Ok.i pair.result.now made (rw c.self.view_is c.in-Ok.ensures.found) in
    ap (λ (x : g.row.K.Denot × g.row.V.Denot). slice_set pairs c.in-Ok.i (x.0, made)) pair.ensures.value ∙ sym placed
    ∙ ap (λ v. put R c.args.key v pairs) c.replace.ensures.after ∙ ap (put R c.args.key c.args.value) c.self.view_is

pub returns-in-Ok-clause-replaced : goal.returns-in-Ok-clause-replaced
returns-in-Ok-clause-replaced g c =
    let pair = c.index_mut in
    let found = find_at g.K.Ord.cmp c.args.key c.self.inside.items.items c.in-Ok.i pair.result.now (rw c.self.view_is c.in-Ok.ensures.found) in
    rw c.replace.ensures.value (sym (rw c.self.view_is at (found ∙ ap (λ (x : g.row.K.Denot × g.row.V.Denot). Some x.1) (sym pair.ensures.value))))

pub invariant_of-self : goal.invariant_of-self
invariant_of-self g c =
    rw (returns-in-Ok-clause-stored g c) (is_sorted-put g.K.Ord.cmp g.met.K.Ord.total c.args.key c.args.value
    c.args.self.now c.in-Ok.ensures.rising)

-- the key is new
pub returns-after-insert-clause-stored : goal.returns-after-insert-clause-stored
returns-after-insert-clause-stored g c =
    let placed = put_gap g.K.Ord.cmp c.args.key c.args.self.now c.in-Err.i c.args.value c.in-Err.ensures.absent in
    elim c.match-insert.branch [
      | in-Ok-insert w ↦ grind (arith, c.self.view_is, c.insert.ensures, w.in-Ok-insert.is, w.result-is)
      | in-Err-insert w ↦ grind (arith, w.result-is)
    ]

pub returns-after-insert-clause-replaced : goal.returns-after-insert-clause-replaced
returns-after-insert-clause-replaced g c =
    let absent = find_gap g.K.Ord.cmp c.args.key g.met.K.Ord.total c.args.self.now c.in-Err.i c.in-Err.ensures.rising
    c.in-Err.ensures.absent in
    elim c.match-insert.branch [
      | in-Ok-insert w ↦ grind (arith, w.result-is)
      | in-Err-insert w ↦ grind (arith, w.result-is)
    ]

pub returns-after-insert-clause-overwrite_succeeds : goal.returns-after-insert-clause-overwrite_succeeds
returns-after-insert-clause-overwrite_succeeds g c found =
    let absent = find_gap g.K.Ord.cmp c.args.key g.met.K.Ord.total c.args.self.now c.in-Err.i c.in-Err.ensures.rising
    c.in-Err.ensures.absent in
    grind arith

pub invariant_of-self-in-Err : goal.invariant_of-self-in-Err
invariant_of-self-in-Err g c =
    let placed = put_gap g.K.Ord.cmp c.args.key c.args.self.now c.in-Err.i c.args.value c.in-Err.ensures.absent in
    let risen = is_sorted-put g.K.Ord.cmp g.met.K.Ord.total c.args.key c.args.value c.args.self.now c.in-Err.ensures.rising in
    elim c.match-insert.branch [
      | in-Ok-insert w ↦ grind (arith, c.self.view_is, c.insert.ensures, w.in-Ok-insert.is)
      | in-Err-insert w ↦ grind (arith, c.self.invariant, c.insert.ensures, w.in-Err-insert.is)
    ]
