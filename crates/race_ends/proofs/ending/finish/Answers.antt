use Rattle.std.proofs.Common.{List, map, subst, sym, ap, ◌∙◌}
use Rattle.std.proofs.lemmas.Result.{err_from_is_err_and}
use Rattle.tect_ids.specs.declared.ids.Counts.{Counts}
use Rattle.place_kit.specs.declared.any.AnyKept.{AnyKept}
use Rattle.entry_words.specs.declared.entry.Moment.{Moment}
use Rattle.passes.specs.declared.pass.Pass.{Pass}
use Rattle.place_kit.specs.Started.{AreStarted}
use Rattle.merge_runs.specs.Merged.{HaveDifferentActors, StandInOrder}
use Rattle.race_ends.specs.Faults.{IsSplitOf}
use Rattle.race_ends.specs.Told.{told_by}
use Rattle.race_ends.proofs.Ends.{raced}
use Rattle.race_ends.proofs.Gathered.{differ, dumps, gathered_behind}
use Rattle.race_ends.proofs.Losses.{split_is_fault}
use Rattle.race_ends.proofs.Order.{order_rises, started_stand}
use Rattle.race_ends.proofs.ending.finish.Goals as goal

pub gather_all-requires-clause-places : goal.gather_all-requires-clause-places
gather_all-requires-clause-places g c =
    subst (λ (ks : List AnyKept). StandInOrder 0 ks) (sym c.as_slice.ensures.value)
    (started_stand c.args.places c.in_ok-kepts.kepts.items c.in_ok-kepts.ensures.all)

pub gather_all-requires-clause-actors : goal.gather_all-requires-clause-actors
gather_all-requires-clause-actors g c =
    let plan = c.args.plan.now in
    subst (λ (ps : List Pass). HaveDifferentActors ps) (sym c.as_slice-2.ensures.value)
    (differ g.P.Programs.rules plan.counts plan.clients plan.lines c.args.passes.items c.args.ended.items c.args.last.items c.requires.run)

pub returns-in_err-entries-clause-fault : goal.returns-in_err-entries-clause-fault
returns-in_err-entries-clause-fault g c =
    let plan = c.args.plan.now in
    let kepts = c.in_ok-kepts.kepts.items in
    let passes = c.args.passes.items in
    let started = subst (λ (counts : Counts). AreStarted counts kepts) c.requires.places c.in_ok-kepts.ensures.all in
    let split = subst (λ (ks : List AnyKept). IsSplitOf ks passes c.in_err-entries.field-0.0) c.as_slice.ensures.value
    (subst (λ (ps : List Pass). IsSplitOf c.as_slice.result.now ps c.in_err-entries.field-0.0) c.as_slice-2.ensures.value
    c.in_err-entries.ensures.split) in
    let p = err_from_is_err_and c.from_residual-in_err-entries.result c.from_residual-in_err-entries.ensures.1 in
    rw (p.1, p.2) (split_is_fault g.P.Programs.rules plan passes c.args.ended.items c.args.last.items c.requires.run kepts started
    c.in_err-entries.field-0.0 split)

pub tell-requires-clause-rising : goal.tell-requires-clause-rising
tell-requires-clause-rising g c =
    let entries = c.in_ok-entries.entries.items in
    let order = c.in_ok-entries.ensures.gathered.order in
    rw c.as_slice-3.ensures.value (order_rises (map (λ m. m.now) entries) order)

pub tell-requires-clause-dumps : goal.tell-requires-clause-dumps
tell-requires-clause-dumps g c =
    let plan = c.args.plan.now in
    let kepts = c.in_ok-kepts.kepts.items in
    let passes = c.args.passes.items in
    let entries : List Moment = map (λ m. m.now) c.in_ok-entries.entries.items in
    let gathered = gathered_behind c.as_slice.result.now kepts c.as_slice-2.result.now passes entries c.as_slice.ensures.value
    c.as_slice-2.ensures.value c.in_ok-entries.ensures.gathered in
    rw c.as_slice-3.ensures.value
    (dumps g.P.Programs.rules plan.counts plan.clients plan.lines passes c.args.ended.items c.args.last.items c.requires.run kepts entries
    gathered)

pub returns-clause-raced : goal.returns-clause-raced
returns-clause-raced g c =
    let plan = c.args.plan.now in
    let kepts = c.in_ok-kepts.kepts.items in
    let passes = c.args.passes.items in
    let entries : List Moment = map (λ m. m.now) c.in_ok-entries.entries.items in
    let started = subst (λ (counts : Counts). AreStarted counts kepts) c.requires.places c.in_ok-kepts.ensures.all in
    let gathered = gathered_behind c.as_slice.result.now kepts c.as_slice-2.result.now passes entries c.as_slice.ensures.value
    c.as_slice-2.ensures.value c.in_ok-entries.ensures.gathered in
    let ended = c.args.ended.items in
    let last = c.args.last.items in
    raced g.P.Programs.rules plan passes ended last c.requires.run kepts started entries gathered c.in_ok-report.report.items
    (c.in_ok-report.ensures ∙ ap (λ ms. told_by ended last (map (λ m. m.now) ms)) c.as_slice-3.ensures.value)
