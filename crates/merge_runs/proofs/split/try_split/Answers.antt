use Rattle.std.proofs.Common.{Option}
use Rattle.entry_words.specs.declared.entry.Entry.{Entry}
use Rattle.merge_runs.specs.Splits.{IsInPass, IsInPlace}
use Rattle.merge_runs.proofs.Matches.{match_copied}
use Rattle.merge_runs.proofs.Splits.{apart_differs}
use Rattle.merge_runs.proofs.split.try_split.Goals as goal

pub returns : goal.returns
returns c =
    let e : Entry = c.args.apart.now in
    let ip : Option Entry = c.in_ok-in_pass.in_pass in
    let il : Option Entry = c.in_ok-in_place.in_place in
    let here : IsInPass c.args.passes.now e.actor e.step ip =
    match_copied c.in_pass.result ip (λ p. IsInPass c.args.passes.now e.actor e.step p) c.in_pass.ensures c.in_ok-in_pass.ensures in
    let there : IsInPlace c.args.kepts.now e.actor e.step ip il =
    match_copied c.in_place.result il (λ p. IsInPlace c.args.kepts.now e.actor e.step ip p) c.in_place.ensures
    c.in_ok-in_place.ensures in
    record {
      passes = here;
      places = there;
      differ = apart_differs c.args.kepts.now c.args.passes.now e c.requires.actors ip il c.requires.apart here there;
    }
