use Rattle.std.proofs.Common.{◌≡◌, ◌+◌, length, sym, ap, ◌∙◌, arith}
use Rattle.std.specs.FinMap.{put}
use Rattle.std.specs.FinMap.Entries.{is_sorted-put}
use Rattle.std.specs.List.{insert}
use Rattle.std.proofs.lemmas.List.Edits.{length-insert}
use Rattle.ordered_rows.specs.Pairs.{pairs}
use Rattle.ordered_rows.specs.Pages.{page_at, shown, IsPageOf}
use Rattle.map_words.specs.Places.{IsGap}
use Rattle.ordered_rows.proofs.InPages.{put_gap_there, length_set}
use Rattle.ordered_rows.proofs.paged.Rows.put_new.Goals as goal

pub returns-clause-stored : goal.returns-clause-stored
returns-clause-stored g c =
    let R = g.K.Ord.cmp in
    let pages = c.self.inside.pages.items in
    let of : IsPageOf R c.args.key (shown pages) c.args.i = rw c.self.view_is c.requires.page in
    let gap : IsGap R c.args.key (page_at (shown pages) c.args.i) c.args.j = rw c.self.view_is c.requires.place in
    let put_there = put_gap_there R g.met.K.Ord.total c.args.key (shown pages) c.args.i of c.args.j c.args.value gap in
    c.in_ok-insert_at.ensures.stored ∙ put_there ∙ ap (λ p. put R c.args.key c.args.value (pairs p)) c.self.view_is

pub invariant_of-self-2 : goal.invariant_of-self-2
invariant_of-self-2 g c =
    let R = g.K.Ord.cmp in
    let pages = c.self.inside.pages.items in
    let of : IsPageOf R c.args.key (shown pages) c.args.i = rw c.self.view_is c.requires.page in
    let gap : IsGap R c.args.key (page_at (shown pages) c.args.i) c.args.j = rw c.self.view_is c.requires.place in
    let put_there = put_gap_there R g.met.K.Ord.total c.args.key (shown pages) c.args.i of c.args.j c.args.value gap in
    let page = page_at (shown pages) c.args.i in
    let many = length_set (shown pages) c.args.i (insert page c.args.j (c.args.key, c.args.value)) of.in_range in
    let more = length-insert page c.args.j (c.args.key, c.args.value) gap.in_range in
    let next : c.in-Some.count ≡ c.self.inside.count + 1 = c.in-Some.ensures.1 in
    record {
      paged = c.insert_at.ensures.pages;
      rising =
          rw (c.in_ok-insert_at.ensures.stored ∙ put_there) (is_sorted-put R g.met.K.Ord.total c.args.key c.args.value (pairs (shown pages))
          c.self.invariant.rising);
      counted =
          next ∙ sym (ap length c.in_ok-insert_at.ensures.stored ∙ omega (arith, many, more, c.self.invariant.counted));
    }
