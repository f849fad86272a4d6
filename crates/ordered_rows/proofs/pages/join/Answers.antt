use Rattle.std.proofs.Common.{◌≡◌, suc, ◌+◌, set, ap, ◌∙◌, arith}
use Rattle.std.specs.List.{insert}
use Rattle.ordered_rows.specs.Pages.{shown}
use Rattle.ordered_rows.specs.Pairs.{pairs}
use Rattle.ordered_rows.proofs.PageEdits.{most, left_room, right_room, merged_joined, merged_pages, spread_joined, spread_pages}
use Rattle.ordered_rows.proofs.pages.join.Goals as goal

pub level-requires-clause-left_room : goal.level-requires-clause-left_room
level-requires-clause-left_room g c =
    let next : c.args.i + 1 ≡ suc c.args.i = omega arith in
    let right = c.remove-right in
    let taken = rw next at right.ensures.items in
    let was = rw next at right.ensures.value in
    let v = c.index_mut-page.result.now in
    let sum = most _ c.args.i c.requires right.new.self.items taken v right.result c.index_mut-page.ensures.value was in
    let room = left_room _ c.args.i c.requires right.new.self.items taken v right.result c.index_mut-page.ensures.value was in
    omega (arith, sum, room)

pub level-requires-clause-right_room : goal.level-requires-clause-right_room
level-requires-clause-right_room g c =
    let next : c.args.i + 1 ≡ suc c.args.i = omega arith in
    let right = c.remove-right in
    let taken = rw next at right.ensures.items in
    let was = rw next at right.ensures.value in
    let v = c.index_mut-page.result.now in
    let sum = most _ c.args.i c.requires right.new.self.items taken v right.result c.index_mut-page.ensures.value was in
    let room = right_room _ c.args.i c.requires right.new.self.items taken v right.result c.index_mut-page.ensures.value was in
    omega (arith, sum, room)

pub returns-then-len-le-MOST-clause-same : goal.returns-then-len-le-MOST-clause-same
returns-then-len-le-MOST-clause-same g c =
    let next : c.args.i + 1 ≡ suc c.args.i = omega arith in
    let right = c.remove-right in
    let whole = rw c.unwrap.ensures at c.append.ensures.items in
    merged_joined c.args.pages.now.items c.args.i c.requires right.new.self.items (rw next at right.ensures.items)
    c.index_mut-page.result.now right.result c.index_mut-page.ensures.value (rw next at right.ensures.value) c.append.new.self whole

pub returns-then-len-le-MOST-clause-pages : goal.returns-then-len-le-MOST-clause-pages
returns-then-len-le-MOST-clause-pages g c =
    let next : c.args.i + 1 ≡ suc c.args.i = omega arith in
    let right = c.remove-right in
    let whole = rw c.unwrap.ensures at c.append.ensures.items in
    merged_pages c.args.pages.now.items c.args.i c.requires right.new.self.items (rw next at right.ensures.items)
    c.index_mut-page.result.now right.result c.index_mut-page.ensures.value (rw next at right.ensures.value) c.append.new.self whole
    (omega (arith, c.if-len-le-MOST.true, c.len.ensures, c.len-2.ensures, c.index_mut-page.result.now.ok.0, right.result.ok.0))
    c.append.ensures.capacity

pub returns-else-len-le-MOST-clause-same : goal.returns-else-len-le-MOST-clause-same
returns-else-len-le-MOST-clause-same g c =
    let next : c.args.i + 1 ≡ suc c.args.i = omega arith in
    let right = c.remove-right in
    let last : c.insert.new.self.items ≡ insert (set right.new.self.items c.args.i c.level.new.left) (c.args.i + 1) c.level.new.right =
    rw c.unwrap-else-len-le-MOST.ensures at c.insert.ensures.items in
    ap (λ p. pairs (shown p)) last
    ∙ spread_joined c.args.pages.now.items c.args.i c.requires right.new.self.items (rw next at right.ensures.items)
    c.index_mut-page.result.now right.result c.index_mut-page.ensures.value (rw next at right.ensures.value) c.level.new.left
    c.level.new.right (c.args.i + 1) c.level.ensures.joined next

pub returns-else-len-le-MOST-clause-pages : goal.returns-else-len-le-MOST-clause-pages
returns-else-len-le-MOST-clause-pages g c =
    let next : c.args.i + 1 ≡ suc c.args.i = omega arith in
    let right = c.remove-right in
    let last : c.insert.new.self.items ≡ insert (set right.new.self.items c.args.i c.level.new.left) (c.args.i + 1) c.level.new.right =
    rw c.unwrap-else-len-le-MOST.ensures at c.insert.ensures.items in
    rw last (spread_pages c.args.pages.now.items c.args.i c.requires right.new.self.items (rw next at right.ensures.items)
    c.index_mut-page.result.now right.result c.index_mut-page.ensures.value (rw next at right.ensures.value) c.level.new.left
    c.level.new.right (c.args.i + 1) next c.level.ensures.joined
    (omega (arith, c.if-len-le-MOST.false, c.len.ensures, c.len-2.ensures, c.index_mut-page.result.now.ok.0, right.result.ok.0))
    c.level.ensures.left_most c.level.ensures.right_most
    c.level.ensures.left_keeps c.level.ensures.right_keeps)
