use Rattle.std.proofs.Common.{◌≤◌, length, ◌∷◌, arith}
use Rattle.std.specs.Prelude.{All}
use Rattle.std.proofs.lemmas.List.Elements.{All-head, All-rest}
use Rattle.ordered_rows.proofs.scan.CursorIterator.next.Goals as goal

-- no page is empty
pub returns-in_err-first-clause-steps : goal.returns-in_err-first-clause-steps
returns-in_err-first-clause-steps g c =
    let page = c.in_ok-page.page.now in
    let all : All (λ page. 1 ≤ length page.items) (page ∷ c.in_ok-page.behind.now) = rw c.in_ok-page.ensures.cases.0 at c.self.invariant in
    let some = All-head (λ page. 1 ≤ length page.items) page c.in_ok-page.behind.now all in
    absurd (omega (arith, rw (← c.deref.ensures.value) at some, c.in_err-first.ensures.cases))

pub invariant_of-self-2 : goal.invariant_of-self-2
invariant_of-self-2 g c =
    All-rest (λ page. 1 ≤ length page.items) c.in_ok-page.page.now c.in_ok-page.behind.now _ c.in_ok-page.ensures.cases.0 c.self.invariant
