use Rattle.std.proofs.Common.{◌≡◌, ℕ, ◌∷◌, [], List, Bor, subst, arith, map}
use Rattle.std.specs.List.{All}
use Rattle.entry_words.specs.declared.entry.Entry.{Entry}
use Rattle.merge_runs.specs.Keyed.{moment_in}
use Rattle.merge_runs.specs.Walks.{list_at, IsWalked, IsApartFrom}
use Rattle.merge_runs.proofs.Matches.{match_weaker}
use Rattle.merge_runs.proofs.Taking.{lent, walk_more, walk_blocked, walk_left, walk_done}
use Rattle.merge_runs.proofs.agree.first_apart.Goals as goal

pub loop-keyed-preserved : goal.loop-keyed-preserved
loop-keyed-preserved c =
    walk_more c.args.kepts.now c.args.order.now c.loop-keyed.keyed-index c.keyed-item.result (lent c.loop-keyed.lists.items)
    (lent c.take_moment.new.lists.items) c.loop-keyed-test.true c.keyed-item.is c.in_default.ensures c.loop-keyed.invariant

pub returns-in-Some : goal.returns-in-Some
returns-in-Some c =
    walk_blocked c.args.kepts.now c.args.order.now c.loop-keyed.keyed-index c.keyed-item.result (lent c.loop-keyed.lists.items)
    c.in-Some.apart.now c.loop-keyed-test.true c.keyed-item.is c.requires.places c.requires.order c.loop-keyed.invariant c.in-Some.ensures

pub returns : goal.returns
returns c =
    let ks = c.args.kepts.now in
    let order = c.args.order.now in
    let ls : List (Bor (List Entry)) = c.loop-keyed.lists.items in
    let read : List (Bor (List Entry)) = c.as_slice.result.now in
    match_weaker c.first_left.result (All (λ (h : Bor (List Entry)). h.now ≡ []) read) (IsWalked ks (map moment_in order))
    (λ x. (n : ℕ) × (rest : List Entry) × (list_at (lent read) n ≡ x.now ∷ rest))
    (λ e. IsApartFrom ks (map moment_in order) e.now)
    c.first_left.ensures
    (λ a. walk_done ks order c.loop-keyed.keyed-index ls (omega arith) c.loop-keyed.invariant
    (subst (λ (xs : List (Bor (List Entry))). All (λ (h : Bor (List Entry)). h.now ≡ []) xs) c.as_slice.ensures.value a))
    (λ x w. walk_left ks order c.loop-keyed.keyed-index (lent ls) w.0 x.now w.1 (omega arith) c.requires.places c.loop-keyed.invariant
    (subst (λ (xs : List (Bor (List Entry))). list_at (lent xs) w.0 ≡ x.now ∷ w.1) c.as_slice.ensures.value w.2))
