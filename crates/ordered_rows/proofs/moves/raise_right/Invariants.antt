use Rattle.std.proofs.Common.{◌≡◌, ◌++◌, ◌+◌, ◌≤◌, length, vec_capacity}
use Rattle.ordered_rows.proofs.moves.raise_right.Given as goal

abbrev pub invariant-moves : goal.invariant-moves
invariant-moves g l = (l.left.items ++ l.right.items ≡ l.fn.left.items ++ l.fn.right.items) × (length l.right.items ≤ length l.left.items)
    × (length l.left.items + length l.right.items ≡ length l.fn.left.items + length l.fn.right.items)
    × (vec_capacity l.left ≡ vec_capacity l.fn.left)
    × (vec_capacity l.right ≡ vec_capacity l.fn.right)

abbrev pub decreases-moves : goal.decreases-moves
decreases-moves g l = length l.left.items
