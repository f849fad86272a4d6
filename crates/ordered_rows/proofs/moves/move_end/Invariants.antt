use Rattle.std.proofs.Common.{◌≡◌, ◌++◌, ◌+◌, ◌≤◌, reverse, length, vec_capacity}
use Rattle.ordered_rows.proofs.moves.move_end.Given as goal

abbrev pub invariant-moves : goal.invariant-moves
invariant-moves g l = (l.lower.items ++ reverse l.upper.items ≡ l.fn.lower.items) × (l.at ≤ length l.lower.items)
    × (length l.lower.items + length l.upper.items ≡ length l.fn.lower.items) × (vec_capacity l.lower ≡ vec_capacity l.fn.lower)
    × (vec_capacity l.upper ≡ vec_capacity l.fn.upper)

abbrev pub decreases-moves : goal.decreases-moves
decreases-moves g l = length l.lower.items
