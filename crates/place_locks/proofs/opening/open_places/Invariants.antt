use Rattle.std.proofs.Common.{◌≡◌, vec_len}
use Rattle.place_locks.proofs.opening.open_places.Given as goal

abbrev pub invariant-loop-number : goal.invariant-loop-number
invariant-loop-number l = vec_len l.kepts ≡ l.number
