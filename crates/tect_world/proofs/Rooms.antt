-- the room of the order, of which each command that goes on has a mark
use Rattle.std.proofs.Common.{◌≡◌, ℕ, ◌+◌, ◌<◌, Bool, true, false, List, length, get_or, set, ap, arith}
use Rattle.std.specs.Prelude.{count_by, cond}
use Rattle.std.proofs.lemmas.List.Sums.{sum_by-set}

-- one that goes on is counted, and once it does not there is one less
pub one_less : {X : Type 0} (p : X → Bool) (xs : List X) (i : ℕ) (y d : X) → i < length xs → p (get_or xs i d) ≡ true → p y ≡ false
    → count_by p (set xs i y) + 1 ≡ count_by p xs
one_less p xs i y d lt was is =
    let all = sum_by-set (λ x. cond {A = ℕ} (p x) 1 0) xs i y d lt in
    let old : cond {A = ℕ} (p (get_or xs i d)) 1 0 ≡ 1 = ap (λ (t : Bool). cond {A = ℕ} t 1 0) was in
    let new : cond {A = ℕ} (p y) 1 0 ≡ 0 = ap (λ (t : Bool). cond {A = ℕ} t 1 0) is in
    omega (arith, all, old, new)
