-- what is read through borrows, from some number on
use Rattle.std.proofs.Common.{◌≡◌, ℕ, ◌+◌, ◌-◌, ◌≤◌, List, length, map, take, drop, sym, ap, ◌∙◌, arith}
use Rattle.std.proofs.lemmas.List.{drop-map, length-drop, take_rest}

module _ {X Y : Type 0} (f : X → Y) (xs : List X) (n : ℕ) where
  pub read_rest : map f (take (length xs - n) (drop n xs)) ≡ drop n (map f xs)
  read_rest = ap (λ (ys : List X). map f ys) (take_rest xs n) ∙ sym (drop-map f n xs)

  pub more_within : (k : ℕ) → n ≤ length xs → k ≤ length (take (length xs - n) (drop n xs)) → n + k ≤ length xs
  more_within k within more =
      let rest : length (take (length xs - n) (drop n xs)) ≡ length xs - n = ap (λ (ys : List X). length ys) (take_rest xs n) ∙ length-drop
      n xs in
      omega (arith, within, more, rest)
