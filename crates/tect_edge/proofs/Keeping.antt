-- What is kept of a list that grows, where there is room for its first items alone.
use Rattle.std.proofs.Common.{◌≡◌, ℕ, ◌+◌, ◌-◌, ◌≤◌, min, List, ◌++◌, length, take, ap, sym, ◌∙◌, arith}
use Rattle.std.proofs.Math.Seq.{take-append-add}
use Rattle.std.proofs.lemmas.List.{take_min}

pub keeps_first : (room : ℕ) (kept piece : List ℕ) → length kept ≤ room
    → kept ++ take (min (length piece) (room - length kept)) piece ≡ take room (kept ++ piece)
keeps_first room kept piece within =
    let spare = room - length kept in
    let order : min (length piece) spare ≡ min spare (length piece) = omega arith in
    let whole : length kept + spare ≡ room = omega arith in
    ap (λ n. kept ++ take n piece) order ∙ ap (λ l. kept ++ l) (take_min spare piece) ∙ sym (take-append-add kept piece spare) ∙ ap
    (λ n. take n (kept ++ piece)) whole
