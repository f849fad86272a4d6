-- one moment more
use Rattle.std.proofs.Common.{◌≡◌, ℕ, ◌<◌, true, List, [], ◌∷◌, ◌++◌, sym, subst}
use Rattle.std.proofs.lemmas.List.{append-nil}
use Rattle.entry_words.specs.declared.entry.Moment.{Moment}
use Rattle.entry_words.specs.Moments.{stamp_of, rises}
use Rattle.passes.proofs.Pushes.{rises-push}

pub rises_one : (clock : ℕ) (ns : List Moment) (m : Moment) → rises 0 clock ns ≡ true → clock < stamp_of m
    → rises 0 (stamp_of m) (ns ++ m ∷ []) ≡ true
rises_one clock ns m is lt = rises-push 0 clock ns m is lt

-- no moment more
pub rises_none : (clock : ℕ) (ns : List Moment) → rises 0 clock ns ≡ true → rises 0 clock (ns ++ []) ≡ true
rises_none clock ns is = subst (λ (ms : List Moment). rises 0 clock ms ≡ true) (sym (append-nil ns)) is
