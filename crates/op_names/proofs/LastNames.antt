-- The last name of a path, taken off its end.
use Rattle.std.proofs.Common.{◌≡◌, ℕ, List, [], ◌∷◌, ◌++◌, Option, Some, None, MatchOption, refl, sym, ap, ◌∙◌}
use Rattle.tect_ids.specs.Paths.{but_last}
use Rattle.program_rules.specs.Served.{last_of}

all_but_end : (ns : List (List ℕ)) (n : List ℕ) → but_last (ns ++ n ∷ []) ≡ ns
all_but_end [] n = refl
all_but_end (m ∷ []) n = refl
all_but_end (m ∷ k ∷ ns) n = ap (λ l. m ∷ l) (all_but_end (k ∷ ns) n)

end_of : (ns : List (List ℕ)) (n : List ℕ) → last_of (ns ++ n ∷ []) ≡ Some n
end_of [] n = refl
end_of (m ∷ []) n = refl
end_of (m ∷ k ∷ ns) n = end_of (k ∷ ns) n

-- what stands before the name, if there is one
abbrev pub IsTakenOff : List (List ℕ) → List (List ℕ) → Option (List ℕ) → Type 0
IsTakenOff p ns o = MatchOption o ((p ≡ []) × (ns ≡ [])) (λ n. p ≡ ns ++ n ∷ [])

pub but_last_is : (p ns : List (List ℕ)) (o : Option (List ℕ)) → IsTakenOff p ns o → ns ≡ but_last p
but_last_is p ns None off = off.1 ∙ sym (ap but_last off.0)
but_last_is p ns (Some n) off = sym (ap but_last off ∙ all_but_end ns n)

pub last_is : (p ns : List (List ℕ)) (o : Option (List ℕ)) → IsTakenOff p ns o → o ≡ last_of p
last_is p ns None off = sym (ap last_of off.0)
last_is p ns (Some n) off = sym (ap last_of off ∙ end_of ns n)
