-- What is kept under ids, with the latest used first.
use Rattle.std.specs.Prelude.{ℕ, Bool, List, ◌∷◌, take, Option}
use Rattle.std.specs.Option.{option_map_or}
use Rattle.std.specs.Map.{lookup, remove_entry}

module _ {K V : Type 0} (eq : K → K → Bool) where
  -- the value kept under the id
  abbrev pub found : K → List (K × V) → Option V
  found k l = lookup (eq k) l

  -- without what is kept under the id
  abbrev pub without : K → List (K × V) → List (K × V)
  without k l = remove_entry (eq k) l

  -- after a look-up: what is kept under the id goes to the front
  abbrev pub used : K → List (K × V) → List (K × V)
  used k l = option_map_or (λ v. (k, v) ∷ without k l) (found k l) l

  -- after a keep: the value goes to the front, in place of what was kept under the id, and what is then beyond the bound is dropped
  abbrev pub kept : ℕ → K → V → List (K × V) → List (K × V)
  kept bound k v l = take bound ((k, v) ∷ without k l)
