-- lists of what is lent, read through the references
use Rattle.std.proofs.Common.{◌≡◌, ℕ, Result, Ok, Err, OnOk, List, [], ◌∷◌, ◌++◌, map, get_or, refl, ap, sym, ◌∙◌}
use Rattle.std.proofs.Math.ListN.{get_or-map}
use Rattle.std.specs.List.{flat_map}

pub flat_map-map : {X Y A : Type 0} (f : Y → List A) (g : X → Y) (xs : List X) → flat_map (λ x. f (g x)) xs ≡ flat_map f (map g xs)
flat_map-map f g [] = refl
flat_map-map {A = A} f g (x ∷ xs) = ap (λ (ys : List A). f (g x) ++ ys) (flat_map-map f g xs)

-- what is read of the element at an index
pub read_map : {X Y : Type 0} (g : X → Y) (xs : List X) (i : ℕ) (x : X) → x ≡ get_or xs i x → g x ≡ get_or (map g xs) i (g x)
read_map g xs i x at = ap g at ∙ sym (get_or-map g xs i x)

-- what follows where it is done
pub on_ok : {R E : Type 0} {A B : Type 0} (result : Result R E) → OnOk result A → (A → B) → OnOk result B
on_ok (Ok r) is then = then is
on_ok (Err e) is then = tt
