-- Reading by forms that go on from other ones.
use Rattle.std.proofs.Common.{◌≡◌, ℕ, Bool, true, false, List, [], ◌∷◌, refl, ap, ◌∙◌}
use Rattle.script_words.specs.declared.limits.Fit.{Fit}
use Rattle.script_words.specs.declared.limits.Fit.TheVariants.{Fits, Over, Unfit}
use Rattle.script_forms.specs.Form.{Form, done, word, Outcome, Got, Wrong, Large, read, by_fit, and_then}

abbrev pub map_outcome : {A B : Type 0} → (A → B) → Outcome A → Outcome B
map_outcome g (Got value words) = Got (g value) words
map_outcome g (Wrong words) = Wrong words
map_outcome g (Large limit words) = Large limit words

by_fit-map : {A B : Type 0} (g : A → B) (limited : Bool) (fit : Fit) (words : List (List ℕ)) (o : Outcome A)
    → by_fit limited fit words (map_outcome g o) ≡ map_outcome g (by_fit limited fit words o)
by_fit-map g limited Fits words o = refl
by_fit-map g true (Over limit) words o = refl
by_fit-map g false (Over limit) words o = refl
by_fit-map g limited Unfit words o = refl

pub read-map : {A B : Type 0} (g : A → B) (limited : Bool) (f : Form A) (words : List (List ℕ))
    → read limited (and_then f (λ a. done (g a))) words ≡ map_outcome g (read limited f words)
read-map g limited (done value) words = refl
read-map g limited (word fit next) [] = refl
read-map g limited (word fit next) (w ∷ words) =
    ap (λ o. by_fit limited (fit w) (w ∷ words) o) (read-map g limited (next w) words) ∙ by_fit-map g limited (fit w) (w ∷ words)
    (read limited (next w) words)
