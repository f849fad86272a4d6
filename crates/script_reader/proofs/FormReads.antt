-- What was taken by a form, for the forms that go on from it.
use Rattle.std.proofs.Common.{◌≡◌, ℕ, ◌-◌, ◌≤◌, ◌^◌, min, true, List, Result, Err, IsTrue, ap, arith, rules, ◌∙◌}
use Rattle.script_words.specs.declared.limits.Limit.{Limit}
use Rattle.script_words.specs.declared.limits.Fit.TheVariants.{Fits}
use Rattle.script_words.specs.WordForm.{is_numeral, number_of, count_fit}
use Rattle.script_reader.specs.declared.faults.LineFault.{LineFault}
use Rattle.script_reader.specs.declared.faults.LineFault.TheVariants as faults
use Rattle.script_forms.specs.Form.{Form, done, Got, read, and_then}
use Rattle.script_forms.proofs.FormReads.{map_outcome, read-map}
use Rattle.script_reader.specs.Taken.{Gives}

abbrev pub failed : (A : Type 0) → LineFault → Result A LineFault
failed A fault = Err fault

module _ {A B : Type 0} (g : A → B) (f : Form A) (old new : List (List ℕ)) where
  pub mapped_ok : (a : A) → read true f old ≡ Got a new → read true (and_then f (λ a. done (g a))) old ≡ Got (g a) new
  mapped_ok a is = read-map g true f old ∙ ap (λ o. map_outcome g o) is

  pub mapped_err : (fault : LineFault) → Gives (failed A fault) new (read true f old)
      → Gives (failed B fault) new (read true (and_then f (λ a. done (g a))) old)
  mapped_err faults.NoMemory is = tt
  mapped_err (faults.Wrong bytes) (words, is, size) = (words, read-map g true f old ∙ ap (λ o. map_outcome g o) is, size)
  mapped_err (faults.Large limit) (words, is) = (words, read-map g true f old ∙ ap (λ o. map_outcome g o) is)

-- a count that fits is a number of 32 bits
pub count_number : (limit : Limit) (most : ℕ) (w : List ℕ) (r : ℕ) → most ≤ 64 → count_fit limit most w ≡ Fits
    → (IsTrue (is_numeral w) → r ≡ min (number_of w) (2 ^ 32 - 1)) → r ≡ number_of w
count_number limit most w r small fits is = grind (arith, rules)
