-- results, and options that are there or not
use Rattle.std.proofs.Common.{◌≡◌, Bool, true, false, Option, Some, None, is_some, refl, arith}
use Rattle.std.specs.Prelude.{IsNone, IsSome, Result, Ok, Err, OnOk}

pub on_ok_both : {A E P Q R : Type 0} (r : Result A E) → (P → Q → R) → OnOk r P → OnOk r Q → OnOk r R
on_ok_both (Ok v) f p q = f p q
on_ok_both (Err e) f p q = tt

pub on_ok : {A E P Q : Type 0} (r : Result A E) → (P → Q) → OnOk r P → OnOk r Q
on_ok (Ok v) f p = f p
on_ok (Err e) f p = tt

pub not_running : {X : Type 0} (o : Option X) (b : Bool) → b ≡ is_some o → b ≡ false → o ≡ None
not_running None b is off = refl
not_running (Some x) b is off = absurd (grind (arith, is, off))

pub is_running : {X : Type 0} (o : Option X) (b : Bool) → b ≡ is_some o → b ≡ true → IsSome o
is_running None b is on = absurd (grind (arith, is, on))
is_running (Some x) b is on = refl

pub none_of : {X : Type 0} (o : Option X) → IsNone o → o ≡ None
none_of o is = not_running o (is_some o) refl is
