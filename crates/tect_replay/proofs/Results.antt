-- What a call says of its result.
use Rattle.std.proofs.Common.{◌≡◌, Option, Some, None, refl, ap, arith}
use Rattle.std.specs.Prelude.{IsSome, IfErr, IsErrOf, Result, Ok, Err, OnOk, OnErr}

pub some_of : {X : Type 0} (o : Option X) → IsSome o → (x : X) × (o ≡ Some x)
some_of (Some x) is = (x, refl)
some_of None is = absurd (grind (arith, is))

pub on_ok : {A E P Q : Type 0} (r : Result A E) → (P → Q) → OnOk r P → OnOk r Q
on_ok (Ok v) f p = f p
on_ok (Err e) f p = tt

pub on_err : {A E P : Type 0} (r : Result A E) → P → OnErr r P
on_err (Ok v) p = tt
on_err (Err e) p = p

pub on_err_by : {A E P Q : Type 0} (r : Result A E) → (P → Q) → OnErr r P → OnErr r Q
on_err_by (Ok v) f p = tt
on_err_by (Err e) f p = f p

-- where the only error is that one, what is so at no such error is so at Ok
pub kept_whole : {A E P : Type 0} {e : E} (r : Result A E) → OnOk r P → IfErr r (λ x. x ≡ e) → ¬ IsErrOf r e → P
kept_whole (Ok v) p only none = p
kept_whole (Err x) p only none = absurd (none (ap Err only))
