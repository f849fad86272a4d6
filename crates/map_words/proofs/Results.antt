-- Results of calls that may want memory.
use Rattle.std.proofs.Common.{◌≡◌, false, Result, Ok, Err, is_err, OnOk}

-- what holds of an `Ok`, where the result is no error
pub at_ok : {T E P : Type 0} (r : Result T E) → is_err r ≡ false → OnOk r P → P
at_ok (Ok x) e p = p
at_ok (Err y) e p = absurd (cc)
