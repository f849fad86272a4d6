-- What a call over the outside leaves of known bytes.
use Rattle.std.specs.Prelude.{ℕ, ◌<◌, List, length, take, Option}
use Rattle.std.specs.Io.KnownBytes.{Appends}

-- known bytes grew by a front of these, and not by all of them
abbrev pub AppendsProperPrefix : Option (List ℕ) → Option (List ℕ) → List ℕ → Type 0
AppendsProperPrefix old new bytes = (n : ℕ) × (n < length bytes) × Appends old new (take n bytes)
