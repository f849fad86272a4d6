-- What a rule says of a request: a refusal or a reading, which leaves the shard as it is, or a change.
use Rattle.std.specs.Prelude.{Bool, true, false, if◌then◌else◌, Option, Some, None}
use Rattle.store_rules.specs.declared.outcome.Outcome.{Outcome}
use Rattle.store_rules.specs.declared.outcome.Outcome.TheVariants.{Leaves, Changes}

abbrev pub reply : {R : Type 0} → Outcome R → R
reply (Leaves x) = x
reply (Changes x) = x

abbrev pub changes : {R : Type 0} → Outcome R → Bool
changes (Leaves x) = false
changes (Changes x) = true

-- a test that refuses
abbrev pub refuse : {R : Type 0} → Bool → R → Outcome R → Outcome R
refuse b r x = if b then Leaves r else x

-- what is there, or else a refusal
abbrev pub found : {R X : Type 0} → Option X → R → (X → Outcome R) → Outcome R
found None r o = Leaves r
found (Some x) r o = o x
