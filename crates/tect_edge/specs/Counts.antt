-- Counters of 64 bits, and when a fault may be answered.
use Rattle.std.specs.Prelude.{◌≡◌, ℕ, ◌+◌, ◌-◌, ◌^◌, ◌≤◌, min, Result, OnOk, OnErr}

-- one more on a counter of 64 bits, which stays at its last value
abbrev pub next_count : ℕ → ℕ
next_count count = min (count + 1) (2 ^ 64 - 1)

-- a count of faults rose: it is greater than before, or stands at its counter's last value
abbrev pub Rose : ℕ → ℕ → Type 0
Rose before now = next_count before ≤ now

-- a count of faults never falls, stays at an `Ok`, and rose at an `Err`
pub record HasCause {T E : Type 0} (before now : ℕ) (result : Result T E) : Type 0 where
  pub later : before ≤ now
  pub kept : OnOk result (now ≡ before)
  pub failed : OnErr result (Rose before now)
