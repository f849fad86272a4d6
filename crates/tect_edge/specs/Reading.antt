-- When a reading may answer each of its faults.
use Rattle.std.specs.Prelude.{◌≡◌, ℕ, ◌≤◌, Result, OnOk, IsErrOf}
use Rattle.tect_edge.specs.Counts.{Rose}
use Rattle.tect_edge.specs.declared.reading.ReadFault.{ReadFault}
use Rattle.tect_edge.specs.declared.reading.ReadFault.TheVariants as faults

-- a source's count of faults never falls, rose at `Failed`, and stays at any other result
pub record HasReadCause {T : Type 0} (before now : ℕ) (result : Result T ReadFault) : Type 0 where
  pub later : before ≤ now
  pub kept : OnOk result (now ≡ before)
  pub no_memory : IsErrOf result faults.NoMemory → now ≡ before
  pub failed : IsErrOf result faults.Failed → Rose before now
