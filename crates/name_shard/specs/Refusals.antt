-- Why a directory takes no change of its entries.
use Rattle.std.specs.Prelude.{Option, None, Some, if◌then◌else◌}
use Rattle.store_rules.specs.declared.names.Directory.{Directory}
use Rattle.tect_ids.specs.declared.values.Refusal.{Refusal}
use Rattle.tect_ids.specs.declared.values.Refusal.TheVariants.{NoDir, Sealed}

-- why a directory takes no change of its entries, if it takes none
abbrev pub dir_refusal : Option Directory → Option Refusal
dir_refusal None = Some NoDir
dir_refusal (Some d) = if d.sealed then Some Sealed else None
