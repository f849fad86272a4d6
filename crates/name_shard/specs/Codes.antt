-- How a shard's maps are stored as plain data, which tells their values apart.
use Rattle.std.specs.Prelude.{Bool, refl}
use Rattle.std.specs.Coded.{Coded, code_by, coded×, coded_bool}
use Rattle.std.specs.FinMap as map
use Rattle.std.specs.FinMap.{FinMap}
use Rattle.tect_ids.specs.declared.ids.DirId.{DirId}
use Rattle.tect_ids.specs.declared.ids.Hold.{Hold}
use Rattle.tect_ids.specs.declared.ids.Node.{Node}
use Rattle.tect_ids.specs.declared.key.Upper.{Upper}
use Rattle.tect_ids.specs.Keys.{dir_cmp, key_cmp, hold_cmp}
use Rattle.tect_ids.specs.Codes.{dir_code, key_code, node_code, hold_code, upper_code}
use Rattle.store_rules.specs.declared.names.Directory.{Directory}
use Rattle.store_rules.specs.declared.names.DirectoryEntry.{DirectoryEntry}
use Rattle.store_rules.specs.Names.{Names}

abbrev pub directory_code : Coded Directory
directory_code =
    code_by (DirId × (Bool × FinMap hold_cmp Upper)) (coded× dir_code (coded× coded_bool (map.code hold_code upper_code)))
    (λ d. (d.parent, (d.sealed, d.holds))) (λ p. record { parent = p.0; sealed = p.1.0; holds = p.1.1 }) (λ _. refl)

abbrev pub entry_code : Coded DirectoryEntry
entry_code = code_by (Node × Hold) (coded× node_code hold_code) (λ e. (e.node, e.hold)) (λ p. record { node = p.0; hold = p.1 }) (λ _. refl)

abbrev pub names_code : Coded Names
names_code =
    code_by (FinMap dir_cmp Directory × FinMap key_cmp DirectoryEntry)
    (coded× (map.code dir_code directory_code) (map.code key_code entry_code))
    (λ s. (s.dirs, s.entries)) (λ p. record { dirs = p.0; entries = p.1 }) (λ _. refl)
