-- How many entries a directory may have.
use Rattle.std.specs.Prelude.{◌≡◌, ◌<◌, ◌≤◌, None}
use Rattle.std.specs.FinMap.{FinMap, get, len}
use Rattle.tect_ids.specs.declared.ids.DirId.{DirId}
use Rattle.tect_ids.specs.declared.key.Key.{Key}
use Rattle.tect_ids.specs.Keys.{key_cmp}
use Rattle.key_words.specs.Maps.{within}
use Rattle.store_rules.specs.declared.names.DirectoryEntry.{DirectoryEntry}
use Rattle.store_rules.specs.Names.{entry_limit}

-- no directory has more entries than that
pub record IsWithinLimit (entries : FinMap key_cmp DirectoryEntry) : Type 0 where
  pub count : (d : DirId) → len (within entries d) ≤ entry_limit

-- an entry may be put at the key: one stands there, or its directory has room
abbrev pub HasRoom : FinMap key_cmp DirectoryEntry → Key → Type 0
HasRoom entries k = get entries k ≡ None → len (within entries k.dir) < entry_limit
