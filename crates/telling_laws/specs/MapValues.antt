-- A map with each value seen through a function.
use Rattle.std.specs.Prelude.{map}
use Rattle.std.specs.declared.cmp.Ordering.{Ordering}
use Rattle.std.specs.FinMap.{FinMap, entries, from_sorted}

-- an entry with its value seen so
abbrev pub seen_by : {K X Y : Type 0} → (X → Y) → K × X → K × Y
seen_by f e = (e.0, f e.1)

-- the map with each value seen so
unfoldable pub map_values : {K X Y : Type 0} {R : K → K → Ordering} → (X → Y) → FinMap R X → FinMap R Y
map_values f m = from_sorted (map (seen_by f) (entries m))
