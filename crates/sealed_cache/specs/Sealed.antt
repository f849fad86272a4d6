-- Which listings and lists of blocks may be kept, and how a name is found.
use Rattle.std.specs.Prelude.{ℕ, Bool, ◌&&◌, if◌then◌else◌, List, map, find, Option, Some, None, option_map}
use Rattle.std.specs.Cmp.Lexicographic.{slice_cmp}
use Rattle.std.specs.FinMap.{is_sorted}
use Rattle.std.specs.Ordering.{nat_cmp}
use Rattle.tect_ids.specs.declared.ids.Node.{Node}
use Rattle.tect_ids.specs.declared.values.Listed.{Listed}
use Rattle.tect_ids.specs.declared.values.RowPart.{RowPart}
use Rattle.tect_ids.specs.Keys.{name_eq}

-- whether each name is below the next, in the order of bytes
abbrev pub names_rise : List Listed → Bool
names_rise items = is_sorted (slice_cmp nat_cmp) (map (λ e. (e.name, e.node)) items)

-- what may be kept of a listing: its entries, where the directory is sealed and their names rise
abbrev pub listing_of : Bool → List Listed → Option (List Listed)
listing_of sealed items = if sealed && names_rise items then Some items else None

-- what may be kept of a list of blocks: its rows, where the file is sealed
abbrev pub blocks_of : Bool → List RowPart → Option (List RowPart)
blocks_of sealed rows = if sealed then Some rows else None

-- the node of the first entry with that name
abbrev pub node_in : List Listed → List ℕ → Option Node
node_in items name = option_map (λ e. e.node) (find (λ e. name_eq name e.name) items)
