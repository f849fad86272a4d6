-- What a reply to a request teaches: the tokens that later requests need.
use Rattle.std.specs.Prelude.{Bool, if◌then◌else◌, Option, Some, None, is_some, List, [], ◌∷◌, map}
use Rattle.tect_ids.specs.declared.ids.Hold.{Hold}
use Rattle.tect_ids.specs.declared.ids.Node.{Node}
use Rattle.tect_ids.specs.declared.ids.Node.TheVariants as nodes
use Rattle.tect_ids.specs.declared.values.Listed.{Listed}
use Rattle.store_rules.specs.declared.names.NameReq.{NameReq}
use Rattle.store_rules.specs.declared.names.NameReq.TheVariants as names
use Rattle.store_rules.specs.declared.names.Replaced.{Replaced}
use Rattle.store_rules.specs.declared.files.FileReq.{FileReq}
use Rattle.store_rules.specs.declared.files.FileReq.TheVariants as files
use Rattle.store_rules.specs.declared.any.AnyReq.{AnyReq}
use Rattle.store_rules.specs.declared.any.AnyReq.TheVariants as any
use Rattle.store_rules.specs.declared.any.AnyReply.{AnyReply}
use Rattle.store_rules.specs.Views.{as_parent, as_found, as_listing, is_made, is_granted, as_bound, as_unbound, as_swapped}
use Rattle.tect_calls.specs.declared.tokens.Fact.{Fact}
use Rattle.tect_calls.specs.declared.tokens.Fact.TheVariants.{Made, Granted, Spent}

-- a directory that stands, or a node that an entry names, was made
abbrev pub exists_facts : Option Node → List Fact
exists_facts None = []
exists_facts (Some n) = Made n ∷ []

abbrev pub checked : Node → Bool → Option Node
checked n stands = if stands then Some n else None

-- and so was what each item of a listing names
abbrev pub listed_facts : Option (List Listed) → List Fact
listed_facts None = []
listed_facts (Some items) = map (λ item. Made item.node) items

abbrev pub made_facts : Node → Hold → Bool → List Fact
made_facts n h made = if made then Made n ∷ Granted h ∷ [] else []

abbrev pub granted_facts : Hold → Bool → List Fact
granted_facts h granted = if granted then Granted h ∷ [] else []

-- the hold of what lost its name is spent
abbrev pub replaced_facts : Option Replaced → List Fact
replaced_facts None = []
replaced_facts (Some old) = Spent old.hold ∷ []

abbrev pub bound_facts : Option (Option Replaced) → List Fact
bound_facts None = []
bound_facts (Some old) = replaced_facts old

abbrev pub swapped_facts : Option (Hold × Option Replaced) → List Fact
swapped_facts None = []
swapped_facts (Some p) = Spent p.0 ∷ replaced_facts p.1

abbrev pub unbound_facts : Option (Node × Hold) → List Fact
unbound_facts None = []
unbound_facts (Some p) = Spent p.1 ∷ []

-- by the request
abbrev pub name_taught : NameReq → AnyReply → List Fact
name_taught (names.CheckDir d) x = exists_facts (checked (nodes.Dir d) (is_some (as_parent x)))
name_taught (names.Look k) x = exists_facts (as_found x)
name_taught (names.List d) x = listed_facts (as_listing x)
name_taught (names.MakeDir d p h k) x = made_facts (nodes.Dir d) h (is_made x)
name_taught (names.Bind k n h o) x = bound_facts (as_bound x)
name_taught (names.Swap d from to n h) x = swapped_facts (as_swapped x)
name_taught (names.Unbind k w) x = unbound_facts (as_unbound x)
name_taught (names.Grant d h k) x = granted_facts h (is_granted x)
name_taught (names.Release d h) x = []
name_taught (names.SealDir d) x = []

abbrev pub file_taught : FileReq → AnyReply → List Fact
file_taught (files.MakeFile f h k t) x = made_facts (nodes.File f) h (is_made x)
file_taught (files.Grant f h k) x = granted_facts h (is_granted x)
file_taught (files.Release f h) x = []
file_taught (files.TakeToken f t) x = []
file_taught (files.Attach f t b n h) x = []
file_taught (files.ListBlocks f) x = []
file_taught (files.SealFile f) x = []

-- replies of blocks and disks teach nothing yet
abbrev pub taught : AnyReq → AnyReply → List Fact
taught (any.Name q) x = name_taught q x
taught (any.File q) x = file_taught q x
taught (any.Block q) x = []
taught (any.Disk q) x = []
