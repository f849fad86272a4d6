-- what stands in the tree was made, and the store that opens shows the tree that opens
use Rattle.std.proofs.Common.{◌≡◌, ℕ, List, true, is_some, refl, arith}
use Rattle.std.specs.FinMap.{get, empty, same_map}
use Rattle.tect_ids.specs.declared.ids.BlkId.{BlkId}
use Rattle.tect_ids.specs.declared.ids.DirId.{DirId}
use Rattle.tect_ids.specs.declared.ids.FileId.{FileId}
use Rattle.tect_ids.specs.declared.ids.Node.TheVariants as nodes
use Rattle.tect_ids.specs.declared.ids.OpId.{OpId}
use Rattle.tect_ids.specs.Keys.{dir_cmp, file_cmp, key_cmp}
use Rattle.tect_ids.proofs.KeyTests.{dir_cmp_total, file_cmp_total, key_cmp_total, dir_antisymmetric, file_antisymmetric, key_antisymmetric}
use Rattle.key_words.proofs.Lookups.{maps}
use Rattle.store_rules.specs.Store.{Store, opening_store}
use Rattle.tree_model.specs.declared.step.TreeStep.{TreeStep}
use Rattle.tree_model.specs.declared.step.TreeStep.TheVariants as step
use Rattle.tree_model.specs.declared.step.TreeReply.{TreeReply}
use Rattle.tree_model.specs.declared.step.TreeReply.TheVariants.{Ok, Refused}
use Rattle.tree_model.specs.Tree.{Tree, opening_tree, tree_next, tree_change}
use Rattle.telling_laws.specs.MapValues.{map_values}
use Rattle.telling_laws.specs.View.{Made, view, Shows, AllMade, shown_dir, shown_file, shown_entry}
use Rattle.telling_laws.proofs.ValuesSeen.{get-map_values, dir_put}

-- what stands in the tree was made
pub record TreeMade (t : Tree) : Type 0 where
  pub dirs : (d : DirId) → is_some (get t.dirs d) ≡ true → is_some (get t.made (nodes.Dir d)) ≡ true
  pub files : (f : FileId) → is_some (get t.files f) ≡ true → is_some (get t.made (nodes.File f)) ≡ true

-- what stands in the store was made
pub all_made : (s : Store) (content : BlkId → List ℕ) (made : Made) → TreeMade (view s content made) → AllMade s made
all_made s content made h (nodes.Dir d) st = grind (arith, h.dirs d, get-map_values)
all_made s content made h (nodes.File f) st = grind (arith, h.files f, get-map_values)

change_made : (t : Tree) (op : OpId) (st : TreeStep) → TreeMade t → TreeMade (tree_change t op st)
change_made t op (step.Check d) h = h
change_made t op (step.Look k) h = h
change_made t op (step.List d) h = h
change_made t op (step.MakeDir d p) h = record
    { dirs = λ e is. grind (arith, maps, h.dirs e); files = λ e is. grind (arith, maps, h.files e) }
change_made t op (step.MakeFile f k) h = record
    { dirs = λ e is. grind (arith, maps, h.dirs e); files = λ e is. grind (arith, maps, h.files e) }
change_made t op (step.Bind k n o) h = record { dirs = h.dirs; files = h.files }
change_made t op (step.Swap d from to n) h = record { dirs = h.dirs; files = h.files }
change_made t op (step.Unbind k w) h = record { dirs = h.dirs; files = h.files }
change_made t op (step.GrantDir d) h = h
change_made t op (step.GrantFile f) h = h
change_made t op (step.Open f token) h = record { dirs = h.dirs; files = λ e is. grind (arith, maps, h.files e) }
change_made t op (step.Attach f token b bytes) h = record { dirs = h.dirs; files = λ e is. grind (arith, maps, h.files e) }
change_made t op (step.Blocks f) h = h
change_made t op (step.Read f n) h = h
change_made t op (step.SealDir d) h = record { dirs = λ e is. grind (arith, maps, h.dirs e); files = h.files }
change_made t op (step.SealFile f) h = record { dirs = h.dirs; files = λ e is. grind (arith, maps, h.files e) }

pub next_made : (t : Tree) (op : OpId) (st : TreeStep) (x : TreeReply) → TreeMade t → TreeMade (tree_next t op st x)
next_made t op st (Ok shown) h = change_made t op st h
next_made t op st (Refused why) h = h

-- ---- the opening moment

dirs_empty : map_values shown_dir (empty {R = dir_cmp}) ≡ empty
dirs_empty = same_map dir_cmp_total dir_antisymmetric _ _ (λ q. grind (arith, maps, get-map_values))

files_empty : (content : BlkId → List ℕ) → map_values (shown_file content) (empty {R = file_cmp}) ≡ empty
files_empty content = same_map file_cmp_total file_antisymmetric _ _ (λ q. grind (arith, maps, get-map_values))

entries_empty : map_values shown_entry (empty {R = key_cmp}) ≡ empty
entries_empty = same_map key_cmp_total key_antisymmetric _ _ (λ q. grind (arith, maps, get-map_values))

pub opening_shows : (content : BlkId → List ℕ) → Shows opening_store content opening_tree
opening_shows content = rw (dir_put, dirs_empty, files_empty content, entries_empty) refl

pub opening_made : TreeMade opening_tree
opening_made = record { dirs = λ d is. grind (arith, maps); files = λ f is. grind (arith, maps) }
