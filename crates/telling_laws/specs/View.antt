-- The store seen as a tree.
use Rattle.std.specs.Prelude.{◌≡◌, ℕ, Bool, true, List, length, map, Option, Some, None, is_some}
use Rattle.std.specs.FinMap.{FinMap, get}
use Rattle.tect_ids.specs.declared.ids.BlkId.{BlkId}
use Rattle.tect_ids.specs.declared.ids.FileId.{FileId}
use Rattle.tect_ids.specs.declared.ids.Node.{Node}
use Rattle.tect_ids.specs.declared.ids.Node.TheVariants as nodes
use Rattle.tect_ids.specs.declared.ids.OpId.{OpId}
use Rattle.tect_ids.specs.declared.values.RowPart.{RowPart}
use Rattle.tect_ids.specs.Keys.{node_cmp}
use Rattle.store_rules.specs.declared.file_rows.FileRow.{FileRow}
use Rattle.store_rules.specs.declared.files.FileReq.{FileReq}
use Rattle.store_rules.specs.declared.files.FileReq.TheVariants as files
use Rattle.store_rules.specs.declared.any.AnyReq.TheVariants as any
use Rattle.store_rules.specs.declared.names.Directory.{Directory}
use Rattle.store_rules.specs.declared.names.DirectoryEntry.{DirectoryEntry}
use Rattle.store_rules.specs.declared.files.File.{File}
use Rattle.store_rules.specs.declared.any.AnyReq.{AnyReq}
use Rattle.store_rules.specs.Store.{Store, store_reply, store_step}
use Rattle.store_pasts.specs.Pasts.{row_at}
use Rattle.store_pasts.specs.Roles.{role}
use Rattle.tree_model.specs.declared.blocks.TreeBlock.{TreeBlock}
use Rattle.tree_model.specs.declared.step.TreeDir.{TreeDir}
use Rattle.tree_model.specs.declared.step.TreeFile.{TreeFile}
use Rattle.tree_model.specs.declared.step.TreeStep.{TreeStep}
use Rattle.tree_model.specs.declared.step.TreeReply.{TreeReply}
use Rattle.tree_model.specs.Tree.{Tree, Allowed, tree_next}
use Rattle.world_runs.specs.declared.event.Event.{Event}
use Rattle.claim_words.specs.Commands.{content_of}
use Rattle.claim_words.specs.TreeSteps.{tree_step, says}
use Rattle.telling_laws.specs.MapValues.{map_values}

-- the directories and files that were ever made
abbrev pub Made : Type 0
Made = FinMap node_cmp (Unit {0})

-- a directory without its holds
abbrev pub shown_dir : Directory → TreeDir
shown_dir d = record { parent = d.parent; sealed = d.sealed }

-- a block of a file with its content
abbrev pub shown_row : (BlkId → List ℕ) → FileRow → TreeBlock
shown_row content r = record { blk = r.blk; bytes = content r.blk }

-- a file without its holds, each of its blocks with its content
abbrev pub shown_file : (BlkId → List ℕ) → File → TreeFile
shown_file content f = record { token = f.token; sealed = f.sealed; blocks = map (shown_row content) f.rows }

-- what an entry names, without its hold
abbrev pub shown_entry : DirectoryEntry → Node
shown_entry e = e.node

-- The store seen as a tree. The store forgets what was made, and what its blocks consist of, so this is told beside.
abbrev pub view : Store → (BlkId → List ℕ) → Made → Tree
view s content made = record {
  dirs = map_values shown_dir s.names.dirs;
  entries = map_values shown_entry s.names.entries;
  files = map_values (shown_file content) s.files;
  made = made;
}

-- the store shows this tree
abbrev pub Shows : Store → (BlkId → List ℕ) → Tree → Type 0
Shows s content t = view s content t.made ≡ t

-- whether a directory or file stands
abbrev pub stands : Store → Node → Bool
stands s (nodes.Dir d) = is_some (get s.names.dirs d)
stands s (nodes.File f) = is_some (get s.files f)

-- what stands was made
abbrev pub AllMade : Store → Made → Type 0
AllMade s made = (n : Node) → stands s n ≡ true → is_some (get made n) ≡ true

-- each row of a file is as long as its block's content
abbrev pub AllLong : Store → (BlkId → List ℕ) → Type 0
AllLong s content = (f : FileId) (i : ℕ) (r : FileRow) → row_at s f i ≡ Some r → length (content r.blk) ≡ r.len

-- the content of each row's block is told by that history
abbrev pub AllKnown : List Event → Store → Type 0
AllKnown h s = (f : FileId) (i : ℕ) (r : FileRow) → row_at s f i ≡ Some r → is_some (content_of h r.blk) ≡ true

-- the block that a request attaches, and as how long
abbrev pub file_attaches : FileReq → Option RowPart
file_attaches (files.Attach f t b n h) = Some record { blk = b; len = n }
file_attaches q = None

abbrev pub attaches : AnyReq → Option RowPart
attaches (any.File q) = file_attaches q
attaches q = None

-- what the request is to make was not made before, what its role says of its own words is so, and a block that it attaches is as long as its
-- content
pub record MakesNew (content : BlkId → List ℕ) (made : Made) (q : AnyReq) : Type 0 where
  pub new : (n : Node) → (role q).makes ≡ Some n → get made n ≡ None
  pub fits : (role q).fits
  pub long : (p : RowPart) → attaches q ≡ Some p → length (content p.blk) ≡ p.len

-- From the tree t on: no step, and the store shows t still; or a step to which t allows what was said, and the store shows
-- the tree after it.
abbrev pub TreeFollows : Tree → OpId → Store → (BlkId → List ℕ) → Option TreeStep → TreeReply → Type 0
TreeFollows t op s content None x = Shows s content t
TreeFollows t op s content (Some step) x = Allowed t op step x × Shows s content (tree_next t op step x)

-- the request, seen by the tree that the store shows; it is that op's
abbrev pub StepShows : Store → (BlkId → List ℕ) → Made → OpId → AnyReq → Type 0
StepShows s content made op q =
    TreeFollows (view s content made) op (store_step s q) content (tree_step content q (store_reply s q)) (says (store_reply s q))
