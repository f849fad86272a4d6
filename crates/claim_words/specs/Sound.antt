-- When a store is sound, and that it is so after a history. It has a record for each part.
use Rattle.std.specs.Prelude.{◌≡◌, ◌≢◌, ℕ, zero, suc, Bool, true, Option, Some, None, is_some, List, take}
use Rattle.std.specs.FinMap.{get}
use Rattle.tect_ids.specs.declared.ids.DirId.{DirId}
use Rattle.tect_ids.specs.declared.ids.Hold.{Hold}
use Rattle.tect_ids.specs.declared.ids.Node.{Node}
use Rattle.tect_ids.specs.declared.ids.Node.TheVariants.{Dir, File}
use Rattle.tect_ids.specs.declared.key.Key.{Key}
use Rattle.tect_ids.specs.declared.key.Upper.{Upper}
use Rattle.tect_ids.specs.declared.key.Upper.TheVariants as uppers
use Rattle.store_rules.specs.declared.names.Directory.{Directory}
use Rattle.store_rules.specs.declared.names.DirectoryEntry.{DirectoryEntry}
use Rattle.store_rules.specs.Names.{dir_lists}
use Rattle.store_rules.specs.Files.{file_lists}
use Rattle.store_rules.specs.Store.{Store, opening_store}
use Rattle.tect_ids.specs.Numbers.{root}
use Rattle.world_runs.specs.declared.event.Event.{Event}
use Rattle.world_runs.specs.OwnRuns.{stored_after}

-- what the node lists the hold for; nothing where the node does not stand
abbrev pub lists : Store → Node → Hold → Option Upper
lists s (Dir d) h = dir_lists (get s.names.dirs d) h
lists s (File f) h = file_lists (get s.files f) h

abbrev pub dir_stands : Store → DirId → Bool
dir_stands s d = is_some (get s.names.dirs d)

-- Of the entries: each one's directory stands; its node stands and lists its hold, with its key; no hold is bound twice; and at most one
-- entry names a directory or file.
pub record AreSoundEntries (s : Store) : Type 0 where
  pub in_dir : (k : Key) (e : DirectoryEntry) → get s.names.entries k ≡ Some e → dir_stands s k.dir ≡ true
  pub listed : (k : Key) (e : DirectoryEntry) → get s.names.entries k ≡ Some e → lists s e.node e.hold ≡ Some (uppers.Entry k)
  pub bound_once : (k l : Key) (e d : DirectoryEntry) → get s.names.entries k ≡ Some e → get s.names.entries l ≡ Some d → e.hold ≡ d.hold
      → k ≡ l
  pub named_once : (k l : Key) (e d : DirectoryEntry) → get s.names.entries k ≡ Some e → get s.names.entries l ≡ Some d → e.node ≡ d.node
      → k ≡ l

abbrev pub parent_in : Option Directory → Option DirId
parent_in None = None
parent_in (Some x) = Some x.parent

-- the parent that a directory names, where it stands
abbrev pub parent : Store → DirId → Option DirId
parent s d = parent_in (get s.names.dirs d)

abbrev pub at_parent : Option DirId → (DirId → Option DirId) → Option DirId
at_parent None f = None
at_parent (Some d) f = f d

-- the directory that is so many parents above
abbrev pub above : (DirId → Option DirId) → ℕ → DirId → Option DirId
above parents zero d = Some d
above parents (suc n) d = at_parent (parents d) (λ e. above parents n e)

-- Of the tree: a directory that an entry names stands in the directory that its parent names; from each directory that stands the chain of
-- parents leads to the root; and no entry names the root.
pub record IsSoundTree (s : Store) : Type 0 where
  pub in_parent : (k : Key) (e : DirectoryEntry) (d : DirId) (x : Directory) → get s.names.entries k ≡ Some e → e.node ≡ Dir d
      → get s.names.dirs d ≡ Some x → x.parent ≡ k.dir
  pub leads_to_root : (d : DirId) → dir_stands s d ≡ true → (n : ℕ) × (above (parent s) n d ≡ Some root)
  pub root_unnamed : (k : Key) (e : DirectoryEntry) → get s.names.entries k ≡ Some e → e.node ≢ Dir root

pub record IsSoundStore (s : Store) : Type 0 where
  pub entries : AreSoundEntries s
  pub tree : IsSoundTree s

-- the store after these events is sound
abbrev pub IsSound : List Event → Type 0
IsSound events = IsSoundStore (stored_after opening_store events)

-- so it is after each front of a history, the first and the whole among them
abbrev pub AfterEachFront : (List Event → Type 0) → List Event → Type 0
AfterEachFront Q history = (n : ℕ) → Q (take n history)
