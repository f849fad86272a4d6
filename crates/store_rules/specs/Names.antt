-- A shard of the Name layer, and the rule of each request to it: what it answers, its refusals in their order, and what
-- it changes where it is not refused.
use Rattle.std.specs.Prelude.{ℕ, Bool, true, false, not, List, Option, Some, None, is_some, nat_le, if◌then◌else◌, map}
use Rattle.std.specs.FinMap.{FinMap, empty, get, len, entries}
use Rattle.map_words.specs.Maps.{set_at}
use Rattle.tect_ids.specs.declared.ids.DirId.{DirId}
use Rattle.tect_ids.specs.declared.ids.FileId.{FileId}
use Rattle.tect_ids.specs.declared.ids.Hold.{Hold}
use Rattle.tect_ids.specs.declared.ids.Node.{Node}
use Rattle.tect_ids.specs.declared.ids.Node.TheVariants.{Dir, File}
use Rattle.tect_ids.specs.declared.key.Key.{Key}
use Rattle.tect_ids.specs.declared.key.Upper.{Upper}
use Rattle.tect_ids.specs.declared.key.Upper.TheVariants as uppers
use Rattle.tect_ids.specs.declared.values.Listed.{Listed}
use Rattle.tect_ids.specs.Keys.{dir_cmp, key_cmp, node_eq}
use Rattle.key_words.specs.Maps.{within}
use Rattle.store_rules.specs.declared.names.Directory.{Directory}
use Rattle.store_rules.specs.declared.names.DirectoryEntry.{DirectoryEntry}
use Rattle.tect_ids.specs.declared.values.Over.{Over}
use Rattle.tect_ids.specs.declared.values.Over.TheVariants as over
use Rattle.tect_ids.specs.declared.values.Want.{Want}
use Rattle.tect_ids.specs.declared.values.Want.TheVariants.{AnyFile, Exactly}
use Rattle.store_rules.specs.declared.names.Replaced.{Replaced}
use Rattle.store_rules.specs.declared.names.NameReq.{NameReq}
use Rattle.store_rules.specs.declared.names.NameReq.TheVariants as req
use Rattle.store_rules.specs.declared.names.NameReply.{NameReply}
use Rattle.store_rules.specs.declared.names.NameReply.TheVariants.{DirIs, Found, Listing, Made, Bound, Swapped, Unbound}
use Rattle.store_rules.specs.declared.names.NameReply.TheVariants.{Granted, Released, SealedNow, HasId, Refused}
use Rattle.tect_ids.specs.declared.values.Refusal.TheVariants.{NoDir, NoName, Exists, IsDir, Sealed, Full, Changed}
use Rattle.store_rules.specs.declared.outcome.Outcome.{Outcome}
use Rattle.store_rules.specs.declared.outcome.Outcome.TheVariants.{Leaves, Changes}
use Rattle.store_rules.specs.Outcomes.{changes, refuse, found}

pub record Names : Type 0 where
  pub dirs : FinMap dir_cmp Directory
  pub entries : FinMap key_cmp DirectoryEntry

-- the root alone, with no parent
abbrev pub root_names : Names
root_names = record {
  dirs = set_at empty (record { 0 = 1 }) (Some record { parent = record { 0 = 0 }; sealed = false; holds = empty });
  entries = empty;
}

abbrev pub no_names : Names
no_names = record { dirs = empty; entries = empty }

-- as many entries as a directory may have
abbrev pub entry_limit : ℕ
entry_limit = 65536

abbrev pub is_file : Node → Bool
is_file (Dir d) = false
is_file (File f) = true

abbrev pub replaced_file : Node → FileId
replaced_file (Dir d) = record { 0 = d.0 }
replaced_file (File f) = f

-- what a bind or a swap takes the name from
abbrev pub replaced : DirectoryEntry → Replaced
replaced e = record { file = replaced_file e.node; hold = e.hold }

abbrev pub set_entry : Names → Key → Option DirectoryEntry → Names
set_entry s k e = record s { entries = set_at s.entries k e }

abbrev pub set_dir : Names → DirId → Option Directory → Names
set_dir s d x = record s { dirs = set_at s.dirs d x }

abbrev pub key_in : DirId → List ℕ → Key
key_in d n = record { dir = d; name = n }

-- the node that a name has now
abbrev pub node_now : Option DirectoryEntry → Option Node
node_now None = None
node_now (Some e) = Some e.node

-- the directory with that hold listed, or not
abbrev pub dir_with_hold : Option Directory → Hold → Option Upper → Option Directory
dir_with_hold None h u = None
dir_with_hold (Some d) h u = Some record d { holds = set_at d.holds h u }

-- CheckDir
abbrev pub check_dir_answer : Names → DirId → Outcome NameReply
check_dir_answer s d = found (get s.dirs d) (Refused NoDir) (λ x. Leaves (DirIs x.parent x.sealed))

-- Look
abbrev pub look_answer : Names → Key → Outcome NameReply
look_answer s k = found (get s.dirs k.dir) (Refused NoDir) (λ d. found (get s.entries k) (Refused NoName) (λ e. Leaves (Found e.node)))

-- List
abbrev pub listed : Key × DirectoryEntry → Listed
listed e = record { name = (e.0).name; node = (e.1).node }

abbrev pub list_answer : Names → DirId → Outcome NameReply
list_answer s d = found (get s.dirs d) (Refused NoDir) (λ x. Leaves (Listing x.sealed (map listed (entries (within s.entries d)))))

-- MakeDir
abbrev pub make_dir_answer : Names → DirId → Outcome NameReply
make_dir_answer s d = refuse (is_some (get s.dirs d)) HasId (Changes Made)

abbrev pub make_dir_change : Names → DirId → DirId → Hold → Key → Names
make_dir_change s d p h k = set_dir s d (Some record { parent = p; sealed = false; holds = set_at empty h (Some (uppers.Entry k)) })

-- Bind: what stands at the name decides
abbrev pub bind_over : Names → Key → Option DirectoryEntry → Over → Outcome NameReply
bind_over s k (Some e) over.Absent = Leaves (Refused Exists)
bind_over s k (Some e) over.File = refuse (not (is_file e.node)) (Refused IsDir) (Changes (Bound (Some (replaced e))))
bind_over s k None o = refuse (nat_le entry_limit (len (within s.entries k.dir))) (Refused Full) (Changes (Bound None))

abbrev pub bind_answer : Names → Key → Over → Outcome NameReply
bind_answer s k o =
    found (get s.dirs k.dir) (Refused NoDir) (λ d.
    refuse d.sealed (Refused Sealed)
    (bind_over s k (get s.entries k) o))

abbrev pub bind_change : Names → Key → Node → Hold → Names
bind_change s k n h = set_entry s k (Some record { node = n; hold = h })

-- Swap: what stands at the new name decides
abbrev pub swap_over : Option DirectoryEntry → Node → Hold → Outcome NameReply
swap_over None n was = Changes (Swapped was None)
swap_over (Some e) n was =
    refuse (not (is_file e.node)) (Refused IsDir)
    (refuse (not (is_file n)) (Refused Exists)
    (Changes (Swapped was (Some (replaced e)))))

abbrev pub swap_answer : Names → DirId → List ℕ → List ℕ → Node → Outcome NameReply
swap_answer s d from to n =
    found (get s.dirs d) (Refused NoDir) (λ x.
    refuse x.sealed (Refused Sealed)
    (found (get s.entries (key_in d from)) (Refused (Changed None)) (λ e.
    refuse (not (node_eq e.node n)) (Refused (Changed (Some e.node)))
    (swap_over (get s.entries (key_in d to)) n e.hold))))

abbrev pub swap_change : Names → DirId → List ℕ → List ℕ → Node → Hold → Names
swap_change s d from to n h = set_entry (set_entry s (key_in d from) None) (key_in d to) (Some record { node = n; hold = h })

-- Unbind: of any file, or of just this node
abbrev pub unbind_any : Option DirectoryEntry → Outcome NameReply
unbind_any None = Leaves (Refused NoName)
unbind_any (Some e) = refuse (not (is_file e.node)) (Refused IsDir) (Changes (Unbound e.node e.hold))

abbrev pub unbind_node : Option DirectoryEntry → Node → Outcome NameReply
unbind_node None n = Leaves (Refused (Changed None))
unbind_node (Some e) n = refuse (not (node_eq e.node n)) (Refused (Changed (Some e.node))) (Changes (Unbound e.node e.hold))

abbrev pub unbind_want : Option DirectoryEntry → Want → Outcome NameReply
unbind_want e AnyFile = unbind_any e
unbind_want e (Exactly n) = unbind_node e n

abbrev pub unbind_answer : Names → Key → Want → Outcome NameReply
unbind_answer s k w = found (get s.dirs k.dir) (Refused NoDir) (λ d. refuse d.sealed (Refused Sealed) (unbind_want (get s.entries k) w))

-- Grant
abbrev pub grant_dir_answer : Names → DirId → Outcome NameReply
grant_dir_answer s d = found (get s.dirs d) (Refused NoDir) (λ x. Changes Granted)

abbrev pub grant_dir_change : Names → DirId → Hold → Key → Names
grant_dir_change s d h k = set_dir s d (dir_with_hold (get s.dirs d) h (Some (uppers.Entry k)))

-- Release
abbrev pub dir_lists : Option Directory → Hold → Option Upper
dir_lists None h = None
dir_lists (Some d) h = get d.holds h

abbrev pub release_dir_answer : Names → DirId → Hold → Outcome NameReply
release_dir_answer s d h = refuse (not (is_some (dir_lists (get s.dirs d) h))) (Released false) (Changes (Released true))

abbrev pub release_dir_change : Names → DirId → Hold → Names
release_dir_change s d h = set_dir s d (dir_with_hold (get s.dirs d) h None)

-- SealDir: also where it was sealed
abbrev pub dir_sealed : Option Directory → Option Directory
dir_sealed None = None
dir_sealed (Some d) = Some record d { sealed = true }

abbrev pub seal_dir_answer : Names → DirId → Outcome NameReply
seal_dir_answer s d = found (get s.dirs d) (Refused NoDir) (λ x. Changes SealedNow)

abbrev pub seal_dir_change : Names → DirId → Names
seal_dir_change s d = set_dir s d (dir_sealed (get s.dirs d))

-- The rule of a request: the directory that it concerns, what is answered, what is changed where it is not refused, and whether it is
-- done without memory.
pub record NameRule : Type 0 where
  pub dir : DirId
  pub answer : Names → Outcome NameReply
  pub change : Names → Names
  pub free : Bool

-- one that only reads a directory, and takes no memory for that
abbrev pub reading : DirId → (Names → Outcome NameReply) → NameRule
reading d answer = record { dir = d; answer = answer; change = λ s. s; free = true }

-- the whole table
abbrev pub name_rule : NameReq → NameRule
name_rule (req.CheckDir d) = reading d (λ s. check_dir_answer s d)
name_rule (req.Look k) = reading k.dir (λ s. look_answer s k)
name_rule (req.List d) = record (reading d (λ s. list_answer s d)) { free = false }
name_rule (req.MakeDir d p h k) =
    record { dir = d; answer = λ s. make_dir_answer s d; change = λ s. make_dir_change s d p h k; free = false }
name_rule (req.Bind k n h o) = record { dir = k.dir; answer = λ s. bind_answer s k o; change = λ s. bind_change s k n h; free = false }
name_rule (req.Swap d from to n h) =
    record { dir = d; answer = λ s. swap_answer s d from to n; change = λ s. swap_change s d from to n h; free = false }
name_rule (req.Unbind k w) = record { dir = k.dir; answer = λ s. unbind_answer s k w; change = λ s. set_entry s k None; free = true }
name_rule (req.Grant d h k) =
    record { dir = d; answer = λ s. grant_dir_answer s d; change = λ s. grant_dir_change s d h k; free = false }
name_rule (req.Release d h) =
    record { dir = d; answer = λ s. release_dir_answer s d h; change = λ s. release_dir_change s d h; free = true }
name_rule (req.SealDir d) = record { dir = d; answer = λ s. seal_dir_answer s d; change = λ s. seal_dir_change s d; free = true }

abbrev pub name_answer : Names → NameReq → Outcome NameReply
name_answer s q = (name_rule q).answer s

abbrev pub name_change : Names → NameReq → Names
name_change s q = (name_rule q).change s

abbrev pub name_step : Names → NameReq → Names
name_step s r = if changes (name_answer s r) then name_change s r else s
