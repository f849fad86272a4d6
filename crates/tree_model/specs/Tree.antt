-- The tree: directories, entries and files, with one rule for each step. It has no layers, holds, disks, shards or caches.
use Rattle.std.specs.Prelude.{◌≡◌, ℕ, Bool, true, false, not, List, [], ◌∷◌, ◌++◌, Option, Some, None, is_some, nat_le, nat_lt}
use Rattle.std.specs.Prelude.{if◌then◌else◌, map, take, length}
use Rattle.std.specs.List.{flat_map}
use Rattle.std.specs.FinMap.{FinMap, empty, get, len, entries}
use Rattle.map_words.specs.Maps.{set_at}
use Rattle.tect_ids.specs.declared.ids.DirId.{DirId}
use Rattle.tect_ids.specs.declared.ids.FileId.{FileId}
use Rattle.tect_ids.specs.declared.ids.Node.{Node}
use Rattle.tect_ids.specs.declared.ids.OpId.{OpId}
use Rattle.tect_ids.specs.declared.ids.Node.TheVariants.{Dir, File}
use Rattle.tect_ids.specs.declared.key.Key.{Key}
use Rattle.tect_ids.specs.declared.values.Listed.{Listed}
use Rattle.tect_ids.specs.declared.values.Over.{Over}
use Rattle.tect_ids.specs.declared.values.Over.TheVariants as over
use Rattle.tect_ids.specs.declared.values.Want.{Want}
use Rattle.tect_ids.specs.declared.values.Want.TheVariants.{AnyFile, Exactly}
use Rattle.tect_ids.specs.declared.values.RowPart.{RowPart}
use Rattle.tect_ids.specs.Keys.{dir_cmp, file_cmp, key_cmp, node_cmp, node_eq, name_eq, op_eq}
use Rattle.key_words.specs.Maps.{within}
use Rattle.tree_model.specs.declared.blocks.TreeBlock.{TreeBlock}
use Rattle.tree_model.specs.declared.step.TreeDir.{TreeDir}
use Rattle.tree_model.specs.declared.step.TreeFile.{TreeFile}
use Rattle.tree_model.specs.declared.step.TreeStep.{TreeStep}
use Rattle.tree_model.specs.declared.step.TreeStep.TheVariants as step
use Rattle.tree_model.specs.declared.step.StepValue.TheVariants as shown
use Rattle.tect_ids.specs.declared.values.Refusal.{Refusal}
use Rattle.tect_ids.specs.declared.values.Refusal.TheVariants.{NoDir, NoName, NoFile, Exists, IsDir, Sealed, Full, Changed, TokenChanged}
use Rattle.tree_model.specs.declared.step.TreeReply.{TreeReply}
use Rattle.tree_model.specs.declared.step.TreeReply.TheVariants.{Ok, Refused}

pub record Tree : Type 0 where
  pub dirs : FinMap dir_cmp TreeDir
  pub entries : FinMap key_cmp Node
  pub files : FinMap file_cmp TreeFile
  -- the directories and files that were ever made
  pub made : FinMap node_cmp (Unit {0})

-- the root alone, with no parent
abbrev pub opening_tree : Tree
opening_tree = record {
  dirs = set_at empty (record { 0 = 1 }) (Some record { parent = record { 0 = 0 }; sealed = false });
  entries = empty;
  files = empty;
  made = set_at empty (Dir record { 0 = 1 }) (Some tt);
}

-- as many entries as a directory may have
abbrev pub tree_entry_limit : ℕ
tree_entry_limit = 65536

-- a test that refuses
abbrev pub unless : Bool → Refusal → TreeReply → TreeReply
unless b why x = if b then Refused why else x

-- what is there, or else a refusal
abbrev pub finding : {X : Type 0} → Option X → Refusal → (X → TreeReply) → TreeReply
finding None why f = Refused why
finding (Some x) why f = f x

abbrev pub is_dir : Node → Bool
is_dir (Dir d) = true
is_dir (File f) = false

abbrev pub at_name : DirId → List ℕ → Key
at_name d n = record { dir = d; name = n }

abbrev pub as_listed : Key × Node → Listed
as_listed e = record { name = (e.0).name; node = e.1 }

-- Check
abbrev pub check_reply : Tree → DirId → TreeReply
check_reply t d = finding (get t.dirs d) NoDir (λ x. Ok (shown.Parent x.parent x.sealed))

-- Look
abbrev pub look_reply : Tree → Key → TreeReply
look_reply t k = finding (get t.dirs k.dir) NoDir (λ d. finding (get t.entries k) NoName (λ n. Ok (shown.Node n)))

-- List
abbrev pub list_reply : Tree → DirId → TreeReply
list_reply t d = finding (get t.dirs d) NoDir (λ x. Ok (shown.Entries x.sealed (map as_listed (entries (within t.entries d)))))

-- MakeDir and MakeFile
abbrev pub make_reply : Tree → Node → TreeReply
make_reply t n = unless (is_some (get t.made n)) Exists (Ok shown.Done)

abbrev pub with_dir : Tree → DirId → DirId → Tree
with_dir t d p = record t {
  dirs = set_at t.dirs d (Some record { parent = p; sealed = false });
  made = set_at t.made (Dir d) (Some tt);
}

abbrev pub with_file : Tree → FileId → Option OpId → Tree
with_file t f token = record t {
  files = set_at t.files f (Some record { token = token; sealed = false; blocks = [] });
  made = set_at t.made (File f) (Some tt);
}

abbrev pub set_name : Tree → Key → Option Node → Tree
set_name t k n = record t { entries = set_at t.entries k n }

-- Bind: what stands at the name decides
abbrev pub bind_over : Tree → Key → Option Node → Over → TreeReply
bind_over t k (Some n) over.Absent = Refused Exists
bind_over t k (Some n) over.File = unless (is_dir n) IsDir (Ok shown.Done)
bind_over t k None o = unless (nat_le tree_entry_limit (len (within t.entries k.dir))) Full (Ok shown.Done)

abbrev pub bind_reply : Tree → Key → Over → TreeReply
bind_reply t k o = finding (get t.dirs k.dir) NoDir (λ d. unless d.sealed Sealed (bind_over t k (get t.entries k) o))

-- Swap: what stands at the new name decides
abbrev pub swap_over : Option Node → Node → TreeReply
swap_over None n = Ok shown.Done
swap_over (Some old) n = unless (is_dir old) IsDir (unless (is_dir n) Exists (Ok shown.Done))

abbrev pub swap_reply : Tree → DirId → List ℕ → List ℕ → Node → TreeReply
swap_reply t d from to n =
    finding (get t.dirs d) NoDir (λ x.
    unless x.sealed Sealed
    (finding (get t.entries (at_name d from)) (Changed None) (λ o.
    unless (not (node_eq o n)) (Changed (Some o))
    (unless (name_eq from to) Exists
    (swap_over (get t.entries (at_name d to)) n)))))

abbrev pub renamed : Tree → DirId → List ℕ → List ℕ → Node → Tree
renamed t d from to n = set_name (set_name t (at_name d from) None) (at_name d to) (Some n)

-- Unbind: of any file, or of just this node
abbrev pub unbind_want : Option Node → Want → TreeReply
unbind_want None AnyFile = Refused NoName
unbind_want (Some n) AnyFile = unless (is_dir n) IsDir (Ok shown.Done)
unbind_want None (Exactly want) = Refused (Changed None)
unbind_want (Some n) (Exactly want) = unless (not (node_eq n want)) (Changed (Some n)) (Ok shown.Done)

abbrev pub unbind_reply : Tree → Key → Want → TreeReply
unbind_reply t k w = finding (get t.dirs k.dir) NoDir (λ d. unless d.sealed Sealed (unbind_want (get t.entries k) w))

-- GrantDir and GrantFile
abbrev pub grant_dir_reply : Tree → DirId → TreeReply
grant_dir_reply t d = finding (get t.dirs d) NoDir (λ x. Ok shown.Done)

abbrev pub grant_file_reply : Tree → FileId → TreeReply
grant_file_reply t f = finding (get t.files f) NoFile (λ x. Ok shown.Done)

-- Open
abbrev pub open_reply : Tree → FileId → TreeReply
open_reply t f = finding (get t.files f) NoFile (λ x. unless x.sealed Sealed (Ok shown.Done))

abbrev pub file_with_token : Option TreeFile → OpId → Option TreeFile
file_with_token None token = None
file_with_token (Some f) token = Some record f { token = Some token }

abbrev pub opened : Tree → FileId → OpId → Tree
opened t f token = record t { files = set_at t.files f (file_with_token (get t.files f) token) }

-- Attach

-- as many blocks as a file may have
abbrev pub tree_block_limit : ℕ
tree_block_limit = 4096

-- whether that is the token which the file has
abbrev pub holds_token : Option OpId → OpId → Bool
holds_token None token = false
holds_token (Some now) token = op_eq now token

abbrev pub attach_reply : Tree → FileId → OpId → TreeReply
attach_reply t f token =
    finding (get t.files f) NoFile (λ x.
    unless x.sealed Sealed
    (unless (not (holds_token x.token token)) (TokenChanged x.token)
    (unless (nat_le tree_block_limit (length x.blocks)) Full
    (Ok (shown.Attached (length x.blocks))))))

abbrev pub file_with_block : Option TreeFile → TreeBlock → Option TreeFile
file_with_block None b = None
file_with_block (Some f) b = Some record f { blocks = f.blocks ++ (b ∷ []) }

abbrev pub attached : Tree → FileId → TreeBlock → Tree
attached t f b = record t { files = set_at t.files f (file_with_block (get t.files f) b) }

-- Blocks
abbrev pub block_part : TreeBlock → RowPart
block_part b = record { blk = b.blk; len = length b.bytes }

abbrev pub blocks_reply : Tree → FileId → TreeReply
blocks_reply t f = finding (get t.files f) NoFile (λ x. Ok (shown.Blocks x.sealed (map block_part x.blocks)))

-- Read: the bytes of the first blocks. Of more blocks than the file has it is refused as of no file: nobody reads those.
abbrev pub read_reply : Tree → FileId → ℕ → TreeReply
read_reply t f n =
    finding (get t.files f) NoFile (λ x.
    unless (nat_lt (length x.blocks) n) NoFile
    (Ok (shown.Bytes (flat_map (λ b. b.bytes) (take n x.blocks)))))

-- SealDir and SealFile: also where it was sealed
abbrev pub seal_dir_reply : Tree → DirId → TreeReply
seal_dir_reply t d = finding (get t.dirs d) NoDir (λ x. Ok shown.Done)

abbrev pub seal_file_reply : Tree → FileId → TreeReply
seal_file_reply t f = finding (get t.files f) NoFile (λ x. Ok shown.Done)

abbrev pub dir_sealed : Option TreeDir → Option TreeDir
dir_sealed None = None
dir_sealed (Some d) = Some record d { sealed = true }

abbrev pub file_sealed : Option TreeFile → Option TreeFile
file_sealed None = None
file_sealed (Some f) = Some record f { sealed = true }

abbrev pub with_sealed_dir : Tree → DirId → Tree
with_sealed_dir t d = record t { dirs = set_at t.dirs d (dir_sealed (get t.dirs d)) }

abbrev pub with_sealed_file : Tree → FileId → Tree
with_sealed_file t f = record t { files = set_at t.files f (file_sealed (get t.files f)) }

-- what the tree says to a step of that op
abbrev pub tree_reply : Tree → OpId → TreeStep → TreeReply
tree_reply t op (step.Check d) = check_reply t d
tree_reply t op (step.Look k) = look_reply t k
tree_reply t op (step.List d) = list_reply t d
tree_reply t op (step.MakeDir d p) = make_reply t (Dir d)
tree_reply t op (step.MakeFile f token) = make_reply t (File f)
tree_reply t op (step.Bind k n o) = bind_reply t k o
tree_reply t op (step.Swap d from to n) = swap_reply t d from to n
tree_reply t op (step.Unbind k w) = unbind_reply t k w
tree_reply t op (step.GrantDir d) = grant_dir_reply t d
tree_reply t op (step.GrantFile f) = grant_file_reply t f
tree_reply t op (step.Open f token) = open_reply t f
tree_reply t op (step.Attach f token b bytes) = attach_reply t f token
tree_reply t op (step.Blocks f) = blocks_reply t f
tree_reply t op (step.Read f n) = read_reply t f n
tree_reply t op (step.SealDir d) = seal_dir_reply t d
tree_reply t op (step.SealFile f) = seal_file_reply t f

-- what a step of that op does where the tree says Ok
abbrev pub tree_change : Tree → OpId → TreeStep → Tree
tree_change t op (step.Check d) = t
tree_change t op (step.Look k) = t
tree_change t op (step.List d) = t
tree_change t op (step.MakeDir d p) = with_dir t d p
tree_change t op (step.MakeFile f token) = with_file t f token
tree_change t op (step.Bind k n o) = set_name t k (Some n)
tree_change t op (step.Swap d from to n) = renamed t d from to n
tree_change t op (step.Unbind k w) = set_name t k None
tree_change t op (step.GrantDir d) = t
tree_change t op (step.GrantFile f) = t
tree_change t op (step.Open f token) = opened t f token
tree_change t op (step.Attach f token b bytes) = attached t f (record { blk = b; bytes = bytes })
tree_change t op (step.Blocks f) = t
tree_change t op (step.Read f n) = t
tree_change t op (step.SealDir d) = with_sealed_dir t d
tree_change t op (step.SealFile f) = with_sealed_file t f

abbrev pub is_ok : TreeReply → Bool
is_ok (Ok x) = true
is_ok (Refused why) = false

-- the tree after a step to which this was said
abbrev pub tree_next : Tree → OpId → TreeStep → TreeReply → Tree
tree_next t op s x = if is_ok x then tree_change t op s else t

-- the tree allows this to be said to the step
abbrev pub Allowed : Tree → OpId → TreeStep → TreeReply → Type 0
Allowed t op s x = x ≡ tree_reply t op s
