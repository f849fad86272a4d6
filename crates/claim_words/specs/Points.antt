-- The paths of commands, and the point of a command: the step of the small machine at which its answer is decided.
use Rattle.std.specs.Prelude.{◌≡◌, ℕ, if◌then◌else◌, List, [], ◌∷◌, ◌++◌, ◌⊎◌, max, length}
use Rattle.tect_ids.specs.declared.ids.BlkId.{BlkId}
use Rattle.tect_ids.specs.declared.ids.DirId.{DirId}
use Rattle.tect_ids.specs.declared.ids.FileId.{FileId}
use Rattle.tect_ids.specs.declared.ids.Node.{Node}
use Rattle.tect_ids.specs.declared.ids.Node.TheVariants.{Dir, File}
use Rattle.tect_ids.specs.declared.ids.OpId.{OpId}
use Rattle.tect_ids.specs.declared.key.Key.{Key}
use Rattle.tect_ids.specs.declared.values.Want.TheVariants.{AnyFile}
use Rattle.tect_ids.specs.declared.command.Command.{Command}
use Rattle.tect_ids.specs.declared.answer.Answer.{Answer}
use Rattle.tect_ids.specs.Keys.{op_eq}
use Rattle.tect_ids.specs.Paths.{last_name, but_last}
use Rattle.tect_ids.specs.Numbers.{root}
use Rattle.tect_ids.specs.Refusals.{refusal_answer}
use Rattle.tect_ids.specs.declared.values.Over.TheVariants as over
use Rattle.tect_ids.specs.declared.command.Command.TheVariants as commands
use Rattle.tect_ids.specs.declared.answer.Answer.TheVariants as answers
use Rattle.store_rules.specs.Names.{key_in}
use Rattle.tree_model.specs.declared.step.TreeStep.{TreeStep}
use Rattle.tree_model.specs.declared.step.TreeReply.{TreeReply}
use Rattle.tree_model.specs.declared.step.TreeReply.TheVariants.{Ok, Refused}
use Rattle.tree_model.specs.Tree.{tree_reply, opening_tree}
use Rattle.tree_model.specs.declared.step.TreeStep.TheVariants as step
use Rattle.tree_model.specs.declared.step.StepValue.TheVariants as shown
use Rattle.claim_words.specs.TreeSteps.{Told, tree_after}

-- the names that a command walks; a listing, also the last
abbrev pub way : Command → List (List ℕ)
way (commands.Look p) = but_last p
way (commands.List p) = p
way (commands.Create p) = but_last p
way (commands.Mkdir p) = but_last p
way (commands.Delete p) = but_last p
way (commands.Rename p to) = but_last p
way (commands.Open p) = but_last p
way (commands.Blocks p) = but_last p
way (commands.Read p) = but_last p
way (commands.Seal p) = but_last p
way _ = []

-- the path that a command walks; of a rename the one of the old name
abbrev pub first_path : Command → List (List ℕ)
first_path (commands.Look p) = p
first_path (commands.List p) = p
first_path (commands.Create p) = p
first_path (commands.Mkdir p) = p
first_path (commands.Delete p) = p
first_path (commands.Rename p to) = p
first_path (commands.Open p) = p
first_path (commands.Blocks p) = p
first_path (commands.Read p) = p
first_path (commands.Seal p) = p
first_path _ = []

-- at most how many names a command looks up: each of its path, and one for a path without names; an append looks up none
abbrev pub most_looks : Command → ℕ
most_looks (commands.Append p bytes) = 0
most_looks c = max (length (first_path c)) 1

-- ---- its point

-- the steps of one op
abbrev pub of_op : OpId → List Told → List Told
of_op op [] = []
of_op op (s ∷ ss) = if op_eq s.op op then s ∷ of_op op ss else of_op op ss

-- By these steps a walk along the names comes from d to e, and the names in rest are left: each look of the next name found
-- the next directory.
abbrev pub Walked : DirId → List (List ℕ) → List Told → DirId → List (List ℕ) → Type 0
Walked d names [] e rest = (d ≡ e) × (names ≡ rest)
Walked d [] (s ∷ ss) e rest = Walked d [] ss e rest
Walked d (n ∷ ns) (s ∷ ss) e rest =
    (x : DirId) × (s.does ≡ step.Look (key_in d n)) × (s.says ≡ Ok (shown.Node (Dir x))) × Walked x ns ss e rest

-- one of these steps was this, and this was said to it
abbrev pub Seen : List Told → TreeStep → TreeReply → Type 0
Seen [] does said = ⊥
Seen (s ∷ ss) does said = ((s.does ≡ does) × (s.says ≡ said)) ⊎ Seen ss does said

-- the answer that what was said makes, where Ok makes this one
abbrev pub done_answer : Key → Answer → TreeReply → Answer
done_answer k a (Ok x) = a
done_answer k a (Refused why) = refusal_answer k why

-- a look on the way that ends a command
abbrev pub StopsWalk : Key → TreeReply → Answer → Type 0
StopsWalk k (Refused why) a = a ≡ refusal_answer k why
StopsWalk k (Ok (shown.Node (File f))) a = a ≡ answers.NotDir
StopsWalk k (Ok (shown.Node (Dir d))) a = ⊥
StopsWalk k (Ok shown.Done) a = ⊥
StopsWalk k (Ok (shown.Parent p sealed)) a = ⊥
StopsWalk k (Ok (shown.Entries sealed items)) a = ⊥
StopsWalk k (Ok (shown.Attached i)) a = ⊥
StopsWalk k (Ok (shown.Blocks sealed rows)) a = ⊥
StopsWalk k (Ok (shown.Bytes bytes)) a = ⊥

abbrev pub Finds : Key → TreeReply → Answer → Type 0
Finds k (Refused why) a = a ≡ refusal_answer k why
Finds k (Ok (shown.Node n)) a = a ≡ answers.Found n
Finds k (Ok shown.Done) a = ⊥
Finds k (Ok (shown.Parent p sealed)) a = ⊥
Finds k (Ok (shown.Entries sealed items)) a = ⊥
Finds k (Ok (shown.Attached i)) a = ⊥
Finds k (Ok (shown.Blocks sealed rows)) a = ⊥
Finds k (Ok (shown.Bytes bytes)) a = ⊥

abbrev pub Lists : Key → TreeReply → Answer → Type 0
Lists k (Refused why) a = a ≡ refusal_answer k why
Lists k (Ok (shown.Entries sealed items)) a = a ≡ answers.Entries items
Lists k (Ok shown.Done) a = ⊥
Lists k (Ok (shown.Parent p sealed)) a = ⊥
Lists k (Ok (shown.Node n)) a = ⊥
Lists k (Ok (shown.Attached i)) a = ⊥
Lists k (Ok (shown.Blocks sealed rows)) a = ⊥
Lists k (Ok (shown.Bytes bytes)) a = ⊥

-- a rename's look ends it where it is refused, and where the names are equal
abbrev pub FindsSource : Key → List ℕ → TreeReply → Answer → Type 0
FindsSource k to (Refused why) a = a ≡ refusal_answer k why
FindsSource k to (Ok x) a = (k.name ≡ to) × (a ≡ answers.Done)

-- a look for a file ends the command where it is refused, and where it finds a directory
abbrev pub FindsNoFile : Key → TreeReply → Answer → Type 0
FindsNoFile k (Refused why) a = a ≡ refusal_answer k why
FindsNoFile k (Ok (shown.Node (Dir d))) a = a ≡ answers.IsDir
FindsNoFile k (Ok (shown.Node (File f))) a = ⊥
FindsNoFile k (Ok shown.Done) a = ⊥
FindsNoFile k (Ok (shown.Parent p sealed)) a = ⊥
FindsNoFile k (Ok (shown.Entries sealed items)) a = ⊥
FindsNoFile k (Ok (shown.Attached i)) a = ⊥
FindsNoFile k (Ok (shown.Blocks sealed rows)) a = ⊥
FindsNoFile k (Ok (shown.Bytes bytes)) a = ⊥

abbrev pub ListsBlocks : Key → TreeReply → Answer → Type 0
ListsBlocks k (Refused why) a = a ≡ refusal_answer k why
ListsBlocks k (Ok (shown.Blocks sealed rows)) a = a ≡ answers.Blocks rows
ListsBlocks k (Ok shown.Done) a = ⊥
ListsBlocks k (Ok (shown.Parent p sealed)) a = ⊥
ListsBlocks k (Ok (shown.Node n)) a = ⊥
ListsBlocks k (Ok (shown.Entries sealed items)) a = ⊥
ListsBlocks k (Ok (shown.Attached i)) a = ⊥
ListsBlocks k (Ok (shown.Bytes bytes)) a = ⊥

abbrev pub Attaches : Key → BlkId → TreeReply → Answer → Type 0
Attaches k b (Refused why) a = a ≡ refusal_answer k why
Attaches k b (Ok (shown.Attached i)) a = a ≡ answers.Appended b i
Attaches k b (Ok shown.Done) a = ⊥
Attaches k b (Ok (shown.Parent p sealed)) a = ⊥
Attaches k b (Ok (shown.Node n)) a = ⊥
Attaches k b (Ok (shown.Entries sealed items)) a = ⊥
Attaches k b (Ok (shown.Blocks sealed rows)) a = ⊥
Attaches k b (Ok (shown.Bytes bytes)) a = ⊥

-- a refusal ends the command
abbrev pub IsRefusal : Key → TreeReply → Answer → Type 0
IsRefusal k (Ok x) a = ⊥
IsRefusal k (Refused why) a = a ≡ refusal_answer k why

-- the op had found this node under the path's last name
abbrev pub FoundSource : List Told → DirId → List (List ℕ) → Node → Type 0
FoundSource own d p n = Seen own (step.Look (key_in d (last_name p))) (Ok (shown.Node n))

abbrev pub LookDecides : DirId → List (List ℕ) → TreeStep → TreeReply → Answer → Type 0
LookDecides d [] (step.Check e) r a = (e ≡ d) × (a ≡ done_answer (key_in d []) (answers.Found (Dir d)) r)
LookDecides d (n ∷ ns) (step.Look k) r a = (k ≡ key_in d (last_name (n ∷ ns))) × Finds k r a
LookDecides d p s r a = ⊥

abbrev pub ListDecides : DirId → TreeStep → TreeReply → Answer → Type 0
ListDecides d (step.List e) r a = (e ≡ d) × Lists (key_in d []) r a
ListDecides d s r a = ⊥

abbrev pub CreateDecides : DirId → List (List ℕ) → TreeStep → TreeReply → Answer → Type 0
CreateDecides d p (step.Bind k (File f) over.File) r a = (k ≡ key_in d (last_name p)) × (a ≡ done_answer k (answers.Found (File f)) r)
CreateDecides d p s r a = ⊥

abbrev pub MkdirDecides : DirId → List (List ℕ) → TreeStep → TreeReply → Answer → Type 0
MkdirDecides d p (step.Bind k (Dir x) over.Absent) r a = (k ≡ key_in d (last_name p)) × (a ≡ done_answer k (answers.Found (Dir x)) r)
MkdirDecides d p s r a = ⊥

abbrev pub DeleteDecides : DirId → List (List ℕ) → TreeStep → TreeReply → Answer → Type 0
DeleteDecides d p (step.Unbind k AnyFile) r a = (k ≡ key_in d (last_name p)) × (a ≡ done_answer k answers.Done r)
DeleteDecides d p s r a = ⊥

abbrev pub RenameDecides : List Told → DirId → List (List ℕ) → List ℕ → TreeStep → TreeReply → Answer → Type 0
RenameDecides own d p to (step.Look k) r a = (k ≡ key_in d (last_name p)) × FindsSource k to r a
RenameDecides own d p to (step.GrantDir x) r a = FoundSource own d p (Dir x) × IsRefusal (key_in d (last_name p)) r a
RenameDecides own d p to (step.GrantFile f) r a = FoundSource own d p (File f) × IsRefusal (key_in d (last_name p)) r a
RenameDecides own d p to (step.Swap e old new n) r a =
    FoundSource own d p n × (e ≡ d) × (old ≡ last_name p) × (new ≡ to) × (a ≡ done_answer (key_in d (last_name p)) answers.Done r)
RenameDecides own d p to s r a = ⊥

-- of a file as a whole the name does not matter
abbrev pub file_key : FileId → Key
file_key f = key_in record { 0 = f.0 } []

-- the file was found by the op, which then opens it; that the token is the op itself, Attached says (TokensAreOpens)
abbrev pub OpenDecides : List Told → DirId → List (List ℕ) → TreeStep → TreeReply → Answer → Type 0
OpenDecides own d p (step.Look k) r a = (k ≡ key_in d (last_name p)) × FindsNoFile k r a
OpenDecides own d p (step.Open f token) r a =
    FoundSource own d p (File f) × (a ≡ done_answer (file_key f) (answers.Opened f token) r)
OpenDecides own d p s r a = ⊥

abbrev pub BlocksDecides : List Told → DirId → List (List ℕ) → TreeStep → TreeReply → Answer → Type 0
BlocksDecides own d p (step.Look k) r a = (k ≡ key_in d (last_name p)) × FindsNoFile k r a
BlocksDecides own d p (step.Blocks f) r a = FoundSource own d p (File f) × ListsBlocks (file_key f) r a
BlocksDecides own d p s r a = ⊥

-- where a read is refused; its bytes are explained by what the tree says to a reading (FilesBecause)
abbrev pub ReadDecides : List Told → DirId → List (List ℕ) → TreeStep → TreeReply → Answer → Type 0
ReadDecides own d p (step.Look k) r a = (k ≡ key_in d (last_name p)) × FindsNoFile k r a
ReadDecides own d p (step.Blocks f) r a = FoundSource own d p (File f) × IsRefusal (file_key f) r a
ReadDecides own d p s r a = ⊥

-- the root is sealed as it is, and else what was found
abbrev pub SealDecides : List Told → DirId → List (List ℕ) → TreeStep → TreeReply → Answer → Type 0
SealDecides own d [] (step.SealDir e) r a = (e ≡ d) × (a ≡ done_answer (key_in d []) answers.Done r)
SealDecides own d (n ∷ ns) (step.Look k) r a = (k ≡ key_in d (last_name (n ∷ ns))) × IsRefusal k r a
SealDecides own d (n ∷ ns) (step.SealDir e) r a =
    FoundSource own d (n ∷ ns) (Dir e) × (a ≡ done_answer (key_in d (last_name (n ∷ ns))) answers.Done r)
SealDecides own d (n ∷ ns) (step.SealFile f) r a = FoundSource own d (n ∷ ns) (File f) × (a ≡ done_answer (file_key f) answers.Done r)
SealDecides own d p s r a = ⊥

-- what is attached are the command's bytes; to which file, and with which token, Attached says (AttachesAreToOpened)
abbrev pub AppendDecides : List ℕ → TreeStep → TreeReply → Answer → Type 0
AppendDecides bytes (step.Attach f token b content) r a = (content ≡ bytes) × Attaches (file_key f) b r a
AppendDecides bytes s r a = ⊥

-- the step that decides a command, in the directory d to which its walk led, and the answer that its reply makes; own are
-- the op's steps before
abbrev pub Decides : Command → List Told → DirId → TreeStep → TreeReply → Answer → Type 0
Decides (commands.Look p) own d s r a = LookDecides d p s r a
Decides (commands.List p) own d s r a = ListDecides d s r a
Decides (commands.Create p) own d s r a = CreateDecides d p s r a
Decides (commands.Mkdir p) own d s r a = MkdirDecides d p s r a
Decides (commands.Delete p) own d s r a = DeleteDecides d p s r a
Decides (commands.Rename p to) own d s r a = RenameDecides own d p (last_name to) s r a
Decides (commands.Open p) own d s r a = OpenDecides own d p s r a
Decides (commands.Append p bytes) own d s r a = AppendDecides bytes s r a
Decides (commands.Blocks p) own d s r a = BlocksDecides own d p s r a
Decides (commands.Read p) own d s r a = ReadDecides own d p s r a
Decides (commands.Seal p) own d s r a = SealDecides own d p s r a
Decides _ own d s r a = ⊥

-- on the way, or where it led
abbrev pub DecidesAt : Command → List Told → DirId → List (List ℕ) → TreeStep → TreeReply → Answer → Type 0
DecidesAt c own d (n ∷ ns) s r a = (s ≡ step.Look (key_in d n)) × StopsWalk (key_in d n) r a
DecidesAt c own d [] s r a = Decides c own d s r a

-- The answer is made at one of the op's own steps: its walk had led there, what was said to that step is what the tree
-- says there, after all steps before it, and this decides the answer.
pub record Point (history : List Told) (op : OpId) (c : Command) (a : Answer) : Type 0 where
  pub before : List Told
  pub point : Told
  pub later : List Told
  pub there : history ≡ before ++ point ∷ later
  pub own : point.op ≡ op
  pub dir : DirId
  pub left : List (List ℕ)
  pub walked : Walked root (way c) (of_op op before) dir left
  pub by_tree : point.says ≡ tree_reply (tree_after opening_tree before) op point.does
  pub decides : DecidesAt c (of_op op before) dir left point.does point.says a

-- a command that needs a last name is refused for want of one without any step
abbrev pub LacksName : Command → Type 0
LacksName (commands.Create p) = p ≡ []
LacksName (commands.Mkdir p) = p ≡ []
LacksName (commands.Delete p) = p ≡ []
LacksName (commands.Rename p to) = (p ≡ []) ⊎ (to ≡ [])
LacksName _ = ⊥
