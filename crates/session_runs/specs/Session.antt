-- A session of one client: what the tree alone answers to commands that are done one after another, and the report's lines.
use Rattle.std.specs.Prelude.{ℕ, ◌+◌, List, [], ◌∷◌, Option, Some, None}
use Rattle.std.specs.FinMap.{get}
use Rattle.tect_ids.specs.declared.ids.FileId.{FileId}
use Rattle.tect_ids.specs.declared.ids.Node.{Node}
use Rattle.tect_ids.specs.declared.ids.Node.TheVariants as nodes
use Rattle.tect_ids.specs.declared.ids.OpId.{OpId}
use Rattle.tect_ids.specs.declared.key.Key.{Key}
use Rattle.tect_ids.specs.declared.values.Over.TheVariants as over
use Rattle.tect_ids.specs.declared.command.Command.{Command}
use Rattle.tect_ids.specs.declared.command.Command.TheVariants as commands
use Rattle.tect_ids.specs.declared.answer.Answer.{Answer}
use Rattle.tect_ids.specs.declared.answer.Answer.TheVariants as answers
use Rattle.tect_ids.specs.declared.script.Act.TheVariants as acts
use Rattle.tect_ids.specs.declared.script.Line.{Line}
use Rattle.tect_ids.specs.declared.script.Line.TheVariants as script
use Rattle.tect_ids.specs.declared.script.ReportLine.{ReportLine}
use Rattle.tect_ids.specs.declared.script.ReportLine.TheVariants as lines
use Rattle.tect_ids.specs.Numbers.{root, object_number}
use Rattle.tect_ids.specs.Refusals.{refusal_answer}
use Rattle.store_rules.specs.Names.{key_in}
use Rattle.tree_model.specs.declared.step.TreeStep.{TreeStep}
use Rattle.tree_model.specs.declared.step.TreeStep.TheVariants as step
use Rattle.tree_model.specs.declared.step.StepValue.TheVariants as shown
use Rattle.tree_model.specs.declared.step.TreeReply.{TreeReply}
use Rattle.tree_model.specs.declared.step.TreeReply.TheVariants.{Ok, Refused}
use Rattle.tree_model.specs.Tree.{Tree, tree_reply, tree_next}
use Rattle.claim_words.specs.Points.{done_answer}
use Rattle.world_runs.specs.Report.{client_name}

-- what a command comes to: the tree after it, the serial of the client's next object, how many transactions it took, and
-- its answer
pub record Played : Type 0 where
  pub tree : Tree
  pub serial : ℕ
  pub transactions : ℕ
  pub answer : Answer

-- the tree after it plays a step of that op
abbrev pub stepped : Tree → OpId → TreeStep → Tree
stepped t op s = tree_next t op s (tree_reply t op s)

-- the answer that the reply to a look makes; a look shows nothing but a node
abbrev pub found_answer : Key → TreeReply → Answer
found_answer k (Ok (shown.Node n)) = answers.Found n
found_answer k (Ok x) = answers.Done
found_answer k (Refused why) = refusal_answer k why

-- how many holds a create releases: its own where the bind was refused, or the one of the file that it replaced
abbrev pub releases : Option Node → TreeReply → ℕ
releases None (Ok x) = 0
releases (Some old) (Ok x) = 1
releases now (Refused why) = 1

-- a look is one transaction
abbrev pub looked : Tree → OpId → ℕ → Key → Played
looked t op serial k = record { tree = t; serial = serial; transactions = 1; answer = found_answer k (tree_reply t op (step.Look k)) }

-- the file is bound, in a tree where it stands
abbrev pub bound : Tree → OpId → ℕ → Key → FileId → Played
bound t op serial k f = record {
  tree = stepped t op (step.Bind k (nodes.File f) over.File);
  serial = serial;
  transactions = 2 + releases (get t.entries k) (tree_reply t op (step.Bind k (nodes.File f) over.File));
  answer = done_answer k (answers.Found (nodes.File f)) (tree_reply t op (step.Bind k (nodes.File f) over.File));
}

-- a create makes the client's next file and binds it
abbrev pub created : Tree → OpId → ℕ → Key → FileId → Played
created t op serial k f = bound (stepped t op (step.MakeFile f None)) op (serial + 1) k f

-- a command that no session has
abbrev pub unplayed : Tree → ℕ → Played
unplayed t serial = record { tree = t; serial = serial; transactions = 0; answer = answers.NoName }

-- by the names of the path, so far those of an entry of the root
abbrev pub played_look : Tree → OpId → ℕ → List (List ℕ) → Played
played_look t op serial (n ∷ []) = looked t op serial (key_in root n)
played_look t op serial p = unplayed t serial

-- the same for a create, which takes the client's next number
abbrev pub played_create : Tree → OpId → ℕ → List (List ℕ) → Played
played_create t op serial (n ∷ []) = created t op serial (key_in root n) record { 0 = object_number 1 serial }
played_create t op serial p = unplayed t serial

-- The command of actor 1 that is played by the tree. Its serial is that of its next object, and it began so many commands
-- before.
abbrev pub played : Tree → ℕ → ℕ → Command → Played
played t serial number (commands.Look p) = played_look t record { actor = 1; number = number + 1 } serial p
played t serial number (commands.Create p) = played_create t record { actor = 1; number = number + 1 } serial p
played t serial number c = unplayed t serial

-- a path of one name
abbrev pub IsEntry : List (List ℕ) → Type 0
IsEntry (n ∷ []) = Unit {0}
IsEntry p = ⊥

-- the commands that a session may have
abbrev pub IsPlayed : Command → Type 0
IsPlayed (commands.Look p) = IsEntry p
IsPlayed (commands.Create p) = IsEntry p
IsPlayed c = ⊥

-- the line of actor 1's command of that number
abbrev pub played_line : List (List ℕ) → ℕ → Played → ReportLine
played_line clients number p = lines.Client (client_name clients 1) number p.transactions p.answer

-- the lines of the commands, done one after another from that tree on
abbrev pub session_lines : List (List ℕ) → Tree → ℕ → ℕ → List Command → List ReportLine
session_lines clients t serial number [] = []
session_lines clients t serial number (c ∷ cs) =
    played_line clients (number + 1) (played t serial number c)
    ∷ session_lines clients (played t serial number c).tree (played t serial number c).serial (number + 1) cs

-- the script's lines for the commands
abbrev pub session_script : List ℕ → List Command → List Line
session_script client [] = []
session_script client (c ∷ cs) = script.Client client 1 (acts.Do c) ∷ session_script client cs
