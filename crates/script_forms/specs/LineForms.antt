-- Which lines a script may have behind its store line, but for the states of clients; and the first limit that a line passes.
use Rattle.std.specs.Prelude.{ℕ, ◌≡◌, ◌<◌, ◌≤◌, nat_lt, true, List, length, if◌then◌else◌}
use Rattle.std.specs.List.{AllByRecursion}
use Rattle.script_words.specs.declared.limits.Limit.TheVariants as limits
use Rattle.script_words.specs.declared.limits.Fit.{Fit}
use Rattle.script_words.specs.declared.limits.Fit.TheVariants.{Fits, Over, Unfit}
use Rattle.script_words.specs.WordText.{path_text}
use Rattle.script_words.specs.WordForm.{are_name_forms, names_fit, folder_text, is_client_name}
use Rattle.tect_ids.specs.declared.ids.Counts.{Counts}
use Rattle.tect_ids.specs.declared.command.Command.{Command}
use Rattle.tect_ids.specs.declared.command.Command.TheVariants as commands
use Rattle.tect_ids.specs.declared.script.Act.{Act}
use Rattle.tect_ids.specs.declared.script.Act.TheVariants as acts
use Rattle.tect_ids.specs.declared.script.Line.{Line}
use Rattle.tect_ids.specs.declared.script.Line.TheVariants as lines
use Rattle.script_forms.specs.declared.verbs.PathVerb.{PathVerb}
use Rattle.script_forms.specs.declared.verbs.PathVerb.TheVariants as paths
use Rattle.script_forms.specs.declared.verbs.Verb.TheVariants as verbs
use Rattle.script_forms.specs.declared.verbs.WorldVerb.TheVariants as worlds
use Rattle.script_forms.specs.Served.{serves_path, serves, serves_world}
use Rattle.script_forms.specs.Grammar.{places_of}

-- ---- forms

-- names of any length and number
abbrev pub IsPath : List (List ℕ) → Type 0
IsPath path = are_name_forms path ≡ true

abbrev pub IsOnPath : PathVerb → List (List ℕ) → Type 0
IsOnPath verb path = (serves_path verb ≡ true) × IsPath path

abbrev pub IsCommand : Counts → Command → Type 0
IsCommand counts (commands.Look path) = IsOnPath paths.Look path
IsCommand counts (commands.List path) = IsOnPath paths.List path
IsCommand counts (commands.Create path) = IsOnPath paths.Create path
IsCommand counts (commands.Mkdir path) = IsOnPath paths.Mkdir path
IsCommand counts (commands.Delete path) = IsOnPath paths.Delete path
IsCommand counts (commands.Rename from to) = (serves verbs.Rename ≡ true) × IsPath from × IsPath to
    × (folder_text (path_text to) ≡ folder_text (path_text from))
IsCommand counts (commands.Move from to) = (serves verbs.Move ≡ true) × IsPath from × IsPath to
IsCommand counts (commands.Rmdir path) = IsOnPath paths.Rmdir path
IsCommand counts (commands.Drop path) = IsOnPath paths.Drop path
IsCommand counts (commands.Seal path) = IsOnPath paths.Seal path
IsCommand counts (commands.Open path) = IsOnPath paths.Open path
IsCommand counts (commands.Append path bytes) = (serves verbs.Append ≡ true) × IsPath path × (0 < length bytes)
    × AllByRecursion (λ (b : ℕ). b < 256) bytes
IsCommand counts (commands.Blocks path) = IsOnPath paths.Blocks path
IsCommand counts (commands.Read path) = IsOnPath paths.Read path
IsCommand counts (commands.Sweep layer index) = (serves verbs.Sweep ≡ true) × (index < places_of counts layer)
IsCommand counts (commands.Repair disk index) = (serves verbs.Repair ≡ true) × (disk.0 < counts.disks) × (index < counts.blocks)
IsCommand counts commands.SweepAll = ⊥
IsCommand counts (commands.Lose disk) = ⊥

abbrev pub IsAct : Counts → Act → Type 0
IsAct counts (acts.Do command) = IsCommand counts command
IsAct counts (acts.Begin command) = IsCommand counts command
IsAct counts (acts.Step count) = (1 ≤ count) × (count ≤ 65535)
IsAct counts acts.Run = Unit {0}
IsAct counts acts.Stop = Unit {0}

abbrev pub IsLine : Counts → Line → Type 0
IsLine counts (lines.Store other) = ⊥
IsLine counts (lines.Client client actor act) = (is_client_name client ≡ true) × IsAct counts act
IsLine counts lines.Sweep = serves_world worlds.Sweep ≡ true
IsLine counts (lines.Lose disk) = (serves_world worlds.Lose ≡ true) × (disk.0 < counts.disks)
IsLine counts lines.Dump = serves_world worlds.Dump ≡ true

-- ---- limits

-- the first limit that the names pass, from the left
abbrev pub path_limit : List (List ℕ) → Fit
path_limit path = names_fit 0 path

abbrev pub block_limit : List ℕ → Fit
block_limit bytes = if nat_lt 32768 (length bytes) then Over limits.Block else Fits

-- the first one's limit comes first
abbrev pub first_limit : Fit → Fit → Fit
first_limit Fits second = second
first_limit (Over limit) second = Over limit
first_limit Unfit second = Unfit

abbrev pub command_limit : Command → Fit
command_limit (commands.Look path) = path_limit path
command_limit (commands.List path) = path_limit path
command_limit (commands.Create path) = path_limit path
command_limit (commands.Mkdir path) = path_limit path
command_limit (commands.Delete path) = path_limit path
command_limit (commands.Rename from to) = first_limit (path_limit from) (path_limit to)
command_limit (commands.Move from to) = first_limit (path_limit from) (path_limit to)
command_limit (commands.Rmdir path) = path_limit path
command_limit (commands.Drop path) = path_limit path
command_limit (commands.Seal path) = path_limit path
command_limit (commands.Open path) = path_limit path
command_limit (commands.Append path bytes) = first_limit (path_limit path) (block_limit bytes)
command_limit (commands.Blocks path) = path_limit path
command_limit (commands.Read path) = path_limit path
command_limit (commands.Sweep layer index) = Fits
command_limit (commands.Repair disk index) = Fits
command_limit commands.SweepAll = Fits
command_limit (commands.Lose disk) = Fits

abbrev pub act_limit : Act → Fit
act_limit (acts.Do command) = command_limit command
act_limit (acts.Begin command) = command_limit command
act_limit act = Fits

abbrev pub line_limit : Line → Fit
line_limit (lines.Client client actor act) = act_limit act
line_limit line = Fits

-- ---- counts within the limits

pub record AreCounts (counts : Counts) : Type 0 where
  pub names : (1 ≤ counts.names) × (counts.names ≤ 64)
  pub files : (1 ≤ counts.files) × (counts.files ≤ 64)
  pub blocks : (1 ≤ counts.blocks) × (counts.blocks ≤ 64)
  pub disks : (1 ≤ counts.disks) × (counts.disks ≤ 64)
  pub copies : (1 ≤ counts.copies) × (counts.copies ≤ 5)
