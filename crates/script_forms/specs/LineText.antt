-- The lines of a script: the words of each, with one space between them.
use Rattle.std.specs.Prelude.{ℕ, List, [], ◌∷◌, ◌++◌, codes}
use Rattle.std.specs.List.{flat_map}
use Rattle.std.specs.Fmt.{decimal}
use Rattle.script_words.specs.WordText.{path_text, hex_text, layer_word}
use Rattle.tect_ids.specs.declared.ids.Counts.{Counts}
use Rattle.tect_ids.specs.declared.command.Command.{Command}
use Rattle.tect_ids.specs.declared.command.Command.TheVariants as commands
use Rattle.tect_ids.specs.declared.script.Act.{Act}
use Rattle.tect_ids.specs.declared.script.Act.TheVariants as acts
use Rattle.tect_ids.specs.declared.script.Line.{Line}
use Rattle.tect_ids.specs.declared.script.Line.TheVariants as lines

abbrev pub command_words : Command → List (List ℕ)
command_words (commands.Look path) = codes "look" ∷ path_text path ∷ []
command_words (commands.List path) = codes "list" ∷ path_text path ∷ []
command_words (commands.Create path) = codes "create" ∷ path_text path ∷ []
command_words (commands.Mkdir path) = codes "mkdir" ∷ path_text path ∷ []
command_words (commands.Delete path) = codes "delete" ∷ path_text path ∷ []
command_words (commands.Rename from to) = codes "rename" ∷ path_text from ∷ path_text to ∷ []
command_words (commands.Move from to) = codes "move" ∷ path_text from ∷ path_text to ∷ []
command_words (commands.Rmdir path) = codes "rmdir" ∷ path_text path ∷ []
command_words (commands.Drop path) = codes "drop" ∷ path_text path ∷ []
command_words (commands.Seal path) = codes "seal" ∷ path_text path ∷ []
command_words (commands.Open path) = codes "open" ∷ path_text path ∷ []
command_words (commands.Append path bytes) = codes "append" ∷ path_text path ∷ hex_text bytes ∷ []
command_words (commands.Blocks path) = codes "blocks" ∷ path_text path ∷ []
command_words (commands.Read path) = codes "read" ∷ path_text path ∷ []
command_words (commands.Sweep layer index) = codes "sweep" ∷ layer_word layer ∷ decimal index ∷ []
command_words (commands.Repair disk index) = codes "repair" ∷ decimal disk.0 ∷ decimal index ∷ []
command_words commands.SweepAll = codes "sweep" ∷ codes "all" ∷ []
command_words (commands.Lose disk) = codes "lose" ∷ decimal disk.0 ∷ []

abbrev pub act_words : Act → List (List ℕ)
act_words (acts.Do command) = command_words command
act_words (acts.Begin command) = codes "begin" ∷ command_words command
act_words (acts.Step count) = codes "step" ∷ decimal count ∷ []
act_words acts.Run = codes "run" ∷ []
act_words acts.Stop = codes "stop" ∷ []

abbrev pub counts_words : Counts → List (List ℕ)
counts_words counts = decimal counts.names ∷ decimal counts.files ∷ decimal counts.blocks ∷ decimal counts.disks ∷ decimal counts.copies
    ∷ []

abbrev pub line_words : Line → List (List ℕ)
line_words (lines.Store counts) = codes "store" ∷ counts_words counts
line_words (lines.Client client actor act) = client ∷ act_words act
line_words lines.Sweep = codes "sweep" ∷ codes "all" ∷ []
line_words (lines.Lose disk) = codes "lose" ∷ decimal disk.0 ∷ []
line_words lines.Dump = codes "dump" ∷ []

-- words, each behind a space
abbrev pub behind : List (List ℕ) → List ℕ
behind words = flat_map (λ word. 32 ∷ word) words

-- words, with a space between each two
abbrev pub spaced : List (List ℕ) → List ℕ
spaced [] = []
spaced (word ∷ words) = word ++ behind words

abbrev pub line_text : Line → List ℕ
line_text line = spaced (line_words line)
