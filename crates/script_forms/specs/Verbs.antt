-- The words that begin a command, an act of a client or a world line.
use Rattle.std.specs.Prelude.{ℕ, Bool, List, [], ◌∷◌, map, Option, Some, None, if◌then◌else◌, codes}
use Rattle.std.specs.Str.{bytes_eq}
use Rattle.script_forms.specs.declared.verbs.PathVerb.{PathVerb}
use Rattle.script_forms.specs.declared.verbs.PathVerb.TheVariants as paths
use Rattle.script_forms.specs.declared.verbs.Verb.{Verb}
use Rattle.script_forms.specs.declared.verbs.ActWord.{ActWord}
use Rattle.script_forms.specs.declared.verbs.ActWord.TheVariants as acts
use Rattle.script_forms.specs.declared.verbs.WorldVerb.{WorldVerb}
use Rattle.tect_ids.specs.declared.command.Command.{Command}
use Rattle.tect_ids.specs.declared.command.Command.TheVariants as commands
use Rattle.script_forms.specs.Served.{path_row, verb_row, world_row, all_verbs, all_worlds}

abbrev pub path_verb_word : PathVerb → List ℕ
path_verb_word verb = (path_row verb).0

abbrev pub verb_word : Verb → List ℕ
verb_word verb = (verb_row verb).0

abbrev pub world_word : WorldVerb → List ℕ
world_word verb = (world_row verb).0

-- the command of a word and a path
abbrev pub path_command : PathVerb → List (List ℕ) → Command
path_command paths.Look path = commands.Look path
path_command paths.List path = commands.List path
path_command paths.Create path = commands.Create path
path_command paths.Mkdir path = commands.Mkdir path
path_command paths.Delete path = commands.Delete path
path_command paths.Rmdir path = commands.Rmdir path
path_command paths.Drop path = commands.Drop path
path_command paths.Seal path = commands.Seal path
path_command paths.Open path = commands.Open path
path_command paths.Blocks path = commands.Blocks path
path_command paths.Read path = commands.Read path

-- a word, what it begins, and whether that is served
abbrev pub Rows : Type 0 → Type 0
Rows X = List (List ℕ × X × Bool)

-- what the first row with that word begins, if it is served
abbrev pub served_among : {X : Type 0} → Rows X → List ℕ → Option X
served_among [] word = None
served_among (row ∷ rows) word = if bytes_eq word row.0 then (if row.2 then Some row.1 else None) else served_among rows word

-- the rows of these, by the table of each
abbrev pub rows_of : {X : Type 0} → (X → List ℕ × Bool) → List X → Rows X
rows_of table xs = map (λ x. ((table x).0, x, (table x).1)) xs

-- the command that the word begins, if the store serves it
abbrev pub served_verb : List ℕ → Option Verb
served_verb word = served_among (rows_of verb_row all_verbs) word

abbrev pub as_act : Option Verb → Option ActWord
as_act None = None
as_act (Some verb) = Some (acts.Do verb)

-- what the second word of a client's line begins
abbrev pub act_word_of : List ℕ → Option ActWord
act_word_of word =
    if bytes_eq word (codes "begin") then Some acts.Begin
    else if bytes_eq word (codes "step") then Some acts.Step
    else if bytes_eq word (codes "run") then Some acts.Run
    else if bytes_eq word (codes "stop") then Some acts.Stop
    else as_act (served_verb word)

-- the world line that the word begins, if the store serves it
abbrev pub served_world : List ℕ → Option WorldVerb
served_world word = served_among (rows_of world_row all_worlds) word
