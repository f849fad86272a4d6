-- The one table of the commands and world lines: the word of each, and whether the store serves it. A word of one that is not
-- served is no word of a script yet.
use Rattle.std.specs.Prelude.{ℕ, Bool, true, false, List, [], ◌∷◌, codes}
use Rattle.script_forms.specs.declared.verbs.PathVerb.{PathVerb}
use Rattle.script_forms.specs.declared.verbs.PathVerb.TheVariants as paths
use Rattle.script_forms.specs.declared.verbs.Verb.{Verb}
use Rattle.script_forms.specs.declared.verbs.Verb.TheVariants as verbs
use Rattle.script_forms.specs.declared.verbs.WorldVerb.{WorldVerb}
use Rattle.script_forms.specs.declared.verbs.WorldVerb.TheVariants as worlds

abbrev pub path_row : PathVerb → List ℕ × Bool
path_row paths.Look = (codes "look", true)
path_row paths.List = (codes "list", true)
path_row paths.Create = (codes "create", true)
path_row paths.Mkdir = (codes "mkdir", true)
path_row paths.Delete = (codes "delete", true)
path_row paths.Rmdir = (codes "rmdir", false)
path_row paths.Drop = (codes "drop", false)
path_row paths.Seal = (codes "seal", true)
path_row paths.Open = (codes "open", true)
path_row paths.Blocks = (codes "blocks", true)
path_row paths.Read = (codes "read", true)

abbrev pub verb_row : Verb → List ℕ × Bool
verb_row (verbs.OnPath verb) = path_row verb
verb_row verbs.Rename = (codes "rename", true)
verb_row verbs.Move = (codes "move", false)
verb_row verbs.Append = (codes "append", true)
verb_row verbs.Sweep = (codes "sweep", false)
verb_row verbs.Repair = (codes "repair", false)

abbrev pub world_row : WorldVerb → List ℕ × Bool
world_row worlds.Sweep = (codes "sweep", false)
world_row worlds.Lose = (codes "lose", false)
world_row worlds.Dump = (codes "dump", true)

-- each command once
abbrev pub all_verbs : List Verb
all_verbs =
    verbs.OnPath paths.Look ∷ verbs.OnPath paths.List ∷ verbs.OnPath paths.Create ∷ verbs.OnPath paths.Mkdir
    ∷ verbs.OnPath paths.Delete ∷ verbs.OnPath paths.Rmdir ∷ verbs.OnPath paths.Drop ∷ verbs.OnPath paths.Seal
    ∷ verbs.OnPath paths.Open ∷ verbs.OnPath paths.Blocks ∷ verbs.OnPath paths.Read
    ∷ verbs.Rename ∷ verbs.Move ∷ verbs.Append ∷ verbs.Sweep ∷ verbs.Repair ∷ []

-- each world line once
abbrev pub all_worlds : List WorldVerb
all_worlds = worlds.Sweep ∷ worlds.Lose ∷ worlds.Dump ∷ []

abbrev pub serves_path : PathVerb → Bool
serves_path verb = (path_row verb).1

abbrev pub serves : Verb → Bool
serves verb = (verb_row verb).1

abbrev pub serves_world : WorldVerb → Bool
serves_world verb = (world_row verb).1
