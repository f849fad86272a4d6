-- What the lines of a script look like, word after word.
use Rattle.std.specs.Prelude.{ℕ, ◌-◌, Bool, true, false, List, if◌then◌else◌, codes, is_some, unwrap_or}
use Rattle.std.specs.Str.{bytes_eq}
use Rattle.script_words.specs.declared.limits.Limit.TheVariants as limits
use Rattle.script_words.specs.declared.limits.Fit.{Fit}
use Rattle.script_words.specs.declared.limits.Fit.TheVariants.{Fits, Unfit}
use Rattle.script_words.specs.WordForm.{path_names, path_fit, sibling_fit, hex_bytes, hex_fit, number_of, number_fit, count_fit, layer_of}
use Rattle.script_words.specs.WordForm.{is_client_name}
use Rattle.tect_ids.specs.declared.ids.Counts.{Counts}
use Rattle.tect_ids.specs.declared.ids.Layer.{Layer}
use Rattle.tect_ids.specs.declared.ids.Layer.TheVariants.{Names, Files, Blocks, Disks}
use Rattle.tect_ids.specs.declared.ids.DiskId.{DiskId}
use Rattle.tect_ids.specs.declared.command.Command.{Command}
use Rattle.tect_ids.specs.declared.command.Command.TheVariants as commands
use Rattle.tect_ids.specs.declared.script.Act.{Act}
use Rattle.tect_ids.specs.declared.script.Act.TheVariants as acts
use Rattle.tect_ids.specs.declared.script.Line.{Line}
use Rattle.tect_ids.specs.declared.script.Line.TheVariants as lines
use Rattle.script_forms.specs.declared.verbs.PathVerb.{PathVerb}
use Rattle.script_forms.specs.declared.verbs.PathVerb.TheVariants as paths
use Rattle.script_forms.specs.declared.verbs.Verb.{Verb}
use Rattle.script_forms.specs.declared.verbs.Verb.TheVariants as verbs
use Rattle.script_forms.specs.declared.verbs.ActWord.{ActWord}
use Rattle.script_forms.specs.declared.verbs.ActWord.TheVariants as act_words
use Rattle.script_forms.specs.declared.verbs.WorldVerb.{WorldVerb}
use Rattle.script_forms.specs.declared.verbs.WorldVerb.TheVariants as worlds
use Rattle.script_forms.specs.Form.{Form, done, word, and_then}
use Rattle.script_forms.specs.Verbs.{path_command, served_verb, act_word_of, served_world}

-- how many shards or disks a layer has
abbrev pub places_of : Counts → Layer → ℕ
places_of counts Names = counts.names
places_of counts Files = counts.files
places_of counts Blocks = counts.blocks
places_of counts Disks = counts.disks

abbrev pub fits_if : Bool → Fit
fits_if true = Fits
fits_if false = Unfit

-- just this word
abbrev pub text_fit : List ℕ → List ℕ → Fit
text_fit text w = fits_if (bytes_eq w text)

abbrev pub the_disk : ℕ → DiskId
the_disk n = record { 0 = n }

abbrev pub layer_fit : List ℕ → Fit
layer_fit w = fits_if (is_some (layer_of w))

abbrev pub the_layer : List ℕ → Layer
the_layer w = unwrap_or (layer_of w) Names

-- ---- commands: what stands behind the first word

abbrev pub path_form : PathVerb → Form Command
path_form verb = word path_fit (λ p. done (path_command verb (path_names p)))

abbrev pub rename_form : Form Command
rename_form = word path_fit (λ p. word (sibling_fit p) (λ q. done (commands.Rename (path_names p) (path_names q))))

abbrev pub move_form : Form Command
move_form = word path_fit (λ p. word path_fit (λ q. done (commands.Move (path_names p) (path_names q))))

abbrev pub append_form : Form Command
append_form = word path_fit (λ p. word hex_fit (λ h. done (commands.Append (path_names p) (hex_bytes h))))

abbrev pub sweep_form : Counts → Form Command
sweep_form counts = word layer_fit
    (λ l. word (number_fit 0 (places_of counts (the_layer l) - 1)) (λ i. done (commands.Sweep (the_layer l) (number_of i))))

abbrev pub repair_form : Counts → Form Command
repair_form counts = word (number_fit 0 (counts.disks - 1))
    (λ d. word (number_fit 0 (counts.blocks - 1)) (λ i. done (commands.Repair (the_disk (number_of d)) (number_of i))))

abbrev pub command_form : Counts → Verb → Form Command
command_form counts (verbs.OnPath verb) = path_form verb
command_form counts verbs.Rename = rename_form
command_form counts verbs.Move = move_form
command_form counts verbs.Append = append_form
command_form counts verbs.Sweep = sweep_form counts
command_form counts verbs.Repair = repair_form counts

abbrev pub verb_fit : List ℕ → Fit
verb_fit w = fits_if (is_some (served_verb w))

abbrev pub the_verb : List ℕ → Verb
the_verb w = unwrap_or (served_verb w) (verbs.OnPath paths.Look)

abbrev pub any_command : Counts → Form Command
any_command counts = word verb_fit (λ w. command_form counts (the_verb w))

-- ---- clients

abbrev pub steps_form : Form Act
steps_form = word (number_fit 1 65535) (λ n. done (acts.Step (number_of n)))

abbrev pub act_behind : Counts → ActWord → Form Act
act_behind counts (act_words.Do verb) = and_then (command_form counts verb) (λ command. done (acts.Do command))
act_behind counts act_words.Begin = and_then (any_command counts) (λ command. done (acts.Begin command))
act_behind counts act_words.Step = steps_form
act_behind counts act_words.Run = done acts.Run
act_behind counts act_words.Stop = done acts.Stop

abbrev pub act_fit : List ℕ → Fit
act_fit w = fits_if (is_some (act_word_of w))

abbrev pub the_act_word : List ℕ → ActWord
the_act_word w = unwrap_or (act_word_of w) act_words.Run

-- what stands behind a client's name
abbrev pub act_form : Counts → Form Act
act_form counts = word act_fit (λ w. act_behind counts (the_act_word w))

-- ---- world lines: what stands behind the first word

abbrev pub world_behind : Counts → WorldVerb → Form Line
world_behind counts worlds.Sweep = word (text_fit (codes "all")) (λ w. done lines.Sweep)
world_behind counts worlds.Lose = word (number_fit 0 (counts.disks - 1)) (λ d. done (lines.Lose (the_disk (number_of d))))
world_behind counts worlds.Dump = done lines.Dump

-- ---- the store line

abbrev pub shards_fit : List ℕ → Fit
shards_fit w = count_fit limits.Shards 64 w

abbrev pub the_counts : ℕ → ℕ → ℕ → ℕ → ℕ → Counts
the_counts names files blocks disks copies = record { names = names; files = files; blocks = blocks; disks = disks; copies = copies }

abbrev pub counts_form : Form Counts
counts_form =
    word shards_fit (λ n. word shards_fit (λ f. word shards_fit (λ b.
    word (count_fit limits.Disks 64) (λ d. word (count_fit limits.Copies 5) (λ c.
    done (the_counts (number_of n) (number_of f) (number_of b) (number_of d) (number_of c)))))))

abbrev pub store_form : Form Counts
store_form = word (text_fit (codes "store")) (λ w. counts_form)

-- ---- lines behind the store line, but for the states of the clients; a client has the number that the function gives its name

abbrev pub first_fit : List ℕ → Fit
first_fit w = fits_if (if is_client_name w then true else is_some (served_world w))

abbrev pub client_form : Counts → List ℕ → ℕ → Form Line
client_form counts client actor = and_then (act_form counts) (λ act. done (lines.Client client actor act))

abbrev pub behind_first : Counts → (List ℕ → ℕ) → List ℕ → Form Line
behind_first counts actor w = if is_client_name w then client_form counts w (actor w) else world_behind counts
    (unwrap_or (served_world w) worlds.Dump)

abbrev pub line_form : Counts → (List ℕ → ℕ) → Form Line
line_form counts actor = word first_fit (λ w. behind_first counts actor w)
