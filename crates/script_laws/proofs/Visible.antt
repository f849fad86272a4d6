-- The words of a line have no spaces, so that the line's parts are its words.
use Rattle.std.proofs.Common.{◌≡◌, ℕ, ◌/◌, ◌%◌, ◌<◌, ◌^◌, Bool, true, false, not, ◌&&◌, ◌||◌, nat_le, nat_lt, ◌==◌, List, [], ◌∷◌, ◌++◌}
use Rattle.std.proofs.Common.{length, refl, sym, ap, ◌∙◌, arith, tests}
use Rattle.std.specs.List.{list_all, AllByRecursion, join_with_byte}
use Rattle.std.specs.Fmt.{decimal}
use Rattle.std.proofs.lemmas.Bool.{leb-true, le-leb, ne_eqb}
use Rattle.std.proofs.lemmas.List.{append-nil}
use Rattle.std.proofs.lemmas.List.Splits.{join_with_byte-slice_split}
use Rattle.script_words.specs.Splitting.{splits, parts}
use Rattle.script_words.specs.WordText.{names_text, path_text, hex_digit, hex_text, layer_word}
use Rattle.script_words.specs.WordForm.{is_name_byte, is_name_form, are_name_forms, is_letter, is_digit, is_client_name}
use Rattle.script_words.proofs.Apart.{both, joined, parts_one, parts_first}
use Rattle.script_words.proofs.NumberWords.{number_text_form}
use Rattle.tect_ids.specs.declared.ids.Counts.{Counts}
use Rattle.tect_ids.specs.declared.ids.Layer.{Layer}
use Rattle.tect_ids.specs.declared.ids.Layer.TheVariants.{Names, Files, Blocks, Disks}
use Rattle.tect_ids.specs.declared.command.Command.{Command}
use Rattle.tect_ids.specs.declared.command.Command.TheVariants as commands
use Rattle.tect_ids.specs.declared.script.Act.{Act}
use Rattle.tect_ids.specs.declared.script.Act.TheVariants as acts
use Rattle.tect_ids.specs.declared.script.Line.{Line}
use Rattle.tect_ids.specs.declared.script.Line.TheVariants as lines
use Rattle.script_forms.specs.LineText.{spaced, command_words, act_words, line_words}
use Rattle.script_forms.specs.LineForms.{IsPath, IsCommand, IsAct, IsLine, AreCounts}
use Rattle.script_laws.proofs.CommandLaws.{places_are}

abbrev pub is_visible : ℕ → Bool
is_visible b = nat_le 33 b

abbrev pub IsVisible : List ℕ → Type 0
IsVisible w = list_all is_visible w ≡ true

abbrev pub AreVisible : List (List ℕ) → Type 0
AreVisible ws = AllByRecursion IsVisible ws

all_append : (a b : List ℕ) → IsVisible a → IsVisible b → IsVisible (a ++ b)
all_append [] b p q = q
all_append (x ∷ a) b p q =
    let h = both (is_visible x) (list_all is_visible a) p in
    joined (is_visible x) (list_all is_visible (a ++ b)) h.0 (all_append a b h.1 q)

all_weaker : (test : ℕ → Bool) → ((b : ℕ) → test b ≡ true → is_visible b ≡ true) → (w : List ℕ) → list_all test w ≡ true → IsVisible w
all_weaker test weaker [] is = refl
all_weaker test weaker (b ∷ w) is =
    let h = both (test b) (list_all test w) is in
    joined (is_visible b) (list_all is_visible w) (weaker b h.0) (all_weaker test weaker w h.1)

name_byte_visible : (b : ℕ) → is_name_byte b ≡ true → is_visible b ≡ true
name_byte_visible b is = (both (nat_le 33 b) (nat_le b 126) (both (nat_le 33 b && nat_le b 126) (not (b == 47)) is).0).0

names_visible : (names : List (List ℕ)) → are_name_forms names ≡ true → IsVisible (names_text names)
names_visible [] is = refl
names_visible (name ∷ names) is =
    let h = both (is_name_form name) (are_name_forms names) is in
    let bytes = all_weaker is_name_byte name_byte_visible name (both (nat_lt 0 (length name)) (list_all is_name_byte name) h.0).1 in
    all_append (47 ∷ name) (names_text names) (joined (is_visible 47) (list_all is_visible name) refl bytes) (names_visible names h.1)

path_visible : (path : List (List ℕ)) → IsPath path → IsVisible (path_text path)
path_visible [] is = refl
path_visible (name ∷ names) is = names_visible (name ∷ names) is

digit_visible : (b : ℕ) → is_digit b ≡ true → is_visible b ≡ true
digit_visible b is = let low = leb-true 48 b (both (nat_le 48 b) (nat_le b 57) is).0 in le-leb 33 b (omega arith)

number_visible : (n : ℕ) → n < 2 ^ 64 → IsVisible (decimal n)
number_visible n small = all_weaker is_digit digit_visible (decimal n)
    (both (nat_lt 0 (length (decimal n))) (list_all is_digit (decimal n)) (both _ _ (number_text_form n small)).0).1

hex_digit_visible : (n : ℕ) → is_visible (hex_digit n) ≡ true
hex_digit_visible n = grind (arith, tests)

hex_visible : (bytes : List ℕ) → IsVisible (hex_text bytes)
hex_visible [] = refl
hex_visible (byte ∷ bytes) = joined _ _ (hex_digit_visible (byte / 16)) (joined _ _ (hex_digit_visible (byte % 16)) (hex_visible bytes))

layer_visible : (layer : Layer) → IsVisible (layer_word layer)
layer_visible Names = refl
layer_visible Files = refl
layer_visible Blocks = refl
layer_visible Disks = refl

client_byte_visible : (b : ℕ) → (is_letter b || is_digit b) ≡ true → is_visible b ≡ true
client_byte_visible b is = grind (arith, tests)

client_visible : (client : List ℕ) → is_client_name client ≡ true → IsVisible client
client_visible client is = all_weaker (λ b. is_letter b || is_digit b) client_byte_visible client (both _ _ (both _ _ is).0).1

command_visible : (counts : Counts) → AreCounts counts → (command : Command) → IsCommand counts command → AreVisible (command_words command)
command_visible counts are (commands.Look path) is = (refl, (path_visible path is.1, tt))
command_visible counts are (commands.List path) is = (refl, (path_visible path is.1, tt))
command_visible counts are (commands.Create path) is = (refl, (path_visible path is.1, tt))
command_visible counts are (commands.Mkdir path) is = (refl, (path_visible path is.1, tt))
command_visible counts are (commands.Delete path) is = (refl, (path_visible path is.1, tt))
command_visible counts are (commands.Rename from to) is = (refl, (path_visible from is.1, (path_visible to is.2, tt)))
command_visible counts are (commands.Move from to) is = (refl, (path_visible from is.1, (path_visible to is.2, tt)))
command_visible counts are (commands.Rmdir path) is = (refl, (path_visible path is.1, tt))
command_visible counts are (commands.Drop path) is = (refl, (path_visible path is.1, tt))
command_visible counts are (commands.Seal path) is = (refl, (path_visible path is.1, tt))
command_visible counts are (commands.Open path) is = (refl, (path_visible path is.1, tt))
command_visible counts are (commands.Append path bytes) is = (refl, (path_visible path is.1, (hex_visible bytes, tt)))
command_visible counts are (commands.Blocks path) is = (refl, (path_visible path is.1, tt))
command_visible counts are (commands.Read path) is = (refl, (path_visible path is.1, tt))
command_visible counts are (commands.Sweep layer index) is =
    let high = (places_are counts are layer).1 in
    let less = is.1 in
    (refl, (layer_visible layer, (number_visible index (omega arith), tt)))
command_visible counts are (commands.Repair disk index) is =
    let high = are.disks.1 in
    let high_blocks = are.blocks.1 in
    let d = is.1 in
    let i = is.2 in
    (refl, (number_visible disk.0 (omega arith), (number_visible index (omega arith), tt)))
command_visible counts are commands.SweepAll is = absurd is
command_visible counts are (commands.Lose disk) is = absurd is

act_visible : (counts : Counts) → AreCounts counts → (act : Act) → IsAct counts act → AreVisible (act_words act)
act_visible counts are (acts.Do command) is = command_visible counts are command is
act_visible counts are (acts.Begin command) is = (refl, command_visible counts are command is)
act_visible counts are (acts.Step count) is = let high = is.1 in (refl, (number_visible count (omega arith), tt))
act_visible counts are acts.Run is = (refl, tt)
act_visible counts are acts.Stop is = (refl, tt)

pub line_visible : (counts : Counts) → AreCounts counts → (line : Line) → IsLine counts line → AreVisible (line_words line)
line_visible counts are (lines.Store other) is = absurd is
line_visible counts are (lines.Client client actor act) is = (client_visible client is.0, act_visible counts are act is.1)
line_visible counts are lines.Sweep is = (refl, (refl, tt))
line_visible counts are (lines.Lose disk) is = let high = are.disks.1 in let d = is.1 in (refl, (number_visible disk.0 (omega arith), tt))
line_visible counts are lines.Dump is = (refl, tt)

pub store_visible : (counts : Counts) → AreCounts counts → AreVisible (line_words (lines.Store counts))
store_visible counts are =
    let n = are.names.1 in
    let f = are.files.1 in
    let b = are.blocks.1 in
    let d = are.disks.1 in
    let c = are.copies.1 in (
      refl,
      (
        number_visible counts.names (omega arith),
        (
          number_visible counts.files (omega arith),
          (
            number_visible counts.blocks (omega arith),
            (number_visible counts.disks (omega arith), (number_visible counts.copies (omega arith), tt)),
          ),
        ),
      ),
    )

-- ---- words and their line

visible_apart : (b : ℕ) → is_visible b ≡ true → splits 32 b ≡ false
visible_apart b is = let low = leb-true 33 b is in ne_eqb b 32 (λ e. omega (arith, e))

-- words without spaces are the parts of their line
pub parts_spaced : (w : List ℕ) (ws : List (List ℕ)) → AreVisible (w ∷ ws) → parts 32 (spaced (w ∷ ws)) ≡ w ∷ ws
parts_spaced w [] are = rw (append-nil w) (parts_one 32 is_visible visible_apart w are.0)
parts_spaced w (next ∷ ws) are = parts_first 32 is_visible visible_apart refl w (spaced (next ∷ ws)) are.0 ∙ ap
    (λ (ps : List (List ℕ)). w ∷ ps) (parts_spaced next ws are.1)

spaced_join : (w : List ℕ) (ws : List (List ℕ)) → spaced (w ∷ ws) ≡ join_with_byte 32 (w ∷ ws)
spaced_join w [] = append-nil w
spaced_join w (next ∷ ws) = ap (λ (bs : List ℕ). w ++ 32 ∷ bs) (spaced_join next ws)

-- a line is its parts with spaces between them
pub spaced_parts : (line : List ℕ) → spaced (parts 32 line) ≡ line
spaced_parts line = by (parts 32 line) refl
  where
    by : (ps : List (List ℕ)) → parts 32 line ≡ ps → spaced ps ≡ line
    by [] is = sym (ap (λ (qs : List (List ℕ)). join_with_byte 32 qs) is) ∙ join_with_byte-slice_split 32 line
    by (p ∷ ps) is = spaced_join p ps ∙ ap (λ (qs : List (List ℕ)). join_with_byte 32 qs) (sym is) ∙ join_with_byte-slice_split 32 line
