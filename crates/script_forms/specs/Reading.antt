-- Reading a script, with the place of its first fault.
use Rattle.std.specs.Prelude.{ℕ, ◌+◌, ◌-◌, ◌==◌, nat_lt, Bool, true, false, not, List, [], ◌∷◌, length, Option, Some, None, Result, Ok, Err}
use Rattle.std.specs.Prelude.{if◌then◌else◌}
use Rattle.std.specs.Map.{keys_of}
use Rattle.tect_ids.specs.declared.ids.Counts.{Counts}
use Rattle.tect_ids.specs.declared.script.Act.{Act}
use Rattle.tect_ids.specs.declared.script.Line.{Line}
use Rattle.tect_ids.specs.declared.script.Line.TheVariants as lines
use Rattle.tect_ids.specs.declared.script.Plan.{Plan}
use Rattle.script_words.specs.declared.limits.Limit.{Limit}
use Rattle.script_words.specs.declared.limits.Limit.TheVariants as limits
use Rattle.script_words.specs.LimitText.{limit_value}
use Rattle.script_words.specs.Splitting.{parts}
use Rattle.script_words.specs.WordForm.{is_client_name}
use Rattle.script_words.specs.WordList.{spaced_length}
use Rattle.script_forms.specs.declared.faults.ScriptFault.{ScriptFault}
use Rattle.script_forms.specs.declared.faults.ScriptFault.TheVariants as faults
use Rattle.script_forms.specs.declared.verbs.WorldVerb.{WorldVerb}
use Rattle.script_forms.specs.Form.{Outcome, Got, Wrong, Large, read, ended}
use Rattle.script_forms.specs.Grammar.{act_form, world_behind, store_form}
use Rattle.script_forms.specs.Verbs.{served_world}
use Rattle.script_forms.specs.Clients.{Seen, state_of, takes_word, client_number, is_one_too_many, seen_after}

-- ---- one line behind the store line, by its words

-- a second word that does not fit the client's state
abbrev pub out_of_state : Seen → List ℕ → List (List ℕ) → Bool
out_of_state seen client [] = false
out_of_state seen client (word ∷ words) = not (takes_word (state_of seen client) word)

abbrev pub of_client : List ℕ → ℕ → Outcome Act → Outcome Line
of_client client actor (Got act words) = Got (lines.Client client actor act) words
of_client client actor (Wrong words) = Wrong words
of_client client actor (Large limit words) = Large limit words

abbrev pub client_read : Counts → Seen → List ℕ → List (List ℕ) → Outcome Line
client_read counts seen client words =
    if out_of_state seen client words then Wrong (client ∷ words)
    else if is_one_too_many seen client then Large limits.Clients (client ∷ words)
    else of_client client (client_number seen client) (ended (read true (act_form counts) words))

abbrev pub world_read : Counts → Option WorldVerb → List ℕ → List (List ℕ) → Outcome Line
world_read counts None first words = Wrong (first ∷ words)
world_read counts (Some verb) first words = ended (read true (world_behind counts verb) words)

abbrev pub line_read : Counts → Seen → List (List ℕ) → Outcome Line
line_read counts seen [] = Wrong []
line_read counts seen (first ∷ words) = if is_client_name first then client_read counts seen first words else world_read counts
    (served_world first) first words

-- ---- lines, by their numbers

abbrev pub too_large : Limit → ScriptFault
too_large limit = faults.TooLarge limit (limit_value limit)

-- a fault's place: the column of the first wrong word, or behind the line where one is missing
abbrev pub at_line : {A : Type 0} → ℕ → List ℕ → Outcome A → Result A ScriptFault
at_line number line (Got value words) = Ok value
at_line number line (Wrong words) = Err (faults.Bad number (length line + 1 - spaced_length words))
at_line number line (Large limit words) = Err (too_large limit)

-- the limits of lines come before their words
abbrev pub measured : {A : Type 0} → ℕ → List ℕ → Result A ScriptFault → Result A ScriptFault
measured number line more = if nat_lt 65536 number then Err (too_large limits.Lines) else if nat_lt 70000 (length line) then Err
    (too_large limits.Line) else more

abbrev pub is_comment : List ℕ → Bool
is_comment [] = false
is_comment (byte ∷ line) = byte == 35

abbrev pub some_line : Result Line ScriptFault → Result (Option Line) ScriptFault
some_line (Ok line) = Ok (Some line)
some_line (Err fault) = Err fault

-- a line, or nothing for a comment
abbrev pub text_read : Counts → Seen → ℕ → List ℕ → Result (Option Line) ScriptFault
text_read counts seen number line = measured number line
    (if is_comment line then Ok None else some_line (at_line number line (line_read counts seen (parts 32 line))))

abbrev pub go_on : {A B : Type 0} → Result A ScriptFault → (A → Result B ScriptFault) → Result B ScriptFault
go_on (Ok value) go = go value
go_on (Err fault) go = Err fault

-- a line feed is owed behind each line: these are the parts behind it
abbrev pub ended_by : {A : Type 0} → ℕ → List ℕ → List (List ℕ) → Result A ScriptFault → Result A ScriptFault
ended_by number line [] more = Err (faults.Bad number (length line + 1))
ended_by number line (part ∷ parts) more = more

abbrev pub add_line : Option Line → Result (List Line × Seen) ScriptFault → Result (List Line × Seen) ScriptFault
add_line None more = more
add_line (Some line) (Ok read) = Ok (line ∷ read.0, read.1)
add_line (Some line) (Err fault) = Err fault

abbrev pub seen_behind : Seen → Option Line → Seen
seen_behind seen None = seen
seen_behind seen (Some line) = seen_after seen line

-- the lines behind the store line, from a number on; an empty part behind the last line feed is the end
abbrev pub lines_read : Counts → Seen → ℕ → List (List ℕ) → Result (List Line × Seen) ScriptFault
lines_read counts seen number [] = Ok ([], seen)
lines_read counts seen number ([] ∷ []) = Ok ([], seen)
lines_read counts seen number (line ∷ more) =
    go_on (text_read counts seen number line)
    (λ read. ended_by number line more (add_line read (lines_read counts (seen_behind seen read) (number + 1) more)))

-- ---- the whole script

abbrev pub the_plan : Counts → List (List ℕ) → List Line → Plan
the_plan counts clients lines = record { counts = counts; clients = clients; lines = lines }

abbrev pub plan_of : Counts → Result (List Line × Seen) ScriptFault → Result Plan ScriptFault
plan_of counts (Ok read) = Ok (the_plan counts (keys_of read.1) read.0)
plan_of counts (Err fault) = Err fault

abbrev pub store_text_read : ℕ → List ℕ → Result (Option Counts) ScriptFault
store_text_read number line = measured number line
    (if is_comment line then Ok None else go_on (at_line number line (ended (read true store_form (parts 32 line))))
    (λ counts. Ok (Some counts)))

abbrev pub behind_store : Option Counts → Result Plan ScriptFault → (Counts → Result Plan ScriptFault) → Result Plan ScriptFault
behind_store None next found = next
behind_store (Some counts) next found = found counts

-- the store line is the first that is no comment
abbrev pub store_read : ℕ → List (List ℕ) → Result Plan ScriptFault
store_read number [] = Err (faults.Bad number 1)
store_read number ([] ∷ []) = Err (faults.Bad number 1)
store_read number (line ∷ more) =
    go_on (store_text_read number line)
    (λ read. ended_by number line more
    (behind_store read (store_read (number + 1) more) (λ counts. plan_of counts (lines_read counts [] (number + 1) more))))

abbrev pub script_read : List ℕ → Result Plan ScriptFault
script_read bytes = if nat_lt 67108864 (length bytes) then Err (too_large limits.Script) else store_read 1 (parts 10 bytes)
