-- The clients of a script, in the order in which it first names them, each with the state in which its last line leaves it.
use Rattle.std.specs.Prelude.{ℕ, ◌+◌, nat_le, Bool, false, not, ◌&&◌, ◌||◌, List, length, is_none, unwrap_or, codes}
use Rattle.std.specs.List.{position_or_len}
use Rattle.std.specs.Str.{bytes_eq}
use Rattle.std.specs.Ordering.{nat_cmp, eq_by_cmp}
use Rattle.std.specs.Cmp.Lexicographic.{slice_cmp}
use Rattle.std.specs.Map.{lookup, keys_of}
use Rattle.indexmap.specs.IndexMap.{insert_entry}
use Rattle.tect_ids.specs.declared.script.Act.{Act}
use Rattle.tect_ids.specs.declared.script.Act.TheVariants as acts
use Rattle.tect_ids.specs.declared.script.Line.{Line}
use Rattle.tect_ids.specs.declared.script.Line.TheVariants as lines
use Rattle.script_forms.specs.declared.clients.ClientState.{ClientState}
use Rattle.script_forms.specs.declared.clients.ClientState.TheVariants.{Idle, Busy, Gone}

abbrev pub Seen : Type 0
Seen = List (List ℕ × ClientState)

abbrev pub same_name : List ℕ → List ℕ → Bool
same_name = eq_by_cmp (slice_cmp nat_cmp)

-- a client that was not seen yet is idle
abbrev pub state_of : Seen → List ℕ → ClientState
state_of seen name = unwrap_or (lookup (same_name name) seen) Idle

-- the words that go on with a command
abbrev pub goes_on : List ℕ → Bool
goes_on word = bytes_eq word (codes "step") || (bytes_eq word (codes "run") || bytes_eq word (codes "stop"))

-- whether a client in that state may have that word behind its name
abbrev pub takes_word : ClientState → List ℕ → Bool
takes_word Idle word = not (goes_on word)
takes_word Busy word = goes_on word
takes_word Gone word = false

abbrev pub state_after : Act → ClientState
state_after (acts.Do command) = Idle
state_after (acts.Begin command) = Busy
state_after (acts.Step count) = Busy
state_after acts.Run = Idle
state_after acts.Stop = Gone

-- the number of a client, from 1
abbrev pub client_number : Seen → List ℕ → ℕ
client_number seen name = position_or_len (same_name name) (keys_of seen) + 1

-- a client that is not seen yet, behind 64 others
abbrev pub is_one_too_many : Seen → List ℕ → Bool
is_one_too_many seen name = nat_le 64 (length seen) && is_none (lookup (same_name name) seen)

abbrev pub seen_after : Seen → Line → Seen
seen_after seen (lines.Client client actor act) = insert_entry same_name seen client (state_after act)
seen_after seen line = seen
