-- Moments of one actor, in the order in which it met them.
use Rattle.std.specs.Prelude.{ℕ, ◌+◌, Bool, true, false, ◌&&◌, List, [], ◌∷◌, Option, Some, None, nat_lt, nat_le, ◌==◌}
use Rattle.std.specs.List.{sum_by}
use Rattle.tect_ids.specs.declared.ids.OpId.{OpId}
use Rattle.entry_words.specs.declared.entry.Entry.{Entry}
use Rattle.entry_words.specs.declared.entry.Note.{Note}
use Rattle.entry_words.specs.declared.entry.Note.TheVariants.{Began, Ended, Stopped}
use Rattle.program_forms.specs.declared.heard.Heard.{Heard}
use Rattle.entry_words.specs.declared.entry.Moment.{Moment}
use Rattle.entry_words.specs.declared.entry.Moment.TheVariants.{Act, Local}
use Rattle.store_rules.specs.ReplyBytes.{reply_bytes}

abbrev pub stamp_of : Moment → ℕ
stamp_of (Act e h) = e.stamp
stamp_of (Local stamp actor note) = stamp

abbrev pub actor_of : Moment → ℕ
actor_of (Act e h) = e.actor
actor_of (Local stamp actor note) = actor

-- the number of its place; a note stands behind all places
abbrev pub place_of_moment : Moment → ℕ
place_of_moment (Act e h) = e.place.0
place_of_moment (Local stamp actor note) = 256

-- whether it is a transaction at that place
abbrev pub is_at : ℕ → Moment → Bool
is_at place (Act e h) = e.place.0 == place
is_at place (Local stamp actor note) = false

abbrev pub is_of : ℕ → Moment → Bool
is_of actor m = actor_of m == actor

-- the entries alone
abbrev pub trail_of : List Moment → List Entry
trail_of [] = []
trail_of (Act e h ∷ ms) = e ∷ trail_of ms
trail_of (Local stamp actor note ∷ ms) = trail_of ms

-- the stamps rise, from above low, and none is above high
abbrev pub rises : ℕ → ℕ → List Moment → Bool
rises low high [] = nat_le low high
rises low high (m ∷ ms) = nat_lt low (stamp_of m) && rises (stamp_of m) high ms

abbrev pub all_of_actor : ℕ → List Moment → Bool
all_of_actor actor [] = true
all_of_actor actor (m ∷ ms) = (actor_of m == actor) && all_of_actor actor ms

-- the steps of these entries count up from the first number, and the last one is the next
abbrev pub steps_count : ℕ → ℕ → List Entry → Bool
steps_count first next [] = first == next
steps_count first next (e ∷ es) = (e.step == first) && steps_count (first + 1) next es

-- the bytes of all replies
abbrev pub all_reply_bytes : List Entry → ℕ
all_reply_bytes [] = 0
all_reply_bytes (e ∷ es) = reply_bytes e.reply + all_reply_bytes es

abbrev pub op_of : Note → OpId
op_of (Began op command) = op
op_of (Ended op answer) = op
op_of (Stopped op) = op

abbrev pub all_notes_of : ℕ → List Moment → Bool
all_notes_of actor [] = true
all_notes_of actor (Act e h ∷ ms) = all_notes_of actor ms
all_notes_of actor (Local stamp by note ∷ ms) = ((op_of note).actor == actor) && all_notes_of actor ms

-- the room that it takes of its pass: the beginning of an op takes that of the op's end as well
abbrev pub moment_cost : Moment → ℕ
moment_cost (Act e h) = 1
moment_cost (Local stamp actor (Began op command)) = 2
moment_cost (Local stamp actor (Ended op answer)) = 0
moment_cost (Local stamp actor (Stopped op)) = 0

abbrev pub moments_cost : List Moment → ℕ
moments_cost ms = sum_by moment_cost ms

-- the op that has begun and not ended
abbrev pub running_after : Option OpId → Moment → Option OpId
running_after running (Act e h) = running
running_after running (Local stamp actor (Began op command)) = Some op
running_after running (Local stamp actor (Ended op answer)) = None
running_after running (Local stamp actor (Stopped op)) = None

abbrev pub running_in : Option OpId → List Moment → Option OpId
running_in running [] = running
running_in running (m ∷ ms) = running_in (running_after running m) ms

abbrev pub heard_as : Heard → Moment → Moment
heard_as heard (Act e h) = Act e heard
heard_as heard (Local stamp actor note) = Local stamp actor note

-- the last of them is a transaction, which its command heard so
abbrev pub heard_last : Heard → List Moment → List Moment
heard_last heard [] = []
heard_last heard (m ∷ []) = heard_as heard m ∷ []
heard_last heard (m ∷ n ∷ ms) = m ∷ heard_last heard (n ∷ ms)
