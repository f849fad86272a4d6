-- the room that the events of one actor's moments take is what its moments cost, and the bytes are those of their replies
use Rattle.std.proofs.Common.{◌≡◌, ℕ, Bool, true, false, if◌then◌else◌, List, [], ◌∷◌, refl, sym, ap, ◌∙◌, eqb, arith}
use Rattle.std.proofs.lemmas.Bool.{and_parts}
use Rattle.std.proofs.lemmas.List.Sums.{sum_by-cons}
use Rattle.std.specs.List.{AllByRecursion, filter}
use Rattle.tect_ids.specs.declared.answer.Answer.{Answer}
use Rattle.tect_ids.specs.declared.answer.Answer.TheVariants as answers
use Rattle.tect_ids.specs.declared.ids.OpId.{OpId}
use Rattle.entry_words.specs.declared.entry.Moment.{Moment}
use Rattle.entry_words.specs.declared.entry.Moment.TheVariants.{Act, Local}
use Rattle.entry_words.specs.declared.entry.Note.{Note}
use Rattle.entry_words.specs.declared.entry.Note.TheVariants as notes
use Rattle.entry_words.specs.Moments.{actor_of, all_notes_of, all_of_actor, all_reply_bytes, moment_cost, moments_cost, trail_of}
use Rattle.store_rules.specs.ReplyBytes.{reply_bytes}
use Rattle.world_runs.specs.declared.event.Event.{Event}
use Rattle.world_runs.specs.declared.event.Event.TheVariants.{Own, Dumped}
use Rattle.world_runs.specs.declared.event.Happening.TheVariants.{Began, NotBegun, Acted, Ended, Stopped, Failed}
use Rattle.world_runs.specs.Races.{concerns, is_own}
use Rattle.world_runs.specs.Events.{end_event, event_of, events_of, own}
use Rattle.world_runs.specs.Events.{IsOwnNote}
use Rattle.whole_runs.proofs.Refusals.{AreQuiet, IsQuiet}
use Rattle.world_runs.specs.Limits.{event_bytes, event_cost, kept_bytes, used}
use Rattle.world_runs.proofs.Actors.{one_number}

-- ---- what a pass says of its notes

pub own_notes : (actor : ℕ) (ms : List Moment) → all_of_actor actor ms ≡ true → all_notes_of actor ms ≡ true → AllByRecursion IsOwnNote ms
own_notes actor [] of noted = tt
own_notes actor (Act e h ∷ ms) of noted = (tt, own_notes actor ms (and_parts _ _ of).1 noted)
own_notes actor (Local stamp by (notes.Began op c) ∷ ms) of noted = (
  one_number op.actor actor (and_parts _ _ noted).0 ∙ sym (one_number by actor (and_parts _ _ of).0),
  own_notes actor ms
      (and_parts _ _ of).1 (and_parts _ _ noted).1,
)
own_notes actor (Local stamp by (notes.Ended op a) ∷ ms) of noted = (
  one_number op.actor actor (and_parts _ _ noted).0 ∙ sym (one_number by actor (and_parts _ _ of).0),
  own_notes actor ms
      (and_parts _ _ of).1 (and_parts _ _ noted).1,
)
own_notes actor (Local stamp by (notes.Stopped op) ∷ ms) of noted = (
  one_number op.actor actor (and_parts _ _ noted).0 ∙ sym (one_number by actor (and_parts _ _ of).0),
  own_notes actor ms
      (and_parts _ _ of).1 (and_parts _ _ noted).1,
)

-- ---- the room

none : (b : Bool) (n : ℕ) → n ≡ 0 → (if b then n else 0) ≡ 0
none true n is = is
none false n is = refl

end_cost : (actor : ℕ) (op : OpId) (a : Answer) → event_cost actor (end_event op a) ≡ 0
end_cost actor op answers.NoMemory = none (eqb op.actor actor) 0 refl
end_cost actor op (answers.HistoryFull p) = none (eqb op.actor actor) 0 refl
end_cost actor op _ = none (eqb op.actor actor) 0 refl

moment_used : (actor : ℕ) (m : Moment) (ms : List Moment) → all_of_actor actor (m ∷ ms) ≡ true → all_notes_of actor (m ∷ ms) ≡ true
    → event_cost actor (event_of m) ≡ moment_cost m
moment_used actor (Act e h) ms of noted = ap (λ b. if b then 1 else 0) (and_parts _ _ of).0
moment_used actor (Local stamp by (notes.Began op c)) ms of noted = ap (λ b. if b then 2 else 0) (and_parts _ _ noted).0
moment_used actor (Local stamp by (notes.Ended op a)) ms of noted = end_cost actor op a
moment_used actor (Local stamp by (notes.Stopped op)) ms of noted = none (eqb op.actor actor) 0 refl

other_notes : (actor : ℕ) (m : Moment) (ms : List Moment) → all_notes_of actor (m ∷ ms) ≡ true → all_notes_of actor ms ≡ true
other_notes actor (Act e h) ms noted = noted
other_notes actor (Local stamp by note) ms noted = (and_parts _ _ noted).1

-- what one actor's moments use is what they cost
pub used_moments : (actor : ℕ) (ms : List Moment) → all_of_actor actor ms ≡ true → all_notes_of actor ms ≡ true
    → used (events_of ms) actor ≡ moments_cost ms
used_moments actor [] of noted = refl
used_moments actor (m ∷ ms) of noted =
    let rest : used (events_of ms) actor ≡ moments_cost ms = used_moments actor ms
    (and_parts (eqb (actor_of m) actor) (all_of_actor actor ms) of).1 (other_notes actor m ms noted) in
    let first : event_cost actor (event_of m) ≡ moment_cost m = moment_used actor m ms of noted in
    omega (arith, first, rest, sum_by-cons (event_cost actor) (event_of m) (events_of ms), sum_by-cons moment_cost m ms)

end_bytes : (actor : ℕ) (op : OpId) (a : Answer) → event_bytes actor (end_event op a) ≡ 0
end_bytes actor op answers.NoMemory = none (eqb op.actor actor) 0 refl
end_bytes actor op (answers.HistoryFull p) = none (eqb op.actor actor) 0 refl
end_bytes actor op _ = none (eqb op.actor actor) 0 refl

note_bytes : (actor stamp by : ℕ) (note : Note) → event_bytes actor (event_of (Local stamp by note)) ≡ 0
note_bytes actor stamp by (notes.Began op c) = none (eqb op.actor actor) 0 refl
note_bytes actor stamp by (notes.Ended op a) = end_bytes actor op a
note_bytes actor stamp by (notes.Stopped op) = none (eqb op.actor actor) 0 refl

-- the bytes that are kept of one actor's moments are those of its replies
pub bytes_of_moments : (actor : ℕ) (ms : List Moment) → all_of_actor actor ms ≡ true
    → kept_bytes (events_of ms) actor ≡ all_reply_bytes (trail_of ms)
bytes_of_moments actor [] of = refl
bytes_of_moments actor (Act e h ∷ ms) of =
    let rest : kept_bytes (events_of ms) actor ≡ all_reply_bytes (trail_of ms) = bytes_of_moments actor ms
    (and_parts (eqb e.actor actor) (all_of_actor actor ms) of).1 in
    let first : event_bytes actor (event_of (Act e h)) ≡ reply_bytes e.reply = ap (λ b. if b then reply_bytes e.reply else 0)
    (and_parts _ _ of).0 in
    omega (arith, first, rest, sum_by-cons (event_bytes actor) (event_of (Act e h)) (events_of ms))
bytes_of_moments actor (Local stamp by note ∷ ms) of =
    let rest : kept_bytes (events_of ms) actor ≡ all_reply_bytes (trail_of ms) = bytes_of_moments actor ms
    (and_parts (eqb by actor) (all_of_actor actor ms) of).1 in
    let first : event_bytes actor (event_of (Local stamp by note)) ≡ 0 = note_bytes actor stamp by note in
    omega (arith, first, rest, sum_by-cons (event_bytes actor) (event_of (Local stamp by note)) (events_of ms))

-- ---- refusals take no room

silent_cost : (actor : ℕ) (e : Event) → IsQuiet e → event_cost actor e ≡ 0
silent_cost actor (Own op (NotBegun c)) is = none (eqb op.actor actor) 0 refl
silent_cost actor (Own op (Ended a)) is = none (eqb op.actor actor) 0 refl
silent_cost actor (Own op Stopped) is = none (eqb op.actor actor) 0 refl
silent_cost actor (Own op (Failed a)) is = none (eqb op.actor actor) 0 refl
silent_cost actor (Own op (Began c)) is = absurd is
silent_cost actor (Own op (Acted q x h)) is = absurd is
silent_cost actor Dumped is = absurd is

silent_bytes : (actor : ℕ) (e : Event) → IsQuiet e → event_bytes actor e ≡ 0
silent_bytes actor (Own op (NotBegun c)) is = none (eqb op.actor actor) 0 refl
silent_bytes actor (Own op (Ended a)) is = none (eqb op.actor actor) 0 refl
silent_bytes actor (Own op Stopped) is = none (eqb op.actor actor) 0 refl
silent_bytes actor (Own op (Failed a)) is = none (eqb op.actor actor) 0 refl
silent_bytes actor (Own op (Began c)) is = absurd is
silent_bytes actor (Own op (Acted q x h)) is = absurd is
silent_bytes actor Dumped is = absurd is

pub no_room_used : (actor : ℕ) (es : List Event) → AreQuiet es → used es actor ≡ 0
no_room_used actor [] quiet = refl
no_room_used actor (e ∷ es) quiet = omega
    (arith, silent_cost actor e quiet.0, no_room_used actor es quiet.1, sum_by-cons (event_cost actor) e es)

pub no_bytes_kept : (actor : ℕ) (es : List Event) → AreQuiet es → kept_bytes es actor ≡ 0
no_bytes_kept actor [] quiet = refl
no_bytes_kept actor (e ∷ es) quiet = omega
    (arith, silent_bytes actor e quiet.0, no_bytes_kept actor es quiet.1, sum_by-cons (event_bytes actor) e es)

-- ---- own events

not_own : (actor : ℕ) (e : Event) → concerns actor e ≡ false → is_own actor e ≡ false
not_own actor (Own op h) is = is
not_own actor Dumped is = absurd cc

-- what is one's own of what concerns it is what is its own of all
pub own_of_concerns : (actor : ℕ) (es : List Event) → own actor (filter (concerns actor) es) ≡ own actor es
own_of_concerns actor [] = refl
own_of_concerns actor (e ∷ es) =
    elim (concerns actor e) as
    (λ b. concerns actor e ≡ b
    → own actor (if b then e ∷ filter (concerns actor) es else filter (concerns actor) es) ≡ own actor (e ∷ es)) [
      | true ↦ λ h. ap (λ os. if is_own actor e then e ∷ os else os) (own_of_concerns actor es)
      | false ↦ λ h. own_of_concerns actor es ∙ sym (ap (λ b. if b then e ∷ own actor es else own actor es) (not_own actor e h))
    ] refl
