-- One item more keeps what the type of `Pass` keeps.
use Rattle.std.proofs.Common.{◌≡◌, ℕ, ◌+◌, ◌<◌, ◌≤◌, true, List, [], ◌∷◌, ◌++◌, length, Option, refl, ap, arith}
use Rattle.std.proofs.lemmas.Bool.Decides.{nat_tests}
use Rattle.std.proofs.lemmas.Grind.{common_steps}
use Rattle.tect_ids.specs.declared.ids.OpId.{OpId}
use Rattle.entry_words.specs.declared.entry.Entry.{Entry}
use Rattle.entry_words.specs.declared.entry.Note.{Note}
use Rattle.entry_words.specs.declared.entry.Moment.{Moment}
use Rattle.program_forms.specs.declared.heard.Heard.{Heard}
use Rattle.entry_words.specs.declared.entry.Moment.TheVariants.{Act, Local}
use Rattle.store_rules.specs.ReplyBytes.{reply_bytes}
use Rattle.entry_words.specs.Moments.{stamp_of, actor_of, trail_of, rises, all_of_actor, steps_count, all_reply_bytes}
use Rattle.entry_words.specs.Moments.{running_after, running_in, op_of, all_notes_of}

pub rises-raised : (low high more : ℕ) (ms : List Moment) → rises low high ms ≡ true → high ≤ more → rises low more ms ≡ true
rises-raised low high more [] h le = grind (arith, nat_tests)
rises-raised low high more (m ∷ ms) h le = grind (arith, common_steps, rises-raised (stamp_of m) high more ms)

pub rises-push : (low high : ℕ) (ms : List Moment) (m : Moment) → rises low high ms ≡ true → high < stamp_of m
    → rises low (stamp_of m) (ms ++ m ∷ []) ≡ true
rises-push low high [] m h lt = grind (arith, nat_tests)
rises-push low high (x ∷ ms) m h lt = grind (arith, common_steps, rises-push (stamp_of x) high ms m)

pub all_of_actor-push : (actor : ℕ) (ms : List Moment) (m : Moment) → all_of_actor actor ms ≡ true → actor_of m ≡ actor
    → all_of_actor actor (ms ++ m ∷ []) ≡ true
all_of_actor-push actor [] m h e = grind (arith, nat_tests)
all_of_actor-push actor (x ∷ ms) m h e = grind (arith, common_steps, all_of_actor-push actor ms m)

pub all_notes_of-act : (actor : ℕ) (ms : List Moment) (e : Entry) (heard : Heard) → all_notes_of actor ms ≡ true
    → all_notes_of actor (ms ++ Act e heard ∷ []) ≡ true
all_notes_of-act actor [] e heard h = refl
all_notes_of-act actor (Act x k ∷ ms) e heard h = all_notes_of-act actor ms e heard h
all_notes_of-act actor (Local s a n ∷ ms) e heard h = grind (arith, common_steps, all_notes_of-act actor ms e heard)

pub all_notes_of-note : (actor : ℕ) (ms : List Moment) (stamp by : ℕ) (note : Note) → all_notes_of actor ms ≡ true
    → (op_of note).actor ≡ actor
    → all_notes_of actor (ms ++ Local stamp by note ∷ []) ≡ true
all_notes_of-note actor [] stamp by note h own = grind (arith, nat_tests)
all_notes_of-note actor (Act x k ∷ ms) stamp by note h own = all_notes_of-note actor ms stamp by note h own
all_notes_of-note actor (Local s a n ∷ ms) stamp by note h own = grind (arith, common_steps, all_notes_of-note actor ms stamp by note)

pub trail_of-act : (ms : List Moment) (e : Entry) (heard : Heard) → trail_of (ms ++ Act e heard ∷ []) ≡ trail_of ms ++ e ∷ []
trail_of-act [] e heard = refl
trail_of-act (Act x k ∷ ms) e heard = ap (λ es. x ∷ es) (trail_of-act ms e heard)
trail_of-act (Local stamp actor note ∷ ms) e heard = trail_of-act ms e heard

pub trail_of-local : (ms : List Moment) (stamp actor : ℕ) (note : Note) → trail_of (ms ++ Local stamp actor note ∷ []) ≡ trail_of ms
trail_of-local [] stamp actor note = refl
trail_of-local (Act x k ∷ ms) stamp actor note = ap (λ es. x ∷ es) (trail_of-local ms stamp actor note)
trail_of-local (Local s a n ∷ ms) stamp actor note = trail_of-local ms stamp actor note

pub trail_of-len : (ms : List Moment) → length (trail_of ms) ≤ length ms
trail_of-len [] = omega arith
trail_of-len (Act x k ∷ ms) = let h = trail_of-len ms in omega (arith, h)
trail_of-len (Local s a n ∷ ms) = let h = trail_of-len ms in omega (arith, h)

pub steps_count-push : (first next : ℕ) (es : List Entry) (e : Entry) → steps_count first next es ≡ true → e.step ≡ next
    → steps_count first (next + 1) (es ++ e ∷ []) ≡ true
steps_count-push first next [] e h at = grind (arith, nat_tests)
steps_count-push first next (x ∷ es) e h at = grind (arith, common_steps, steps_count-push (first + 1) next es e)

pub steps_count-len : (first next : ℕ) (es : List Entry) → steps_count first next es ≡ true → next ≡ first + length es
steps_count-len first next [] h = grind (arith, nat_tests)
steps_count-len first next (x ∷ es) h = grind (arith, common_steps, steps_count-len (first + 1) next es)

pub all_reply_bytes-push : (es : List Entry) (e : Entry) → all_reply_bytes (es ++ e ∷ []) ≡ all_reply_bytes es + reply_bytes e.reply
all_reply_bytes-push [] e = omega arith
all_reply_bytes-push (x ∷ es) e = let h = all_reply_bytes-push es e in omega (arith, h)

pub running_in-push : (running : Option OpId) (ms : List Moment) (m : Moment) → running_in running (ms ++ m ∷ [])
    ≡ running_after (running_in running ms) m
running_in-push running [] m = refl
running_in-push running (x ∷ ms) m = running_in-push (running_after running x) ms m
