-- What the type of `Pass` keeps, after one moment more; and that equal parts make equal passes.
use Rattle.std.proofs.Common.{◌≡◌, ℕ, ◌+◌, ◌<◌, ◌≤◌, ◌^◌, true, false, List, [], ◌∷◌, ◌++◌, length, Option, Some}
use Rattle.std.proofs.Common.{None, refl, sym, ◌∙◌, ap, subst, arith, length-append}
use Rattle.std.proofs.lemmas.Bool.Decides.{nat_tests}
use Rattle.std.proofs.lemmas.List.Sums.{sum_by_push}
use Rattle.tect_ids.specs.declared.ids.OpId.{OpId}
use Rattle.entry_words.specs.declared.entry.Entry.{Entry}
use Rattle.entry_words.specs.declared.entry.Note.{Note}
use Rattle.entry_words.specs.declared.entry.Note.TheVariants.{Began, Ended, Stopped}
use Rattle.entry_words.specs.declared.entry.Moment.{Moment}
use Rattle.program_forms.specs.declared.heard.Heard.{Heard}
use Rattle.entry_words.specs.declared.entry.Moment.TheVariants.{Act, Local}
use Rattle.passes.specs.declared.pass.Pass.{Pass}
use Rattle.passes.specs.Logged.{Logged}
use Rattle.passes.specs.Passes.{IsPass, IsPass-prop, aside, is_run_by}
use Rattle.passes.specs.Commits.{spare_of, begins}
use Rattle.store_rules.specs.ReplyBytes.{reply_bytes}
use Rattle.entry_words.specs.Moments.{trail_of, running_in, running_after, op_of, moment_cost}
use Rattle.passes.proofs.Pushes.{rises-raised, rises-push, all_of_actor-push, trail_of-act, trail_of-local}
use Rattle.passes.proofs.Pushes.{trail_of-len, all_notes_of-act, all_notes_of-note, steps_count-push}
use Rattle.passes.proofs.Pushes.{steps_count-len, all_reply_bytes-push, running_in-push}

-- passes with equal parts are the same
pub same_pass : (p q : Pass) → p.actor ≡ q.actor → p.clock ≡ q.clock → p.steps ≡ q.steps → p.bytes ≡ q.bytes
    → p.running ≡ q.running → p.moments ≡ q.moments → p ≡ q
same_pass p q a b c d e f =
    let T : Type 0 = ℕ × ℕ × ℕ × ℕ × Option OpId × Logged Moment in
    let F : T → Type 0 = λ t. IsPass t.0 t.1 t.2 t.3 t.4 t.5 in
    let to : (t : T) → F t → Pass = λ t f. record {
      actor = t.0;
      clock = t.1;
      steps = t.2;
      bytes = t.3;
      running = t.4;
      moments = t.5;
      known = f;
    } in
    let s : T = (p.actor, p.clock, p.steps, p.bytes, p.running, p.moments) in
    let t : T = (q.actor, q.clock, q.steps, q.bytes, q.running, q.moments) in
    let e : s ≡ t = cc in
    let here : (f : F t) → to t f ≡ q = λ f. ap (to t) (IsPass-prop q.actor q.clock q.steps q.bytes q.running q.moments f q.known) in
    subst (λ (u : T). (f : F u) → to u f ≡ q) (sym e) here p.known

-- a log that was given its items and its room again is the same
pub same_log : {X : Type 0} (h k : Logged X) (xs : List X) (n : ℕ)
    → (let l : Logged X = record { items = xs; spare = n } in h ≡ l) → xs ≡ k.items → n ≡ k.spare → h ≡ k
same_log {X} h k xs n e a b =
    let T : Type 0 = List X × ℕ in
    let to : T → Logged X = λ t. record { items = t.0; spare = t.1 } in
    let s : T = (xs, n) in
    let t : T = (k.items, k.spare) in
    let p : s ≡ t = cc in
    e ∙ ap to p

pub same_pass_by_spare : (p q : Pass) → p.actor ≡ q.actor → p.clock ≡ q.clock → p.steps ≡ q.steps → p.bytes ≡ q.bytes
    → p.running ≡ q.running
    → p.moments.items ≡ q.moments.items → spare_of p ≡ spare_of q → p ≡ q
same_pass_by_spare p q a b c d e f h =
    let r : aside p.running ≡ aside q.running = ap aside e in
    let n : p.moments.spare ≡ q.moments.spare = omega (arith, r, h, p.known.room, q.known.room) in
    same_pass p q a b c d e (same_log p.moments q.moments p.moments.items p.moments.spare refl f n)

pub aside-le : (running : Option OpId) → aside running ≤ 1
aside-le None = omega arith
aside-le (Some op) = omega arith

-- other room
pub IsPass-room : (actor clock steps bytes : ℕ) (running : Option OpId) (m n : Logged Moment) → IsPass actor clock steps bytes running m
    → n.items ≡ m.items → aside running ≤ n.spare → IsPass actor clock steps bytes running n
IsPass-room actor clock steps bytes running m n k same room = record {
  own = rw same k.own;
  rising = rw same k.rising;
  counted = rw same k.counted;
  weighed = rw same k.weighed;
  going = rw same k.going;
  runs_own = k.runs_own;
  notes_own = rw same k.notes_own;
  costs = rw same k.costs;
  few = rw same k.few;
  room = room;
  early = k.early;
}

pub IsPass-raised : (actor clock later steps bytes : ℕ) (running : Option OpId) (m : Logged Moment)
    → IsPass actor clock steps bytes running m
    → clock ≤ later → later + aside running < 2 ^ 64 → IsPass actor later steps bytes running m
IsPass-raised actor clock later steps bytes running m k le early = record {
  own = k.own;
  rising = rises-raised 0 clock later m.items k.rising le;
  counted = k.counted;
  weighed = k.weighed;
  going = k.going;
  runs_own = k.runs_own;
  notes_own = k.notes_own;
  costs = k.costs;
  few = k.few;
  room = k.room;
  early = early;
}

runs_after : (actor : ℕ) (running : Option OpId) (stamp by : ℕ) (note : Note) → (op_of note).actor ≡ actor
    → is_run_by actor (running_after running (Local stamp by note)) ≡ true
runs_after actor running stamp by (Began op command) own = grind (arith, nat_tests)
runs_after actor running stamp by (Ended op answer) own = refl
runs_after actor running stamp by (Stopped op) own = refl

pub IsPass-note : (actor clock steps bytes : ℕ) (running next : Option OpId) (m n : Logged Moment) (note : Note)
    → IsPass actor clock steps bytes running m
    → n.items ≡ m.items ++ Local (clock + 1) actor note ∷ []
    → next ≡ running_after running (Local (clock + 1) actor note) → (op_of note).actor ≡ actor
    → 1 + aside next ≡ aside running + moment_cost (Local (clock + 1) actor note)
    → length m.items + 1 + aside next ≤ 65536 → aside next ≤ n.spare → clock + 1 + aside next < 2 ^ 64
    → IsPass actor (clock + 1) steps bytes next n
IsPass-note actor clock steps bytes running next m n note k pushed goes owner cost few room early =
    let l : Moment = Local (clock + 1) actor note in
    let trail = trail_of-local m.items (clock + 1) actor note in
    record {
      own = rw pushed (all_of_actor-push actor m.items l k.own refl);
      rising = rw pushed (rises-push 0 clock m.items l k.rising (omega arith));
      counted = rw (pushed, trail) k.counted;
      weighed = rw (pushed, trail) k.weighed;
      going = goes ∙ ap (λ r. running_after r l) k.going ∙ sym (running_in-push None m.items l) ∙ ap (running_in None) (sym pushed);
      runs_own = ap (is_run_by actor) goes ∙ runs_after actor running (clock + 1) actor note owner;
      notes_own = rw pushed (all_notes_of-note actor m.items (clock + 1) actor note k.notes_own owner);
      costs = rw pushed (omega (arith, length-append m.items (l ∷ []), sum_by_push moment_cost m.items l, k.costs, cost));
      few = rw pushed (omega (arith, length-append m.items (l ∷ []), few));
      room = room;
      early = early;
    }

pub IsPass-act : (actor clock steps bytes : ℕ) (running : Option OpId) (m n : Logged Moment) (e : Entry) (heard : Heard) (more : ℕ)
    → IsPass actor clock steps bytes running m
    → n.items ≡ m.items ++ Act e heard ∷ []
    → e.actor ≡ actor → e.step ≡ steps → clock < e.stamp → more ≡ bytes + reply_bytes e.reply
    → length m.items + 1 + aside running ≤ 65536 → aside running ≤ n.spare → e.stamp + aside running < 2 ^ 64
    → IsPass actor e.stamp (steps + 1) more running n
IsPass-act actor clock steps bytes running m n e heard more k pushed own step later adds few room early =
    let trail = trail_of-act m.items e heard in
    record {
      own = rw pushed (all_of_actor-push actor m.items (Act e heard) k.own own);
      rising = rw pushed (rises-push 0 clock m.items (Act e heard) k.rising later);
      counted = rw (pushed, trail) (steps_count-push 0 steps (trail_of m.items) e k.counted step);
      weighed = rw (pushed, trail) (adds ∙ ap (λ b. b + reply_bytes e.reply) k.weighed ∙ sym (all_reply_bytes-push (trail_of m.items) e));
      going = k.going ∙ sym (running_in-push None m.items (Act e heard)) ∙ ap (running_in None) (sym pushed);
      runs_own = k.runs_own;
      notes_own = rw pushed (all_notes_of-act actor m.items e heard k.notes_own);
      costs = rw pushed (omega (arith, length-append m.items (Act e heard ∷ []), sum_by_push moment_cost m.items (Act e heard), k.costs));
      few = rw pushed (omega (arith, length-append m.items (Act e heard ∷ []), few));
      room = room;
      early = early;
    }

-- as many steps as moments at most
pub few_steps : (actor clock steps bytes : ℕ) (running : Option OpId) (m : Logged Moment)
    → IsPass actor clock steps bytes running m → steps ≤ 65536
few_steps actor clock steps bytes running m k =
    let a = steps_count-len 0 steps (trail_of m.items) k.counted in
    let b = trail_of-len m.items in
    omega (arith, a, b, k.few)

-- after the end of an op none is running
pub ends_none : (running : Option OpId) (stamp actor : ℕ) (note : Note) → begins note ≡ false
    → None ≡ running_after running (Local stamp actor note)
ends_none running stamp actor (Began op command) e = grind arith
ends_none running stamp actor (Ended op answer) e = refl
ends_none running stamp actor (Stopped op) e = refl

-- the end of an op takes the room that was put aside
pub ends_cost : (running : Option OpId) (op : OpId) (stamp actor : ℕ) (note : Note) → begins note ≡ false → running ≡ Some op
    → 1 + aside None ≡ aside running + moment_cost (Local stamp actor note)
ends_cost running op stamp actor (Began by command) e h = grind arith
ends_cost running op stamp actor (Ended by answer) e h = rw h refl
ends_cost running op stamp actor (Stopped by) e h = rw h refl

-- the op that is running is the actor's
pub run_by : (actor : ℕ) (running : Option OpId) (op : OpId) → is_run_by actor running ≡ true → running ≡ Some op → op.actor ≡ actor
run_by actor running op h e = let own = rw e at h in grind (arith, nat_tests, own)
