-- How the last transaction was heard changes nothing else of a pass.
use Rattle.std.proofs.Common.{◌≡◌, ℕ, ◌-◌, ◌&&◌, List, [], ◌∷◌, ◌++◌, length, Option, refl, ap, arith}
use Rattle.std.proofs.Common.{suc, None, ◌==◌, nat_lt, slice_set, slice_index_or}
use Rattle.std.proofs.lemmas.List.Sums.{sum_by-cons}
use Rattle.tect_ids.specs.declared.ids.OpId.{OpId}
use Rattle.entry_words.specs.declared.entry.Entry.{Entry}
use Rattle.entry_words.specs.declared.entry.Moment.{Moment}
use Rattle.entry_words.specs.declared.entry.Moment.TheVariants.{Act, Local}
use Rattle.program_forms.specs.declared.heard.Heard.{Heard}
use Rattle.entry_words.specs.Moments.{stamp_of, actor_of, op_of, trail_of, rises, all_of_actor, running_in, running_after}
use Rattle.entry_words.specs.Moments.{all_notes_of, moment_cost, moments_cost, heard_as, heard_last}
use Rattle.passes.specs.Logged.{Logged}
use Rattle.passes.specs.Passes.{IsPass}

-- the last of them is the one that was pushed
pub heard_last-push : (heard : Heard) (ms : List Moment) (m : Moment) → heard_last heard (ms ++ m ∷ []) ≡ ms ++ heard_as heard m ∷ []
heard_last-push heard [] m = refl
heard_last-push heard (x ∷ []) m = refl
heard_last-push heard (x ∷ y ∷ ms) m = ap (λ ns. x ∷ ns) (heard_last-push heard (y ∷ ms) m)

-- a transaction that was just done is heard otherwise
pub heard_last-act : (heard : Heard) (ms : List Moment) (e : Entry) (first : Heard)
    → heard_last heard (ms ++ Act e first ∷ []) ≡ ms ++ Act e heard ∷ []
heard_last-act heard ms e first = heard_last-push heard ms (Act e first)

pub trail_of-heard : (heard : Heard) (ms : List Moment) → trail_of (heard_last heard ms) ≡ trail_of ms
trail_of-heard heard [] = refl
trail_of-heard heard (Act e k ∷ []) = refl
trail_of-heard heard (Local s a n ∷ []) = refl
trail_of-heard heard (Act e k ∷ y ∷ ms) = ap (λ es. e ∷ es) (trail_of-heard heard (y ∷ ms))
trail_of-heard heard (Local s a n ∷ y ∷ ms) = trail_of-heard heard (y ∷ ms)

pub rises-heard : (heard : Heard) (low high : ℕ) (ms : List Moment) → rises low high (heard_last heard ms) ≡ rises low high ms
rises-heard heard low high [] = refl
rises-heard heard low high (Act e k ∷ []) = refl
rises-heard heard low high (Local s a n ∷ []) = refl
rises-heard heard low high (m ∷ y ∷ ms) = ap (λ b. nat_lt low (stamp_of m) && b) (rises-heard heard (stamp_of m) high (y ∷ ms))

pub all_of_actor-heard : (heard : Heard) (actor : ℕ) (ms : List Moment) → all_of_actor actor (heard_last heard ms) ≡ all_of_actor actor ms
all_of_actor-heard heard actor [] = refl
all_of_actor-heard heard actor (Act e k ∷ []) = refl
all_of_actor-heard heard actor (Local s a n ∷ []) = refl
all_of_actor-heard heard actor (m ∷ y ∷ ms) = ap (λ b. (actor_of m == actor) && b) (all_of_actor-heard heard actor (y ∷ ms))

pub all_notes_of-heard : (heard : Heard) (actor : ℕ) (ms : List Moment) → all_notes_of actor (heard_last heard ms) ≡ all_notes_of actor ms
all_notes_of-heard heard actor [] = refl
all_notes_of-heard heard actor (Act e k ∷ []) = refl
all_notes_of-heard heard actor (Local s a n ∷ []) = refl
all_notes_of-heard heard actor (Act e k ∷ y ∷ ms) = all_notes_of-heard heard actor (y ∷ ms)
all_notes_of-heard heard actor (Local s a n ∷ y ∷ ms) = ap (λ b. ((op_of n).actor == actor) && b) (all_notes_of-heard heard actor (y ∷ ms))

pub running_in-heard : (heard : Heard) (running : Option OpId) (ms : List Moment) → running_in running (heard_last heard ms)
    ≡ running_in running ms
running_in-heard heard running [] = refl
running_in-heard heard running (Act e k ∷ []) = refl
running_in-heard heard running (Local s a n ∷ []) = refl
running_in-heard heard running (m ∷ y ∷ ms) = running_in-heard heard (running_after running m) (y ∷ ms)

pub length-heard : (heard : Heard) (ms : List Moment) → length (heard_last heard ms) ≡ length ms
length-heard heard [] = refl
length-heard heard (m ∷ []) = refl
length-heard heard (m ∷ y ∷ ms) = ap suc (length-heard heard (y ∷ ms))

pub cost-heard : (heard : Heard) (ms : List Moment) → moments_cost (heard_last heard ms) ≡ moments_cost ms
cost-heard heard [] = refl
cost-heard heard (Act e k ∷ []) = refl
cost-heard heard (Local s a n ∷ []) = refl
cost-heard heard (m ∷ y ∷ ms) =
    let h = cost-heard heard (y ∷ ms) in
    omega (arith, sum_by-cons moment_cost m (heard_last heard (y ∷ ms)), sum_by-cons moment_cost m (y ∷ ms))

pub IsPass-heard : (heard : Heard) (actor clock steps bytes : ℕ) (running : Option OpId) (m n : Logged Moment)
    → IsPass actor clock steps bytes running m → n.items ≡ heard_last heard m.items → n.spare ≡ m.spare
    → IsPass actor clock steps bytes running n
IsPass-heard heard actor clock steps bytes running m n k items spare = record {
  own = rw (items, all_of_actor-heard heard actor m.items) k.own;
  rising = rw (items, rises-heard heard 0 clock m.items) k.rising;
  counted = rw (items, trail_of-heard heard m.items) k.counted;
  weighed = rw (items, trail_of-heard heard m.items) k.weighed;
  going = rw (items, running_in-heard heard None m.items) k.going;
  runs_own = k.runs_own;
  notes_own = rw (items, all_notes_of-heard heard actor m.items) k.notes_own;
  costs = rw (items, length-heard heard m.items, cost-heard heard m.items) k.costs;
  few = rw (items, length-heard heard m.items) k.few;
  room = rw spare k.room;
  early = k.early;
}

set_at : (heard : Heard) (m : Moment) (ms : List Moment) (d : Moment)
    → slice_set (m ∷ ms) (length ms) (heard_as heard (slice_index_or (m ∷ ms) (length ms) d)) ≡ heard_last heard (m ∷ ms)
set_at heard m [] d = refl
set_at heard m (y ∷ ms) d = ap (λ ns. m ∷ ns) (set_at heard y ms d)

-- a write at the last index
pub set_last : (heard : Heard) (ms : List Moment) (d : Moment)
    → slice_set ms (length ms - 1) (heard_as heard (slice_index_or ms (length ms - 1) d)) ≡ heard_last heard ms
set_last heard [] d = refl
set_last heard (m ∷ ms) d = let e : length (m ∷ ms) - 1 ≡ length ms = omega arith in rw e (set_at heard m ms d)

pub heard_none : (heard : Heard) (ms : List Moment) → length ms ≡ 0 → heard_last heard ms ≡ ms
heard_none heard [] none = refl
heard_none heard (m ∷ ms) none = absurd (omega (arith, none))
