-- what a client's lines ask for concerns that client alone; and the dumps alone follow the lines of an actor that is no client
use Rattle.std.proofs.Common.{◌≡◌, ◌≢◌, ◌⊎◌, inl, inr, ℕ, ◌<◌, ◌≤◌, true, Option, Some, None, List, [], ◌∷◌, ◌++◌, length, refl, sym, ap}
use Rattle.std.proofs.Common.{◌∙◌, subst, eqb, map, arith}
use Rattle.std.proofs.lemmas.List.Sums.{length-filter}
use Rattle.std.specs.List.{AllByRecursion, filter, count_by}
use Rattle.tect_ids.specs.declared.ids.OpId.{OpId}
use Rattle.tect_ids.specs.declared.command.Command.{Command}
use Rattle.tect_ids.specs.declared.script.Act.{Act}
use Rattle.tect_ids.specs.declared.script.Act.TheVariants as acts
use Rattle.tect_ids.specs.declared.script.Line.{Line}
use Rattle.tect_ids.specs.declared.script.Line.TheVariants as lines
use Rattle.world_runs.specs.declared.event.Event.{Event}
use Rattle.world_runs.specs.declared.event.Event.TheVariants.{Own, Dumped}
use Rattle.world_runs.specs.declared.event.Happening.TheVariants.{Stopped}
use Rattle.world_runs.specs.Races.{concerns, line_concerns}
use Rattle.world_runs.specs.Follows.{Acts, IsEndOf, RunsToEnd, IsBeginOf, DoesLine}
use Rattle.whole_runs.specs.ClientLines.{DoesLines}
use Rattle.world_runs.proofs.Actors.{same_number}
use Rattle.whole_runs.proofs.Actors.{other_number}
use Rattle.race_runs.specs.Gathered.{IsLineOf, is_dump}
use Rattle.race_runs.proofs.Lists.{every-append}
use Rattle.race_runs.proofs.Owned.{AllConcern}

abbrev pub BusyIsOf : ℕ → Option OpId → Type 0
BusyIsOf actor None = Unit {0}
BusyIsOf actor (Some op) = op.actor ≡ actor

concern-append : (a : ℕ) (es fs : List Event) → AllConcern a es → AllConcern a fs → AllConcern a (es ++ fs)
concern-append a es fs h k = every-append (λ e. concerns a e ≡ true) es fs h k

same_events : (a : ℕ) (es fs : List Event) → es ≡ fs → AllConcern a fs → AllConcern a es
same_events a es fs e h = subst (λ (gs : List Event). AllConcern a gs) (sym e) h

is_theirs : (a : ℕ) (other op : OpId) → other ≡ op → op.actor ≡ a → eqb other.actor a ≡ true
is_theirs a other op h k = ap (λ (o : OpId). eqb o.actor a) h ∙ ap (λ n. eqb n a) k ∙ same_number a

acts_concern : (a : ℕ) (op : OpId) (n : ℕ) (es : List Event) → op.actor ≡ a → Acts op n es → AllConcern a es
acts_concern a op n [] k h = tt
acts_concern a op n (Own other what ∷ es) k h = (is_theirs a other op h.0.0 k, acts_concern a op h.1.0 es k h.1.2)
acts_concern a op n (Dumped ∷ es) k h = absurd h.0

end_concerns : (a : ℕ) (op : OpId) (e : Event) → op.actor ≡ a → IsEndOf op e → concerns a e ≡ true
end_concerns a op (Own other what) k h = is_theirs a other op h.0 k
end_concerns a op Dumped k h = absurd h

begin_concerns : (a : ℕ) (op : OpId) (c : Command) (e : Event) → op.actor ≡ a → IsBeginOf op c e → concerns a e ≡ true
begin_concerns a op c (Own other what) k h = is_theirs a other op h.0 k
begin_concerns a op c Dumped k h = absurd h

-- transactions of the op, and then its end
ends_concern : (a : ℕ) (op : OpId) (n : ℕ) (front : List Event) (end : Event) (es : List Event) → op.actor ≡ a → es ≡ front ++ end ∷ []
    → Acts op n front → IsEndOf op end → AllConcern a es
ends_concern a op n front end es k is acts ends =
    same_events a es (front ++ end ∷ []) is
    (concern-append a front (end ∷ []) (acts_concern a op n front k acts) (end_concerns a op end k ends, tt))

runs_concern : (a : ℕ) (op : OpId) (es : List Event) → op.actor ≡ a → RunsToEnd op es → AllConcern a es
runs_concern a op es k (n, (front, end, is, acts, ends)) = ends_concern a op n front end es k is acts ends

none_concern : (a : ℕ) (es : List Event) → es ≡ [] → AllConcern a es
none_concern a es e = same_events a es [] e tt

next_is_of : (a : ℕ) (o next : Option OpId) → next ≡ o → BusyIsOf a o → BusyIsOf a next
next_is_of a o next e h = subst (λ (p : Option OpId). BusyIsOf a p) (sym e) h

line_concern : (a : ℕ) (busy : Option OpId) (act : Act) (es : List Event) (next : Option OpId) → BusyIsOf a busy
    → DoesLine a busy act es next
    → AllConcern a es × BusyIsOf a next
line_concern a None (acts.Do c) es next k ((op, begin, rest, own, is, begins, runs), last) = (
  same_events a es (begin ∷ rest) is (begin_concerns a op c begin own begins, runs_concern a op rest own runs),
  next_is_of a
      None next last tt,
)
line_concern a None (acts.Begin c) es next k (op, begin, own, is, begins, last) =
    (same_events a es (begin ∷ []) is (begin_concerns a op c begin own begins, tt), next_is_of a (Some op) next last own)
line_concern a None (acts.Step n) es next k h = (none_concern a es h.0, next_is_of a None next h.1 tt)
line_concern a None acts.Run es next k h = (none_concern a es h.0, next_is_of a None next h.1 tt)
line_concern a None acts.Stop es next k h = (none_concern a es h.0, next_is_of a None next h.1 tt)
line_concern a (Some op) (acts.Do c) es next k h = absurd h
line_concern a (Some op) (acts.Begin c) es next k h = absurd h
line_concern a (Some op) (acts.Step n) es next k h =
    elim h [
      | inl s ↦ (acts_concern a op n es k s.0, next_is_of a (Some op) next s.1 k)
      | inr s ↦ (ends_concern a op s.0.0 s.0.1 s.0.2 es k s.0.3 s.0.4 s.0.5, next_is_of a None next s.1 tt)
    ]
line_concern a (Some op) acts.Run es next k h = (runs_concern a op es k h.0, next_is_of a None next h.1 tt)
line_concern a (Some op) acts.Stop es next k h =
    (same_events a es (Own op Stopped ∷ []) h.0 (is_theirs a op op refl k, tt), next_is_of a None next h.1 tt)

pub lines_concern : (a : ℕ) (busy : Option OpId) (ls : List Line) (es : List Event) (next : Option OpId) → BusyIsOf a busy
    → DoesLines a busy ls es next
    → AllConcern a es
lines_concern a busy [] es next k h = none_concern a es h.0
lines_concern a busy (lines.Client client other act ∷ ls) es next k (part, rest, then, own, is, does, others) =
    let here : AllConcern a part × BusyIsOf a then = line_concern a busy act part then k does in
    same_events a es (part ++ rest) is (concern-append a part rest here.0 (lines_concern a then ls rest next here.1 others))
lines_concern a busy (lines.Dump ∷ ls) es next k (rest, is, others) = same_events a es (Dumped ∷ rest) is
    (refl, lines_concern a busy ls rest next k others)
lines_concern a busy (lines.Store counts ∷ ls) es next k h = absurd h
lines_concern a busy (lines.Sweep ∷ ls) es next k h = absurd h
lines_concern a busy (lines.Lose disk ∷ ls) es next k h = absurd h

-- ---- an actor that is no client

abbrev pub dumps_at : List ℕ → List Event
dumps_at clocks = map (λ k. Dumped) clocks

no_client : (n a b : ℕ) → (b ≡ 0) ⊎ (n < b) → (1 ≤ a) × (a ≤ n) → a ≢ b
no_client n a b out in_range e = elim out [ inl h ↦ omega arith | inr h ↦ omega arith ]

dumps_do : (n b : ℕ) (ls : List Line) (clocks : List ℕ) → (b ≡ 0) ⊎ (n < b) → AllByRecursion (IsLineOf n) ls
    → length (filter is_dump ls) ≡ length clocks
    → DoesLines b None (filter (line_concerns b) ls) (dumps_at clocks) None
dumps_do n b [] [] out h e = (refl, refl)
dumps_do n b [] (k ∷ ks) out h e = absurd (omega arith)
dumps_do n b (lines.Client client actor act ∷ ls) clocks out h e = rw (other_number actor b (no_client n actor b out h.0))
    (dumps_do n b ls clocks out h.1 e)
dumps_do n b (lines.Dump ∷ ls) [] out h e = absurd (omega arith)
dumps_do n b (lines.Dump ∷ ls) (k ∷ ks) out h e = (dumps_at ks, refl, dumps_do n b ls ks out h.1 (omega arith))
dumps_do n b (lines.Store counts ∷ ls) clocks out h e = absurd h.0
dumps_do n b (lines.Sweep ∷ ls) clocks out h e = absurd h.0
dumps_do n b (lines.Lose disk ∷ ls) clocks out h e = absurd h.0

pub dumps_follow : (n b : ℕ) (ls : List Line) (clocks : List ℕ) → (b ≡ 0) ⊎ (n < b) → AllByRecursion (IsLineOf n) ls
    → count_by is_dump ls ≡ length clocks
    → DoesLines b None (filter (line_concerns b) ls) (dumps_at clocks) None
dumps_follow n b ls clocks out h e = dumps_do n b ls clocks out h (length-filter is_dump ls ∙ e)
