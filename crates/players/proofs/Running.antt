-- In an actor's own run what runs is its last op.
use Rattle.std.proofs.Common.{◌≡◌, ℕ, Bool, true, false, eqb, if◌then◌else◌, Option, Some, None, List, [], ◌∷◌, length, ◌≤◌, refl}
use Rattle.std.proofs.Common.{sym, ap, ◌∙◌, arith}
use Rattle.std.specs.List.{filter}
use Rattle.std.specs.Option.{ForSome}
use Rattle.tect_ids.specs.declared.ids.Counts.{Counts}
use Rattle.tect_ids.specs.declared.ids.OpId.{OpId}
use Rattle.store_rules.specs.declared.any.AnyReq.{AnyReq}
use Rattle.store_rules.specs.declared.any.AnyReply.{AnyReply}
use Rattle.program_forms.specs.declared.heard.Heard.{Heard}
use Rattle.program_forms.specs.declared.standing.Standing.{Standing}
use Rattle.program_forms.specs.declared.standing.Standing.TheVariants.{Goes, NoRoom}
use Rattle.program_forms.specs.Kinds.{Programs}
use Rattle.world_runs.specs.declared.event.Event.{Event}
use Rattle.world_runs.specs.declared.event.Event.TheVariants.{Own, Dumped}
use Rattle.world_runs.specs.declared.event.Happening.{Happening}
use Rattle.world_runs.specs.declared.event.Happening.TheVariants.{Began, NotBegun, Acted, Ended, Stopped, Failed}
use Rattle.world_runs.specs.Actors.{Actor, Running, went_on, ended}
use Rattle.world_runs.specs.Races.{is_own}
use Rattle.world_runs.specs.Events.{own}
use Rattle.world_runs.specs.OwnRuns.{own_next, own_state}
use Rattle.world_runs.proofs.Actors.{one_number}

-- each event of these is the actor's own
abbrev pub AllOwn : ℕ → List Event → Type 0
AllOwn a [] = Unit {0}
AllOwn a (e ∷ es) = (is_own a e ≡ true) × AllOwn a es

filter_short : (p : Event → Bool) (es : List Event) → length (filter p es) ≤ length es
filter_short p [] = omega arith
filter_short p (e ∷ es) =
    let rest = filter_short p es in
    elim (p e) as (λ b. length (if b then e ∷ filter p es else filter p es) ≤ length (e ∷ es)) [ true ↦ omega arith | false ↦ omega arith ]

kept_all : (p : Event → Bool) (e : Event) (es : List Event) (b : Bool) → p e ≡ b → (if b then e ∷ filter p es else filter p es) ≡ e ∷ es
    → (p e ≡ true) × (filter p es ≡ es)
kept_all p e es true is all = (is, cc)
kept_all p e es false is all = absurd (omega (arith, filter_short p es, ap length all))

pub all_own : (a : ℕ) (es : List Event) → own a es ≡ es → AllOwn a es
all_own a [] is = tt
all_own a (e ∷ es) is = (let k = kept_all (is_own a) e es (is_own a e) refl is in (k.0, all_own a es k.1))

-- what runs is the actor's last op
abbrev pub RunsLast : {S : Type 0} → ℕ → Actor S → Type 0
RunsLast a s = ForSome s.running (λ r. (r.op.actor ≡ a) × (r.op.number ≡ s.number))

some_running : {S : Type 0} (p r : Running S) → Some p ≡ Some r → p ≡ r
some_running p r is = cc

begins_last : {S : Type 0} (a : ℕ) (s : Actor S) (op : OpId) (at : Standing S) → eqb op.actor a ≡ true
    → RunsLast a (record s { number = op.number; running = Some record { op = op; at = at } })
begins_last a s op at mine p is =
    let same : op ≡ p.op = ap (λ (r : Running _). r.op) (some_running _ p is) in
    (ap (λ (o : OpId). o.actor) (sym same) ∙ one_number op.actor a mine, ap (λ (o : OpId). o.number) (sym same))

went_last : {S : Type 0} (P : Programs S) (counts : Counts) (a : ℕ) (s : Actor S) (q : AnyReq) (x : AnyReply) (h : Heard)
    (o : Option (Running S)) → s.running ≡ o → RunsLast a s → RunsLast a (went_on P counts s o q x h)
went_last P counts a s q x h None none last p is = last p is
went_last P counts a s q x h (Some r) some last p is =
    let same : r.op ≡ p.op = ap (λ (z : Running _). z.op) (some_running _ p is) in
    let own = last r some in
    (ap (λ (o : OpId). o.actor) (sym same) ∙ own.0, ap (λ (o : OpId). o.number) (sym same) ∙ own.1)

ended_last : {S : Type 0} (P : Programs S) (counts : Counts) (a : ℕ) (s : Actor S) (o : Option (Running S)) → s.running ≡ o
    → RunsLast a (ended P counts s o)
ended_last P counts a s None none p is = (let bad : None ≡ Some p = sym none ∙ is in absurd cc)
ended_last P counts a s (Some r) some p is = absurd cc

happens_last : {S : Type 0} (P : Programs S) (counts : Counts) (a : ℕ) (s : Actor S) (op : OpId) (h : Happening) → eqb op.actor a ≡ true
    → RunsLast a s → RunsLast a (own_next P counts s (Own op h))
happens_last P counts a s op (Began c) mine last p is = begins_last a s op (Goes (P.starts counts s.memory c)) mine p is
happens_last P counts a s op (NotBegun c) mine last p is = begins_last a s op NoRoom mine p is
happens_last P counts a s op (Acted q x h) mine last p is = went_last P counts a s q x h s.running refl last p is
happens_last P counts a s op (Ended x) mine last p is = ended_last P counts a s s.running refl p is
happens_last P counts a s op Stopped mine last p is = absurd cc
happens_last P counts a s op (Failed x) mine last p is = ended_last P counts a s s.running refl p is

event_last : {S : Type 0} (P : Programs S) (counts : Counts) (a : ℕ) (s : Actor S) (e : Event) → is_own a e ≡ true → RunsLast a s
    → RunsLast a (own_next P counts s e)
event_last P counts a s (Own op h) mine last = happens_last P counts a s op h mine last
event_last P counts a s Dumped mine last = last

pub runs_last : {S : Type 0} (P : Programs S) (counts : Counts) (a : ℕ) (s : Actor S) (es : List Event) → AllOwn a es → RunsLast a s
    → RunsLast a (own_state P counts s es)
runs_last P counts a s [] mine last = last
runs_last P counts a s (e ∷ es) mine last = runs_last P counts a (own_next P counts s e) es mine.1 (event_last P counts a s e mine.0 last)
