-- each command of a run is short
use Rattle.std.proofs.Common.{◌≡◌, ◌≤◌, ◌+◌, ℕ, Bool, true, false, not, ◌&&◌, if◌then◌else◌, Option, Some, None, List, [], ◌∷◌, refl}
use Rattle.std.proofs.Common.{arith, ap}
use Rattle.std.proofs.lemmas.List.Sums.{sum_by-cons}
use Rattle.tect_ids.specs.declared.ids.Counts.{Counts}
use Rattle.tect_ids.specs.declared.ids.OpId.{OpId}
use Rattle.tect_ids.specs.declared.command.Command.{Command}
use Rattle.tect_ids.specs.declared.command.Command.TheVariants as commands
use Rattle.tect_ids.specs.Keys.{op_eq}
use Rattle.store_rules.specs.declared.any.AnyReq.{AnyReq}
use Rattle.store_rules.specs.declared.any.AnyReply.{AnyReply}
use Rattle.program_forms.specs.declared.standing.Standing.{Standing}
use Rattle.program_forms.specs.declared.standing.Standing.TheVariants.{Goes, Left, NoRoom}
use Rattle.program_forms.specs.Memories.{Memory}
use Rattle.program_rules.specs.Served.{Program, programs}
use Rattle.world_runs.specs.declared.event.Event.{Event}
use Rattle.world_runs.specs.declared.event.Event.TheVariants.{Own, Dumped}
use Rattle.world_runs.specs.declared.event.Happening.{Happening}
use Rattle.world_runs.specs.declared.event.Happening.TheVariants.{Began, NotBegun, Acted, Ended, Stopped, Failed}
use Rattle.world_runs.specs.Actors.{Running}
use Rattle.world_runs.specs.Moments.{WorldState, opening, after, IsWorldRun}
use Rattle.world_runs.specs.Report.{is_act_of, transactions}
use Rattle.claim_words.specs.Bounds.{most_others, lists}
use Rattle.claim_words.specs.Headline.{command_of}
use Rattle.claim_words.specs.Points.{most_looks}
use Rattle.fall_laws.specs.Counting.{is_look, is_no_look, is_look_of, is_other_of, looks_of, others_of}
use Rattle.fall_laws.specs.Bounding.{one_if, Many, none, added, TakesAtMost, RunsAreShort, standing_grows, running_grows, event_grows}
use Rattle.fall_laws.specs.Bounding.{history_grows}
use Rattle.fall_laws.proofs.RunsFall.{taken_more, nothing_grows, runs_are_short}
use Rattle.fall_laws.proofs.Stays.{nothing_added, idle_added}
use Rattle.names_told.specs.NamesTelling.{names_bounding, reading_bounding, reads_block}
use Rattle.names_told.proofs.Falls.{names_fall_so, reading_falls_so, names_never_grow}
use Rattle.run_claims.specs.Bounds.{IsShort, lists_by, listed_in, read_adds}
use Rattle.run_claims.proofs.NoReads.{is_no_read, reads_none, starts_none, stays_none, adds_none}

-- ---- looks, and other transactions

and_false : (b : Bool) → (b && false) ≡ false
and_false true = refl
and_false false = refl

-- the count of transactions with one event more
transactions_more : (op : OpId) (e : Event) (es : List Event) → transactions (e ∷ es) op ≡ one_if (is_act_of op e) + transactions es op
transactions_more op e es = sum_by-cons (λ x. one_if (is_act_of op x)) e es

-- a transaction is a look or another
one_of_both : (a b : Bool) → one_if (a && true) ≡ one_if (a && b) + one_if (a && not b)
one_of_both true true = refl
one_of_both true false = refl
one_of_both false b = refl

-- the same of an event
pub event_splits : (e : Event) (op : OpId) → one_if (is_act_of op e) ≡ one_if (is_look_of op e) + one_if (is_other_of op e)
event_splits (Own other h) op = act_splits h
  where
    none : (b : Bool) → one_if (b && false) ≡ one_if (b && false) + one_if (b && false)
    none b = rw (and_false b) refl

    act_splits : (g : Happening)
        → one_if (is_act_of op (Own other g)) ≡ one_if (is_look_of op (Own other g)) + one_if (is_other_of op (Own other g))
    act_splits (Acted q x how) = one_of_both (op_eq other op) (is_look q)
    act_splits (Began c) = none (op_eq other op)
    act_splits (NotBegun c) = none (op_eq other op)
    act_splits (Ended a) = none (op_eq other op)
    act_splits Stopped = none (op_eq other op)
    act_splits (Failed a) = none (op_eq other op)
event_splits Dumped op = refl

-- the same of a history
transactions_split : (es : List Event) (op : OpId) → transactions es op ≡ looks_of es op + others_of es op
transactions_split [] op = refl
transactions_split (e ∷ es) op = omega
    (arith, transactions_more op e es, taken_more is_look op e es, taken_more is_no_look op e es, event_splits e op, transactions_split es op)

-- ---- what is added

short_so : RunsAreShort programs names_bounding
short_so = runs_are_short Program programs names_bounding names_fall_so

listed_so : RunsAreShort programs reading_bounding
listed_so = runs_are_short Program programs reading_bounding reading_falls_so

-- look-ups add nothing
no_looks : (c : Counts) (m : Memory) (op : OpId) (p : Program) → (names_bounding.grown c m op p).looks ≡ 0
no_looks c m op p = ap (λ (n : Many). n.looks) (names_never_grow c m op p)

no_others : (c : Counts) (m : Memory) (op : OpId) (p : Program) → (names_bounding.grown c m op p).others ≡ 0
no_others c m op p = ap (λ (n : Many). n.others) (names_never_grow c m op p)

no_looks_added : (counts : Counts) (history : List Event) (op : OpId) → (added programs names_bounding counts history op).looks ≡ 0
no_looks_added counts history op =
    nothing_grows Program programs (λ k m o p. (names_bounding.grown k m o p).looks) (λ k q x. 0) no_looks (λ k q x. refl) history
    (opening counts) op

module _ (counts : Counts) (history : List Event) (run : IsWorldRun programs counts history) (op : OpId) where
  -- nor do readings of a command that is no read
  no_others_added : (c : Command) → command_of history op ≡ Some c → is_no_read c ≡ true
      → (added programs names_bounding counts history op).others ≡ 0
  no_others_added c began is =
      nothing_added Program programs reads_none (λ k m o p. (names_bounding.grown k m o p).others) (λ k q x. one_if (reads_block q))
      no_others stays_none adds_none counts history run op c began (λ m. starts_none counts m c is)

  -- nor is anything added where no command began
  idle_adds : command_of history op ≡ None → (added programs names_bounding counts history op).others ≡ 0
  idle_adds idle =
      idle_added Program programs reads_none (λ k m o p. (names_bounding.grown k m o p).others) (λ k q x. one_if (reads_block q))
      no_others stays_none adds_none counts history run op idle

-- ---- what a read adds is no more than was listed

abbrev grown_others : Counts → Memory → OpId → Program → ℕ
grown_others c m op p = (reading_bounding.grown c m op p).others

abbrev listed_others : Counts → AnyReq → AnyReply → ℕ
listed_others c q x = lists x

stands_listed : (c : Counts) (m : Memory) (op : OpId) (q : AnyReq) (x : AnyReply) (at : Standing Program)
    → standing_grows grown_others listed_others c m op q x at ≤ lists x
stands_listed c m op q x (Goes p) = omega (arith, no_others c m op p)
stands_listed c m op q x Left = omega arith
stands_listed c m op q x NoRoom = omega arith

runs_listed : (c : Counts) (m : Memory) (q : AnyReq) (x : AnyReply) (r : Option (Running Program))
    → running_grows grown_others listed_others c m q x r ≤ lists x
runs_listed c m q x None = omega arith
runs_listed c m q x (Some r) = stands_listed c m r.op q x r.at

if_listed : (b : Bool) (n k : ℕ) → n ≤ k → (if b then n else 0) ≤ (if b then k else 0)
if_listed true n k less = less
if_listed false n k less = omega arith

none_listed : (b : Bool) → (if b then 0 else 0) ≤ 0
none_listed true = omega arith
none_listed false = omega arith

event_listed : (m : WorldState Program) (e : Event) (op : OpId) → event_grows grown_others listed_others m op e ≤ lists_by e op
event_listed m (Own o (Acted q x how)) op =
    if_listed (op_eq o op) _ _ (runs_listed m.counts (m.actors o.actor).memory q x (m.actors o.actor).running)
event_listed m (Own o (Began c)) op = none_listed (op_eq o op)
event_listed m (Own o (NotBegun c)) op = none_listed (op_eq o op)
event_listed m (Own o (Ended a)) op = none_listed (op_eq o op)
event_listed m (Own o Stopped) op = none_listed (op_eq o op)
event_listed m (Own o (Failed a)) op = none_listed (op_eq o op)
event_listed m Dumped op = omega arith

all_listed : (es : List Event) (m : WorldState Program) (op : OpId)
    → history_grows programs grown_others listed_others m op es ≤ listed_in es op
all_listed [] m op = omega arith
all_listed (e ∷ es) m op = omega (arith, event_listed m e op, all_listed es (after programs m e) op)

-- ---- the law

module _ (counts : Counts) (history : List Event) (run : IsWorldRun programs counts history) (op : OpId) where
  looks_few : (c : Command) → command_of history op ≡ Some c → looks_of history op ≤ most_looks c
  looks_few c began =
      let t : TakesAtMost history op record { looks = most_looks c; others = most_others counts c } (added programs names_bounding counts history op) =
      short_so.begun counts history run op c _ began refl in
      omega (arith, t.looks, no_looks_added counts history op)

  others_few : (c : Command) → command_of history op ≡ Some c → others_of history op ≤ most_others counts c + read_adds history op c
  others_few (commands.Read p) began =
      omega (arith, (listed_so.begun counts history run op (commands.Read p) _ began refl).others, all_listed history (opening counts) op)
  others_few c began = omega
      (arith, (short_so.begun counts history run op c _ began refl).others, no_others_added counts history run op c began refl)

-- each command of a run is short
pub each_is_short : (counts : Counts) (history : List Event) → IsWorldRun programs counts history → (op : OpId) (c : Command)
    → command_of history op ≡ Some c → IsShort counts history op c
each_is_short counts history run op c began =
    let looks : looks_of history op ≤ most_looks c = looks_few counts history run op c began in
    let others : others_of history op ≤ most_others counts c + read_adds history op c = others_few counts history run op c began in
    record { looks = looks; others = others; all = omega (arith, transactions_split history op, looks, others) }

-- an op that began no command has no transaction
pub idle_has_none : (counts : Counts) (history : List Event) → IsWorldRun programs counts history → (op : OpId)
    → command_of history op ≡ None
    → transactions history op ≡ 0
idle_has_none counts history run op idle =
    let t : TakesAtMost history op none (added programs names_bounding counts history op) = short_so.idle counts history run op idle in
    omega (arith, transactions_split history op, t.looks, t.others, no_looks_added counts history op, idle_adds counts history run op idle)
