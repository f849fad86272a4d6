-- What is owed of programs so that each of their commands takes few transactions, and that it does so in all their runs.
use Rattle.std.specs.Prelude.{◌≡◌, ℕ, ◌+◌, ◌≤◌, Bool, cond, if◌then◌else◌, Option, Some, None, List, [], ◌∷◌}
use Rattle.tect_ids.specs.declared.ids.Counts.{Counts}
use Rattle.tect_ids.specs.declared.ids.OpId.{OpId}
use Rattle.tect_ids.specs.declared.command.Command.{Command}
use Rattle.tect_ids.specs.Keys.{op_eq}
use Rattle.store_rules.specs.declared.any.AnyReq.{AnyReq}
use Rattle.store_rules.specs.declared.any.AnyReply.{AnyReply}
use Rattle.program_forms.specs.declared.standing.Standing.{Standing}
use Rattle.program_forms.specs.declared.standing.Standing.TheVariants.{Goes, Left, NoRoom}
use Rattle.program_forms.specs.Memories.{Memory}
use Rattle.program_forms.specs.Kinds.{Asks, Programs, next_does, state_heard}
use Rattle.world_runs.specs.declared.event.Event.{Event}
use Rattle.world_runs.specs.declared.event.Event.TheVariants.{Own, Dumped}
use Rattle.world_runs.specs.declared.event.Happening.{Happening}
use Rattle.world_runs.specs.declared.event.Happening.TheVariants.{Began, NotBegun, Acted, Ended, Stopped, Failed}
use Rattle.world_runs.specs.Actors.{Actor, Running}
use Rattle.world_runs.specs.Moments.{WorldState, opening, after, IsWorldRun}
use Rattle.claim_words.specs.Headline.{command_of}
use Rattle.fall_laws.specs.Counting.{is_look, is_no_look, looks_of, others_of}

-- how many transactions: looks, and others
pub record Many : Type 0 where
  pub looks : ℕ
  pub others : ℕ

-- How many transactions commands with states S take: how many are to come at most in a state; what look-ups in the actor's memory add to
-- that, and what a reply adds, as a listing may; and the most of a command as it begins, if any is claimed.
pub record Bounding (S : Type 0) : Type 0 where
  pub left : S → Many
  pub grown : Counts → Memory → OpId → S → Many
  pub grows : Counts → AnyReq → AnyReply → Many
  pub most : Counts → Command → Option Many

-- 1 where it is so
abbrev pub one_if : Bool → ℕ
one_if b = cond b 1 0

-- one transaction leaves one less than was left before it, its look-ups and its reply counted
pub record Falls {S : Type 0} (P : Programs S) (B : Bounding S) (counts : Counts) (m : Memory) (op : OpId) (s : S) (q : AnyReq)
    (x : AnyReply)
    : Type 0 where
  pub looks : one_if (is_look q) + (B.left (state_heard P.kind counts m op s q x)).looks
      ≤ (B.left s).looks + (B.grown counts m op s).looks + (B.grows counts q x).looks
  pub others : one_if (is_no_look q) + (B.left (state_heard P.kind counts m op s q x)).others
      ≤ (B.left s).others + (B.grown counts m op s).others + (B.grows counts q x).others

-- no more is left than that
pub record AtMost (left most : Many) : Type 0 where
  pub looks : left.looks ≤ most.looks
  pub others : left.others ≤ most.others

-- What is owed of programs.
pub record FallLaws {S : Type 0} (P : Programs S) (B : Bounding S) : Type 0 where
  pub falls : (counts : Counts) (m : Memory) (op : OpId) (s : S) (q : AnyReq) (x : AnyReply) → next_does P.kind counts m op s ≡ Asks q
      → Falls P B counts m op s q x
  pub most : (counts : Counts) (m : Memory) (c : Command) (n : Many) → B.most counts c ≡ Some n → AtMost (B.left (P.starts counts m c)) n

-- ---- what look-ups and replies add in a history

abbrev pub standing_grows : {S : Type 0} → (Counts → Memory → OpId → S → ℕ) → (Counts → AnyReq → AnyReply → ℕ)
    → Counts → Memory → OpId → AnyReq → AnyReply → Standing S → ℕ
standing_grows look reply counts m op q x (Goes s) = look counts m op s + reply counts q x
standing_grows look reply counts m op q x Left = 0
standing_grows look reply counts m op q x NoRoom = 0

abbrev pub running_grows : {S : Type 0} → (Counts → Memory → OpId → S → ℕ) → (Counts → AnyReq → AnyReply → ℕ)
    → Counts → Memory → AnyReq → AnyReply → Option (Running S) → ℕ
running_grows look reply counts m q x None = 0
running_grows look reply counts m q x (Some r) = standing_grows look reply counts m r.op q x r.at

abbrev pub act_grows : {S : Type 0} → (Counts → Memory → OpId → S → ℕ) → (Counts → AnyReq → AnyReply → ℕ)
    → Counts → Actor S → Happening → ℕ
act_grows look reply counts s (Acted q x h) = running_grows look reply counts s.memory q x s.running
act_grows look reply counts s (Began c) = 0
act_grows look reply counts s (NotBegun c) = 0
act_grows look reply counts s (Ended a) = 0
act_grows look reply counts s Stopped = 0
act_grows look reply counts s (Failed a) = 0

-- what the op's own transaction adds to what is left for it
abbrev pub event_grows : {S : Type 0} → (Counts → Memory → OpId → S → ℕ) → (Counts → AnyReq → AnyReply → ℕ)
    → WorldState S → OpId → Event → ℕ
event_grows look reply m op (Own other h) = if op_eq other op then act_grows look reply m.counts (m.actors other.actor) h else 0
event_grows look reply m op Dumped = 0

-- so do the events of a history together, from that moment on
abbrev pub history_grows : {S : Type 0} → Programs S → (Counts → Memory → OpId → S → ℕ) → (Counts → AnyReq → AnyReply → ℕ)
    → WorldState S → OpId → List Event → ℕ
history_grows P look reply m op [] = 0
history_grows P look reply m op (e ∷ es) = event_grows look reply m op e + history_grows P look reply (after P m e) op es

-- what was added to an op's looks, and to its other transactions
abbrev pub added : {S : Type 0} → Programs S → Bounding S → Counts → List Event → OpId → Many
added P B counts history op = record {
  looks = history_grows P (λ c m o s. (B.grown c m o s).looks) (λ c q x. (B.grows c q x).looks) (opening counts) op history;
  others = history_grows P (λ c m o s. (B.grown c m o s).others) (λ c q x. (B.grows c q x).others) (opening counts) op history;
}

-- the op took no more transactions than that
pub record TakesAtMost (history : List Event) (op : OpId) (most more : Many) : Type 0 where
  pub looks : looks_of history op ≤ most.looks + more.looks
  pub others : others_of history op ≤ most.others + more.others

abbrev pub none : Many
none = record { looks = 0; others = 0 }

-- In each run each op takes no more transactions than its command's most, with what was added; one that began no command has none of its
-- own.
pub record RunsAreShort {S : Type 0} (P : Programs S) (B : Bounding S) : Type 0 where
  pub begun : (counts : Counts) (es : List Event) → IsWorldRun P counts es → (op : OpId) (c : Command) (n : Many)
      → command_of es op ≡ Some c
      → B.most counts c ≡ Some n → TakesAtMost es op n (added P B counts es op)
  pub idle : (counts : Counts) (es : List Event) → IsWorldRun P counts es → (op : OpId) → command_of es op ≡ None
      → TakesAtMost es op none (added P B counts es op)
