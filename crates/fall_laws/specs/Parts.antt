-- What is owed of a part of a command, so that a command made of parts takes few transactions.
use Rattle.std.specs.Prelude.{ℕ, ◌+◌, ◌≤◌, Option, Some, None, length}
use Rattle.tect_ids.specs.declared.ids.Counts.{Counts}
use Rattle.tect_ids.specs.declared.ids.DirId.{DirId}
use Rattle.tect_ids.specs.declared.ids.OpId.{OpId}
use Rattle.tect_ids.specs.declared.answer.Answer.{Answer}
use Rattle.tect_ids.specs.declared.command.Command.{Command}
use Rattle.store_rules.specs.declared.any.AnyReq.{AnyReq}
use Rattle.store_rules.specs.declared.any.AnyReply.{AnyReply}
use Rattle.tect_calls.specs.declared.tokens.Freed.{Freed}
use Rattle.program_forms.specs.Memories.{Memory}
use Rattle.program_parts.specs.declared.next.Next.{Next}
use Rattle.program_parts.specs.declared.next.Next.TheVariants.{Goes, Comes}
use Rattle.program_parts.specs.declared.releasing.Releasing.{Releasing}
use Rattle.program_parts.specs.declared.walking.Walking.{Walking}
use Rattle.program_parts.specs.declared.walking.Walking.TheVariants.{Way, There}
use Rattle.program_parts.specs.Parts.{Part}
use Rattle.fall_laws.specs.Counting.{is_look, is_no_look}
use Rattle.fall_laws.specs.Bounding.{Many, Bounding, AtMost, one_if, none}

-- How many transactions a part with states S takes: how many are to come at most in a state; what look-ups in the actor's memory add to
-- that, and what a reply adds.
pub record PartBounding (S : Type 0) : Type 0 where
  pub left : S → Many
  pub grown : Counts → Memory → OpId → S → Many
  pub grows : Counts → AnyReq → AnyReply → Many

-- one where neither look-ups nor replies add anything
abbrev pub never_grows : {S : Type 0} → (S → Many) → PartBounding S
never_grows left = record { left = left; grown = λ c m op s. none; grows = λ c q x. none }

abbrev pub plus : Many → Many → Many
plus a b = record { looks = a.looks + b.looks; others = a.others + b.others }

-- of what it has come to nothing is left
abbrev pub next_left : {S R : Type 0} → (S → Many) → Next S R → Many
next_left left (Goes s) = left s
next_left left (Comes r) = none

abbrev pub next_grown : {S R : Type 0} → (Counts → Memory → OpId → S → Many) → Counts → Memory → OpId → Next S R → Many
next_grown grown c m op (Goes s) = grown c m op s
next_grown grown c m op (Comes r) = none

-- a part as a kind of commands, with the most of each command as it begins
abbrev pub next_bounding : {S : Type 0} → PartBounding S → (Counts → Command → Option Many) → Bounding (Next S Answer)
next_bounding B most = record { left = next_left B.left; grown = next_grown B.grown; grows = B.grows; most = most }

-- that request and what is left after it are no more than what was left before it
pub record Takes (q : AnyReq) (after before : Many) : Type 0 where
  pub looks : one_if (is_look q) + after.looks ≤ before.looks
  pub others : one_if (is_no_look q) + after.others ≤ before.others

pub record PartFalls {S R : Type 0} (P : Part S R) (B : PartBounding S) : Type 0 where
  -- look-ups leave no more than was left, with what they add
  pub turns : (c : Counts) (m : Memory) (op : OpId) (s : S)
      → AtMost (next_left B.left (P.turns c m op s).state) (plus (B.left s) (B.grown c m op s))
  -- a transaction leaves one less, beside what its reply adds
  pub hears : (c : Counts) (m : Memory) (op : OpId) (s : S) (x : AnyReply)
      → Takes (P.asks c m op s) (next_left B.left (P.hears c m op s (P.asks c m op s) x)) (plus (B.left s) (B.grows c (P.asks c m op s) x))

-- ---- a walk before an operation that takes at most so many

-- a look for each name on the way, and what the operation takes
abbrev pub walk_left : {O S : Type 0} → (O → Many) → (S → Many) → Walking O S → Many
walk_left most left (Way d n ns o) = record { looks = 1 + length ns + (most o).looks; others = (most o).others }
walk_left most left (There s) = left s

abbrev pub walk_grown : {O S : Type 0} → (Counts → Memory → OpId → S → Many) → Counts → Memory → OpId → Walking O S → Many
walk_grown grown c m op (Way d n ns o) = none
walk_grown grown c m op (There s) = grown c m op s

abbrev pub walk_bounding : {O S : Type 0} → (O → Many) → PartBounding S → PartBounding (Walking O S)
walk_bounding most B = record { left = walk_left most B.left; grown = walk_grown B.grown; grows = B.grows }

-- as an operation begins, at most so many are left
abbrev pub BeginsAtMost : {O S : Type 0} → (O → DirId → S) → (S → Many) → (O → Many) → Type 0
BeginsAtMost {O = O} begins left most = (o : O) (d : DirId) → AtMost (left (begins o d)) (most o)

-- ---- the release

-- that of the first, and of the second if there is one
abbrev pub releases_left : Option Freed → ℕ
releases_left None = 1
releases_left (Some f) = 2

abbrev pub release_left : Releasing → Many
release_left r = record { looks = 0; others = releases_left r.second }
