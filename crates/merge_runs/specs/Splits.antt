-- What a disagreement of trails and histories names.
use Rattle.std.specs.Prelude.{◌≡◌, ◌≢◌, ℕ, ◌⊎◌, List, ◌∷◌, ◌++◌, Option, Some, None}
use Rattle.std.specs.List.{Contains, All}
use Rattle.place_kit.specs.declared.any.AnyKept.{AnyKept}
use Rattle.entry_words.specs.declared.entry.Entry.{Entry}
use Rattle.entry_words.specs.declared.entry.Moment.{Moment}
use Rattle.entry_words.specs.declared.entry.Moment.TheVariants.{Act, Local}
use Rattle.passes.specs.declared.pass.Pass.{Pass}
use Rattle.merge_runs.specs.declared.fault.GatherFault.{GatherFault}
use Rattle.merge_runs.specs.declared.fault.GatherFault.TheVariants.{NoMemory, Split}
use Rattle.merge_runs.specs.Merged.{trails, histories, entries_of}

-- the entry that the pass of that actor has at that step. There is none where the pass has none there, and where no
-- pass is of that actor
abbrev pub IsInPass : List Pass → ℕ → ℕ → Option Entry → Type 0
IsInPass ps actor step None = All (λ p. p.actor ≡ actor → All (λ e. e.step ≢ step) (entries_of p)) ps
IsInPass ps actor step (Some e) = (p : Pass) × Contains ps p × (p.actor ≡ actor) × Contains (entries_of p) e × (e.step ≡ step)

-- it names that actor and step, and is not the one of the pass
abbrev pub IsOther : ℕ → ℕ → Option Entry → Entry → Type 0
IsOther actor step in_pass e = (e.actor ≡ actor) × (e.step ≡ step) × (Some e ≢ in_pass)

-- the first entry of which P holds
abbrev pub IsFirst : (Entry → Type 0) → List Entry → Entry → Type 0
IsFirst P es e = (front : List Entry) × (back : List Entry) × (es ≡ front ++ e ∷ back) × P e × All (λ x. ¬ P x) front

-- the first other entry of the histories, in the order of places. Where there is none, the one of the pass if a history
-- has it, and else none
abbrev pub IsInPlace : List AnyKept → ℕ → ℕ → Option Entry → Option Entry → Type 0
IsInPlace ks actor step in_pass None = All (λ e. ¬ IsOther actor step in_pass e) (histories ks) × All (λ e. Some e ≢ in_pass) (histories ks)
IsInPlace ks actor step in_pass (Some e) =
    IsFirst (IsOther actor step in_pass) (histories ks) e
    ⊎ (All (λ x. ¬ IsOther actor step in_pass x) (histories ks) × (Some e ≡ in_pass) × Contains (histories ks) e)

pub record IsSplit (ks : List AnyKept) (ps : List Pass) (actor step : ℕ) (in_pass in_place : Option Entry) : Type 0 where
  pub passes : IsInPass ps actor step in_pass
  pub places : IsInPlace ks actor step in_pass in_place
  pub differ : in_pass ≢ in_place

abbrev pub IsFault : List AnyKept → List Pass → GatherFault → Type 0
IsFault ks ps NoMemory = Unit {0}
IsFault ks ps (Split actor step in_pass in_place) = IsSplit ks ps actor step in_pass in_place

-- the trails have the entry or the histories have it, and not both
abbrev pub IsApart : List AnyKept → List Pass → Entry → Type 0
IsApart ks ps e = (Contains (trails ps) e × (¬ Contains (histories ks) e)) ⊎ (Contains (histories ks) e × (¬ Contains (trails ps) e))

-- the moment is the transaction of that entry, however it was heard
abbrev pub IsActOf : Entry → Moment → Type 0
IsActOf e (Act x heard) = x ≡ e
IsActOf e (Local stamp actor note) = ⊥
