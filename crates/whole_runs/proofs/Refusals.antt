-- events of refused ops: one list after another, more events before, and what they are none of
use Rattle.std.proofs.Common.{◌≡◌, ◌⊎◌, inl, inr, true, false, ◌||◌, List, [], ◌∷◌, ◌++◌, refl, sym, subst, append_assoc}
use Rattle.std.proofs.lemmas.List.{append-nil}
use Rattle.std.specs.List.{AllByRecursion}
use Rattle.tect_ids.specs.declared.ids.OpId.{OpId}
use Rattle.world_runs.specs.declared.event.Event.{Event}
use Rattle.world_runs.specs.declared.event.Event.TheVariants.{Own, Dumped}
use Rattle.world_runs.specs.declared.event.Happening.TheVariants.{Began, NotBegun, Acted, Ended, Stopped, Failed}
use Rattle.world_runs.specs.Refusals.{refuses, was_refused, IsOfRefused, AreOfRefused}
use Rattle.world_runs.proofs.Refusals.{AreRefusedIn, refused-rest}

pub refused-front : (es fs : List Event) → AreRefusedIn es (es ++ fs)
refused-front [] fs op is = absurd cc
refused-front (e ∷ es) fs op is =
    elim (refuses op e) as (λ b. (b || was_refused es op) ≡ true → (b || was_refused (es ++ fs) op) ≡ true)
    [ true ↦ λ k. refl | false ↦ λ k. refused-front es fs op k ] is

-- one list and another
pub refused-cases : (es fs : List Event) (op : OpId) → was_refused (es ++ fs) op ≡ true
    → (was_refused es op ≡ true) ⊎ (was_refused fs op ≡ true)
refused-cases [] fs op is = inr is
refused-cases (e ∷ es) fs op is =
    elim (refuses op e) as
    (λ b. (b || was_refused (es ++ fs) op) ≡ true → ((b || was_refused es op) ≡ true) ⊎ (was_refused fs op ≡ true))
    [ true ↦ λ k. inl refl | false ↦ λ k. refused-cases es fs op k ] is

pub refused_with : (es fs behind : List Event) → AreRefusedIn es fs → AreRefusedIn (es ++ behind) (fs ++ behind)
refused_with es fs behind all op is = elim (refused-cases es behind op is) [
  | inl k ↦ refused-front fs behind op (all op k)
  | inr k ↦ refused-rest fs behind op k
]

-- ---- more events before

pub is_of_refused-wider : (before wider : List Event) (e : Event) → AreRefusedIn before wider → IsOfRefused before e → IsOfRefused wider e
is_of_refused-wider before wider (Own op (NotBegun c)) all is = tt
is_of_refused-wider before wider (Own op (Ended a)) all is = all op is
is_of_refused-wider before wider (Own op Stopped) all is = all op is
is_of_refused-wider before wider (Own op (Failed a)) all is = all op is
is_of_refused-wider before wider (Own op (Began c)) all is = absurd is
is_of_refused-wider before wider (Own op (Acted q x h)) all is = absurd is
is_of_refused-wider before wider Dumped all is = absurd is

pub of_refused-wider : (before wider es : List Event) → AreRefusedIn before wider → AreOfRefused before es → AreOfRefused wider es
of_refused-wider before wider [] all are = tt
of_refused-wider before wider (e ∷ es) all are = (
  is_of_refused-wider before wider e all are.0,
  of_refused-wider (before ++ e ∷ []) (wider ++ e ∷ []) es (refused_with before wider (e ∷ []) all) are.1,
)

-- events put behind those before, and in front of them
pub of_refused_behind : (before more es : List Event) → AreOfRefused before es → AreOfRefused (before ++ more) es
of_refused_behind before more es are = of_refused-wider before (before ++ more) es (refused-front before more) are

-- ---- one list after another

pub of_refused-front : (before es fs : List Event) → AreOfRefused before (es ++ fs) → AreOfRefused before es
of_refused-front before [] fs all = tt
of_refused-front before (e ∷ es) fs all = (all.0, of_refused-front (before ++ e ∷ []) es fs all.1)

pub of_refused-rest : (before es fs : List Event) → AreOfRefused before (es ++ fs) → AreOfRefused (before ++ es) fs
of_refused-rest before [] fs all = subst (λ (bs : List Event). AreOfRefused bs fs) (sym (append-nil before)) all
of_refused-rest before (e ∷ es) fs all = rw append_assoc at (of_refused-rest (before ++ e ∷ []) es fs all.1)

-- ---- what they are none of

-- no transaction, no begin and no dump
abbrev pub IsQuiet : Event → Type 0
IsQuiet (Own op (NotBegun c)) = Unit {0}
IsQuiet (Own op (Ended a)) = Unit {0}
IsQuiet (Own op Stopped) = Unit {0}
IsQuiet (Own op (Failed a)) = Unit {0}
IsQuiet (Own op (Began c)) = ⊥
IsQuiet (Own op (Acted q x h)) = ⊥
IsQuiet Dumped = ⊥

abbrev pub AreQuiet : List Event → Type 0
AreQuiet = AllByRecursion IsQuiet

pub quiet_of_refused : (before : List Event) (e : Event) → IsOfRefused before e → IsQuiet e
quiet_of_refused before (Own op (NotBegun c)) is = tt
quiet_of_refused before (Own op (Ended a)) is = tt
quiet_of_refused before (Own op Stopped) is = tt
quiet_of_refused before (Own op (Failed a)) is = tt
quiet_of_refused before (Own op (Began c)) is = is
quiet_of_refused before (Own op (Acted q x h)) is = is
quiet_of_refused before Dumped is = is

pub all_quiet_of_refused : (before es : List Event) → AreOfRefused before es → AreQuiet es
all_quiet_of_refused before [] are = tt
all_quiet_of_refused before (e ∷ es) are =
    (quiet_of_refused before e are.0, all_quiet_of_refused (before ++ e ∷ []) es are.1)
