-- an actor's own events are no other's
use Rattle.std.proofs.Common.{◌≡◌, ◌≢◌, ℕ, ◌≤◌, Bool, true, false, if◌then◌else◌, List, [], ◌∷◌, ◌++◌, length, refl, sym, ap, ◌∙◌, arith}
use Rattle.world_runs.specs.declared.event.Event.{Event}
use Rattle.world_runs.specs.Races.{is_own}
use Rattle.world_runs.specs.Events.{own}
use Rattle.world_runs.proofs.Actors.{own-append, own-here}
use Rattle.whole_runs.proofs.Actors.{actor_of_own, own-there}
use Rattle.world_lives.specs.Order.{later_events}

own_few : (a : ℕ) (es : List Event) → length (own a es) ≤ length es
own_few a [] = omega arith
own_few a (e ∷ es) = by_own (is_own a e) (own_few a es)
  where
    by_own : (t : Bool) → length (own a es) ≤ length es → length (if t then e ∷ own a es else own a es) ≤ length (e ∷ es)
    by_own true le = omega (arith, le)
    by_own false le = omega (arith, le)

behind : (xs ys zs : List Event) → xs ++ ys ≡ xs ++ zs → ys ≡ zs
behind [] ys zs e = e
behind (x ∷ xs) ys zs e = behind xs ys zs (ap later_events e)

-- what comes behind an actor's own events is its own, where all is
pub own_behind : (a : ℕ) (es fs : List Event) → own a es ≡ es → own a (es ++ fs) ≡ es ++ fs → own a fs ≡ fs
own_behind a es fs front all = behind es (own a fs) fs
    (ap (λ (xs : List Event). xs ++ own a fs) (sym front) ∙ sym (own-append a es fs) ∙ all)

-- an event of one actor is no other's
other_by : (a b : ℕ) (e : Event) (t : Bool) → a ≢ b → is_own a e ≡ true → is_own b e ≡ t → t ≡ false
other_by a b e true apart here there = absurd (apart (sym (actor_of_own a e here) ∙ actor_of_own b e there))
other_by a b e false apart here there = refl

pub own_none : (a b : ℕ) (es : List Event) → a ≢ b → own a es ≡ es → own b es ≡ []
own_none a b [] apart all = refl
own_none a b (e ∷ es) apart all = by_own (own_none a b es apart) (is_own a e) refl
  where
    by_own : (own a es ≡ es → own b es ≡ []) → (t : Bool) → is_own a e ≡ t → own b (e ∷ es) ≡ []
    by_own behind_it true here =
        let rest : own a es ≡ es = ap later_events (sym (own-here a e es here) ∙ all) in
        own-there b e es (other_by a b e (is_own b e) apart here refl) ∙ behind_it rest
    by_own behind_it false there =
        let few = own_few a es in
        let is : own a es ≡ e ∷ es = sym (own-there a e es there) ∙ all in
        absurd (omega (arith, few, ap length is))
