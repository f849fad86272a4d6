-- an op begins at most once
use Rattle.std.proofs.Common.{◌≡◌, ◌<◌, ◌≤◌, ℕ, Bool, true, false, if◌then◌else◌, Option, Some, None, List, [], ◌∷◌, refl, subst, arith}
use Rattle.tect_ids.specs.declared.ids.OpId.{OpId}
use Rattle.tect_ids.specs.declared.command.Command.{Command}
use Rattle.tect_ids.specs.Keys.{op_eq}
use Rattle.tect_ids.proofs.KeyTests.{op_eq_cases}
use Rattle.program_forms.specs.Kinds.{Programs}
use Rattle.world_runs.specs.declared.event.Event.{Event}
use Rattle.world_runs.specs.declared.event.Event.TheVariants.{Own, Dumped}
use Rattle.world_runs.specs.declared.event.Happening.TheVariants.{Began, NotBegun, Acted, Ended, Stopped, Failed}
use Rattle.world_runs.specs.Actors.{Actor, own_after}
use Rattle.world_runs.specs.Moments.{WorldState, May, RunFrom, after}
use Rattle.whole_runs.proofs.Actors.{changed_there}
use Rattle.whole_runs.proofs.Standings.{numbers_grow}
use Rattle.claim_words.specs.Headline.{begun_by, or_later, command_of}

module _ {S : Type 0} (P : Programs S) where
  pub begins_now : (m : WorldState S) (e : Event) (op : OpId) (c : Command) → May P m e → begun_by e op ≡ Some c
      → ((m.actors op.actor).number < op.number) × (op.number ≤ ((after P m e).actors op.actor).number)
  begins_now m (Own o (Began d)) op c may is = by (op_eq o op) refl is
    where
      by : (b : Bool) → op_eq o op ≡ b → (if b then Some d else None) ≡ Some c
          → ((m.actors op.actor).number < op.number) × (op.number ≤ ((after P m (Own o (Began d))).actors op.actor).number)
      by true e k =
          let same : o ≡ op = grind (arith, op_eq_cases o op) in
          subst (λ (z : OpId). ((m.actors z.actor).number < z.number)
          × (z.number ≤ ((after P m (Own o (Began d))).actors z.actor).number)) same (
            omega (arith, ((may.0).0).next),
            changed_there (λ (z : Actor S). o.number ≤ z.number) m.actors o.actor
                (own_after P m.counts (m.actors o.actor) o (Began d)) (omega arith),
          )
      by false e k = absurd (let z : None ≡ Some c = k in cc)
  begins_now m (Own o (NotBegun d)) op c may is = absurd (let z : None ≡ Some c = is in cc)
  begins_now m (Own o (Acted q x h)) op c may is = absurd (let z : None ≡ Some c = is in cc)
  begins_now m (Own o (Ended a)) op c may is = absurd (let z : None ≡ Some c = is in cc)
  begins_now m (Own o Stopped) op c may is = absurd (let z : None ≡ Some c = is in cc)
  begins_now m (Own o (Failed a)) op c may is = absurd (let z : None ≡ Some c = is in cc)
  begins_now m Dumped op c may is = absurd (let z : None ≡ Some c = is in cc)

  -- and none that its actor has come to begins later
  pub none_begins : (es : List Event) (m : WorldState S) (op : OpId) → RunFrom P m es → op.number ≤ (m.actors op.actor).number
      → command_of es op ≡ None
  none_begins [] m op run old = refl
  none_begins (e ∷ es) m op run old =
      by (begun_by e op) refl (none_begins es (after P m e) op run.1 (omega (arith, old, numbers_grow P m e run.0 op.actor)))
    where
      by : (o : Option Command) → begun_by e op ≡ o → command_of es op ≡ None → or_later o (command_of es op) ≡ None
      by None is later = later
      by (Some c) is later = absurd (omega (arith, old, (begins_now m e op c run.0 is).0))
