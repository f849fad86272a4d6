-- holds that were granted, and neither bound nor given up
use Rattle.std.proofs.Common.{◌≡◌, List, [], ◌∷◌, ◌++◌, Bool, true, false, ◌&&◌, take, Option, Some, None, refl, sym, subst, arith}
use Rattle.std.specs.List.{AllByRecursion}
use Rattle.tect_ids.specs.declared.ids.Hold.{Hold}
use Rattle.tect_ids.specs.declared.ids.OpId.{OpId}
use Rattle.tect_ids.specs.declared.answer.Answer.{Answer}
use Rattle.tect_ids.specs.Keys.{op_eq}
use Rattle.tect_ids.proofs.KeyTests.{keys}
use Rattle.store_rules.specs.declared.any.AnyReq.{AnyReq}
use Rattle.store_rules.specs.declared.any.AnyReply.{AnyReply}
use Rattle.store_rules.specs.Holds.{Grant, HoldUse, Grants, GrantsRow, Binds, GivesUp, NoHold, hold_use, granted_by, grant_of, spent_by, spends}
use Rattle.store_rules.specs.Store.{store_reply}
use Rattle.store_rules.specs.Views.{is_granted}
use Rattle.program_forms.specs.declared.heard.Heard.{Heard}
use Rattle.program_forms.specs.declared.heard.Heard.TheVariants as hearing
use Rattle.program_forms.specs.Appends.{command_bytes}
use Rattle.program_forms.specs.Kinds.{Programs, state_heard}
use Rattle.world_runs.specs.declared.event.Event.{Event}
use Rattle.world_runs.specs.declared.event.Event.TheVariants.{Own, Dumped}
use Rattle.world_runs.specs.declared.event.Happening.TheVariants.{Began, NotBegun, Acted, Ended, Stopped, Failed}
use Rattle.world_runs.specs.Actors.{Actor}
use Rattle.world_runs.specs.Moments.{WorldState, May, RunFrom, after, opening}
use Rattle.whole_runs.proofs.Fronts.{front_runs}
use Rattle.claim_words.specs.Granted.{op_spends, IsHeld}
use Rattle.store_pasts.specs.Worlds.{World, Ghost, Given, Live, next, opening_ghost}
use Rattle.store_pasts.specs.Pasts.{IsGranted}
use Rattle.store_world.specs.Sound.{Sound}
use Rattle.store_pasts.specs.Requests.{Needs, is_moved, touched_by}
use Rattle.store_pasts.proofs.Over.{settles_nothing}
use Rattle.store_world.proofs.Rows.{role_laws}
use Rattle.store_pasts.proofs.Sayings.{saying_later}
use Rattle.program_laws.specs.Known.{Deciding, Known}
use Rattle.program_laws.specs.Laws.{ProgramLaws, HoldLaws}
use Rattle.run_laws.specs.Pasts.{ghosts_after, ghost_after, world_of, world}
use Rattle.run_laws.specs.Known.{AllSound}
use Rattle.run_laws.specs.Laws.{EveryGrantedHoldIsListed}
use Rattle.run_laws.proofs.Turns.{IsAsked, asked_by_op}
use Rattle.run_laws.proofs.MomentsKeep.{u, kept, moved, meets, actor, runs, is_actor, after_reply, past_is, event_sound, opening_all_sound}
use Rattle.run_laws.proofs.RunsKeep.{run_world_sound}

-- ---- a request that grants a hold, and one that leaves it

-- it is granted once, so no request touches it but one that binds it
left_by : (u : HoldUse) (w : World) (h : Hold) (g : Given) → w.ghost.given h ≡ Some g
    → ((a : Grant) → granted_by u ≡ Some a → w.ghost.given a.hold ≡ None) → spent_by h u ≡ false → is_moved u h ≡ false
left_by (Grants a) w h g is new un = grind (arith, keys, new a refl)
left_by (GrantsRow a) w h g is new un = refl
left_by (Binds o) w h g is new un = grind (arith, keys)
left_by (GivesUp o) w h g is new un = refl
left_by NoHold w h g is new un = refl

leaves : (w : World) (h : Hold) (g : Given) → w.ghost.given h ≡ Some g → (q : AnyReq) → Needs w q → spends h q ≡ false
    → (touched_by q).hold h ≡ false
leaves w h g is q needs un = left_by (hold_use q) w h g is (λ a e. (role_laws q).new w a e needs) un

both_fail : (a b : Bool) → a ≡ true → (a && b) ≡ false → b ≡ false
both_fail true b is e = e
both_fail false b is e = absurd (let k : false ≡ true = is in cc)

-- what is asked for is touched
moved_by : (u : HoldUse) (g : Grant) → granted_by u ≡ Some g → is_moved u g.hold ≡ true
moved_by (Grants a) g e = let same : a ≡ g = cc in rw (← same) (grind (arith, keys))
moved_by (GrantsRow a) g e = absurd (let k : None ≡ Some g = e in cc)
moved_by (Binds o) g e = absurd (let k : None ≡ Some g = e in cc)
moved_by (GivesUp o) g e = absurd (let k : None ≡ Some g = e in cc)
moved_by NoHold g e = absurd (let k : None ≡ Some g = e in cc)

grant_touches : (q : AnyReq) (g : Grant) → grant_of q ≡ Some g → (touched_by q).hold g.hold ≡ true
grant_touches q g e = moved_by (hold_use q) g e

-- in a sound world a hold that may still be bound is bound nowhere, and listed
is_held : (w : World) → Sound w → (g : Grant) → IsGranted w g.hold g.node g.key → IsHeld w.store g
is_held w s g granted = record {
  bound_nowhere = λ k e is same. grind (arith, s.entries.bound k e is, granted);
  listed = λ stands. s.holds.live g.hold _ granted refl (grind arith);
}

none_by : {R : Type 0} (o : Option R) → ((r : R) → o ≡ Some r → ⊥) → o ≡ None
none_by None not = refl
none_by (Some r) not = absurd (not r refl)

module _ {S : Type 0} (P : Programs S) (D : Deciding S Answer) (N : Known S Answer) (laws : ProgramLaws P D N)
    (holds : HoldLaws P.kind D N) where
  -- ---- a running command's transaction
  module _ (m : WorldState S) (g : Ghost) (s : AllSound N m g) (op : OpId) (q : AnyReq) (st : S) (by : IsAsked P m op q st) where
    abbrev me : Actor S
    me = m.actors op.actor

    abbrev said : AnyReply
    said = store_reply m.store q

    -- the state where it goes on
    abbrev on : S
    on = state_heard P.kind m.counts me.memory op st q said

    -- the world once it heard the reply so
    abbrev then : Heard → World
    then heard = u P D N laws m g s op q st by heard

    -- where its state decides nothing by the reply, nothing is given up
    stays_by : (heard : Heard) → (D.decided st ≡ None → D.decided on ≡ None) → then heard ≡ next (world_of m g) q
    stays_by hearing.Whole none = settles_nothing (next (world_of m g) q) op (D.decided st) (D.decided on) none
    stays_by hearing.Unkept none = settles_nothing (next (world_of m g) q) op (D.decided st) (D.decided on) none
    stays_by hearing.Left none = settles_nothing (next (world_of m g) q) op (D.decided st) None (λ e. refl)

    module _ (h : Hold) (v : Given) (is : g.given h ≡ Some v) (live : v.phase ≡ Live) where
      -- its own hold is given up by no request but one that touches it
      decides_none : op_eq h.op op ≡ true → (touched_by q).hold h ≡ false → D.decided st ≡ None → D.decided on ≡ None
      decides_none own un none = none_by (D.decided on) (λ r e.
          let touched : (touched_by q).hold h ≡ true
          = (rw by.ask at (holds.spends m.counts (world_of m g) op me.memory st (actor P D N laws m g s op q st by).remembers
          (is_actor P D N laws m g s op q st by) (runs P D N laws m g s op q st by).at none)) r h v e (grind (arith, keys)) is live
          in grind (arith, un, touched))

      -- so it stays where no such request is made
      held_then : (heard : Heard) → (touched_by q).hold h ≡ false → (then heard).ghost.given h ≡ Some v
      held_then heard un =
          let here : (next (world_of m g) q).ghost.given h ≡ Some v = (kept P D N laws m g s op q st by).later.live h v un is live in
          elim (op_eq h.op op) as (λ b. op_eq h.op op ≡ b → (then heard).ghost.given h ≡ Some v) [
            | true ↦ λ e. subst (λ (x : World). x.ghost.given h ≡ Some v) (sym (stays_by heard (decides_none e un))) here
            | false ↦ λ e. (after_reply P D N laws m g s op q st by heard).live h v e here live
          ] refl

      untouched : (x : AnyReply) (heard : Heard) → op_spends h.op h (Own op (Acted q x heard)) ≡ false → (touched_by q).hold h ≡ false
      untouched x heard un =
          elim (op_eq h.op op) as (λ b. op_eq h.op op ≡ b → (touched_by q).hold h ≡ false) [
            | true ↦ λ e. leaves (world_of m g) h v is q (meets P D N laws m g s op q st by).needs
                (both_fail (op_eq op h.op) (spends h q) (grind (arith, keys)) un)
            | false ↦ λ e. (meets P D N laws m g s op q st by).own.hold h e
          ] refl

      pub held_act : (x : AnyReply) (heard : Heard) → x ≡ said → op_spends h.op h (Own op (Acted q x heard)) ≡ false
          → (ghost_after P D m g (Own op (Acted q x heard))).given h ≡ Some v
      held_act x heard e un =
          rw (e, past_is P D N laws m g s op q st by heard) (held_then heard (untouched x heard un))

    -- what it granted
    module _ (a : Grant) (asks : grant_of q ≡ Some a) (ok : is_granted said ≡ true) where
      -- the hold is the op's
      pub granted_own : a.hold.op ≡ op
      granted_own =
          elim (op_eq a.hold.op op) as (λ b. op_eq a.hold.op op ≡ b → a.hold.op ≡ op) [
            | true ↦ λ same. grind (arith, keys)
            | false ↦ λ other. absurd (grind (arith, (meets P D N laws m g s op q st by).own.hold a.hold other, grant_touches q a asks))
          ] refl

      grants_none : D.decided st ≡ None → D.decided on ≡ None
      grants_none none =
          (rw by.ask at (holds.grants m.counts (world_of m g) op me.memory st (actor P D N laws m g s op q st by).remembers
          (is_actor P D N laws m g s op q st by) (runs P D N laws m g s op q st by).at none)) (moved P D N laws m g s op q st by) a.hold
          ((role_laws q).new (world_of m g) a asks (meets P D N laws m g s op q st by).needs) (grant_touches q a asks) ok

      granted_then : (heard : Heard) → IsGranted (then heard) a.hold a.node a.key
      granted_then heard =
          subst (λ (x : World). IsGranted x a.hold a.node a.key) (sym (stays_by heard grants_none))
          ((role_laws q).granted (next (world_of m g) q) said a asks ok (kept P D N laws m g s op q st by).taught)

      pub granted_act : (heard : Heard)
          → (ghost_after P D m g (Own op (Acted q said heard))).given a.hold ≡ Some record { lower = a.node; upper = a.key; phase = Live }
      granted_act heard = rw (past_is P D N laws m g s op q st by heard) (granted_then heard)

  -- ---- along a run
  held_step : (m : WorldState S) (g : Ghost) → AllSound N m g → (h : Hold) (v : Given) → g.given h ≡ Some v → v.phase ≡ Live
      → (e : Event) → May P m e → op_spends h.op h e ≡ false → (ghost_after P D m g e).given h ≡ Some v
  held_step m g s h v is live (Own op (Acted q x heard)) may un =
      let by : (st : S) × IsAsked P m op q st = asked_by_op P m op q may.0 in
      held_act m g s op q by.0 by.1 h v is live x heard may.1 un
  held_step m g s h v is live (Own op (Began c)) may un = (saying_later (world_of m g) op (command_bytes c)).live h v refl is live
  held_step m g s h v is live (Own op (NotBegun c)) may un = is
  held_step m g s h v is live (Own op (Ended a)) may un = is
  held_step m g s h v is live (Own op Stopped) may un = is
  held_step m g s h v is live (Own op (Failed a)) may un = is
  held_step m g s h v is live Dumped may un = is

  held_on : (es : List Event) (m : WorldState S) (g : Ghost) → AllSound N m g → RunFrom P m es → (h : Hold) (v : Given)
      → g.given h ≡ Some v → v.phase ≡ Live → AllByRecursion (λ e. op_spends h.op h e ≡ false) es
      → (ghosts_after P D m g es).given h ≡ Some v
  held_on [] m g s run h v is live un = is
  held_on (Own op e ∷ es) m g s run h v is live un =
      held_on es (after P m (Own op e)) (ghost_after P D m g (Own op e)) (event_sound P D N laws m g (Own op e) s run.0) run.1 h v
      (held_step m g s h v is live (Own op e) run.0 un.0) live un.1
  held_on (Dumped ∷ es) m g s run h v is live un = held_on es m g s run.1 h v is live un.1

  module _ (op : OpId) (a : Grant) (q : AnyReq) (x : AnyReply) (heard : Heard) (rest : List Event) (asks : grant_of q ≡ Some a)
      (ok : is_granted x ≡ true) (un : AllByRecursion (λ e. op_spends op a.hold e ≡ false) rest) where
    -- as it is granted, so it stays
    abbrev now : Given
    now = record { lower = a.node; upper = a.key; phase = Live }

    granted_at : (m : WorldState S) (g : Ghost) → AllSound N m g → (st : S) → IsAsked P m op q st → x ≡ store_reply m.store q
        → (a.hold.op ≡ op) × ((ghost_after P D m g (Own op (Acted q x heard))).given a.hold ≡ Some now)
    granted_at m g s st by e = (
      granted_own m g s op q st by a asks (rw (← e) ok),
      rw e (granted_act m g s op q st by a asks (rw (← e) ok) heard),
    )

    held_after : (before : List Event) (m : WorldState S) (g : Ghost) → AllSound N m g
        → RunFrom P m (before ++ Own op (Acted q x heard) ∷ rest)
        → (ghosts_after P D m g (before ++ Own op (Acted q x heard) ∷ rest)).given a.hold ≡ Some now
    held_after [] m g s run =
        let by : (st : S) × IsAsked P m op q st = asked_by_op P m op q run.0.0 in
        let first : (a.hold.op ≡ op) × ((ghost_after P D m g (Own op (Acted q x heard))).given a.hold ≡ Some now)
        = granted_at m g s by.0 by.1 run.0.1 in
        held_on rest (after P m (Own op (Acted q x heard))) (ghost_after P D m g (Own op (Acted q x heard)))
        (event_sound P D N laws m g (Own op (Acted q x heard)) s run.0) run.1 a.hold now first.1 refl
        (subst (λ (o : OpId). AllByRecursion (λ e. op_spends o a.hold e ≡ false) rest) (sym first.0) un)
    held_after (Own o e ∷ es) m g s run =
        held_after es (after P m (Own o e)) (ghost_after P D m g (Own o e)) (event_sound P D N laws m g (Own o e) s run.0) run.1
    held_after (Dumped ∷ es) m g s run = held_after es m g s run.1

  pub granted_at_each_moment : EveryGrantedHoldIsListed P
  granted_at_each_moment counts events run n op a has =
      let front : RunFrom P (opening counts) (take n events) = front_runs P n events (opening counts) run in
      let parts : RunFrom P (opening counts) (has.before ++ Own op (Acted has.req has.reply has.heard) ∷ has.rest)
      = subst (λ (es : List Event). RunFrom P (opening counts) es) has.there front in
      let stays : IsGranted (world P D counts (has.before ++ Own op (Acted has.req has.reply has.heard) ∷ has.rest)) a.hold a.node a.key
      = held_after op a has.req has.reply has.heard has.rest has.asked has.granted has.kept has.before (opening counts) opening_ghost
      (opening_all_sound N counts) parts in
      is_held (world P D counts (take n events)) (run_world_sound P D N laws counts (take n events) front) a (rw has.there stays)
