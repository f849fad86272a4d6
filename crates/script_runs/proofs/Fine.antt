-- events that may happen, keep the limits of their actors' own histories, and find memory
use Rattle.std.proofs.Common.{◌≡◌, List, [], ◌∷◌, ◌++◌, sym, subst, append_assoc}
use Rattle.std.proofs.lemmas.List.{append-nil}
use Rattle.tect_ids.specs.declared.ids.Counts.{Counts}
use Rattle.program_forms.specs.Kinds.{Programs}
use Rattle.world_runs.specs.declared.event.Event.{Event}
use Rattle.world_runs.specs.Moments.{WorldState, May, opening, after, after_all, RunFrom, moment, IsWorldRun}
use Rattle.world_runs.specs.Limits.{KeepsRoom, KeepsLimits, KeepsLimitsAfter, actor_in}
use Rattle.world_runs.specs.Follows.{FindsMemory, AllFindMemory}
use Rattle.whole_runs.proofs.Actors.{moment-append}
use Rattle.whole_runs.proofs.Owns.{counts_stay}

module _ {S : Type 0} (P : Programs S) where
  -- the event may happen at the moment, finds the room that these events before it leave, and finds memory
  pub record IsFine (before : List Event) (m : WorldState S) (e : Event) : Type 0 where
    pub may : May P m e
    pub room : KeepsRoom P m.counts before (m.actors (actor_in e)) e
    pub memory : FindsMemory e

  abbrev pub AreFine : List Event → WorldState S → List Event → Type 0
  AreFine before m [] = Unit {0}
  AreFine before m (e ∷ es) = IsFine before m e × AreFine (before ++ e ∷ []) (after P m e) es

  pub fine_run : (before : List Event) (m : WorldState S) (es : List Event) → AreFine before m es → RunFrom P m es
  fine_run before m [] fine = tt
  fine_run before m (e ∷ es) fine = ((fine.0).may, fine_run (before ++ e ∷ []) (after P m e) es fine.1)

  pub fine-front : (before : List Event) (m : WorldState S) (es fs : List Event) → AreFine before m (es ++ fs) → AreFine before m es
  fine-front before m [] fs fine = tt
  fine-front before m (e ∷ es) fs fine = (fine.0, fine-front (before ++ e ∷ []) (after P m e) es fs fine.1)

  pub fine-rest : (before : List Event) (m : WorldState S) (es fs : List Event) → AreFine before m (es ++ fs)
      → AreFine (before ++ es) (after_all P m es) fs
  fine-rest before m [] fs fine = subst (λ (l : List Event). AreFine l m fs) (sym (append-nil before)) fine
  fine-rest before m (e ∷ es) fs fine =
      let k : WorldState S = after P m e in
      subst (λ (l : List Event). AreFine l (after_all P k es) fs) (append_assoc before (e ∷ []) es)
      (fine-rest (before ++ e ∷ []) k es fs fine.1)

  fine_after : (counts : Counts) (before es : List Event) → RunFrom P (moment P counts before) es → KeepsLimitsAfter P counts before es
      → AllFindMemory es → AreFine before (moment P counts before) es
  fine_after counts before [] run limits all = tt
  fine_after counts before (e ∷ es) run limits all =
      let m : WorldState S = moment P counts before in
      let same : m.counts ≡ counts = counts_stay P (opening counts) before in
      let next : moment P counts (before ++ e ∷ []) ≡ after P m e = moment-append P counts before (e ∷ []) in
      let on : RunFrom P (moment P counts (before ++ e ∷ [])) es = subst (λ (z : WorldState S). RunFrom P z es) (sym next) run.1 in (
        record {
          may = run.0;
          room = subst (λ (c : Counts). KeepsRoom P c before (m.actors (actor_in e)) e) (sym same) limits.0;
          memory = all.0;
        },
        subst (λ (z : WorldState S). AreFine (before ++ e ∷ []) z es) next (fine_after counts (before ++ e ∷ []) es on limits.1 all.1),
      )

  -- so are those of a run of the world within its limits, in which no memory is wanting
  pub run_is_fine : (counts : Counts) (history : List Event) → IsWorldRun P counts history → KeepsLimits P counts history
      → AllFindMemory history → AreFine [] (opening counts) history
  run_is_fine counts history run limits all = fine_after counts [] history run limits all
