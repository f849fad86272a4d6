-- commands that end at once: one list of events after another, and the fronts of one
use Rattle.std.proofs.Common.{◌≡◌, ℕ, true, false, if◌then◌else◌, List, [], ◌∷◌, ◌++◌, refl, ap, ◌∙◌, subst, eqb}
use Rattle.std.specs.List.{filter}
use Rattle.tect_ids.specs.declared.ids.Counts.{Counts}
use Rattle.tect_ids.specs.declared.ids.OpId.{OpId}
use Rattle.program_forms.specs.Kinds.{Programs}
use Rattle.world_runs.specs.declared.event.Event.{Event}
use Rattle.world_runs.specs.declared.event.Event.TheVariants.{Own, Dumped}
use Rattle.world_runs.specs.Actors.{Actor, idle_actor}
use Rattle.world_runs.specs.Moments.{WorldState, after, opening}
use Rattle.world_runs.specs.OwnRuns.{own_next, own_state}
use Rattle.world_runs.specs.Follows.{IsEndOf}
use Rattle.world_runs.specs.Races.{concerns, is_own}
use Rattle.world_runs.specs.Smooth.{EndIsNext, OwnIsPrompt, IsPrompt, EndsAtOnce, OwnEndsAtOnce}
use Rattle.world_runs.proofs.Actors.{one_number, same_number}
use Rattle.whole_runs.proofs.Actors.{after_actors, after_counts}
use Rattle.world_runs.proofs.Prompt.{own_prompt-behind}

pub ends_at_once-rest : {S : Type 0} (P : Programs S) (c : Counts) (s : Actor S) (es fs : List Event) → OwnEndsAtOnce P c s (es ++ fs)
    → OwnEndsAtOnce P c (own_state P c s es) fs
ends_at_once-rest P c s [] fs all = all
ends_at_once-rest P c s (e ∷ es) fs all = ends_at_once-rest P c (own_next P c s e) es fs all.1

-- ---- of the whole history, and of each actor's own

own_end : (a : ℕ) (op : OpId) (e : Event) (es fs : List Event) → op.actor ≡ a → IsEndOf op e
    → EndIsNext op (if concerns a e then e ∷ es else fs)
own_end a op (Own other h) es fs own end =
    let is : eqb other.actor a ≡ true = ap (λ (o : OpId). eqb o.actor a) end.0 ∙ ap (λ n. eqb n a) own ∙ same_number a in
    rw is end
own_end a op Dumped es fs own end = absurd end

own_end_next : (a : ℕ) (op : OpId) (es : List Event) → op.actor ≡ a → EndIsNext op es → EndIsNext op (filter (concerns a) es)
own_end_next a op [] own next = absurd next
own_end_next a op (e ∷ es) own next = own_end a op e (filter (concerns a) es) (filter (concerns a) es) own next

own_part : {S : Type 0} (P : Programs S) (m : WorldState S) (a : ℕ) (e : Event) (es : List Event) → IsPrompt P (after P m e) e es
    → OwnEndsAtOnce P m.counts (if is_own a e then own_next P m.counts (m.actors a) e else m.actors a) (filter (concerns a) es)
    → OwnEndsAtOnce P m.counts (m.actors a) (filter (concerns a) (e ∷ es))
own_part P m a (Own op h) es prompt rest =
    elim (eqb op.actor a) as
    (λ b. eqb op.actor a ≡ b → OwnEndsAtOnce P m.counts (if b then own_next P m.counts (m.actors a) (Own op h) else m.actors a)
    (filter (concerns a) es)
    → OwnEndsAtOnce P m.counts (m.actors a) (if b then Own op h ∷ filter (concerns a) es else filter (concerns a) es)) [
      | true ↦ λ is rest.
          let own : op.actor ≡ a = one_number op.actor a is in
          let same : (after P m (Own op h)).actors op.actor ≡ own_next P m.counts (m.actors op.actor) (Own op h) =
          after_actors P m (Own op h) op.actor ∙ ap
          (λ b. if b then own_next P m.counts (m.actors op.actor) (Own op h) else m.actors op.actor) (same_number op.actor) in
          let here : OwnIsPrompt P m.counts (own_next P m.counts (m.actors op.actor) (Own op h)) op h es =
          subst (λ s. OwnIsPrompt P m.counts s op h es) same prompt in
          let there : OwnIsPrompt P m.counts (own_next P m.counts (m.actors a) (Own op h)) op h es =
          subst (λ (n : ℕ). OwnIsPrompt P m.counts (own_next P m.counts (m.actors n) (Own op h)) op h es) own here in (
            own_prompt-behind P m.counts (own_next P m.counts (m.actors a) (Own op h)) op h es (filter (concerns a) es)
                (own_end_next a op es own) there,
            rest,
          )
      | false ↦ λ is rest. rest
    ] refl rest
own_part P m a Dumped es prompt rest = (tt, rest)

-- where each command of a history ends at once, so does each of one actor's own part of it
pub own_prompt_from : {S : Type 0} (P : Programs S) (m : WorldState S) (es : List Event) → EndsAtOnce P m es → (a : ℕ)
    → OwnEndsAtOnce P m.counts (m.actors a) (filter (concerns a) es)
own_prompt_from P m [] prompt a = tt
own_prompt_from P m (e ∷ es) prompt a = own_part P m a e es prompt.0
    (rw (after_counts P m e, after_actors P m e a) at (own_prompt_from P (after P m e) es prompt.1 a))

pub prompt_is_own_prompt : {S : Type 0} (P : Programs S) (counts : Counts) (history : List Event) → EndsAtOnce P (opening counts) history
    → (actor : ℕ) → OwnEndsAtOnce P counts idle_actor (filter (concerns actor) history)
prompt_is_own_prompt P counts history prompt actor = own_prompt_from P (opening counts) history prompt actor
