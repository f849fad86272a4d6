-- events after which each op that has come to its answer has ended
use Rattle.std.proofs.Common.{◌≡◌, ◌≤◌, ◌+◌, ℕ, zero, suc, true, false, Option, Some, None, List, [], ◌∷◌, ◌++◌, refl, sym, subst}
use Rattle.std.proofs.Common.{arith, take}
use Rattle.tect_ids.specs.declared.ids.Counts.{Counts}
use Rattle.tect_ids.specs.declared.ids.OpId.{OpId}
use Rattle.tect_ids.specs.declared.command.Command.{Command}
use Rattle.tect_ids.specs.declared.answer.Answer.{Answer}
use Rattle.store_rules.specs.declared.any.AnyReq.{AnyReq}
use Rattle.program_forms.specs.declared.standing.Standing.{Standing}
use Rattle.program_forms.specs.declared.standing.Standing.TheVariants.{Goes, Left, NoRoom}
use Rattle.program_forms.specs.Memories.{Memory}
use Rattle.program_forms.specs.Kinds.{Does, Asks, Says, asked_by, Programs, turned_by, next_does}
use Rattle.world_runs.specs.declared.event.Event.{Event}
use Rattle.world_runs.specs.declared.event.Event.TheVariants.{Own, Dumped}
use Rattle.world_runs.specs.declared.event.Happening.TheVariants.{Began, NotBegun, Acted, Ended, Stopped, Failed}
use Rattle.world_runs.specs.Actors.{Running, is_said, standing_does, standing_ended, has_ended, asked_in, answer_in, program_ask}
use Rattle.world_runs.specs.Moments.{WorldState, May, after, after_all, RunFrom, running, does, asked, answered}
use Rattle.world_runs.specs.Follows.{Acts, IsActOf, IsEndOf, IsBeginOf}
use Rattle.world_runs.specs.Smooth.{EndIsNext, IsPrompt, EndsAtOnce}
use Rattle.world_runs.proofs.Prompt.{end_next-append}
use Rattle.script_runs.specs.InTime.{only_ends}
use Rattle.script_runs.proofs.Histories.{IsActed, act_is}

-- ---- who asks has no answer

does_not_both : (o : Option (Does Answer)) (q : AnyReq) (a : Answer) → asked_in o ≡ Some q → answer_in o ≡ Some a → ⊥
does_not_both None q a asks says = let k : None ≡ Some q = asks in cc
does_not_both (Some (Asks p)) q a asks says = let k : None ≡ Some a = says in cc
does_not_both (Some (Says b)) q a asks says = let k : None ≡ Some q = asks in cc

module _ {S : Type 0} (P : Programs S) where
  pub not_both : (m : WorldState S) (op : OpId) (q : AnyReq) (a : Answer) → asked P m op ≡ Some q → answered P m op ≡ Some a → ⊥
  not_both m op q a asks says = does_not_both (does P m op) q a asks says

  -- a state that says its answer looks nothing up
  said_next : (c : Counts) (m : Memory) (op : OpId) (s : S) (d : Does Answer) → P.kind.does c m op s ≡ d → is_said d ≡ true
      → next_does P.kind c m op s ≡ d
  said_next c m op s (Asks q) is said = absurd (let k : false ≡ true = said in cc)
  said_next c m op s (Says a) is said =
      subst
      (λ (d : Does Answer).
      P.kind.does c (turned_by d m s (P.kind.turns c m op s)).memory op (turned_by d m s (P.kind.turns c m op s)).state ≡ Says a)
      (sym is) is

  said_no_ask : (d : Does Answer) (q : AnyReq) → is_said d ≡ true → asked_by d ≡ Some q → ⊥
  said_no_ask (Asks p) q said asks = let k : false ≡ true = said in cc
  said_no_ask (Says a) q said asks = let k : None ≡ Some q = asks in cc

  standing_no_ask : (c : Counts) (m : Memory) (op : OpId) (at : Standing S) (q : AnyReq) → standing_ended P c m op at ≡ true
      → asked_in (standing_does P c m op at) ≡ Some q → ⊥
  standing_no_ask c m op (Goes s) q ended asks =
      said_no_ask (P.kind.does c m op s) q ended
      (subst (λ (d : Does Answer). asked_by d ≡ Some q) (said_next c m op s (P.kind.does c m op s) refl ended) asks)
  standing_no_ask c m op Left q ended asks = let k : None ≡ Some q = asks in cc
  standing_no_ask c m op NoRoom q ended asks = let k : None ≡ Some q = asks in cc

  ended_no_ask : (c : Counts) (m : Memory) (r : Option (Running S)) (q : AnyReq) → has_ended P c m r ≡ true → program_ask P c m r ≡ Some q
      → ⊥
  ended_no_ask c m None q ended asks = let k : false ≡ true = ended in cc
  ended_no_ask c m (Some r) q ended asks = standing_no_ask c m r.op r.at q ended asks

  -- an op for which nothing is left but its end asks nothing
  pub only_ends_no_ask : (m : WorldState S) (op : OpId) (q : AnyReq) → only_ends P m op ≡ true → asked P m op ≡ Some q → ⊥
  only_ends_no_ask m op q ended asks = ended_no_ask m.counts (m.actors op.actor).memory (running m op) q ended asks

  acted_asks : (m : WorldState S) (op : OpId) (e : Event) → (a : IsActed op e) → May P m e → asked P m op ≡ Some a.req
  acted_asks m op e a may =
      let here : May P m (Own op (Acted a.req a.reply a.heard)) = subst (λ (z : Event). May P m z) a.is may in here.0

  -- nor does a transaction of it come next
  pub only_ends_no_act : (m : WorldState S) (op : OpId) (e : Event) → only_ends P m op ≡ true → IsActOf op e → May P m e → ⊥
  only_ends_no_act m op e ended act may =
      let a : IsActed op e = act_is op e act in only_ends_no_ask m op a.req ended (acted_asks m op e a may)

  pub acts_not_ended : (m : WorldState S) (op : OpId) (n : ℕ) (es more : List Event) → 1 ≤ n → Acts op n es
      → RunFrom P m (es ++ more) → only_ends P m op ≡ true → ⊥
  acts_not_ended m op n [] more some acts run ended = omega (arith, some, acts)
  acts_not_ended m op n (e ∷ es) more some acts run ended = only_ends_no_act m op e ended acts.0 run.0

  -- ---- more events

  -- whatever comes behind an event, it is prompt where an end that came next does still
  prompt_by : (m : WorldState S) (e : Event) (es fs : List Event) → ((op : OpId) → EndIsNext op es → EndIsNext op fs) → IsPrompt P m e es
      → IsPrompt P m e fs
  prompt_by m (Own op (Acted q x h)) es fs still prompt = λ ended. still op (prompt ended)
  prompt_by m (Own op (Began c)) es fs still prompt = tt
  prompt_by m (Own op (NotBegun c)) es fs still prompt = tt
  prompt_by m (Own op (Ended a)) es fs still prompt = tt
  prompt_by m (Own op Stopped) es fs still prompt = tt
  prompt_by m (Own op (Failed a)) es fs still prompt = tt
  prompt_by m Dumped es fs still prompt = tt

  pub at_once-append : (m : WorldState S) (es fs : List Event) → EndsAtOnce P m es → EndsAtOnce P (after_all P m es) fs
      → EndsAtOnce P m (es ++ fs)
  at_once-append m [] fs first then = then
  at_once-append m (e ∷ es) fs first then =
      (prompt_by (after P m e) e es (es ++ fs) (λ op. end_next-append op es fs) first.0, at_once-append (after P m e) es fs first.1 then)

  pub at_once-rest : (m : WorldState S) (es fs : List Event) → EndsAtOnce P m (es ++ fs) → EndsAtOnce P (after_all P m es) fs
  at_once-rest m [] fs all = all
  at_once-rest m (e ∷ es) fs all = at_once-rest (after P m e) es fs all.1

  -- the same of events that begin alike
  next_same : (es : List Event) (d : Event) (fs gs : List Event) (op : OpId) → EndIsNext op (es ++ d ∷ fs) → EndIsNext op (es ++ d ∷ gs)
  next_same [] d fs gs op next = next
  next_same (e ∷ es) d fs gs op next = next

  pub at_once-swap : (m : WorldState S) (es : List Event) (d : Event) (fs gs : List Event) → EndsAtOnce P m (es ++ d ∷ fs)
      → EndsAtOnce P (after_all P m es) (d ∷ gs) → EndsAtOnce P m (es ++ d ∷ gs)
  at_once-swap m [] d fs gs all then = then
  at_once-swap m (e ∷ es) d fs gs all then =
      let k : WorldState S = after P m e in
      (prompt_by k e (es ++ d ∷ fs) (es ++ d ∷ gs) (next_same es d fs gs) all.0, at_once-swap k es d fs gs all.1 then)

  -- ---- the events of one op

  -- a transaction of it is prompt where none is left for it but its end, and that is next, or something is left
  act_prompt : (m : WorldState S) (op : OpId) (e : Event) (es : List Event) → IsActOf op e → (only_ends P m op ≡ true → EndIsNext op es)
      → IsPrompt P m e es
  act_prompt m op e es act next =
      let a : IsActed op e = act_is op e act in subst (λ (z : Event). IsPrompt P m z es) (sym a.is) next

  module _ (op : OpId) where
    -- transactions of the op up to its end
    ends_next : (m : WorldState S) (n : ℕ) (es : List Event) (end : Event) → IsEndOf op end → Acts op n es
        → RunFrom P m (es ++ end ∷ []) → only_ends P m op ≡ true → EndIsNext op (es ++ end ∷ [])
    ends_next m n [] end ends acts run ended = ends
    ends_next m n (e ∷ es) end ends acts run ended = absurd (only_ends_no_act m op e ended acts.0 run.0)

    pub end_alone : (m : WorldState S) (end : Event) → IsEndOf op end → EndsAtOnce P m (end ∷ [])
    end_alone m (Own o (Ended a)) ends = (tt, tt)
    end_alone m (Own o (Failed a)) ends = (tt, tt)
    end_alone m (Own o (Began c)) ends = absurd ends.1
    end_alone m (Own o (NotBegun c)) ends = absurd ends.1
    end_alone m (Own o (Acted q x h)) ends = absurd ends.1
    end_alone m (Own o Stopped) ends = absurd ends.1
    end_alone m Dumped ends = absurd ends

    pub end_at_once : (m : WorldState S) (n : ℕ) (es : List Event) (end : Event) → IsEndOf op end → Acts op n es
        → RunFrom P m (es ++ end ∷ []) → EndsAtOnce P m (es ++ end ∷ [])
    end_at_once m n [] end ends acts run = end_alone m end ends
    end_at_once m n (e ∷ es) end ends acts run =
        let k : WorldState S = after P m e in (
          act_prompt k op e (es ++ end ∷ []) acts.0 (ends_next k (acts.1).0 es end ends (acts.1).2 run.1),
          end_at_once k (acts.1).0 es end ends (acts.1).2 run.1,
        )

    -- fewer than its transactions
    pub take_at_once : (m : WorldState S) (k n : ℕ) (es more : List Event) → k + 1 ≤ n → Acts op n es → RunFrom P m (es ++ more)
        → EndsAtOnce P m (take k es)
    take_at_once m zero n es more few acts run = tt
    take_at_once m (suc k) n [] more few acts run = tt
    take_at_once m (suc k) n (e ∷ es) more few acts run =
        let later : k + 1 ≤ (acts.1).0 = omega (arith, few, (acts.1).1) in
        let l : WorldState S = after P m e in (
          act_prompt l op e (take k es) acts.0
              (λ ended. absurd (acts_not_ended l op (acts.1).0 es more (omega (arith, later)) (acts.1).2 run.1 ended)),
          take_at_once l k (acts.1).0 es more later (acts.1).2 run.1,
        )

  -- a begin, and what comes behind it
  pub begin_once : (m : WorldState S) (op : OpId) (c : Command) (begin : Event) (es : List Event) → IsBeginOf op c begin
      → EndsAtOnce P (after P m begin) es → EndsAtOnce P m (begin ∷ es)
  begin_once m op c (Own o (Began d)) es is then = (tt, then)
  begin_once m op c (Own o (NotBegun d)) es is then = (tt, then)
  begin_once m op c (Own o (Acted q x h)) es is then = absurd is.1
  begin_once m op c (Own o (Ended a)) es is then = absurd is.1
  begin_once m op c (Own o Stopped) es is then = absurd is.1
  begin_once m op c (Own o (Failed a)) es is then = absurd is.1
  begin_once m op c Dumped es is then = absurd is
