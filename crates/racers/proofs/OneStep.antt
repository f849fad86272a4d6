-- One step of a client's command: a transaction, after which it goes on, or its end.
use Rattle.std.proofs.Common.{◌≡◌, ℕ, ◌+◌, ◌<◌, ◌≤◌, inl, inr, Bool, true, nat_lt, nat_le, ◌&&◌, Option, Some, None, List, [], ◌∷◌, ◌++◌}
use Rattle.std.proofs.Common.{refl, sym, ap, subst, ◌∙◌, append_assoc, arith}
use Rattle.std.specs.Prelude.{Result}
use Rattle.std.proofs.lemmas.Grind.{common_steps}
use Rattle.std.proofs.lemmas.List.{append-nil}
use Rattle.tect_ids.specs.declared.ids.Counts.{Counts}
use Rattle.tect_ids.specs.declared.ids.OpId.{OpId}
use Rattle.tect_ids.specs.declared.answer.Answer.{Answer}
use Rattle.tect_ids.specs.declared.answer.Answer.TheVariants as answers
use Rattle.store_rules.specs.declared.any.AnyReq.{AnyReq}
use Rattle.store_rules.specs.declared.any.AnyReply.{AnyReply}
use Rattle.program_forms.specs.declared.heard.Heard.{Heard}
use Rattle.program_forms.specs.declared.standing.Standing.{Standing}
use Rattle.program_forms.specs.declared.standing.Standing.TheVariants.{Goes, Left, NoRoom}
use Rattle.program_forms.specs.Kinds.{Programs}
use Rattle.program_forms.specs.Lacks.{IsLack}
use Rattle.program_forms.specs.Memories.{Memory}
use Rattle.entry_words.specs.declared.entry.Entry.{Entry}
use Rattle.entry_words.specs.declared.entry.Moment.{Moment}
use Rattle.entry_words.specs.declared.entry.Moment.TheVariants.{Act, Local}
use Rattle.entry_words.specs.declared.entry.Note.TheVariants as notes
use Rattle.entry_words.specs.declared.entry.Refused.{Refused}
use Rattle.entry_words.specs.Moments.{rises, running_in}
use Rattle.world_runs.specs.declared.event.Event.{Event}
use Rattle.world_runs.specs.declared.event.Event.TheVariants.{Own}
use Rattle.world_runs.specs.declared.event.Happening.TheVariants.{Ended, Acted}
use Rattle.world_runs.specs.Actors.{Running, program_ask, standing_does, asked_in}
use Rattle.world_runs.specs.Events.{end_event}
use Rattle.world_runs.specs.Follows.{tries}
use Rattle.program_calls.specs.declared.turned.Turned.{Turned}
use Rattle.program_calls.specs.declared.turned.Turned.TheVariants.{Going, Done}
use Rattle.clients.specs.Turns.{turned_by}
use Rattle.clients.specs.Lives.{ClientLife, state_in, op_in, IsLife}
use Rattle.clients.specs.Refused.{RunsIn, standing_refused}
use Rattle.clients.specs.Steps.{Tried, Unasked, Did, Denied, Asks, state_after, entry_in, tried_life, ended_with, ended_life, is_later}
use Rattle.clients.specs.Steps.{EndsSo, OwnStep}
use Rattle.racers.specs.Lives.{news_events}
use Rattle.players.specs.Players.{GoesOn, EndsIn, StepsOnce}
use Rattle.racers.specs.Steps.{Grows}
use Rattle.racers.proofs.Growths.{rises_here}
use Rattle.players.proofs.Transactions.{end_event_ends}

-- ---- a command that asks is not one that was refused

refused_asks : {S : Type 0} (P : Programs S) (counts : Counts) (m : Memory) (es : List Event) (op : OpId) (at : Standing S) (q : AnyReq)
    → standing_refused es op at → asked_in (standing_does P counts m op at) ≡ Some q → ⊥
refused_asks P counts m es op (Goes s) q refused asks = refused
refused_asks P counts m es op Left q refused asks = refused
refused_asks P counts m es op NoRoom q refused asks = cc

asks_noted : {S : Type 0} (P : Programs S) (counts : Counts) (m : Memory) (silent : List Event) (op : Option OpId) (o : Option (Running S))
    (q : AnyReq) → RunsIn silent op o → program_ask P counts m o ≡ Some q → silent ≡ []
asks_noted P counts m [] op o q runs asks = refl
asks_noted P counts m (e ∷ es) op None q runs asks = absurd cc
asks_noted P counts m (e ∷ es) op (Some r) q runs asks = absurd (refused_asks P counts m (e ∷ es) r.op r.at q runs.1 asks)

-- ---- stamps

pub rises_one : (low high : ℕ) (m : Moment) → low < high → rises low high (m ∷ []) ≡ (nat_lt low high && nat_le high high)
    → rises low high (m ∷ []) ≡ true
rises_one low high m less is = is ∙
    (let a : nat_lt low high ≡ true = grind (arith, common_steps, less) in let b : nat_le high high ≡ true = grind (arith, common_steps)
    in rw (a, b) refl)

-- ---- which ends are a step of their own

few_tries : (op : OpId) (a : Answer) → tries (end_event op a) ≤ 1
few_tries op answers.NoMemory = omega arith
few_tries op (answers.HistoryFull p) = omega arith
few_tries op _ = omega arith

plain_tries : (op : OpId) (a : Answer) → ¬ IsLack a → tries (end_event op a) ≡ 0
plain_tries op answers.NoMemory plain = refl
plain_tries op (answers.HistoryFull p) plain = absurd (plain tt)
plain_tries op _ plain = refl

-- ---- by what came of the request

module _ {S : Type 0} (P : Programs S) (old new : ClientLife) (grew : List Event → Type 0)
    (by : (news : List Moment) (more : List Event) → Grows old new news more → grew (news_events news more)) where
  -- one transaction, and the command goes on
  acted_goes_on : (stamp : ℕ) (q : AnyReq) (x : AnyReply) (h : Heard) → old.silent ≡ [] → old.clock < stamp
      → new ≡ tried_life P old stamp (Did q x h) → GoesOn grew (op_in P old) 1
  acted_goes_on stamp q x h noted later is =
      let clock : new.clock ≡ stamp = ap (λ (w : ClientLife). w.clock) is in
      let m : Moment = Act (entry_in P old stamp q x) h in
      record {
        acts = Own (op_in P old) (Acted q x h) ∷ [];
        are_acts = ((refl, tt), (0, refl, refl));
        grown = by (m ∷ []) [] (record {
          life = is ∙ (λ i. record old { clock = sym clock i; moments = old.moments ++ m ∷ []; silent = sym (append-nil old.silent) i });
          late = inr noted;
          stamps = subst (λ (n : ℕ). rises old.clock n (m ∷ []) ≡ true) (sym clock) (rises_one old.clock stamp m later refl);
        });
      }

  -- the end alone
  ends_alone : (silent : List Event) (a : Answer) → old.silent ≡ silent → new ≡ ended_with old silent (op_in P old) a
      → EndsIn grew (op_in P old) a 1
  ends_alone [] a noted is =
      let clock : new.clock ≡ old.clock + 1 = ap (λ (w : ClientLife). w.clock) is in
      let m : Moment = Local (old.clock + 1) old.actor (notes.Ended (op_in P old) a) in
      record {
        comes = record {
          acts = [];
          count = 0;
          end = end_event (op_in P old) a;
          are_acts = refl;
          ends = end_event_ends (op_in P old) a;
          grown = by (m ∷ []) [] (record {
            life = is ∙ (λ i. record old { clock = sym clock i; moments = old.moments ++ m ∷ []; silent = sym (append-nil old.silent) i });
            late = inr noted;
            stamps = subst (λ (n : ℕ). rises old.clock n (m ∷ []) ≡ true) (sym clock)
                (rises_one old.clock (old.clock + 1) m (omega arith) refl);
          });
        };
        few = omega (arith, few_tries (op_in P old) a);
      }
  ends_alone (e ∷ es) a noted is =
      let clock : new.clock ≡ old.clock = ap (λ (w : ClientLife). w.clock) is in
      record {
        comes = record {
          acts = [];
          count = 0;
          end = Own (op_in P old) (Ended a);
          are_acts = refl;
          ends = (refl, refl);
          grown = by [] (Own (op_in P old) (Ended a) ∷ []) (record {
            life = is ∙ (λ i. record old
                { clock = sym clock i; moments = sym (append-nil old.moments) i; silent = old.silent ++ Own (op_in P old) (Ended a) ∷ [] });
            late = inl refl;
            stamps = subst (λ (n : ℕ). rises old.clock n [] ≡ true) (sym clock) (rises_here old.clock);
          });
        };
        few = omega arith;
      }

  -- a transaction and the end
  acted_ends : (stamp : ℕ) (q : AnyReq) (x : AnyReply) (h : Heard) (a : Answer) → old.silent ≡ [] → old.clock < stamp
      → tries (end_event (op_in P old) a) ≡ 0 → new ≡ ended_with (tried_life P old stamp (Did q x h)) [] (op_in P old) a
      → EndsIn grew (op_in P old) a 1
  acted_ends stamp q x h a noted later none is =
      let clock : new.clock ≡ stamp + 1 = ap (λ (w : ClientLife). w.clock) is in
      let m : Moment = Act (entry_in P old stamp q x) h in
      let n : Moment = Local (stamp + 1) old.actor (notes.Ended (op_in P old) a) in
      let first : nat_lt old.clock stamp ≡ true = grind (arith, common_steps, later) in
      let second : rises stamp (stamp + 1) (n ∷ []) ≡ true = rises_one stamp (stamp + 1) n (omega arith) refl in
      record {
        comes = record {
          acts = Own (op_in P old) (Acted q x h) ∷ [];
          count = 1;
          end = end_event (op_in P old) a;
          are_acts = ((refl, tt), (0, refl, refl));
          ends = end_event_ends (op_in P old) a;
          grown = by (m ∷ n ∷ []) [] (record {
            life = is ∙ (λ i. record old
                { clock = sym clock i; moments = append_assoc old.moments (m ∷ []) (n ∷ []) i; silent = sym (append-nil old.silent) i });
            late = inr noted;
            stamps = subst (λ (k : ℕ). rises old.clock k (m ∷ n ∷ []) ≡ true) (sym clock)
                (ap (λ (b : Bool). b && rises stamp (stamp + 1) (n ∷ [])) first ∙ second);
          });
        };
        few = omega (arith, none);
      }

  module _ (is : IsLife P old) where
    asks_silent : (q : AnyReq) → program_ask P old.counts (state_in P old).memory (state_in P old).running ≡ Some q → old.silent ≡ []
    asks_silent q asks = asks_noted P old.counts (state_in P old).memory old.silent (running_in None old.moments) (state_in P old).running q
        is.going asks

    goes_by : (tried : Tried) (stamp : ℕ) → Asks P old.counts (state_in P old) tried → is_later old.clock stamp tried
        → new ≡ ended_life (tried_life P old stamp tried) (op_in P old) None
        → EndsSo P old.counts (state_after P old.counts (state_in P old) tried) tried None → GoesOn grew (op_in P old) 1
    goes_by Unasked stamp asks later life ends = absurd ends
    goes_by (Denied q e) stamp asks later life ends = absurd ends
    goes_by (Did q x h) stamp asks later life ends = acted_goes_on stamp q x h (asks_silent q asks) later life

    no_try : (q : AnyReq) (x : AnyReply) (h : Heard) (a : Answer)
        → EndsSo P old.counts (state_after P old.counts (state_in P old) (Did q x h)) (Did q x h) (Some a)
        → tries (end_event (op_in P old) a) ≡ 0
    no_try q x h a (inl (answers_so, plain)) = plain_tries (op_in P old) a plain
    no_try q x h a (inr none) = ap (λ (b : Answer). tries (end_event (op_in P old) b)) none

    ends_by : (tried : Tried) (stamp : ℕ) (a : Answer) → Asks P old.counts (state_in P old) tried → is_later old.clock stamp tried
        → new ≡ ended_life (tried_life P old stamp tried) (op_in P old) (Some a)
        → EndsSo P old.counts (state_after P old.counts (state_in P old) tried) tried (Some a) → EndsIn grew (op_in P old) a 1
    ends_by Unasked stamp a asks later life ends = ends_alone old.silent a refl life
    ends_by (Denied q e) stamp a asks later life ends = ends_alone old.silent a refl life
    ends_by (Did q x h) stamp a asks later life ends =
        let noted = asks_silent q asks in
        acted_ends stamp q x h a noted later (no_try q x h a ends)
        (life ∙ ap (λ (s : List Event). ended_with (tried_life P old stamp (Did q x h)) s (op_in P old) a) noted)

-- ---- a step

not_done : (o : Option Answer) → Going ≡ turned_by o → o ≡ None
not_done None is = refl
not_done (Some a) is = absurd cc

is_done : (o : Option Answer) (a : Answer) → Done a ≡ turned_by o → o ≡ Some a
is_done None a is = absurd cc
is_done (Some b) a is = (let same : a ≡ b = cc in ap Some (sym same))

pub steps_once : {S W : Type 0} (P : Programs S) (done : W → W → ℕ → AnyReq → Result Entry Refused → Type 0) (w v : W)
    (old new : ClientLife) (grew : List Event → Type 0)
    → ((news : List Moment) (more : List Event) → Grows old new news more → grew (news_events news more)) → IsLife P old → (turned : Turned)
    → OwnStep P done w v old new turned → StepsOnce grew (op_in P old) turned
steps_once P done w v old new grew by is Going step =
    let none : step.answer ≡ None = not_done step.answer step.told in
    goes_by P old new grew by is step.tried step.stamp step.asks step.later
    (step.life ∙ ap (ended_life (tried_life P old step.stamp step.tried) (op_in P old)) none)
    (subst (EndsSo P old.counts (state_after P old.counts (state_in P old) step.tried) step.tried) none step.ends)
steps_once P done w v old new grew by is (Done a) step =
    let some : step.answer ≡ Some a = is_done step.answer a step.told in
    ends_by P old new grew by is step.tried step.stamp a step.asks step.later
    (step.life ∙ ap (ended_life (tried_life P old step.stamp step.tried) (op_in P old)) some)
    (subst (EndsSo P old.counts (state_after P old.counts (state_in P old) step.tried) step.tried) some step.ends)
