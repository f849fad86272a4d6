-- A command that begins, and one that is stopped.
use Rattle.std.proofs.Common.{◌≡◌, ℕ, ◌+◌, inl, inr, true, Option, Some, None, List, [], ◌∷◌, ◌++◌, refl, sym, ap, subst, ◌∙◌}
use Rattle.std.proofs.Common.{arith}
use Rattle.std.proofs.lemmas.List.{append-nil}
use Rattle.tect_ids.specs.declared.ids.OpId.{OpId}
use Rattle.tect_ids.specs.declared.command.Command.{Command}
use Rattle.program_forms.specs.Kinds.{Programs}
use Rattle.entry_words.specs.declared.entry.Moment.{Moment}
use Rattle.entry_words.specs.declared.entry.Moment.TheVariants.{Local}
use Rattle.entry_words.specs.declared.entry.Note.TheVariants as notes
use Rattle.entry_words.specs.Moments.{rises, running_in, running_after}
use Rattle.world_runs.specs.declared.event.Event.{Event}
use Rattle.world_runs.specs.declared.event.Event.TheVariants.{Own}
use Rattle.world_runs.specs.declared.event.Happening.TheVariants.{Began, NotBegun, Stopped}
use Rattle.world_runs.specs.Actors.{Running}
use Rattle.world_runs.specs.Follows.{IsBeginOf}
use Rattle.clients.specs.Lives.{ClientLife, state_in, op_in, next_op_in, IsLife, begun_life}
use Rattle.clients.specs.Lives.{refused_life, Begins, stopped_with, stopped_life}
use Rattle.clients.specs.Refused.{RunsIn}
use Rattle.racers.specs.Lives.{news_events}
use Rattle.racers.specs.Steps.{Grows}
use Rattle.racers.proofs.Growths.{rises_here}
use Rattle.racers.proofs.OneStep.{rises_one}

-- ---- an op that was noted is no refused one

runs_begun : (r : Option OpId) (ms : List Moment) (stamp actor : ℕ) (op : OpId) (c : Command)
    → running_in r (ms ++ Local stamp actor (notes.Began op c) ∷ []) ≡ Some op
runs_begun r [] stamp actor op c = refl
runs_begun r (m ∷ ms) stamp actor op c = runs_begun (running_after r m) ms stamp actor op c

begun_noted : {S : Type 0} (silent : List Event) (o : Option OpId) (op : OpId) (r : Option (Running S)) → o ≡ Some op → RunsIn silent o r
    → silent ≡ []
begun_noted [] o op r is runs = refl
begun_noted (e ∷ es) o op r is runs = absurd (let bad : None ≡ Some op = sym runs.0 ∙ is in cc)

-- ---- a begin

pub record LifeBegan {S : Type 0} (P : Programs S) (old new : ClientLife) (c : Command) : Type 0 where
  pub news : List Moment
  pub more : List Event
  pub grows : Grows old new news more
  pub begin : Event
  pub events : news_events news more ≡ begin ∷ []
  pub begins : IsBeginOf (next_op_in P old) c begin

module _ {S : Type 0} (P : Programs S) (old new : ClientLife) (c : Command) where
  noted : new ≡ begun_life P old c → IsLife P new → LifeBegan P old new c
  noted is life =
      let op : OpId = next_op_in P old in
      let m : Moment = Local (old.clock + 1) old.actor (notes.Began op c) in
      let clock : new.clock ≡ old.clock + 1 = ap (λ (w : ClientLife). w.clock) is in
      let runs : running_in None new.moments ≡ Some op = ap (λ (w : ClientLife). running_in None w.moments) is ∙ runs_begun None old.moments
      (old.clock + 1) old.actor op c in
      let silent : old.silent ≡ [] = sym (ap (λ (w : ClientLife). w.silent) is) ∙ begun_noted new.silent (running_in None new.moments) op
      (state_in P new).running runs life.going in
      record {
        news = m ∷ [];
        more = [];
        grows = record {
          life = is ∙ (λ i. record old { clock = sym clock i; moments = old.moments ++ m ∷ []; silent = sym (append-nil old.silent) i });
          late = inr silent;
          stamps = subst (λ (n : ℕ). rises old.clock n (m ∷ []) ≡ true) (sym clock)
              (rises_one old.clock (old.clock + 1) m (omega arith) refl);
        };
        begin = Own op (Began c);
        events = refl;
        begins = (refl, refl);
      }

  refused : new ≡ refused_life P old c → LifeBegan P old new c
  refused is =
      let op : OpId = next_op_in P old in
      let clock : new.clock ≡ old.clock = ap (λ (w : ClientLife). w.clock) is in
      record {
        news = [];
        more = Own op (NotBegun c) ∷ [];
        grows = record {
          life = is ∙ (λ i. record old
              { clock = sym clock i; moments = sym (append-nil old.moments) i; silent = old.silent ++ Own op (NotBegun c) ∷ [] });
          late = inl refl;
          stamps = subst (λ (n : ℕ). rises old.clock n [] ≡ true) (sym clock) (rises_here old.clock);
        };
        begin = Own op (NotBegun c);
        events = refl;
        begins = (refl, refl);
      }

  pub has_begun : Begins P old new c → IsLife P new → LifeBegan P old new c
  has_begun (inl (room, is)) life = noted is life
  has_begun (inr (full, is)) life = refused is

-- ---- a stop

pub record LifeStopped {S : Type 0} (P : Programs S) (old new : ClientLife) : Type 0 where
  pub news : List Moment
  pub more : List Event
  pub grows : Grows old new news more
  pub events : news_events news more ≡ Own (op_in P old) Stopped ∷ []

stopped_by : {S : Type 0} (P : Programs S) (old new : ClientLife) (silent : List Event) → old.silent ≡ silent
    → new ≡ stopped_with P old silent → LifeStopped P old new
stopped_by P old new [] none is =
    let m : Moment = Local (old.clock + 1) old.actor (notes.Stopped (op_in P old)) in
    let clock : new.clock ≡ old.clock + 1 = ap (λ (w : ClientLife). w.clock) is in
    record {
      news = m ∷ [];
      more = [];
      grows = record {
        life = is ∙ (λ i. record old { clock = sym clock i; moments = old.moments ++ m ∷ []; silent = sym (append-nil old.silent) i });
        late = inr none;
        stamps = subst (λ (n : ℕ). rises old.clock n (m ∷ []) ≡ true) (sym clock)
            (rises_one old.clock (old.clock + 1) m (omega arith) refl);
      };
      events = refl;
    }
stopped_by P old new (e ∷ es) some is =
    let clock : new.clock ≡ old.clock = ap (λ (w : ClientLife). w.clock) is in
    record {
      news = [];
      more = Own (op_in P old) Stopped ∷ [];
      grows = record {
        life = is ∙ (λ i. record old
            { clock = sym clock i; moments = sym (append-nil old.moments) i; silent = old.silent ++ Own (op_in P old) Stopped ∷ [] });
        late = inl refl;
        stamps = subst (λ (n : ℕ). rises old.clock n [] ≡ true) (sym clock) (rises_here old.clock);
      };
      events = refl;
    }

pub has_stopped : {S : Type 0} (P : Programs S) (old new : ClientLife) → new ≡ stopped_life P old → LifeStopped P old new
has_stopped P old new is = stopped_by P old new old.silent refl is
