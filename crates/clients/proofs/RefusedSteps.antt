-- the step of an op that was refused: its end
use Rattle.std.proofs.Common.{ℕ, ◌≡◌, ◌≢◌, inl, Some, None, IsSome, List, [], ◌∷◌, ◌++◌, refl, sym, ap, ◌∙◌, append_assoc}
use Rattle.std.specs.Prelude.{Result}
use Rattle.store_rules.specs.declared.any.AnyReq.{AnyReq}
use Rattle.program_forms.specs.Lacks.{no_room}
use Rattle.program_forms.specs.Kinds.{Programs}
use Rattle.entry_words.specs.declared.entry.Entry.{Entry}
use Rattle.entry_words.specs.declared.entry.Refused.{Refused}
use Rattle.entry_words.specs.Moments.{running_in}
use Rattle.world_runs.specs.declared.event.Event.{Event}
use Rattle.world_runs.specs.declared.event.Event.TheVariants.{Own}
use Rattle.world_runs.specs.declared.event.Happening.TheVariants.{Ended}
use Rattle.world_runs.specs.Events.{events_of}
use Rattle.program_calls.specs.declared.turned.Turned.TheVariants as turns
use Rattle.clients.specs.Lives.{ClientLife, events_in, state_in, op_in, IsLife}
use Rattle.clients.specs.Steps.{Unasked, OwnStep, ended_with, end_events}
use Rattle.clients.proofs.Begins.{refused_by, refused_answer}

module _ {S : Type 0} (P : Programs S) (old : ClientLife) (some : old.silent ≢ []) where
  abbrev ended_refused : ClientLife
  ended_refused = record old { silent = old.silent ++ Own (op_in P old) (Ended no_room) ∷ [] }

  ends_with : (es : List Event) → es ≢ [] → ended_refused ≡ ended_with old es (op_in P old) no_room
  ends_with [] other = absurd (other refl)
  ends_with (e ∷ es) other = refl

  end_is : (es : List Event) → es ≢ [] → Own (op_in P old) (Ended no_room) ∷ [] ≡ end_events es (op_in P old) (Some no_room)
  end_is [] other = absurd (other refl)
  end_is (e ∷ es) other = refl

  module _ {W : Type 0} (done : W → W → ℕ → AnyReq → Result Entry Refused → Type 0) (w : W) (new : ClientLife) (is : IsLife P old)
      (runs : IsSome (state_in P old).running)
      (after : new ≡ record old { silent = old.silent ++ Own (op_in P old) (Ended no_room) ∷ [] }) where
    more_events : events_in new ≡ events_in old ++ ([] ++ end_events old.silent (op_in P old) (Some no_room))
    more_events =
        ap events_in after ∙ sym (append_assoc (events_of old.moments) old.silent (Own (op_in P old) (Ended no_room) ∷ []))
        ∙ ap (λ (es : List Event). events_in old ++ es) (end_is old.silent some)

    pub refused_step : OwnStep P done w w old new (turns.Done no_room)
    refused_step = record {
      tried = Unasked;
      stamp = 0;
      answer = Some no_room;
      asks = tt;
      there = refl;
      later = tt;
      life = after ∙ ends_with old.silent some;
      events = more_events;
      ends = inl (refused_answer P old.counts (state_in P old).memory old.silent (state_in P old).running runs
          (refused_by P old.silent (running_in None old.moments) (state_in P old).running is.going some).1);
      told = refl;
    }
