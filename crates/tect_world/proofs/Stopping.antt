-- what a client notes where it begins and where it stops
use Rattle.std.proofs.Common.{◌≡◌, ◌+◌, ◌≤◌, ◌⊎◌, inl, inr, true, false, is_some, Option, Some, None, List, [], ◌∷◌, ◌++◌, length, refl}
use Rattle.std.proofs.Common.{sym, ap, ◌∙◌, append_assoc, arith}
use Rattle.std.proofs.lemmas.List.{append-nil, map-append}
use Rattle.tect_ids.specs.declared.ids.Counts.{Counts}
use Rattle.tect_ids.specs.declared.ids.OpId.{OpId}
use Rattle.program_forms.specs.Kinds.{Programs}
use Rattle.entry_words.specs.declared.entry.Moment.{Moment}
use Rattle.entry_words.specs.declared.entry.Moment.TheVariants.{Local}
use Rattle.entry_words.specs.declared.entry.Note.TheVariants as notes
use Rattle.entry_words.specs.Moments.{rises, running_in, running_after}
use Rattle.passes.proofs.Pushes.{running_in-push}
use Rattle.world_runs.specs.declared.event.Event.{Event}
use Rattle.world_runs.specs.declared.event.Event.TheVariants.{Own}
use Rattle.world_runs.specs.declared.event.Happening.TheVariants.{Stopped}
use Rattle.world_runs.specs.Actors.{Running, idle_actor}
use Rattle.world_runs.specs.Events.{events_of, event_of}
use Rattle.world_runs.specs.OwnRuns.{own_state}
use Rattle.world_runs.proofs.Actors.{own_state-append}
use Rattle.clients.specs.Lives.{ClientLife, events_in, op_in, stopped_with}
use Rattle.clients.specs.Refused.{RunsIn}
use Rattle.tect_world.specs.Clients.{is_going}
use Rattle.tect_world.proofs.Notings.{rises_one, rises_none}

pub noted_event : (ms : List Moment) (m : Moment) (ss : List Event) → ss ≡ []
    → events_of (ms ++ m ∷ []) ++ ss ≡ (events_of ms ++ ss) ++ event_of m ∷ []
noted_event ms m ss none =
    ap (λ (es : List Event). events_of (ms ++ m ∷ []) ++ es) none ∙ append-nil (events_of (ms ++ m ∷ [])) ∙ map-append event_of ms (m ∷ [])
    ∙ ap (λ (es : List Event). es ++ event_of m ∷ [])
    (sym (append-nil (events_of ms)) ∙ ap (λ (es : List Event). events_of ms ++ es) (sym none))

-- an op that runs in the pass was not refused
pub none_silent : {S : Type 0} (ss : List Event) (ms : List Moment) (m : Moment) (op : OpId) (o : Option (Running S))
    → RunsIn ss (running_in None (ms ++ m ∷ [])) o
    → running_after (running_in None ms) m ≡ Some op → ss ≡ []
none_silent [] ms m op o going is = refl
none_silent (e ∷ es) ms m op o going is = let last = running_in-push None ms m in let none = going.0 in absurd cc

-- the stop of a client
pub record IsStop {S : Type 0} (P : Programs S) (l m : ClientLife) : Type 0 where
  pub events : events_in m ≡ events_in l ++ Own (op_in P l) Stopped ∷ []
  pub actor : m.actor ≡ l.actor
  pub counts : m.counts ≡ l.counts
  pub low : l.clock ≤ m.clock
  pub high : m.clock ≤ l.clock + 1
  pub kept : List Moment
  pub moments : m.moments ≡ l.moments ++ kept
  pub few : length kept ≤ 1
  pub fresh : (kept ≡ []) ⊎ (l.silent ≡ [])
  pub rising : (ns : List Moment) → rises 0 l.clock ns ≡ true → rises 0 m.clock (ns ++ kept) ≡ true

pub stop_by : {S : Type 0} (P : Programs S) (l : ClientLife) (ss : List Event) → l.silent ≡ ss → IsStop P l (stopped_with P l ss)
stop_by P l [] is = record {
  events = noted_event l.moments (Local (l.clock + 1) l.actor (notes.Stopped (op_in P l))) l.silent is;
  actor = refl;
  counts = refl;
  low = omega arith;
  high = omega arith;
  kept = Local (l.clock + 1) l.actor (notes.Stopped (op_in P l)) ∷ [];
  moments = refl;
  few = omega arith;
  fresh = inr is;
  rising = λ ns are. rises_one l.clock ns (Local (l.clock + 1) l.actor (notes.Stopped (op_in P l))) are (omega arith);
}
stop_by P l (e ∷ es) is = record {
  events = sym (append_assoc (events_of l.moments) l.silent (Own (op_in P l) Stopped ∷ []));
  actor = refl;
  counts = refl;
  low = omega arith;
  high = omega arith;
  kept = [];
  moments = sym (append-nil l.moments);
  few = omega arith;
  fresh = inl refl;
  rising = λ ns are. rises_none l.clock ns are;
}

-- its command goes on no more
pub stopped_goes : {S : Type 0} (P : Programs S) (l m : ClientLife) → IsStop P l m → is_going P m ≡ false
stopped_goes P l m stop =
    ap (λ (c : Counts). is_some (own_state P c idle_actor (events_in m)).running) stop.counts
    ∙ ap (λ (es : List Event). is_some (own_state P l.counts idle_actor es).running) stop.events
    ∙ ap (λ s. is_some s.running) (own_state-append P l.counts idle_actor (events_in l) (Own (op_in P l) Stopped ∷ []))
