-- A step of a client's command: the request that it makes, if it makes one, and its end, if it ends.
use Rattle.std.specs.Prelude.{◌≡◌, ℕ, ◌+◌, ◌<◌, ◌⊎◌, false, List, [], ◌∷◌, ◌++◌, Option, Some, None, Result, Ok, Err, length}
use Rattle.tect_ids.specs.declared.ids.Counts.{Counts}
use Rattle.tect_ids.specs.declared.ids.OpId.{OpId}
use Rattle.tect_ids.specs.declared.answer.Answer.{Answer}
use Rattle.tect_ids.specs.declared.answer.Answer.TheVariants as answers
use Rattle.store_rules.specs.declared.any.AnyReq.{AnyReq}
use Rattle.store_rules.specs.declared.any.AnyReply.{AnyReply}
use Rattle.store_rules.specs.Places.{request_place}
use Rattle.program_forms.specs.declared.heard.Heard.{Heard}
use Rattle.program_forms.specs.Lacks.{IsLack}
use Rattle.program_forms.specs.Kinds.{Programs}
use Rattle.entry_words.specs.declared.entry.Entry.{Entry}
use Rattle.entry_words.specs.declared.entry.Moment.TheVariants.{Act, Local}
use Rattle.entry_words.specs.declared.entry.Note.TheVariants as notes
use Rattle.entry_words.specs.declared.entry.Refused.{Refused}
use Rattle.entry_words.specs.declared.entry.Refused.TheVariants.{NoMemory, HistoryFull, Astray}
use Rattle.entry_words.specs.Moments.{trail_of}
use Rattle.world_runs.specs.declared.event.Event.{Event}
use Rattle.world_runs.specs.declared.event.Event.TheVariants.{Own}
use Rattle.world_runs.specs.declared.event.Happening.TheVariants.{Acted, Ended}
use Rattle.world_runs.specs.Actors.{Actor, program_ask, program_answer, has_ended, went_on}
use Rattle.world_runs.specs.Events.{end_event}
use Rattle.program_calls.specs.declared.turned.Turned.{Turned}
use Rattle.clients.specs.Turns.{turned_by}
use Rattle.clients.specs.Lives.{ClientLife, events_in, state_in, op_in}

-- what came of the command's next request: it made none, or it was done with that reply, which was heard so, or refused
pub data Tried : Type 0 where
  Unasked : Tried
  Did : AnyReq → AnyReply → Heard → Tried
  Denied : AnyReq → Refused → Tried

-- the request is the one that the command asks
abbrev pub Asks : {S : Type 0} → Programs S → Counts → Actor S → Tried → Type 0
Asks P counts s Unasked = Unit {0}
Asks P counts s (Did q x h) = program_ask P counts s.memory s.running ≡ Some q
Asks P counts s (Denied q e) = program_ask P counts s.memory s.running ≡ Some q

-- Where requests are committed, it did this there: from that clock of the pass, with the entry that the pass has.
abbrev pub DidThere : {W : Type 0} → (W → W → ℕ → AnyReq → Result Entry Refused → Type 0) → W → W → ℕ → (AnyReq → AnyReply → Entry) → Tried
    → Type 0
DidThere done w v clock entry Unasked = v ≡ w
DidThere done w v clock entry (Did q x h) = done w v clock q (Ok (entry q x))
DidThere done w v clock entry (Denied q e) = done w v clock q (Err e)

-- the command's state after the reply
abbrev pub state_after : {S : Type 0} → Programs S → Counts → Actor S → Tried → Actor S
state_after P counts s Unasked = s
state_after P counts s (Did q x h) = went_on P counts s s.running q x h
state_after P counts s (Denied q e) = s

-- Why the command ends: it has its answer, or memory is wanting, or its own history is full. A command that does no transaction ends,
-- and so does one whose last reply gave its answer, or was not heard.
abbrev pub EndsSo : {S : Type 0} → Programs S → Counts → Actor S → Tried → Option Answer → Type 0
EndsSo P counts s (Did q x h) None = has_ended P counts s.memory s.running ≡ false
EndsSo P counts s Unasked None = ⊥
EndsSo P counts s (Denied q e) None = ⊥
EndsSo P counts s (Denied q NoMemory) (Some a) = a ≡ answers.NoMemory
EndsSo P counts s (Denied q (HistoryFull place)) (Some a) = a ≡ answers.HistoryFull place
EndsSo P counts s (Denied q (Astray want found)) (Some a) = ⊥
EndsSo P counts s Unasked (Some a) = (program_answer P counts s.memory s.running ≡ Some a) ⊎ (a ≡ answers.NoMemory)
EndsSo P counts s (Did q x h) (Some a) = ((program_answer P counts s.memory s.running ≡ Some a) × ¬ IsLack a) ⊎ (a ≡ answers.NoMemory)

-- the transaction, at its place, with that stamp
abbrev pub entry_in : {S : Type 0} → Programs S → ClientLife → ℕ → AnyReq → AnyReply → Entry
entry_in P life stamp q x = record {
  stamp = stamp;
  place = request_place life.counts q;
  actor = life.actor;
  number = (state_in P life).number;
  step = length (trail_of life.moments);
  req = q;
  reply = x;
}

abbrev pub tried_life : {S : Type 0} → Programs S → ClientLife → ℕ → Tried → ClientLife
tried_life P life stamp Unasked = life
tried_life P life stamp (Did q x h) =
    record life { clock = stamp; moments = life.moments ++ Act (entry_in P life stamp q x) h ∷ [] }
tried_life P life stamp (Denied q e) = life

-- the end is noted, but not that of an op that was refused
abbrev pub ended_with : ClientLife → List Event → OpId → Answer → ClientLife
ended_with life [] op a = record life
    { clock = life.clock + 1; moments = life.moments ++ Local (life.clock + 1) life.actor (notes.Ended op a) ∷ [] }
ended_with life (e ∷ es) op a = record life { silent = life.silent ++ Own op (Ended a) ∷ [] }

abbrev pub ended_life : ClientLife → OpId → Option Answer → ClientLife
ended_life life op None = life
ended_life life op (Some a) = ended_with life life.silent op a

-- the same as events of its own run
abbrev pub tried_events : OpId → Tried → List Event
tried_events op Unasked = []
tried_events op (Did q x h) = Own op (Acted q x h) ∷ []
tried_events op (Denied q e) = []

abbrev pub end_events : List Event → OpId → Option Answer → List Event
end_events silent op None = []
end_events [] op (Some a) = end_event op a ∷ []
end_events (e ∷ es) op (Some a) = Own op (Ended a) ∷ []

abbrev pub is_later : ℕ → ℕ → Tried → Type 0
is_later clock stamp Unasked = Unit {0}
is_later clock stamp (Did q x h) = clock < stamp
is_later clock stamp (Denied q e) = Unit {0}

-- One step: at most one transaction, and at most one end. The stamp of the transaction alone is free.
pub record OwnStep {S W : Type 0} (P : Programs S) (done : W → W → ℕ → AnyReq → Result Entry Refused → Type 0) (w v : W)
    (old new : ClientLife) (turned : Turned) : Type 0 where
  pub tried : Tried
  pub stamp : ℕ
  pub answer : Option Answer
  pub asks : Asks P old.counts (state_in P old) tried
  pub there : DidThere done w v old.clock (entry_in P old stamp) tried
  pub later : is_later old.clock stamp tried
  pub life : new ≡ ended_life (tried_life P old stamp tried) (op_in P old) answer
  pub events : events_in new ≡ events_in old ++ (tried_events (op_in P old) tried ++ end_events old.silent (op_in P old) answer)
  pub ends : EndsSo P old.counts (state_after P old.counts (state_in P old) tried) tried answer
  pub told : turned ≡ turned_by answer

-- No step, since the machine that the request found is not the one that was looked for.
pub record WentAstray {S W : Type 0} (P : Programs S) (done : W → W → ℕ → AnyReq → Result Entry Refused → Type 0) (w v : W)
    (old new : ClientLife) (e : Refused) : Type 0 where
  pub req : AnyReq
  pub asks : program_ask P old.counts (state_in P old).memory (state_in P old).running ≡ Some req
  pub there : done w v old.clock req (Err e)
  pub life : new ≡ old
