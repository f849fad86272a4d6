-- Transactions of an op, and its end: what they leave of its actor, and what they show.
use Rattle.std.proofs.Common.{◌≡◌, ℕ, ◌+◌, Bool, true, false, ◌&&◌, eqb, if◌then◌else◌, Option, Some, None}
use Rattle.std.proofs.Common.{IsSome, List, [], ◌∷◌, ◌++◌, refl}
use Rattle.std.proofs.Common.{sym, ap, subst, ◌∙◌, append_assoc, arith}
use Rattle.tect_ids.specs.declared.ids.Counts.{Counts}
use Rattle.tect_ids.specs.declared.ids.OpId.{OpId}
use Rattle.tect_ids.specs.declared.answer.Answer.{Answer}
use Rattle.tect_ids.specs.declared.answer.Answer.TheVariants as answers
use Rattle.tect_ids.specs.declared.script.ReportLine.{ReportLine}
use Rattle.tect_ids.specs.declared.script.ReportLine.TheVariants as report_lines
use Rattle.tect_ids.specs.Keys.{op_eq}
use Rattle.store_rules.specs.declared.any.AnyReq.{AnyReq}
use Rattle.store_rules.specs.declared.any.AnyReply.{AnyReply}
use Rattle.program_forms.specs.declared.heard.Heard.{Heard}
use Rattle.program_forms.specs.Kinds.{Programs}
use Rattle.world_runs.specs.declared.event.Event.{Event}
use Rattle.world_runs.specs.declared.event.Event.TheVariants.{Own, Dumped}
use Rattle.world_runs.specs.declared.event.Happening.{Happening}
use Rattle.world_runs.specs.declared.event.Happening.TheVariants.{Began, NotBegun, Acted, Ended, Stopped, Failed}
use Rattle.world_runs.specs.Actors.{Actor, Running, ended, went_on}
use Rattle.world_runs.specs.Follows.{Acts, IsAct, IsEnd, IsEndOf}
use Rattle.world_runs.specs.Races.{own_lines}
use Rattle.world_runs.specs.Report.{answer_line, client_name, happening_lines, is_act_of, transactions}
use Rattle.world_runs.specs.Events.{end_event}
use Rattle.world_runs.specs.OwnRuns.{own_next, own_state}
use Rattle.world_runs.proofs.Actors.{same_number, own_state-append}
use Rattle.whole_runs.proofs.OwnLines.{own_lines-append, transactions-append}
use Rattle.players.specs.Players.{EndsAs, EndsWith}

-- ---- transactions one after another

pub acts-append : (op : OpId) (n k : ℕ) (es fs : List Event) → Acts op n es → Acts op k fs → Acts op (n + k) (es ++ fs)
acts-append op n k [] fs none more = (let same : k ≡ n + k = omega (arith, none) in subst (λ (i : ℕ). Acts op i fs) same more)
acts-append op n k (e ∷ es) fs (own, (rest, is, acts)) more = (own, (rest + k, omega (arith, is), acts-append op rest k es fs acts more))

-- ---- the actor

-- the command goes on
pub record Keeps {S : Type 0} (s t : Actor S) : Type 0 where
  pub number : t.number ≡ s.number
  pub stopped : t.stopped ≡ s.stopped
  pub running : IsSome s.running → IsSome t.running

keeps_both : {S : Type 0} (s t u : Actor S) → Keeps s t → Keeps t u → Keeps s u
keeps_both s t u first second = record {
  number = second.number ∙ first.number;
  stopped = second.stopped ∙ first.stopped;
  running = λ runs. second.running (first.running runs);
}

went_keeps : {S : Type 0} (P : Programs S) (counts : Counts) (s : Actor S) (q : AnyReq) (x : AnyReply) (h : Heard) (o : Option (Running S))
    → s.running ≡ o → Keeps s (went_on P counts s o q x h)
went_keeps P counts s q x h None is = record { number = refl; stopped = refl; running = λ runs. runs }
went_keeps P counts s q x h (Some r) is = record { number = refl; stopped = refl; running = λ runs. refl }

act_keeps : {S : Type 0} (P : Programs S) (counts : Counts) (s : Actor S) (op : OpId) (h : Happening) → IsAct h
    → Keeps s (own_next P counts s (Own op h))
act_keeps P counts s op (Acted q x h) is = went_keeps P counts s q x h s.running refl
act_keeps P counts s op (Began c) is = absurd is
act_keeps P counts s op (NotBegun c) is = absurd is
act_keeps P counts s op (Ended a) is = absurd is
act_keeps P counts s op Stopped is = absurd is
act_keeps P counts s op (Failed a) is = absurd is

pub acts_keep : {S : Type 0} (P : Programs S) (counts : Counts) (op : OpId) (n : ℕ) (s : Actor S) (es : List Event) → Acts op n es
    → Keeps s (own_state P counts s es)
acts_keep P counts op n s [] acts = record { number = refl; stopped = refl; running = λ is. is }
acts_keep P counts op n s (Own other h ∷ es) ((own, is_act), (rest, is, acts)) =
    let mid = own_next P counts s (Own other h) in
    keeps_both s mid (own_state P counts mid es) (act_keeps P counts s other h is_act) (acts_keep P counts op rest mid es acts)
acts_keep P counts op n s (Dumped ∷ es) acts = absurd acts.0

-- the command has ended
pub record Rests {S : Type 0} (s t : Actor S) : Type 0 where
  pub number : t.number ≡ s.number
  pub stopped : t.stopped ≡ s.stopped
  pub running : t.running ≡ None

ended_rests : {S : Type 0} (P : Programs S) (counts : Counts) (s : Actor S) (o : Option (Running S)) → s.running ≡ o
    → Rests s (ended P counts s o)
ended_rests P counts s None is = record { number = refl; stopped = refl; running = is }
ended_rests P counts s (Some r) is = record { number = refl; stopped = refl; running = refl }

end_rests : {S : Type 0} (P : Programs S) (counts : Counts) (s : Actor S) (op : OpId) (h : Happening) (a : Answer) → EndsAs h a
    → Rests s (own_next P counts s (Own op h))
end_rests P counts s op (Ended x) a ends = ended_rests P counts s s.running refl
end_rests P counts s op (Failed x) a ends = ended_rests P counts s s.running refl
end_rests P counts s op (Began c) a ends = absurd ends
end_rests P counts s op (NotBegun c) a ends = absurd ends
end_rests P counts s op (Acted q x h) a ends = absurd ends
end_rests P counts s op Stopped a ends = absurd ends

event_rests : {S : Type 0} (P : Programs S) (counts : Counts) (s : Actor S) (op : OpId) (end : Event) (a : Answer) → EndsWith op end a
    → Rests s (own_next P counts s end)
event_rests P counts s op (Own other h) a ends = end_rests P counts s other h a ends.1
event_rests P counts s op Dumped a ends = absurd ends

pub acts_then_rests : {S : Type 0} (P : Programs S) (counts : Counts) (op : OpId) (n : ℕ) (s : Actor S) (es : List Event) (end : Event)
    (a : Answer) → Acts op n es → EndsWith op end a → Rests s (own_state P counts s (es ++ end ∷ []))
acts_then_rests P counts op n s es end a acts ends =
    let mid = own_state P counts s es in
    let k = acts_keep P counts op n s es acts in
    let r = event_rests P counts mid op end a ends in
    let is : own_state P counts s (es ++ end ∷ []) ≡ own_next P counts mid end = own_state-append P counts s es (end ∷ []) in
    subst (Rests s) (sym is) (record { number = r.number ∙ k.number; stopped = r.stopped ∙ k.stopped; running = r.running })

-- ---- ends

ends_is : (h : Happening) (a : Answer) → EndsAs h a → IsEnd h
ends_is (Ended x) a ends = tt
ends_is (Failed x) a ends = tt
ends_is (Began c) a ends = absurd ends
ends_is (NotBegun c) a ends = absurd ends
ends_is (Acted q x h) a ends = absurd ends
ends_is Stopped a ends = absurd ends

pub is_end : (op : OpId) (end : Event) (a : Answer) → EndsWith op end a → IsEndOf op end
is_end op (Own other h) a ends = (ends.0, ends_is h a ends.1)
is_end op Dumped a ends = absurd ends

pub end_event_ends : (op : OpId) (a : Answer) → EndsWith op (end_event op a) a
end_event_ends op answers.NoMemory = (refl, refl)
end_event_ends op (answers.HistoryFull p) = (refl, refl)
end_event_ends op _ = (refl, refl)

-- ---- what they show

module _ (names : List (List ℕ)) (actor : ℕ) where
  pub either_way : (b : Bool) (ls : List ReportLine) → (if b then [] else []) ++ ls ≡ ls
  either_way true ls = refl
  either_way false ls = refl

  act_shows : (before : List Event) (op : OpId) (h : Happening) (ls : List ReportLine) → IsAct h
      → (if eqb op.actor actor then happening_lines names before op h else []) ++ ls ≡ ls
  act_shows before op (Acted q x h) ls is = either_way (eqb op.actor actor) ls
  act_shows before op (Began c) ls is = absurd is
  act_shows before op (NotBegun c) ls is = absurd is
  act_shows before op (Ended a) ls is = absurd is
  act_shows before op Stopped ls is = absurd is
  act_shows before op (Failed a) ls is = absurd is

  pub acts_show_nothing : (before : List Event) (op : OpId) (n : ℕ) (es : List Event) → Acts op n es → own_lines names actor before es ≡ []
  acts_show_nothing before op n [] acts = refl
  acts_show_nothing before op n (Own other h ∷ es) ((own, is_act), (rest, is, acts)) =
      act_shows before other h (own_lines names actor (before ++ Own other h ∷ []) es) is_act
      ∙ acts_show_nothing (before ++ Own other h ∷ []) op rest es acts
  acts_show_nothing before op n (Dumped ∷ es) acts = absurd acts.0

  own_shows : (before : List Event) (op other : OpId) (a x : Answer) → other ≡ op → x ≡ a → op.actor ≡ actor
      → (if eqb other.actor actor then answer_line names before other x ∷ [] else []) ++ [] ≡ answer_line names before op a ∷ []
  own_shows before op other a x own is mine =
      let yes : eqb other.actor actor ≡ true = ap (λ (o : OpId). eqb o.actor actor) own ∙ ap (λ (k : ℕ). eqb k actor) mine ∙ same_number
      actor in
      ap (λ (b : Bool). (if b then answer_line names before other x ∷ [] else []) ++ []) yes
      ∙ ap (λ (o : OpId). answer_line names before o x ∷ []) own ∙ ap (λ (y : Answer). answer_line names before op y ∷ []) is

  happens_shows : (before : List Event) (op other : OpId) (h : Happening) (a : Answer) → other ≡ op → EndsAs h a → op.actor ≡ actor
      → own_lines names actor before (Own other h ∷ []) ≡ answer_line names before op a ∷ []
  happens_shows before op other (Ended x) a own is mine = own_shows before op other a x own is mine
  happens_shows before op other (Failed x) a own is mine = own_shows before op other a x own is mine
  happens_shows before op other (Began c) a own ends mine = absurd ends
  happens_shows before op other (NotBegun c) a own ends mine = absurd ends
  happens_shows before op other (Acted q x h) a own ends mine = absurd ends
  happens_shows before op other Stopped a own ends mine = absurd ends

  end_shows : (before : List Event) (op : OpId) (end : Event) (a : Answer) → EndsWith op end a → op.actor ≡ actor
      → own_lines names actor before (end ∷ []) ≡ answer_line names before op a ∷ []
  end_shows before op (Own other h) a ends mine = happens_shows before op other h a ends.0 ends.1 mine
  end_shows before op Dumped a ends mine = absurd ends

  -- what is no transaction counts for none
  no_act : (b : Bool) → (b && false) ≡ false
  no_act true = refl
  no_act false = refl

  counts_none : (e : Event) (op : OpId) → is_act_of op e ≡ false → transactions (e ∷ []) op ≡ 0
  counts_none e op not_its = grind (arith, not_its)

  end_counts : (op : OpId) (end : Event) (a : Answer) → EndsWith op end a → transactions (end ∷ []) op ≡ 0
  end_counts op (Own other (Ended x)) a ends = counts_none (Own other (Ended x)) op (no_act (op_eq other op))
  end_counts op (Own other (Failed x)) a ends = counts_none (Own other (Failed x)) op (no_act (op_eq other op))
  end_counts op (Own other (Began c)) a ends = absurd ends.1
  end_counts op (Own other (NotBegun c)) a ends = absurd ends.1
  end_counts op (Own other (Acted q x h)) a ends = absurd ends.1
  end_counts op (Own other Stopped) a ends = absurd ends.1
  end_counts op Dumped a ends = absurd ends

  -- the line says the transactions of all events, since the end is none
  line_counts : (before : List Event) (e : Event) (op : OpId) (a : Answer) → transactions (e ∷ []) op ≡ 0
      → answer_line names before op a ∷ [] ≡ answer_line names (before ++ e ∷ []) op a ∷ []
  line_counts before e op a none =
      let same : transactions before op ≡ transactions (before ++ e ∷ []) op = omega (arith, transactions-append before (e ∷ []) op, none)
      in
      ap (λ (n : ℕ). report_lines.Client (client_name names op.actor) op.number n a ∷ []) same

  pub acts_then_show : (before : List Event) (op : OpId) (n : ℕ) (es : List Event) (end : Event) (a : Answer) → Acts op n es
      → EndsWith op end a → op.actor ≡ actor
      → own_lines names actor before (es ++ end ∷ []) ≡ answer_line names (before ++ (es ++ end ∷ [])) op a ∷ []
  acts_then_show before op n es end a acts ends mine =
      own_lines-append names actor before es (end ∷ [])
      ∙ ap (λ (l : List ReportLine). l ++ own_lines names actor (before ++ es) (end ∷ [])) (acts_show_nothing before op n es acts)
      ∙ end_shows (before ++ es) op end a ends mine
      ∙ line_counts (before ++ es) end op a (end_counts op end a ends)
      ∙ ap (λ (l : List Event). answer_line names l op a ∷ []) (append_assoc before es (end ∷ []))

  stop_counts : (op : OpId) → transactions (Own op Stopped ∷ []) op ≡ 0
  stop_counts op = counts_none (Own op Stopped) op (no_act (op_eq op op))

  pub stop_shows : (before : List Event) (op : OpId) → op.actor ≡ actor
      → own_lines names actor before (Own op Stopped ∷ []) ≡ answer_line names (before ++ Own op Stopped ∷ []) op answers.Stopped ∷ []
  stop_shows before op mine =
      own_shows before op op answers.Stopped answers.Stopped refl refl mine
      ∙ line_counts before (Own op Stopped) op answers.Stopped (stop_counts op)
