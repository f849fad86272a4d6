-- what a pass takes up is what the events of its moments do
use Rattle.std.proofs.Common.{◌≡◌, ℕ, ◌+◌, ◌<◌, ◌^◌, inl, inr, Bool, true, false, ◌&&◌, if◌then◌else◌, List, [], ◌∷◌, refl, sym, ap, ◌∙◌}
use Rattle.std.proofs.Common.{eqb, arith}
use Rattle.std.proofs.lemmas.List.Sums.{sum_by-cons}
use Rattle.tect_ids.specs.declared.ids.OpId.{OpId}
use Rattle.tect_ids.specs.declared.answer.Answer.{Answer}
use Rattle.tect_ids.specs.declared.answer.Answer.TheVariants as answers
use Rattle.entry_words.specs.declared.entry.Note.{Note}
use Rattle.entry_words.specs.declared.entry.Note.TheVariants as notes
use Rattle.entry_words.specs.declared.entry.Moment.{Moment}
use Rattle.entry_words.specs.declared.entry.Moment.TheVariants.{Act, Local}
use Rattle.passes.specs.declared.pass.Pass.{Pass}
use Rattle.store_rules.specs.ReplyBytes.{reply_bytes}
use Rattle.entry_words.specs.Moments.{op_of, trail_of, all_of_actor, all_notes_of, all_reply_bytes, moment_cost, moments_cost}
use Rattle.passes.specs.Commits as passes
use Rattle.world_runs.specs.declared.event.Event.{Event}
use Rattle.world_runs.specs.declared.event.Event.TheVariants.{Own, Dumped}
use Rattle.world_runs.specs.declared.event.Happening.{Happening}
use Rattle.world_runs.specs.declared.event.Happening.TheVariants.{Began, NotBegun, Acted, Ended, Stopped, Failed}
use Rattle.world_runs.specs.Events.{end_event, event_of, events_of}
use Rattle.world_runs.specs.Limits.{cost, kept_bytes_of, event_cost, event_bytes, used, kept_bytes, IsFull}
use Rattle.world_runs.specs.Refusals.{IsOfRefused}

no_cost : (a : ℕ) (op : OpId) (h : Happening) → cost h ≡ 0 → event_cost a (Own op h) ≡ 0
no_cost a op h none = elim (eqb op.actor a) as (λ b. (if b then cost h else 0) ≡ 0) [ true ↦ none | false ↦ refl ]

no_bytes : (a : ℕ) (op : OpId) (h : Happening) → kept_bytes_of h ≡ 0 → event_bytes a (Own op h) ≡ 0
no_bytes a op h none = elim (eqb op.actor a) as (λ b. (if b then kept_bytes_of h else 0) ≡ 0) [ true ↦ none | false ↦ refl ]

end_cost : (a : ℕ) (op : OpId) (x : Answer) → event_cost a (end_event op x) ≡ 0
end_cost a op answers.NoMemory = no_cost a op (Failed answers.NoMemory) refl
end_cost a op (answers.HistoryFull p) = no_cost a op (Failed (answers.HistoryFull p)) refl
end_cost a op x = no_cost a op (Ended x) refl

end_bytes : (a : ℕ) (op : OpId) (x : Answer) → event_bytes a (end_event op x) ≡ 0
end_bytes a op answers.NoMemory = no_bytes a op (Failed answers.NoMemory) refl
end_bytes a op (answers.HistoryFull p) = no_bytes a op (Failed (answers.HistoryFull p)) refl
end_bytes a op x = no_bytes a op (Ended x) refl

both : (b c : Bool) → (b && c) ≡ true → (b ≡ true) × (c ≡ true)
both true true h = (refl, refl)
both true false h = absurd cc
both false c h = absurd cc

note_costs : (a stamp by : ℕ) (note : Note) → all_notes_of a (Local stamp by note ∷ []) ≡ true
    → event_cost a (event_of (Local stamp by note)) ≡ moment_cost (Local stamp by note)
note_costs a stamp by (notes.Began op c) own = ap (λ (b : Bool). if b then 2 else 0) (both (eqb op.actor a) true own).0
note_costs a stamp by (notes.Ended op x) own = end_cost a op x
note_costs a stamp by (notes.Stopped op) own = no_cost a op Stopped refl

note_bytes : (a stamp by : ℕ) (note : Note) → event_bytes a (event_of (Local stamp by note)) ≡ 0
note_bytes a stamp by (notes.Began op c) = no_bytes a op (Began c) refl
note_bytes a stamp by (notes.Ended op x) = end_bytes a op x
note_bytes a stamp by (notes.Stopped op) = no_bytes a op Stopped refl

pub moments_use : (a : ℕ) (ms : List Moment) → all_of_actor a ms ≡ true → all_notes_of a ms ≡ true → used (events_of ms) a ≡ moments_cost ms
moments_use a [] own notes = refl
moments_use a (Act e h ∷ ms) own notes =
    let here = both (eqb e.actor a) (all_of_actor a ms) own in
    let rest = moments_use a ms here.1 notes in
    sum_by-cons (event_cost a) (event_of (Act e h)) (events_of ms) ∙ ap (λ (b : Bool). (if b then 1 else 0) + used (events_of ms) a) here.0
    ∙ ap (λ (n : ℕ). 1 + n) rest ∙ sym (sum_by-cons moment_cost (Act e h) ms)
moments_use a (Local stamp by note ∷ ms) own notes =
    let here = both (eqb by a) (all_of_actor a ms) own in
    let noted = both (eqb (op_of note).actor a) (all_notes_of a ms) notes in
    let rest = moments_use a ms here.1 noted.1 in
    sum_by-cons (event_cost a) (event_of (Local stamp by note)) (events_of ms)
    ∙ ap (λ (n : ℕ). n + used (events_of ms) a) (note_costs a stamp by note (rw noted.0 refl))
    ∙ ap (λ (n : ℕ). moment_cost (Local stamp by note) + n) rest ∙ sym (sum_by-cons moment_cost (Local stamp by note) ms)

pub moments_keep : (a : ℕ) (ms : List Moment) → all_of_actor a ms ≡ true → kept_bytes (events_of ms) a ≡ all_reply_bytes (trail_of ms)
moments_keep a [] own = refl
moments_keep a (Act e h ∷ ms) own =
    let here = both (eqb e.actor a) (all_of_actor a ms) own in
    sum_by-cons (event_bytes a) (event_of (Act e h)) (events_of ms) ∙ ap
    (λ (b : Bool). (if b then reply_bytes e.reply else 0) + kept_bytes (events_of ms) a) here.0
    ∙ ap (λ (n : ℕ). reply_bytes e.reply + n) (moments_keep a ms here.1)
moments_keep a (Local stamp by note ∷ ms) own =
    let here = both (eqb by a) (all_of_actor a ms) own in
    sum_by-cons (event_bytes a) (event_of (Local stamp by note)) (events_of ms)
    ∙ ap (λ (n : ℕ). n + kept_bytes (events_of ms) a) (note_bytes a stamp by note) ∙ omega (arith, moments_keep a ms here.1)

-- ---- of a pass

module _ (p : Pass) where
  pub pass_use : used (events_of p.moments.items) p.actor ≡ passes.used p
  pass_use = moments_use p.actor p.moments.items p.known.own p.known.notes_own ∙ sym p.known.costs

  pub pass_bytes : kept_bytes (events_of p.moments.items) p.actor ≡ p.bytes
  pass_bytes = moments_keep p.actor p.moments.items p.known.own ∙ sym p.known.weighed

  pub fills : passes.IsFull p → p.clock < 2 ^ 63 → IsFull (events_of p.moments.items) p.actor
  fills (inl much) early = inl (omega (arith, pass_use, much))
  fills (inr (inl heavy)) early = inr (omega (arith, pass_bytes, heavy))
  fills (inr (inr late)) early = absurd (omega (arith, late, early))

  pub has_room : ¬ passes.IsFull p → ¬ IsFull (events_of p.moments.items) p.actor
  has_room room (inl much) = room (inl (omega (arith, pass_use, much)))
  has_room room (inr heavy) = room (inr (inl (omega (arith, pass_bytes, heavy))))

-- the events of refused ops take up nothing
pub refused_cost : (a : ℕ) (before : List Event) (e : Event) → IsOfRefused before e → event_cost a e ≡ 0
refused_cost a before (Own op (Began c)) is = absurd is
refused_cost a before (Own op (Acted q x h)) is = absurd is
refused_cost a before (Own op (NotBegun c)) is = no_cost a op (NotBegun c) refl
refused_cost a before (Own op (Ended x)) is = no_cost a op (Ended x) refl
refused_cost a before (Own op Stopped) is = no_cost a op Stopped refl
refused_cost a before (Own op (Failed x)) is = no_cost a op (Failed x) refl
refused_cost a before Dumped is = absurd is
