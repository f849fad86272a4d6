-- events that are all one actor's own
use Rattle.std.proofs.Common.{◌≡◌, ◌≢◌, ℕ, true, false, if◌then◌else◌, List, [], ◌∷◌, refl, sym, ap, ◌∙◌, eqb}
use Rattle.std.specs.List.{AllByRecursion, filter}
use Rattle.tect_ids.specs.declared.ids.OpId.{OpId}
use Rattle.tect_ids.specs.declared.answer.Answer.{Answer}
use Rattle.tect_ids.specs.declared.answer.Answer.TheVariants as answers
use Rattle.entry_words.specs.declared.entry.Moment.{Moment}
use Rattle.entry_words.specs.declared.entry.Moment.TheVariants.{Act, Local}
use Rattle.entry_words.specs.declared.entry.Note.TheVariants as notes
use Rattle.entry_words.specs.Moments.{is_of}
use Rattle.world_runs.specs.declared.event.Event.{Event}
use Rattle.world_runs.specs.Races.{is_own, concerns}
use Rattle.world_runs.specs.Events.{end_event, event_of, events_of, own}
use Rattle.world_runs.specs.Events.{IsOwnNote}
use Rattle.whole_runs.proofs.Actors.{actor_of_own}
use Rattle.noted_runs.proofs.Shown.{IsNoDump, moment_no_dump, no_dump_own}
use Rattle.noted_runs.proofs.Weaving.{filter_agree_where}
use Rattle.race_runs.proofs.Lists.{filter_all, filter_none, every_weaker}

abbrev pub AreOwn : ℕ → List Event → Type 0
AreOwn actor es = AllByRecursion (λ e. is_own actor e ≡ true) es

abbrev pub AllConcern : ℕ → List Event → Type 0
AllConcern actor es = AllByRecursion (λ e. concerns actor e ≡ true) es

abbrev pub ArePlain : List Event → Type 0
ArePlain es = AllByRecursion IsNoDump es

pub own_of_own : (a : ℕ) (es : List Event) → AreOwn a es → own a es ≡ es
own_of_own a es h = filter_all (is_own a) es h

not_others : (a b : ℕ) (e : Event) → b ≢ a → is_own a e ≡ true → is_own b e ≡ false
not_others a b e d h =
    elim (is_own b e) as (λ t. is_own b e ≡ t → t ≡ false)
    [ true ↦ λ k. absurd (d (sym (actor_of_own b e k) ∙ actor_of_own a e h)) | false ↦ λ k. refl ] refl

pub others_own : (a b : ℕ) (es : List Event) → b ≢ a → AreOwn a es → own b es ≡ []
others_own a b es d h = filter_none (is_own b) es
    (every_weaker (λ e. is_own a e ≡ true) (λ e. is_own b e ≡ false) (λ e k. not_others a b e d k) es h)

-- ---- what is no dump concerns its own actor alone

pub plain_own : (a : ℕ) (es : List Event) → ArePlain es → filter (concerns a) es ≡ own a es
plain_own a es h = filter_agree_where IsNoDump (concerns a) (is_own a) (λ e k. sym (no_dump_own a e k)) es h

pub concerned_own : (a : ℕ) (es : List Event) → ArePlain es → AllConcern a es → AreOwn a es
concerned_own a [] h k = tt
concerned_own a (e ∷ es) h k = (no_dump_own a e h.0 ∙ k.0, concerned_own a es h.1 k.1)

-- ---- moments

pub moments_are_plain : (ms : List Moment) → ArePlain (events_of ms)
moments_are_plain [] = tt
moments_are_plain (m ∷ ms) = (moment_no_dump m, moments_are_plain ms)

own_end : (a : ℕ) (op : OpId) (x : Answer) → is_own a (end_event op x) ≡ eqb op.actor a
own_end a op answers.NoMemory = refl
own_end a op (answers.HistoryFull p) = refl
own_end a op _ = refl

own_moment : (a : ℕ) (m : Moment) → IsOwnNote m → is_own a (event_of m) ≡ is_of a m
own_moment a (Act e heard) h = refl
own_moment a (Local stamp actor (notes.Began op c)) h = ap (λ n. eqb n a) h
own_moment a (Local stamp actor (notes.Ended op x)) h = own_end a op x ∙ ap (λ n. eqb n a) h
own_moment a (Local stamp actor (notes.Stopped op)) h = ap (λ n. eqb n a) h

-- an actor's own events of moments are those of its own moments
pub own_moments : (a : ℕ) (ms : List Moment) → AllByRecursion IsOwnNote ms → own a (events_of ms) ≡ events_of (filter (is_of a) ms)
own_moments a [] h = refl
own_moments a (m ∷ ms) h =
    let rest : own a (events_of ms) ≡ events_of (filter (is_of a) ms) = own_moments a ms h.1 in
    elim (is_of a m) as
    (λ b. is_of a m ≡ b → own a (events_of (m ∷ ms)) ≡ events_of (if b then m ∷ filter (is_of a) ms else filter (is_of a) ms)) [
      | true ↦ λ k. ap (λ b. if b then event_of m ∷ own a (events_of ms) else own a (events_of ms)) (own_moment a m h.0 ∙ k) ∙ ap
          (λ (es : List Event). event_of m ∷ es) rest
      | false ↦ λ k. ap (λ b. if b then event_of m ∷ own a (events_of ms) else own a (events_of ms)) (own_moment a m h.0 ∙ k) ∙ rest
    ] refl
