-- A pass has few moments, so an op took few transactions.
use Rattle.std.proofs.Common.{◌≡◌, ℕ, ◌≤◌, List, [], ◌∷◌, ◌++◌, length, refl, arith}
use Rattle.std.proofs.lemmas.List.{length-map}
use Rattle.std.proofs.lemmas.List.Sums.{count_by-le-length}
use Rattle.tect_ids.specs.declared.ids.OpId.{OpId}
use Rattle.entry_words.specs.declared.entry.Moment.{Moment}
use Rattle.world_runs.specs.declared.event.Event.{Event}
use Rattle.world_runs.specs.declared.event.Event.TheVariants.{Own, Dumped}
use Rattle.world_runs.specs.declared.event.Happening.TheVariants.{Began, NotBegun, Acted, Ended, Stopped, Failed}
use Rattle.world_runs.specs.Report.{is_act_of, transactions}
use Rattle.world_runs.specs.Events.{event_of, events_of}
use Rattle.world_runs.specs.Refusals.{IsOfRefused, AreOfRefused}
use Rattle.clients.proofs.Growing.{transactions-append, none_of, no_act}

silent_event : (before : List Event) (op : OpId) (e : Event) → IsOfRefused before e → transactions (e ∷ []) op ≡ 0
silent_event before op (Own other (NotBegun c)) is = none_of (Own other (NotBegun c)) op (no_act op other (NotBegun c) refl)
silent_event before op (Own other (Ended a)) is = none_of (Own other (Ended a)) op (no_act op other (Ended a) refl)
silent_event before op (Own other Stopped) is = none_of (Own other Stopped) op (no_act op other Stopped refl)
silent_event before op (Own other (Failed a)) is = none_of (Own other (Failed a)) op (no_act op other (Failed a) refl)
silent_event before op (Own other (Began c)) is = absurd is
silent_event before op (Own other (Acted q x h)) is = absurd is
silent_event before op Dumped is = absurd is

silent_none : (before : List Event) (op : OpId) (es : List Event) → AreOfRefused before es → transactions es op ≡ 0
silent_none before op [] all = refl
silent_none before op (e ∷ es) all =
    omega (arith, transactions-append (e ∷ []) es op, silent_event before op e all.0, silent_none (before ++ e ∷ []) op es all.1)

pub few_transactions : (ms : List Moment) (silent : List Event) (op : OpId) (n : ℕ) → length ms ≤ n → AreOfRefused [] silent
    → transactions (events_of ms ++ silent) op ≤ n
few_transactions ms silent op n few all =
    omega (
      arith,
      transactions-append (events_of ms) silent op,
      silent_none [] op silent all,
      count_by-le-length (is_act_of op) (events_of ms),
      length-map ms event_of,
      few,
    )
