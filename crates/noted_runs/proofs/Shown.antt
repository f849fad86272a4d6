-- what a woven history shows is told by what each actor's own events of each part show
use Rattle.std.proofs.Common.{◌≡◌, ℕ, ◌+◌, List, [], ◌∷◌, ◌++◌, refl, sym, ap, ◌∙◌, append_assoc, map}
use Rattle.std.proofs.lemmas.List.{append-nil}
use Rattle.std.proofs.lemmas.List.Elements.{recursion_from_All}
use Rattle.std.specs.List.{AllByRecursion, filter}
use Rattle.tect_ids.specs.declared.answer.Answer.{Answer}
use Rattle.tect_ids.specs.declared.answer.Answer.TheVariants as answers
use Rattle.tect_ids.specs.declared.ids.OpId.{OpId}
use Rattle.tect_ids.specs.declared.script.ReportLine.{ReportLine}
use Rattle.tect_ids.specs.declared.script.ReportLine.TheVariants as report_lines
use Rattle.store_rules.specs.Dumps.{store_dump}
use Rattle.store_rules.specs.Store.{Store, opening_store}
use Rattle.entry_words.specs.declared.entry.Moment.{Moment}
use Rattle.entry_words.specs.declared.entry.Moment.TheVariants.{Act, Local}
use Rattle.entry_words.specs.declared.entry.Note.TheVariants as notes
use Rattle.world_runs.specs.declared.event.Event.{Event}
use Rattle.world_runs.specs.declared.event.Event.TheVariants.{Own, Dumped}
use Rattle.world_runs.specs.Races.{concerns, is_own, own_lines, lines_from, part_lines, race_report_after}
use Rattle.world_runs.specs.Events.{end_event, event_of, events_of, own}
use Rattle.world_runs.specs.Events.{IsOwnNote}
use Rattle.whole_runs.proofs.Refusals.{AreQuiet, IsQuiet}
use Rattle.noted_runs.specs.Laws.{WovenReports}
use Rattle.world_runs.specs.OwnRuns.{stored_after}
use Rattle.whole_runs.specs.PartReports.{by_client, own_part, part_report, parts_report}
use Rattle.whole_runs.specs.Woven.{Cut, is_early, is_late, woven}
use Rattle.world_runs.proofs.Actors.{own-append}
use Rattle.whole_runs.proofs.Actors.{stored_after-append}
use Rattle.whole_runs.proofs.OwnLines.{own_lines_own}
use Rattle.noted_runs.proofs.Weaving.{AreSilentCuts, filter_agree_where, keeps, part_concerns, silent_cuts, silent_replies}

-- ---- by client

pub by_client_agree : (names : List (List ℕ)) (actor : ℕ) (f g : ℕ → List ReportLine) → ((a : ℕ) → f a ≡ g a)
    → by_client names actor f ≡ by_client names actor g
by_client_agree [] actor f g same = refl
by_client_agree (name ∷ names) actor f g same = ap (λ l. l ++ by_client names (actor + 1) f) (same actor) ∙ ap (λ l. g actor ++ l)
    (by_client_agree names (actor + 1) f g same)

pub lines_by_client : (clients names : List (List ℕ)) (actor : ℕ) (before part : List Event)
    → lines_from clients names actor before part ≡ by_client names actor (λ a. own_lines clients a before part)
lines_by_client clients [] actor before part = refl
lines_by_client clients (name ∷ names) actor before part = ap (λ l. own_lines clients actor before part ++ l)
    (lines_by_client clients names (actor + 1) before part)

-- ---- the parts of a report

-- no event is a dump
abbrev pub IsNoDump : Event → Type 0
IsNoDump (Own op h) = Unit {0}
IsNoDump Dumped = ⊥

pub part_grows : (clients : List (List ℕ)) (before part es fs : List Event) → AllByRecursion IsNoDump es
    → race_report_after clients before part (es ++ fs) ≡ race_report_after clients before (part ++ es) fs
part_grows clients before part [] fs all = ap (λ p. race_report_after clients before p fs) (sym (append-nil part))
part_grows clients before part (Own op h ∷ es) fs all =
    part_grows clients before (part ++ Own op h ∷ []) es fs all.1
    ∙ ap (λ p. race_report_after clients before p fs) (append_assoc part (Own op h ∷ []) es)
part_grows clients before part (Dumped ∷ es) fs all = absurd all.0

end_no_dump : (op : OpId) (a : Answer) → IsNoDump (end_event op a)
end_no_dump op answers.NoMemory = tt
end_no_dump op (answers.HistoryFull p) = tt
end_no_dump op _ = tt

pub moment_no_dump : (m : Moment) → IsNoDump (event_of m)
moment_no_dump (Act e h) = tt
moment_no_dump (Local stamp by (notes.Began op c)) = tt
moment_no_dump (Local stamp by (notes.Ended op a)) = end_no_dump op a
moment_no_dump (Local stamp by (notes.Stopped op)) = tt

pub silent_no_dump : (e : Event) → IsQuiet e → IsNoDump e
silent_no_dump (Own op h) is = tt
silent_no_dump Dumped is = absurd is

part_no_dump : (ms : List Moment) (silent : List Event) → AreQuiet silent → AllByRecursion IsNoDump (events_of ms ++ silent)
part_no_dump [] [] quiet = tt
part_no_dump [] (e ∷ es) quiet = (silent_no_dump e quiet.0, part_no_dump [] es quiet.1)
part_no_dump (m ∷ ms) silent quiet = (moment_no_dump m, part_no_dump ms silent quiet)

-- ---- own events of a part

pub no_dump_own : (actor : ℕ) (e : Event) → IsNoDump e → is_own actor e ≡ concerns actor e
no_dump_own actor (Own op h) is = refl
no_dump_own actor Dumped is = absurd is

pub own_events : (actor : ℕ) (ms : List Moment) (silent : List Event) → AllByRecursion IsOwnNote ms → AreQuiet silent
    → own actor (events_of ms ++ silent) ≡ own_part actor ms silent
own_events actor ms silent are quiet =
    filter_agree_where IsNoDump (is_own actor) (concerns actor) (no_dump_own actor) (events_of ms ++ silent) (part_no_dump ms silent quiet)
    ∙ part_concerns actor silent ms are quiet

-- ---- the report

module _ (clients : List (List ℕ)) where
  part_shown : (history : List Event) (before : ℕ → List Event) (ms : List Moment) (silent : List Event)
      → ((a : ℕ) → own a history ≡ before a) → AllByRecursion IsOwnNote ms → AreQuiet silent
      → part_lines clients history (events_of ms ++ silent) ≡ part_report clients before ms silent
  part_shown history before ms silent own_before are quiet =
      lines_by_client clients clients 1 history (events_of ms ++ silent)
      ∙ by_client_agree clients 1 (λ a. own_lines clients a history (events_of ms ++ silent))
      (λ a. own_lines clients a (before a) (own_part a ms silent))
      (λ a.
      sym (own_lines_own clients a history (events_of ms ++ silent))
      ∙ ap (λ b. own_lines clients a b (own a (events_of ms ++ silent))) (own_before a)
      ∙ ap (λ p. own_lines clients a (before a) p) (own_events a ms silent are quiet))

  -- the store behind a part, and that behind its dump
  part_store : (history : List Event) (store : Store) (ms : List Moment) (silent : List Event) → stored_after opening_store history ≡ store
      → AreQuiet silent
      → stored_after opening_store (history ++ (events_of ms ++ silent)) ≡ stored_after store (events_of ms)
  part_store history store ms silent at quiet =
      let part : List Event = events_of ms ++ silent in
      stored_after-append opening_store history part ∙ ap (λ s. stored_after s part) at
      ∙ stored_after-append store (events_of ms) silent ∙ (silent_replies (stored_after store (events_of ms)) silent quiet).1

  own_more : (history : List Event) (before : List Event) (a : ℕ) (ms : List Moment) (silent : List Event) → own a history ≡ before
      → AllByRecursion IsOwnNote ms → AreQuiet silent
      → own a ((history ++ (events_of ms ++ silent)) ++ Dumped ∷ []) ≡ before ++ own_part a ms silent
  own_more history before a ms silent own_before are quiet =
      let part : List Event = events_of ms ++ silent in
      own-append a (history ++ part) (Dumped ∷ []) ∙ append-nil (own a (history ++ part)) ∙ own-append a history part
      ∙ ap (λ b. b ++ own a part) own_before ∙ ap (λ p. before ++ p) (own_events a ms silent are quiet)

  reports_by : (cuts : List Cut) (last : List Event) (ms : List Moment) (history : List Event) (before : ℕ → List Event) (store : Store)
      → ((a : ℕ) → own a history ≡ before a) → stored_after opening_store history ≡ store → AllByRecursion IsOwnNote ms
      → AreSilentCuts cuts last
      → race_report_after clients history [] (woven cuts last ms) ≡ parts_report clients before store cuts last ms
  reports_by [] last ms history before store own_before at are quiet =
      let part : List Event = events_of ms ++ last in
      ap (λ es. race_report_after clients history [] es) (sym (append-nil part)) ∙ part_grows clients history [] part []
      (part_no_dump ms last quiet.1)
      ∙ part_shown history before ms last own_before are quiet.1
  reports_by (c ∷ cs) last ms history before store own_before at are quiet =
      let early : List Moment = filter (is_early c.stamp) ms in
      let late : List Moment = filter (is_late c.stamp) ms in
      let part : List Event = events_of early ++ c.silent in
      let behind : List Event = (history ++ part) ++ Dumped ∷ [] in
      let own_early : AllByRecursion IsOwnNote early = keeps IsOwnNote (is_early c.stamp) ms are in
      let store_then : stored_after opening_store (history ++ part) ≡ stored_after store (events_of early) = part_store history store early
      c.silent at quiet.0.0 in
      let store_behind : stored_after opening_store behind ≡ stored_after store (events_of early) =
      stored_after-append opening_store (history ++ part) (Dumped ∷ []) ∙ store_then in
      let rest : race_report_after clients behind [] (woven cs last late)
      ≡ parts_report clients (λ actor. before actor ++ own_part actor early c.silent) (stored_after store (events_of early)) cs last
      late =
      reports_by cs last late behind (λ actor. before actor ++ own_part actor early c.silent) (stored_after store (events_of early))
      (λ a. own_more history (before a) a early c.silent (own_before a) own_early quiet.0.0) store_behind
      (keeps IsOwnNote (is_late c.stamp) ms are) (quiet.0.1, quiet.1) in
      part_grows clients history [] part (Dumped ∷ woven cs last late) (part_no_dump early c.silent quiet.0.0)
      ∙ ap (λ l. (l ++ map report_lines.Dump (store_dump (stored_after opening_store (history ++ part)))) ++ race_report_after clients
      behind [] (woven cs last late))
      (part_shown history before early c.silent own_before own_early quiet.0.0)
      ∙ ap (λ s. (part_report clients before early c.silent ++ map report_lines.Dump (store_dump s)) ++ race_report_after clients
      behind [] (woven cs last late)) store_then
      ∙ ap (λ l. (part_report clients before early c.silent ++ map report_lines.Dump
      (store_dump (stored_after store (events_of early)))) ++ l) rest

pub woven_reports : WovenReports
woven_reports clients cuts last ms are quiet =
    reports_by clients cuts last ms [] (λ a. []) opening_store (λ a. refl) refl (recursion_from_All IsOwnNote ms are)
    (silent_cuts cuts last quiet)
