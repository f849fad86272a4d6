-- the report shows each client's answers of each part, and the dump behind it
use Rattle.std.proofs.Common.{◌≡◌, ℕ, List, [], ◌∷◌, ◌++◌, length, map, refl, sym, ap, ◌∙◌, subst}
use Rattle.std.proofs.lemmas.List.{length-map}
use Rattle.std.specs.List.{AllByRecursion, filter}
use Rattle.store_rules.specs.Store.{opening_store}
use Rattle.entry_words.specs.declared.entry.Moment.{Moment}
use Rattle.world_runs.specs.declared.event.Event.{Event}
use Rattle.world_runs.specs.declared.event.Event.TheVariants.{Dumped}
use Rattle.world_runs.specs.Races.{own_lines, part_lines, race_report_after}
use Rattle.world_runs.specs.Events.{events_of, own}
use Rattle.world_runs.specs.Events.{IsOwnNote, StampsRise}
use Rattle.whole_runs.proofs.Refusals.{AreQuiet}
use Rattle.world_runs.specs.OwnRuns.{stored_after}
use Rattle.whole_runs.specs.Woven.{is_early, is_late}
use Rattle.whole_runs.proofs.OwnLines.{own_lines_own}
use Rattle.noted_runs.proofs.Weaving.{stamps_rise-filter}
use Rattle.race_runs.specs.Stories.{Part, Story, Answers, part_events}
use Rattle.race_runs.specs.Gathered.{part_of, rest_of, silent_now, answers_now, answers_last, history_of_race, store_at, told}
use Rattle.race_runs.proofs.Cuts.{AllGoOn, part_now, part_last, plain_now, plain_last, quiet_now, own_now, own_last, history_next}
use Rattle.race_runs.proofs.Cuts.{all_go_on}
use Rattle.race_runs.proofs.Lists.{every-filter}
use Rattle.race_runs.proofs.PartLines.{lines_by_client, report_end, report_dump}
use Rattle.race_runs.proofs.Parts.{GoesOn, ended_is, none_ended}
use Rattle.race_runs.proofs.Stores.{ClocksRise, next_up_to, part_store, dumped_store, all_moments_stay, past_up_to}
use Rattle.race_runs.proofs.Timing.{AllUpTo}

-- one client's lines of a part are its answers
shown_now : (names : List (List ℕ)) (low k : ℕ) (ks : List ℕ) (before part : List Event) (ms : List Moment) (s : Story)
    → GoesOn names low (k ∷ ks) before ms s
    → own s.actor part ≡ part_events (part_of s) → own_lines names s.actor before part ≡ (part_of s).answers
shown_now names low k ks before part ms s g own_is =
    let a : Answers names s.actor (own s.actor before) (part_of s ∷ (rest_of s).ended) s.last =
    subst (λ (ps : List Part). Answers names s.actor (own s.actor before) ps s.last) (ended_is low k ks s g.timely) g.answers in
    sym (own_lines_own names s.actor before part) ∙ ap (λ (es : List Event). own_lines names s.actor (own s.actor before) es)
    own_is ∙ sym a.0

shown_last : (names : List (List ℕ)) (low : ℕ) (before part : List Event) (ms : List Moment) (s : Story)
    → GoesOn names low [] before ms s
    → own s.actor part ≡ part_events s.last → own_lines names s.actor before part ≡ s.last.answers
shown_last names low before part ms s g own_is =
    let a : Answers names s.actor (own s.actor before) [] s.last =
    subst (λ (ps : List Part). Answers names s.actor (own s.actor before) ps s.last) (none_ended low s.ended s.last g.timely)
    g.answers in
    sym (own_lines_own names s.actor before part) ∙ ap (λ (es : List Event). own_lines names s.actor (own s.actor before) es)
    own_is ∙ sym a

lines_now : (names : List (List ℕ)) (low k : ℕ) (ks : List ℕ) (before : List Event) (ms : List Moment) (ss : List Story)
    → length ss ≡ length names → AllGoOn names low (k ∷ ks) before ms ss → AllByRecursion IsOwnNote ms
    → part_lines names before (part_now k ms ss) ≡ answers_now ss
lines_now names low k ks before ms ss number go notes =
    lines_by_client names names 1 before (part_now k ms ss) (λ s. (part_of s).answers) ss number
    (λ i s e. ap (λ n. own_lines names n before (part_now k ms ss)) (sym (go i s e).0)
    ∙ shown_now names low k ks before (part_now k ms ss) ms s (go i s e).1
    (own_now names low k ks before ms ss go notes i s e))

lines_last : (names : List (List ℕ)) (low : ℕ) (before : List Event) (ms : List Moment) (ss : List Story)
    → length ss ≡ length names → AllGoOn names low [] before ms ss → AllByRecursion IsOwnNote ms
    → part_lines names before (part_last ms ss) ≡ answers_last ss
lines_last names low before ms ss number go notes =
    lines_by_client names names 1 before (part_last ms ss) (λ s. s.last.answers) ss number
    (λ i s e. ap (λ n. own_lines names n before (part_last ms ss)) (sym (go i s e).0)
    ∙ shown_last names low before (part_last ms ss) ms s (go i s e).1 (own_last names low before ms ss go notes i s e))

-- What is yet to be shown, behind these events, which are those of the moments that have passed.
pub report_is_told : (names : List (List ℕ)) (low : ℕ) (clocks : List ℕ) (before : List Event) (past ms : List Moment)
    (ss : List Story)
    → length ss ≡ length names → AllGoOn names low clocks before ms ss → AllByRecursion IsOwnNote ms → StampsRise ms
    → ClocksRise (past ++ ms) low clocks → AllUpTo low past
    → stored_after opening_store before ≡ stored_after opening_store (events_of past)
    → race_report_after names before [] (history_of_race clocks ss ms) ≡ told clocks ss (past ++ ms)
report_is_told names low [] before past ms ss number go notes rise clocks_rise up store =
    report_end names before (part_last ms ss) (plain_last names low [] before ms ss go) ∙ lines_last names low before
    ms ss number go notes
report_is_told names low (k ∷ ks) before past ms ss number go notes rise clocks_rise up store =
    let part : List Event = part_now k ms ss in
    let late : List Moment = filter (is_late k) ms in
    let gone : List Moment = past ++ filter (is_early k) ms in
    let next : AllGoOn names k ks ((before ++ part) ++ Dumped ∷ []) late (map rest_of ss) = all_go_on names low k ks before ms
    ss go notes in
    let up_to : AllUpTo k past = next_up_to low k past ms clocks_rise.0 up in
    let quiet : AreQuiet (silent_now ss) = quiet_now names low k ks before ms ss go in
    let stays : gone ++ late ≡ past ++ ms = all_moments_stay k past ms rise in
    let stored : stored_after opening_store (before ++ part) ≡ store_at k (past ++ ms) =
    part_store k before past ms (silent_now ss) quiet up_to store in
    let rest : race_report_after names ((before ++ part) ++ Dumped ∷ []) [] (history_of_race ks (map rest_of ss) late) ≡ told ks
    (map rest_of ss) (past ++ ms) =
    report_is_told names k ks ((before ++ part) ++ Dumped ∷ []) gone late (map rest_of ss) (length-map ss rest_of ∙ number) next
    (every-filter IsOwnNote (is_late k) ms notes) (stamps_rise-filter (is_late k) ms rise)
    (subst (λ (ns : List Moment). ClocksRise ns k ks) (sym stays) clocks_rise.1)
    (past_up_to k past ms up_to) (dumped_store k before past ms (silent_now ss) quiet store)
    ∙ ap (λ (ns : List Moment). told ks (map rest_of ss) ns) stays in
    ap (λ (es : List Event). race_report_after names before [] es) (history_next k ks ss ms)
    ∙ report_dump names before part (history_of_race ks (map rest_of ss) late) (plain_now names low k ks before ms ss go)
    ∙ rw (lines_now names low k ks before ms ss number go notes, stored, rest) refl
