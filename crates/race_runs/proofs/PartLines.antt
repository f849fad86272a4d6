-- what a report shows of a part, by the lines of each client
use Rattle.std.proofs.Common.{◌≡◌, ℕ, ◌+◌, List, [], ◌∷◌, ◌++◌, length, refl, sym, ap, ◌∙◌, Some, map, add-zero, suc, arith}
use Rattle.std.proofs.lemmas.List.{append-nil}
use Rattle.std.specs.List.{flat_map, slice_get}
use Rattle.tect_ids.specs.declared.script.ReportLine.{ReportLine}
use Rattle.tect_ids.specs.declared.script.ReportLine.TheVariants as report_lines
use Rattle.store_rules.specs.Dumps.{store_dump}
use Rattle.world_runs.specs.declared.event.Event.{Event}
use Rattle.world_runs.specs.declared.event.Event.TheVariants.{Dumped}
use Rattle.store_rules.specs.Store.{opening_store}
use Rattle.world_runs.specs.OwnRuns.{stored_after}
use Rattle.world_runs.specs.Races.{own_lines, lines_from, part_lines, race_report_after}
use Rattle.noted_runs.proofs.Shown.{part_grows}
use Rattle.race_runs.specs.Stories.{Story}
use Rattle.race_runs.proofs.Owned.{ArePlain}

later_place : (n i : ℕ) → n + 1 + i ≡ n + suc i
later_place n i = omega arith

-- the lines of a part, where those of each client are known
pub lines_by_client : (clients names : List (List ℕ)) (n : ℕ) (before part : List Event)
    (shown : Story → List ReportLine) (ss : List Story) → length ss ≡ length names
    → ((i : ℕ) (s : Story) → slice_get ss i ≡ Some s → own_lines clients (n + i) before part ≡ shown s)
    → lines_from clients names n before part ≡ flat_map shown ss
lines_by_client clients [] n before part shown [] l h = refl
lines_by_client clients [] n before part shown (s ∷ ss) l h = absurd (omega arith)
lines_by_client clients (name ∷ names) n before part shown [] l h = absurd (omega arith)
lines_by_client clients (name ∷ names) n before part shown (s ∷ ss) l h =
    let first : own_lines clients n before part ≡ shown s = rw add-zero at (h 0 s refl) in
    let short : length ss ≡ length names = omega arith in
    let others : lines_from clients names (n + 1) before part ≡ flat_map shown ss =
    lines_by_client clients names (n + 1) before part shown ss short
    (λ i t e. ap (λ k. own_lines clients k before part) (later_place n i) ∙ h (suc i) t e) in
    rw (first, others) refl

-- a part with no dump behind it, and one with a dump
pub report_end : (clients : List (List ℕ)) (before part : List Event) → ArePlain part
    → race_report_after clients before [] part ≡ part_lines clients before part
report_end clients before part h =
    ap (λ (es : List Event). race_report_after clients before [] es) (sym (append-nil part)) ∙ part_grows clients before []
    part [] h

pub report_dump : (clients : List (List ℕ)) (before part es : List Event) → ArePlain part
    → race_report_after clients before [] (part ++ Dumped ∷ es)
    ≡ part_lines clients before part ++ map report_lines.Dump (store_dump (stored_after opening_store (before ++ part)))
    ++ race_report_after clients ((before ++ part) ++ Dumped ∷ []) [] es
report_dump clients before part es h = part_grows clients before [] part (Dumped ∷ es) h
