-- a report that is told part by part
use Rattle.std.proofs.Common.{◌≡◌, ℕ, List, [], ◌∷◌, ◌++◌, length, refl, ap, ◌∙◌, append_assoc, subst, arith}
use Rattle.std.specs.List.{filter}
use Rattle.tect_ids.specs.declared.script.ReportLine.{ReportLine}
use Rattle.store_rules.specs.Store.{Store, opening_store}
use Rattle.entry_words.specs.declared.entry.Moment.{Moment}
use Rattle.world_runs.specs.Events.{StampsRise}
use Rattle.whole_runs.specs.Woven.{is_late}
use Rattle.race_ends.specs.declared.ended.EndedPart.{EndedPart}
use Rattle.race_ends.specs.Told.{DumpsRise, shown, stored_up_to, told_by}
use Rattle.race_ends.proofs.Replays.{Replayed, none_replayed, later_rise, next_replayed, next_store}

-- with these parts still to tell, and the moments behind the last dump still to do again
pub record Telling (ms later : List Moment) (s : Store) (report last : List ReportLine) (rest all : List EndedPart) : Type 0 where
  low : ℕ
  replayed : Replayed ms later low s
  rises : DumpsRise ms low rest
  lines : report ++ told_by rest last ms ≡ told_by all last ms

pub telling_begins : (ms : List Moment) (s : Store) (report last : List ReportLine) (rest all : List EndedPart) → s ≡ opening_store
    → report ≡ [] → rest ≡ all → DumpsRise ms 0 all
    → Telling ms ms s report last rest all
telling_begins ms s report last rest all opens none whole rises =
    let begun : Telling ms ms opening_store [] last all all = record { low = 0; replayed = none_replayed ms; rises = rises; lines = refl }
    in
    rw (opens, none, whole) begun

module _ (ms later : List Moment) (s : Store) (report last : List ReportLine) (rise : StampsRise ms) where
  pub telling_rises : (rest all : List EndedPart) → Telling ms later s report last rest all → StampsRise later
  telling_rises rest all t = later_rise ms later t.low s t.replayed rise

  goes_on : (p : EndedPart) (rest all : List EndedPart) → Telling ms later s report last (p ∷ rest) all
      → Telling ms (filter (is_late p.clock) later) (stored_up_to p.clock s later) (report ++ shown p (stored_up_to p.clock s later)) last
      rest all
  goes_on p rest all t = record {
    low = p.clock;
    replayed = next_replayed ms later t.low s t.replayed rise p.clock t.rises.0;
    rises = t.rises.1;
    lines =
        append_assoc report (shown p (stored_up_to p.clock s later)) (told_by rest last ms)
        ∙ ap (λ (u : Store). report ++ (shown p u ++ told_by rest last ms)) (next_store ms later t.low s t.replayed rise p.clock t.rises.0)
        ∙ t.lines;
  }

  -- one part more
  pub telling_goes_on : (p : EndedPart) (old rest all : List EndedPart) (behind : List Moment) (u : Store) (lines : List ReportLine)
      → Telling ms later s report last old all
      → old ≡ p ∷ rest → behind ≡ filter (is_late p.clock) later → u ≡ stored_up_to p.clock s later → lines ≡ report ++ shown p u
      → Telling ms behind u lines last rest all
  telling_goes_on p old rest all behind u lines t olds behinds store shows =
      let next = goes_on p rest all (subst (λ (ps : List EndedPart). Telling ms later s report last ps all) olds t) in
      rw (behinds, shows, store) next

-- none is left
pub telling_ends : (ms later : List Moment) (s : Store) (report last : List ReportLine) (rest all : List EndedPart)
    → Telling ms later s report last rest all → length rest ≡ 0
    → report ++ last ≡ told_by all last ms
telling_ends ms later s report last [] all t none = t.lines
telling_ends ms later s report last (p ∷ rest) all t none = absurd (omega (arith, none))
