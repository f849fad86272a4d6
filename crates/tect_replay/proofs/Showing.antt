-- What a line leaves, from what its client played and from what a dump shows.
use Rattle.std.proofs.Common.{◌≡◌, ℕ, Bool, true, if◌then◌else◌, Option, List, [], ◌∷◌, ◌++◌, map, refl, sym, ap, ◌∙◌}
use Rattle.std.proofs.lemmas.List.{append-nil}
use Rattle.program_forms.specs.Kinds.{Programs}
use Rattle.tect_ids.specs.declared.dump.DumpLine.{DumpLine}
use Rattle.tect_ids.specs.declared.script.Act.{Act}
use Rattle.tect_ids.specs.declared.script.Line.TheVariants as lines
use Rattle.tect_ids.specs.declared.script.ReportLine.{ReportLine}
use Rattle.tect_ids.specs.declared.script.ReportLine.TheVariants as report_lines
use Rattle.store_rules.specs.Dumps.{store_dump}
use Rattle.store_rules.specs.Store.{Store, opening_store}
use Rattle.world_runs.specs.declared.event.Event.{Event}
use Rattle.world_runs.specs.declared.event.Event.TheVariants.{Own, Dumped}
use Rattle.world_runs.specs.Races.{is_own, own_lines}
use Rattle.world_runs.specs.Actors.{running_op}
use Rattle.world_runs.specs.OwnRuns.{stored_after}
use Rattle.world_runs.specs.Report.{answer_lines, lines_at, report_after}
use Rattle.whole_runs.proofs.Owns.{states_are_their_own}
use Rattle.players.specs.Players.{Played, told_lines}
use Rattle.players.proofs.Running.{AllOwn, all_own}
use Rattle.world_lives.specs.Life.{Life, present, grown}
use Rattle.tect_replay.specs.declared.seat.Seat.{Seat}
use Rattle.replay_stories.specs.Plays.{IsKeptRun, PlaysLine}
use Rattle.tect_replay.specs.Seats.{SeatGrew}

-- an actor's own event shows its own lines alone
own_shows : (clients : List (List ℕ)) (actor : ℕ) (before : List Event) (e : Event) → is_own actor e ≡ true
    → lines_at clients before e ≡ answer_lines clients before e
own_shows clients actor before (Own op h) own = refl
own_shows clients actor before Dumped own = absurd cc

-- a report of one actor's events shows the lines of these
own_report : (clients : List (List ℕ)) (actor : ℕ) (before es : List Event) → AllOwn actor es
    → report_after clients before es ≡ own_lines clients actor before es
own_report clients actor before [] all = refl
own_report clients actor before (e ∷ es) all =
    ap (λ (l : List ReportLine). l ++ report_after clients (before ++ e ∷ []) es) (own_shows clients actor before e all.0)
    ∙ ap (λ (b : Bool). (if b then answer_lines clients before e else []) ++ report_after clients (before ++ e ∷ []) es) (sym all.0)
    ∙ ap (λ (l : List ReportLine). (if is_own actor e then answer_lines clients before e else []) ++ l)
    (own_report clients actor (before ++ e ∷ []) es all.1)

pub seat_played : {S : Type 0} (P : Programs S) (clients : List (List ℕ)) (name : List ℕ) (act : Act) (s t : Seat) (old new : Life)
    (told : Option ReportLine)
    → Played (λ (p : Seat). p.actor) (λ (p : Seat) (w : Life). w.history)
    (λ (p : Seat) (w : Life). (present P w).actors p.actor) (SeatGrew P) clients act s old t new told → IsKeptRun P new
    → PlaysLine P clients (lines.Client name s.actor act) old new (told_lines told)
seat_played P clients name act s t old new told played run =
    let g : SeatGrew P s old t new played.part = played.grown in
    record {
      part = played.part;
      grew = g.history;
      run = run;
      follows = (played.part, [], running_op ((present P new).actors t.actor).running, sym (append-nil played.part), played.does, refl);
      at_once = g.at_once;
      shows = own_report clients s.actor old.history played.part (all_own s.actor played.part g.mine) ∙ sym played.shows;
    }

pub dumps : {S : Type 0} (P : Programs S) (clients : List (List ℕ)) (old new : Life) (ds : List DumpLine) → new ≡ grown old (Dumped ∷ [])
    → IsKeptRun P new → ds ≡ store_dump (present P old).store
    → PlaysLine P clients lines.Dump old new (map report_lines.Dump ds)
dumps P clients old new ds grew now is = record {
  part = Dumped ∷ [];
  grew = grew;
  run = now;
  follows = ([], refl, refl);
  at_once = (tt, tt);
  shows =
      append-nil (map report_lines.Dump (store_dump (stored_after opening_store old.history)))
      ∙ ap (λ (s : Store). map report_lines.Dump (store_dump s)) (sym (states_are_their_own P old.counts old.history).1)
      ∙ ap (map report_lines.Dump) (sym is);
}
