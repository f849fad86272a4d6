-- what a race came to
use Rattle.std.proofs.Common.{◌≡◌, List, refl, sym, ◌∙◌}
use Rattle.tect_ids.specs.declared.script.Plan.{Plan}
use Rattle.tect_ids.specs.declared.script.ReportLine.{ReportLine}
use Rattle.program_forms.specs.Kinds.{Programs}
use Rattle.place_kit.specs.declared.any.AnyKept.{AnyKept}
use Rattle.entry_words.specs.declared.entry.Moment.{Moment}
use Rattle.passes.specs.declared.pass.Pass.{Pass}
use Rattle.place_kit.specs.Started.{AreStarted}
use Rattle.world_runs.specs.declared.event.Event.{Event}
use Rattle.whole_runs.specs.Woven.{AreSilent}
use Rattle.race_runs.specs.Gathered.{AreGathered, IsRaceRun, cuts_of, history_of_race, silent_last, told}
use Rattle.race_runs.proofs.Gathered.{gathered_stories_are_run}
use Rattle.race_ends.specs.declared.ended.EndedPart.{EndedPart}
use Rattle.race_ends.specs.HaveRun.{HaveRun, clocks_of}
use Rattle.race_ends.specs.Raced.{IsGathered, IsRaced}
use Rattle.race_ends.specs.Told.{told_by}
use Rattle.race_ends.proofs.Gathered.{are_of_clients, gathered}
use Rattle.race_ends.proofs.Told.{told_is}

module _ {S : Type 0} (P : Programs S) (plan : Plan) (ps : List Pass) (ended : List EndedPart) (last : List ReportLine)
    (run : HaveRun P plan.counts plan.clients plan.lines ps ended last)
    (ks : List AnyKept) (started : AreStarted plan.counts ks) (entries : List Moment) (g : IsGathered ks ps entries)
    (report : List ReportLine) (tells : report ≡ told_by ended last entries) where
  stories : AreGathered P plan.counts plan.clients plan.lines (clocks_of ended) run.stories ks entries
  stories = gathered P plan.counts plan.clients plan.lines ps ended last run ks entries g started

  abbrev history : List Event
  history = history_of_race (clocks_of ended) run.stories entries

  law : IsRaceRun P plan.counts plan.clients plan.lines history (told (clocks_of ended) run.stories entries)
      × AreSilent (cuts_of (clocks_of ended) run.stories) (silent_last run.stories)
  law = gathered_stories_are_run P plan.counts plan.clients plan.lines (clocks_of ended) run.stories ks entries stories

  pub raced : IsRaced P plan ks ps report
  raced = record {
    history = history;
    of_plan = record { run = law.0.run; limits = law.0.limits; prompt = law.0.prompt; follows = law.0.follows };
    shows = tells ∙ told_is ended last run.stories entries run.answers ∙ sym law.0.report;
    entries = entries;
    gathered = g;
    cuts = cuts_of (clocks_of ended) run.stories;
    last = silent_last run.stories;
    weaves = refl;
    silent = law.1;
    started = started;
    clients = are_of_clients P plan ps ended last run;
  }
