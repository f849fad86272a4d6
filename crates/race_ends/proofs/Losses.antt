-- why a race comes to no end
use Rattle.std.proofs.Common.{List}
use Rattle.tect_ids.specs.declared.script.Plan.{Plan}
use Rattle.tect_ids.specs.declared.script.ReportLine.{ReportLine}
use Rattle.program_forms.specs.Kinds.{Programs}
use Rattle.place_kit.specs.declared.any.AnyKept.{AnyKept}
use Rattle.passes.specs.declared.pass.Pass.{Pass}
use Rattle.place_kit.specs.Started.{AreStarted}
use Rattle.race_ends.specs.declared.ended.EndedPart.{EndedPart}
use Rattle.race_ends.specs.declared.fault.RaceFault.{RaceFault}
use Rattle.race_ends.specs.declared.fault.RaceFault.TheVariants.{NoMemory, Split, Astray}
use Rattle.race_ends.specs.Faults.{IsRaceFault, IsSplitOf}
use Rattle.race_ends.specs.HaveRun.{HaveRun, clocks_of}
use Rattle.race_ends.proofs.Gathered.{are_of_clients}

module _ {S : Type 0} (P : Programs S) (plan : Plan) (ps : List Pass) (ended : List EndedPart) (last : List ReportLine)
    (run : HaveRun P plan.counts plan.clients plan.lines ps ended last) (ks : List AnyKept) (started : AreStarted plan.counts ks) where
  pub split_is_fault : (fault : RaceFault) → IsSplitOf ks ps fault → IsRaceFault P plan fault
  split_is_fault NoMemory split = tt
  split_is_fault (Split actor step in_pass in_place) split = record {
    places = ks;
    passes = ps;
    started = started;
    clients = are_of_clients P plan ps ended last run;
    clocks = clocks_of ended;
    stories = run.stories;
    each = run.each;
    differ = split;
  }
  split_is_fault (Astray want found) split = absurd split
