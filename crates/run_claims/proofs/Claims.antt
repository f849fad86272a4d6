-- a run within its limits is all that is claimed of a history
use Rattle.std.proofs.Common.{List, take, subst}
use Rattle.tect_ids.specs.declared.ids.Counts.{Counts}
use Rattle.program_rules.specs.Served.{programs}
use Rattle.world_runs.specs.declared.event.Event.{Event}
use Rattle.world_runs.specs.Moments.{IsWorldRun, opening}
use Rattle.whole_runs.proofs.Fronts.{front_runs}
use Rattle.claim_words.specs.Commands.{content_in}
use Rattle.claim_words.specs.Sound.{AfterEachFront}
use Rattle.telling_laws.specs.View.{Shows}
use Rattle.telling_laws.specs.Telling.{tree_of}
use Rattle.whole_runs.proofs.Owns.{store_is_after}
use Rattle.store_rules.specs.Store.{Store}
use Rattle.attached_blocks.proofs.Laws.{stand_so, opened_so, last_so, opens_so}
use Rattle.sealed_objects.proofs.Stays.{objects_stay}
use Rattle.tree_runs.proofs.Headlines.{shown_so, no_end_is_odd, run_headline}
use Rattle.run_claims.proofs.RunsKeep.{sound_at_each_moment, granted_at_each_moment}
use Rattle.run_claims.proofs.RunsShort.{each_is_short}
use Rattle.run_claims.proofs.Complete.{is_complete}
use Rattle.run_claims.specs.Claims.{ShowsTree, EveryRunIsClaimed}

-- the store shows the tree at each moment
shown_at_each_moment : (counts : Counts) (history : List Event) → IsWorldRun programs counts history → AfterEachFront ShowsTree history
shown_at_each_moment counts history run n =
    subst (λ (s : Store). Shows s (content_in (take n history)) (tree_of (take n history))) (store_is_after programs (opening counts) (take n history))
    (shown_so counts (take n history) (front_runs programs n history (opening counts) run))

pub every_run_is_claimed : EveryRunIsClaimed
every_run_is_claimed counts history run limits = record {
  run = run;
  limits = limits;
  sound = sound_at_each_moment counts history run;
  granted = granted_at_each_moment counts history run;
  shown = shown_at_each_moment counts history run;
  attached = λ n. stand_so counts (take n history) (front_runs programs n history (opening counts) run);
  opened = opened_so counts history run;
  tokens = last_so counts history run;
  opens = opens_so counts history run;
  sealed = λ n. objects_stay counts (take n history) (front_runs programs n history (opening counts) run);
  answers = run_headline counts history run;
  not_odd = no_end_is_odd counts history run;
  short = each_is_short counts history run;
  complete = is_complete counts history run limits (run_headline counts history run);
}
