-- each session of one client is a script in turn, so it can be run
use Rattle.std.proofs.Common.{◌≡◌, ◌<◌, ◌^◌, ℕ, suc, true, List, [], ◌∷◌, length, refl, ap, arith}
use Rattle.std.specs.List.{AllByRecursion}
use Rattle.tect_ids.specs.declared.ids.Counts.{Counts}
use Rattle.tect_ids.specs.declared.command.Command.{Command}
use Rattle.tect_ids.specs.declared.script.Act.TheVariants as acts
use Rattle.world_runs.specs.declared.event.Event.{Event}
use Rattle.world_runs.specs.Moments.{IsWorldRun}
use Rattle.world_runs.specs.Follows.{Follows, AllFindMemory}
use Rattle.program_rules.specs.Served.{is_served, programs}
use Rattle.whole_runs.specs.ClientStates.{ClientStates, TakesAct, FitStatesFrom, all_idle, with_state}
use Rattle.whole_runs.specs.ClientStates as states
use Rattle.session_runs.specs.Session.{session_script}
use Rattle.session_runs.specs.Well.{NoneFails}
use Rattle.session_runs.proofs.Hearing.{opening_heard}
use Rattle.session_runs.proofs.RunOn.{each_script_can_be_run_on}

-- the client is idle before each of its commands
session_in_turn : (client : List ℕ) (now : ClientStates) (cs : List Command) → now 1 ≡ states.Idle
    → AllByRecursion (λ c. is_served c ≡ true) cs
    → FitStatesFrom programs now (session_script client cs)
session_in_turn client now [] idle all = tt
session_in_turn client now (c ∷ cs) idle all =
    let takes : TakesAct programs (now 1) (acts.Do c) = rw idle all.0 in
    (omega arith, omega arith, takes, session_in_turn client (with_state now 1 states.Idle) cs refl all.1)

session_length : (client : List ℕ) (cs : List Command) → length (session_script client cs) ≡ length cs
session_length client [] = refl
session_length client (c ∷ cs) = ap suc (session_length client cs)

pub session_can : (counts : Counts) (client : List ℕ) (cs : List Command) → AllByRecursion (λ c. is_served c ≡ true) cs
    → length cs < 2 ^ 31
    → (history : List Event) × IsWorldRun programs counts history × NoneFails history × AllFindMemory history
    × Follows (session_script client cs) history
session_can counts client cs all few =
    let run = each_script_can_be_run_on counts [] (session_script client cs) [] (session_in_turn client all_idle cs refl all)
    (omega (arith, few, session_length client cs)) tt refl (opening_heard counts) in
    (run.0, run.1, run.3, run.4, run.2)
