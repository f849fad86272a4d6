-- where no memory is wanting, each running command has heard its last reply
use Rattle.std.proofs.Common.{◌≡◌, ◌≢◌, Some, None, List, [], ◌∷◌, ap, sym, subst}
use Rattle.tect_ids.specs.declared.ids.Counts.{Counts}
use Rattle.tect_ids.specs.declared.ids.OpId.{OpId}
use Rattle.program_forms.specs.declared.heard.Heard.TheVariants as hearing
use Rattle.program_forms.specs.declared.standing.Standing.{Standing}
use Rattle.program_forms.specs.declared.standing.Standing.TheVariants.{Goes, Left, NoRoom}
use Rattle.program_parts.specs.Parts.{next_hears}
use Rattle.program_rules.specs.Served.{Program, begun, started, programs}
use Rattle.world_runs.specs.declared.event.Event.{Event}
use Rattle.world_runs.specs.declared.event.Event.TheVariants.{Own, Dumped}
use Rattle.world_runs.specs.declared.event.Happening.{Happening}
use Rattle.world_runs.specs.declared.event.Happening.TheVariants.{Began, NotBegun, Acted, Ended, Stopped, Failed}
use Rattle.world_runs.specs.Actors.{Actor, Running, OwnMay, own_after}
use Rattle.world_runs.specs.Moments.{WorldState, May, opening, after, after_all, RunFrom}
use Rattle.world_runs.specs.Follows.{FindsMemory, AllFindMemory}
use Rattle.whole_runs.proofs.Actors.{changed}
use Rattle.whole_runs.proofs.Standings.{Asking, asks_of}
use Rattle.session_runs.proofs.Standings.{command_part, runs_on_as, ended_as}
use Rattle.session_runs.specs.RunningOn.{HasHeard, AllHaveHeard}

-- what stands otherwise has heard it
stands_heard : (op : OpId) (at : Standing Program) → at ≢ Left → HasHeard (Some record { op = op; at = at })
stands_heard op at heard o left =
    let here : Running Program = record { op = op; at = at } in
    let there : Running Program = record { op = o; at = Left } in
    let k : Some here ≡ Some there = left in
    let same : here ≡ there = cc in
    heard (ap (λ (r : Running Program). r.at) same)

idle_heard : HasHeard None
idle_heard o left = let there : Running Program = record { op = o; at = Left } in let k : None ≡ Some there = left in cc

goes_heard : (p : Program) → Goes p ≢ Left
goes_heard p e = cc

own_heard : (counts : Counts) (s : Actor Program) (op : OpId) (h : Happening) → OwnMay programs counts s op h → FindsMemory (Own op h)
    → HasHeard (own_after programs counts s op h).running
own_heard counts s op (Began c) may finds = stands_heard op (Goes (started counts s.memory (begun c)))
    (goes_heard (started counts s.memory (begun c)))
own_heard counts s op (NotBegun c) may finds = stands_heard op NoRoom (λ e. cc)
own_heard counts s op (Acted q x hearing.Whole) may finds =
    let a : Asking Program programs counts s.memory s.running op q = asks_of Program programs counts s.memory s.running op q may in
    let next : Program = next_hears command_part counts s.memory op a.state q x in
    subst HasHeard (sym (runs_on_as counts s s.running op a.state q x hearing.Whole a.is))
    (stands_heard op (Goes next) (goes_heard next))
own_heard counts s op (Acted q x hearing.Unkept) may finds = absurd finds
own_heard counts s op (Acted q x hearing.Left) may finds = absurd finds
own_heard counts s op (Ended a) may finds = subst (λ (t : Actor Program). HasHeard t.running) (sym (ended_as counts s)) idle_heard
own_heard counts s op Stopped may finds = idle_heard
own_heard counts s op (Failed a) may finds = subst (λ (t : Actor Program). HasHeard t.running) (sym (ended_as counts s)) idle_heard

pub event_heard : (m : WorldState Program) (e : Event) → May programs m e → FindsMemory e → AllHaveHeard m
    → AllHaveHeard (after programs m e)
event_heard m (Own op h) may finds heard = λ a.
    changed (λ (s : Actor Program). HasHeard s.running) m.actors op.actor (own_after programs m.counts (m.actors op.actor) op h) a
    (λ e. own_heard m.counts (m.actors op.actor) op h may.0 finds) (λ d. heard a)
event_heard m Dumped may finds heard = heard

pub run_heard : (m : WorldState Program) (es : List Event) → RunFrom programs m es → AllFindMemory es → AllHaveHeard m
    → AllHaveHeard (after_all programs m es)
run_heard m [] run finds heard = heard
run_heard m (e ∷ es) run finds heard = run_heard (after programs m e) es run.1 finds.1 (event_heard m e run.0 finds.0 heard)

pub opening_heard : (counts : Counts) → AllHaveHeard (opening counts)
opening_heard counts = λ a. idle_heard
