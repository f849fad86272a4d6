-- histories in which no op is refused and none fails, and their parts
use Rattle.std.proofs.Common.{◌≡◌, ℕ, List, [], ◌∷◌, ◌++◌}
use Rattle.tect_ids.specs.declared.ids.OpId.{OpId}
use Rattle.tect_ids.specs.declared.command.Command.{Command}
use Rattle.world_runs.specs.declared.event.Event.{Event}
use Rattle.world_runs.specs.declared.event.Event.TheVariants.{Own, Dumped}
use Rattle.world_runs.specs.declared.event.Happening.TheVariants.{Began, NotBegun, Acted, Ended, Stopped, Failed}
use Rattle.world_runs.specs.Follows.{IsActOf, Acts, IsBeginOf}
use Rattle.session_runs.specs.Well.{GoesWell, NoneFails}

pub none_fails-front : (es fs : List Event) → NoneFails (es ++ fs) → NoneFails es
none_fails-front [] fs all = tt
none_fails-front (e ∷ es) fs all = (all.0, none_fails-front es fs all.1)

pub none_fails-rest : (es fs : List Event) → NoneFails (es ++ fs) → NoneFails fs
none_fails-rest [] fs all = all
none_fails-rest (e ∷ es) fs all = none_fails-rest es fs all.1

pub none_fails-append : (es fs : List Event) → NoneFails es → NoneFails fs → NoneFails (es ++ fs)
none_fails-append [] fs all more = more
none_fails-append (e ∷ es) fs all more = (all.0, none_fails-append es fs all.1 more)

act_goes_well : (op : OpId) (e : Event) → IsActOf op e → GoesWell e
act_goes_well op (Own o (Acted q x h)) is = tt
act_goes_well op (Own o (Began c)) is = absurd is.1
act_goes_well op (Own o (NotBegun c)) is = absurd is.1
act_goes_well op (Own o (Ended a)) is = absurd is.1
act_goes_well op (Own o Stopped) is = absurd is.1
act_goes_well op (Own o (Failed a)) is = absurd is.1
act_goes_well op Dumped is = absurd is

pub acts_go_well : (op : OpId) (n : ℕ) (es : List Event) → Acts op n es → NoneFails es
acts_go_well op n [] acts = tt
acts_go_well op n (e ∷ es) acts = (act_goes_well op e acts.0, acts_go_well op (acts.1).0 es (acts.1).2)

-- a begin that goes well is no refusal
pub begin_is : (op : OpId) (c : Command) (e : Event) → IsBeginOf op c e → GoesWell e → e ≡ Own op (Began c)
begin_is op c (Own o (Began d)) is well = λ i. Own (is.0 i) (Began (is.1 i))
begin_is op c (Own o (NotBegun d)) is well = absurd well
begin_is op c (Own o (Acted q x h)) is well = absurd is.1
begin_is op c (Own o (Ended a)) is well = absurd is.1
begin_is op c (Own o Stopped) is well = absurd is.1
begin_is op c (Own o (Failed a)) is well = absurd is.1
begin_is op c Dumped is well = absurd is
