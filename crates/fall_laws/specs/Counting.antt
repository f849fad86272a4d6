-- How many transactions of a kind an op took.
use Rattle.std.specs.Prelude.{ℕ, Bool, true, false, not, ◌&&◌, List, count_by}
use Rattle.tect_ids.specs.declared.ids.OpId.{OpId}
use Rattle.tect_ids.specs.Keys.{op_eq}
use Rattle.store_rules.specs.declared.names.NameReq.TheVariants as names
use Rattle.store_rules.specs.declared.any.AnyReq.{AnyReq}
use Rattle.store_rules.specs.declared.any.AnyReq.TheVariants as any
use Rattle.world_runs.specs.declared.event.Event.{Event}
use Rattle.world_runs.specs.declared.event.Event.TheVariants.{Own, Dumped}
use Rattle.world_runs.specs.declared.event.Happening.{Happening}
use Rattle.world_runs.specs.declared.event.Happening.TheVariants.{Began, NotBegun, Acted, Ended, Stopped, Failed}

-- whether the request looks up a name, or checks the directory that a path without names is
abbrev pub is_look : AnyReq → Bool
is_look (any.Name (names.Look k)) = true
is_look (any.Name (names.CheckDir d)) = true
is_look _ = false

abbrev pub is_no_look : AnyReq → Bool
is_no_look q = not (is_look q)

-- whether it is a transaction whose request is of that kind
abbrev pub is_act_that : (AnyReq → Bool) → Happening → Bool
is_act_that test (Acted q x h) = test q
is_act_that test (Began c) = false
is_act_that test (NotBegun c) = false
is_act_that test (Ended a) = false
is_act_that test Stopped = false
is_act_that test (Failed a) = false

-- whether it is such a transaction of the op
abbrev pub takes : (AnyReq → Bool) → OpId → Event → Bool
takes test op (Own other h) = op_eq other op && is_act_that test h
takes test op Dumped = false

-- how many such transactions the op took
abbrev pub taken : (AnyReq → Bool) → List Event → OpId → ℕ
taken test history op = count_by (takes test op) history

-- a look of the op
abbrev pub is_look_of : OpId → Event → Bool
is_look_of op e = takes is_look op e

-- a transaction of the op that is no look
abbrev pub is_other_of : OpId → Event → Bool
is_other_of op e = takes is_no_look op e

-- how many looks the op took
abbrev pub looks_of : List Event → OpId → ℕ
looks_of history op = taken is_look history op

-- how many transactions beside its looks the op took
abbrev pub others_of : List Event → OpId → ℕ
others_of history op = taken is_no_look history op
