-- The ops that were refused: their actors had no room to begin them.
use Rattle.std.specs.Prelude.{Bool, true, false, ◌||◌, ◌≡◌, List, [], ◌∷◌, ◌++◌}
use Rattle.tect_ids.specs.declared.ids.OpId.{OpId}
use Rattle.tect_ids.specs.Keys.{op_eq}
use Rattle.world_runs.specs.declared.event.Event.{Event}
use Rattle.world_runs.specs.declared.event.Event.TheVariants.{Own, Dumped}
use Rattle.world_runs.specs.declared.event.Happening.TheVariants.{Began, NotBegun, Acted, Ended, Stopped, Failed}

-- the op is refused
abbrev pub refuses : OpId → Event → Bool
refuses op (Own other (NotBegun c)) = op_eq other op
refuses op (Own other (Began c)) = false
refuses op (Own other (Acted q x h)) = false
refuses op (Own other (Ended a)) = false
refuses op (Own other Stopped) = false
refuses op (Own other (Failed a)) = false
refuses op Dumped = false

abbrev pub was_refused : List Event → OpId → Bool
was_refused [] op = false
was_refused (e ∷ es) op = refuses op e || was_refused es op

-- the event is of a refused op: the refusal, or an end of an op that was refused in one of the events before
abbrev pub IsOfRefused : List Event → Event → Type 0
IsOfRefused before (Own op (NotBegun c)) = Unit {0}
IsOfRefused before (Own op (Ended a)) = was_refused before op ≡ true
IsOfRefused before (Own op Stopped) = was_refused before op ≡ true
IsOfRefused before (Own op (Failed a)) = was_refused before op ≡ true
IsOfRefused before (Own op (Began c)) = ⊥
IsOfRefused before (Own op (Acted q x h)) = ⊥
IsOfRefused before Dumped = ⊥

-- so is each of these, after those before
abbrev pub AreOfRefused : List Event → List Event → Type 0
AreOfRefused before [] = Unit {0}
AreOfRefused before (e ∷ es) = IsOfRefused before e × AreOfRefused (before ++ e ∷ []) es
