-- What one actor does, whatever the others do: its own events, each of which it may do in the state after those before it.
-- A reply is any: which one it is says the store.
use Rattle.std.specs.Prelude.{List, [], ◌∷◌}
use Rattle.tect_ids.specs.declared.ids.Counts.{Counts}
use Rattle.store_rules.specs.Store.{Store}
use Rattle.program_forms.specs.Kinds.{Programs}
use Rattle.world_runs.specs.declared.event.Event.{Event}
use Rattle.world_runs.specs.declared.event.Event.TheVariants.{Own, Dumped}
use Rattle.world_runs.specs.Actors.{Actor, OwnMay, own_after}
use Rattle.world_runs.specs.Moments.{IsReply, store_after}

abbrev pub OwnMayHappen : {S : Type 0} → Programs S → Counts → Actor S → Event → Type 0
OwnMayHappen P c s (Own op h) = OwnMay P c s op h
OwnMayHappen P c s Dumped = Unit {0}

abbrev pub own_next : {S : Type 0} → Programs S → Counts → Actor S → Event → Actor S
own_next P c s (Own op h) = own_after P c s op h
own_next P c s Dumped = s

abbrev pub OwnRun : {S : Type 0} → Programs S → Counts → Actor S → List Event → Type 0
OwnRun P c s [] = Unit {0}
OwnRun P c s (e ∷ es) = OwnMayHappen P c s e × OwnRun P c (own_next P c s e) es

-- the actor's state after its own events
abbrev pub own_state : {S : Type 0} → Programs S → Counts → Actor S → List Event → Actor S
own_state P c s [] = s
own_state P c s (e ∷ es) = own_state P c (own_next P c s e) es

-- the store after an event
abbrev pub stored_next : Store → Event → Store
stored_next s (Own op h) = store_after s h
stored_next s Dumped = s

abbrev pub ReplyIs : Store → Event → Type 0
ReplyIs s (Own op h) = IsReply s h
ReplyIs s Dumped = Unit {0}

-- each reply is the one that the store gives after the requests before it
abbrev pub RepliesAre : Store → List Event → Type 0
RepliesAre s [] = Unit {0}
RepliesAre s (e ∷ es) = ReplyIs s e × RepliesAre (stored_next s e) es

-- the store after these events
abbrev pub stored_after : Store → List Event → Store
stored_after s [] = s
stored_after s (e ∷ es) = stored_after (stored_next s e) es
