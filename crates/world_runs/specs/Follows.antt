-- When a history follows a script, line by line.
use Rattle.std.specs.Prelude.{◌≡◌, ℕ, ◌+◌, ◌≤◌, eqb, if◌then◌else◌, Option, Some, None, List, [], ◌∷◌, ◌++◌, ◌⊎◌}
use Rattle.std.specs.List.{AllByRecursion}
use Rattle.tect_ids.specs.declared.ids.OpId.{OpId}
use Rattle.tect_ids.specs.declared.answer.Answer.{Answer}
use Rattle.tect_ids.specs.declared.answer.Answer.TheVariants as answers
use Rattle.tect_ids.specs.declared.command.Command.{Command}
use Rattle.tect_ids.specs.declared.script.Act.{Act}
use Rattle.tect_ids.specs.declared.script.Act.TheVariants as acts
use Rattle.tect_ids.specs.declared.script.Line.{Line}
use Rattle.tect_ids.specs.declared.script.Line.TheVariants as lines
use Rattle.program_forms.specs.declared.heard.Heard.{Heard}
use Rattle.program_forms.specs.declared.heard.Heard.TheVariants.{Whole, Unkept, Left}
use Rattle.world_runs.specs.declared.event.Event.{Event}
use Rattle.world_runs.specs.declared.event.Event.TheVariants.{Own, Dumped}
use Rattle.world_runs.specs.declared.event.Happening.{Happening}
use Rattle.world_runs.specs.declared.event.Happening.TheVariants.{Began, NotBegun, Acted, Ended, Stopped, Failed}

abbrev pub IsAct : Happening → Type 0
IsAct (Acted q x h) = Unit {0}
IsAct (Began c) = ⊥
IsAct (NotBegun c) = ⊥
IsAct (Ended a) = ⊥
IsAct Stopped = ⊥
IsAct (Failed a) = ⊥

-- a transaction of the op
abbrev pub IsActOf : OpId → Event → Type 0
IsActOf op (Own other h) = (other ≡ op) × IsAct h
IsActOf op Dumped = ⊥

-- just that many transactions of the op
abbrev pub Acts : OpId → ℕ → List Event → Type 0
Acts op n [] = n ≡ 0
Acts op n (e ∷ es) = IsActOf op e × ((rest : ℕ) × (n ≡ rest + 1) × Acts op rest es)

abbrev pub IsEnd : Happening → Type 0
IsEnd (Ended a) = Unit {0}
IsEnd (Failed a) = Unit {0}
IsEnd (Began c) = ⊥
IsEnd (NotBegun c) = ⊥
IsEnd (Acted q x h) = ⊥
IsEnd Stopped = ⊥

-- the op comes to its answer, or memory or room was wanting
abbrev pub IsEndOf : OpId → Event → Type 0
IsEndOf op (Own other h) = (other ≡ op) × IsEnd h
IsEndOf op Dumped = ⊥

-- transactions of the op, that many, and then its end
abbrev pub EndsAfter : OpId → ℕ → List Event → Type 0
EndsAfter op n es = (front : List Event) × (end : Event) × (es ≡ front ++ end ∷ []) × Acts op n front × IsEndOf op end

-- the op runs to its end
abbrev pub RunsToEnd : OpId → List Event → Type 0
RunsToEnd op es = (n : ℕ) × EndsAfter op n es

abbrev pub tries_for : Answer → ℕ
tries_for (answers.HistoryFull p) = 1
tries_for _ = 0

-- a request for which the actor's own history had no room was a step, though no transaction was done
abbrev pub tries : Event → ℕ
tries (Own op (Failed a)) = tries_for a
tries (Own op (Ended a)) = 0
tries (Own op (Began c)) = 0
tries (Own op (NotBegun c)) = 0
tries (Own op (Acted q x h)) = 0
tries (Own op Stopped) = 0
tries Dumped = 0

-- the op comes to its end within so many steps
abbrev pub EndsWithin : OpId → ℕ → List Event → Type 0
EndsWithin op n es =
    (m : ℕ) × (front : List Event) × (end : Event) × (es ≡ front ++ end ∷ []) × Acts op m front × IsEndOf op end × (m + tries end ≤ n)

abbrev pub Begins : Command → Happening → Type 0
Begins c (Began d) = d ≡ c
Begins c (NotBegun d) = d ≡ c
Begins c (Acted q x h) = ⊥
Begins c (Ended a) = ⊥
Begins c Stopped = ⊥
Begins c (Failed a) = ⊥

-- the op begins the command, or is refused
abbrev pub IsBeginOf : OpId → Command → Event → Type 0
IsBeginOf op c (Own other h) = (other ≡ op) × Begins c h
IsBeginOf op c Dumped = ⊥

abbrev pub BeginsAndEnds : ℕ → Command → List Event → Type 0
BeginsAndEnds actor c es =
    (op : OpId) × (begin : Event) × (rest : List Event)
    × (op.actor ≡ actor) × (es ≡ begin ∷ rest) × IsBeginOf op c begin × RunsToEnd op rest

-- What the line of an actor asks for: busy is its op that has begun and not ended, and next the one after the line.
-- A step is that many transactions, or fewer and then the end.
abbrev pub DoesLine : ℕ → Option OpId → Act → List Event → Option OpId → Type 0
DoesLine actor None (acts.Do c) es next = BeginsAndEnds actor c es × (next ≡ None)
DoesLine actor None (acts.Begin c) es next =
    (op : OpId) × (begin : Event) × (op.actor ≡ actor) × (es ≡ begin ∷ []) × IsBeginOf op c begin × (next ≡ Some op)
DoesLine actor None (acts.Step n) es next = (es ≡ []) × (next ≡ None)
DoesLine actor None acts.Run es next = (es ≡ []) × (next ≡ None)
DoesLine actor None acts.Stop es next = (es ≡ []) × (next ≡ None)
DoesLine actor (Some op) (acts.Do c) es next = ⊥
DoesLine actor (Some op) (acts.Begin c) es next = ⊥
DoesLine actor (Some op) (acts.Step n) es next = (Acts op n es × (next ≡ Some op)) ⊎ (EndsWithin op n es × (next ≡ None))
DoesLine actor (Some op) acts.Run es next = RunsToEnd op es × (next ≡ None)
DoesLine actor (Some op) acts.Stop es next = (es ≡ Own op Stopped ∷ []) × (next ≡ None)

-- the busy ops, by actor
abbrev pub Busy : Type 0
Busy = ℕ → Option OpId

abbrev pub none_busy : Busy
none_busy actor = None

abbrev pub with_busy : Busy → ℕ → Option OpId → Busy
with_busy busy actor op other = if eqb other actor then op else busy other

-- each line's events in the order of the lines
abbrev pub FollowsFrom : Busy → List Line → List Event → Type 0
FollowsFrom busy [] es = es ≡ []
FollowsFrom busy (lines.Client client actor act ∷ ls) es =
    (part : List Event) × (rest : List Event) × (next : Option OpId) × (es ≡ part ++ rest) × DoesLine actor (busy actor) act part next
    × FollowsFrom (with_busy busy actor next) ls rest
FollowsFrom busy (lines.Dump ∷ ls) es = (rest : List Event) × (es ≡ Dumped ∷ rest) × FollowsFrom busy ls rest
FollowsFrom busy (lines.Store counts ∷ ls) es = ⊥
FollowsFrom busy (lines.Sweep ∷ ls) es = ⊥
FollowsFrom busy (lines.Lose disk ∷ ls) es = ⊥

abbrev pub Follows : List Line → List Event → Type 0
Follows ls es = FollowsFrom none_busy ls es

abbrev pub IsWhole : Heard → Type 0
IsWhole Whole = Unit {0}
IsWhole Unkept = ⊥
IsWhole Left = ⊥

abbrev pub HasMemory : Answer → Type 0
HasMemory answers.NoMemory = ⊥
HasMemory _ = Unit {0}

-- no memory was wanting: the reply was heard whole, and the command does not fail for that
abbrev pub FindsMemory : Event → Type 0
FindsMemory (Own op (Acted q x h)) = IsWhole h
FindsMemory (Own op (Failed a)) = HasMemory a
FindsMemory (Own op (Began c)) = Unit {0}
FindsMemory (Own op (NotBegun c)) = Unit {0}
FindsMemory (Own op (Ended a)) = Unit {0}
FindsMemory (Own op Stopped) = Unit {0}
FindsMemory Dumped = Unit {0}

-- no memory was wanting in the history
abbrev pub AllFindMemory : List Event → Type 0
AllFindMemory = AllByRecursion FindsMemory
