-- An actor of a run: what its running command does next, what the actor may do, and how it stands after that. The programs are any.
use Rattle.std.specs.Prelude.{◌≡◌, ℕ, ◌+◌, ◌<◌, ◌≤◌, ◌^◌, Bool, true, false, if◌then◌else◌, Option, Some, None}
use Rattle.tect_ids.specs.declared.ids.Counts.{Counts}
use Rattle.tect_ids.specs.declared.ids.OpId.{OpId}
use Rattle.tect_ids.specs.declared.command.Command.{Command}
use Rattle.tect_ids.specs.declared.answer.Answer.{Answer}
use Rattle.tect_ids.specs.Keys.{op_eq}
use Rattle.store_rules.specs.declared.any.AnyReq.{AnyReq}
use Rattle.store_rules.specs.declared.any.AnyReply.{AnyReply}
use Rattle.program_forms.specs.declared.heard.Heard.{Heard}
use Rattle.program_forms.specs.declared.heard.Heard.TheVariants as hearing
use Rattle.program_forms.specs.declared.standing.Standing.{Standing}
use Rattle.program_forms.specs.declared.standing.Standing.TheVariants.{Goes, Left, NoRoom}
use Rattle.program_forms.specs.Lacks.{no_room, IsLack}
use Rattle.program_forms.specs.Memories.{Memory, opening_memory}
use Rattle.program_forms.specs.Kinds.{Does, Asks, Says, asked_by, said_by, Programs, turned, next_does, state_heard, memory_heard}
use Rattle.world_runs.specs.declared.event.Happening.{Happening}
use Rattle.world_runs.specs.declared.event.Happening.TheVariants.{Began, NotBegun, Acted, Ended, Stopped, Failed}

pub record Running (S : Type 0) : Type 0 where
  pub op : OpId
  pub at : Standing S

-- an actor: how many commands it began, what it knows between them, whether it stopped for good, and its running command
pub record Actor (S : Type 0) : Type 0 where
  pub number : ℕ
  pub memory : Memory
  pub stopped : Bool
  pub running : Option (Running S)

abbrev pub idle_actor : {S : Type 0} → Actor S
idle_actor = record { number = 0; memory = opening_memory; stopped = false; running = None }

-- ---- what a running command does next

abbrev pub standing_does : {S : Type 0} → Programs S → Counts → Memory → OpId → Standing S → Option (Does Answer)
standing_does P c m op (Goes s) = Some (next_does P.kind c m op s)
standing_does P c m op Left = None
standing_does P c m op NoRoom = Some (Says no_room)

abbrev pub running_does : {S : Type 0} → Programs S → Counts → Memory → Option (Running S) → Option (Does Answer)
running_does P c m None = None
running_does P c m (Some r) = standing_does P c m r.op r.at

abbrev pub asked_in : Option (Does Answer) → Option AnyReq
asked_in None = None
asked_in (Some d) = asked_by d

abbrev pub answer_in : Option (Does Answer) → Option Answer
answer_in None = None
answer_in (Some d) = said_by d

-- the request that a command makes next
abbrev pub program_ask : {S : Type 0} → Programs S → Counts → Memory → Option (Running S) → Option AnyReq
program_ask P c m r = asked_in (running_does P c m r)

-- the answer that it has come to
abbrev pub program_answer : {S : Type 0} → Programs S → Counts → Memory → Option (Running S) → Option Answer
program_answer P c m r = answer_in (running_does P c m r)

abbrev pub is_said : {R : Type 0} → Does R → Bool
is_said (Asks q) = false
is_said (Says a) = true

-- whether nothing is left for it but its end: its last reply gave its answer, or was not heard
abbrev pub standing_ended : {S : Type 0} → Programs S → Counts → Memory → OpId → Standing S → Bool
standing_ended P c m op (Goes s) = is_said (P.kind.does c m op s)
standing_ended P c m op Left = true
standing_ended P c m op NoRoom = true

abbrev pub has_ended : {S : Type 0} → Programs S → Counts → Memory → Option (Running S) → Bool
has_ended P c m None = false
has_ended P c m (Some r) = standing_ended P c m r.op r.at

-- ---- what an actor may do

-- the command that runs as that op
abbrev pub program_of : {S : Type 0} → Option (Running S) → OpId → Option (Running S)
program_of None op = None
program_of (Some r) op = if op_eq r.op op then Some r else None

abbrev pub running_op : {S : Type 0} → Option (Running S) → Option OpId
running_op None = None
running_op (Some r) = Some r.op

-- the op is the actor's next, and the actor is idle
pub record CanBegin {S : Type 0} (a : Actor S) (op : OpId) : Type 0 where
  pub idle : a.running ≡ None
  pub goes_on : a.stopped ≡ false
  pub next : op.number ≡ a.number + 1
  pub few : op.number < 2 ^ 31
  pub is_actor : (1 ≤ op.actor) × (op.actor ≤ 65)

-- What an actor may do in that op. A reply is any: which one it is says the store.
abbrev pub OwnMay : {S : Type 0} → Programs S → Counts → Actor S → OpId → Happening → Type 0
OwnMay P c a op (Began k) = CanBegin a op × (P.serves k ≡ true)
OwnMay P c a op (NotBegun k) = CanBegin a op × (P.serves k ≡ true)
OwnMay P c a op (Acted q x h) = program_ask P c a.memory (program_of a.running op) ≡ Some q
OwnMay P c a op (Ended x) = program_answer P c a.memory (program_of a.running op) ≡ Some x
OwnMay P c a op Stopped = (r : _) × (program_of a.running op ≡ Some r)
OwnMay P c a op (Failed x) = IsLack x × ((r : _) × (program_of a.running op ≡ Some r))

-- ---- how an actor stands after what it did

abbrev pub begun : {S : Type 0} → Programs S → Counts → Actor S → OpId → Command → Actor S
begun P c a op k = record a { number = op.number; running = Some record { op = op; at = Goes (P.starts c a.memory k) } }

-- an op that is refused has its answer from the first
abbrev pub not_begun : {S : Type 0} → Actor S → OpId → Actor S
not_begun a op = record a { number = op.number; running = Some record { op = op; at = NoRoom } }

abbrev pub standing_heard : {S : Type 0} → Programs S → Counts → Memory → OpId → Standing S → AnyReq → AnyReply → Heard → Standing S
standing_heard P c m op (Goes s) q x hearing.Whole = Goes (state_heard P.kind c m op s q x)
standing_heard P c m op (Goes s) q x hearing.Unkept = Goes (state_heard P.kind c m op s q x)
standing_heard P c m op (Goes s) q x hearing.Left = Left
standing_heard P c m op Left q x h = Left
standing_heard P c m op NoRoom q x h = NoRoom

abbrev pub memory_after : {S : Type 0} → Programs S → Counts → Memory → OpId → Standing S → AnyReq → AnyReply → Heard → Memory
memory_after P c m op (Goes s) q x h = memory_heard P.kind c m op s q x h
memory_after P c m op Left q x h = m
memory_after P c m op NoRoom q x h = m

-- the command goes on at a reply
abbrev pub went_on : {S : Type 0} → Programs S → Counts → Actor S → Option (Running S) → AnyReq → AnyReply → Heard → Actor S
went_on P c a None q x h = a
went_on P c a (Some r) q x h = record a {
  memory = memory_after P c a.memory r.op r.at q x h;
  running = Some record { op = r.op; at = standing_heard P c a.memory r.op r.at q x h };
}

-- what the actor knows at the end of its command: what it looked up last is marked as used
abbrev pub memory_at_end : {S : Type 0} → Programs S → Counts → Memory → OpId → Standing S → Memory
memory_at_end P c m op (Goes s) = (turned P.kind c m op s).memory
memory_at_end P c m op Left = m
memory_at_end P c m op NoRoom = m

abbrev pub ended : {S : Type 0} → Programs S → Counts → Actor S → Option (Running S) → Actor S
ended P c a None = a
ended P c a (Some r) = record a { memory = memory_at_end P c a.memory r.op r.at; running = None }

abbrev pub own_after : {S : Type 0} → Programs S → Counts → Actor S → OpId → Happening → Actor S
own_after P c a op (Began k) = begun P c a op k
own_after P c a op (NotBegun k) = not_begun a op
own_after P c a op (Acted q x h) = went_on P c a a.running q x h
own_after P c a op (Ended x) = ended P c a a.running
own_after P c a op Stopped = record a { running = None; stopped = true }
own_after P c a op (Failed x) = ended P c a a.running
