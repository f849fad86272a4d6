-- What the calls of an actor make of it, one by one: its look-ups, how its command goes on at a reply, and how it ends. Taken together
-- they do what an actor does at a moment of the world.
use Rattle.std.specs.Prelude.{◌≡◌, false, Option, Some, None, Result, Ok, Err}
use Rattle.tect_ids.specs.declared.ids.Counts.{Counts}
use Rattle.tect_ids.specs.declared.ids.OpId.{OpId}
use Rattle.tect_ids.specs.declared.ids.NoMemory.{NoMemory}
use Rattle.tect_ids.specs.declared.answer.Answer.{Answer}
use Rattle.store_rules.specs.declared.any.AnyReq.{AnyReq}
use Rattle.store_rules.specs.declared.any.AnyReply.{AnyReply}
use Rattle.program_forms.specs.declared.heard.Heard.{Heard}
use Rattle.program_forms.specs.declared.heard.Heard.TheVariants as hearing
use Rattle.program_forms.specs.declared.standing.Standing.{Standing}
use Rattle.program_forms.specs.declared.standing.Standing.TheVariants.{Goes, Left, NoRoom}
use Rattle.program_forms.specs.Lacks.{no_room, IsLack}
use Rattle.program_forms.specs.Memories.{Memory, kept_of, learnt, always}
use Rattle.program_forms.specs.Kinds.{Does, Says, Programs, turned}
use Rattle.program_calls.specs.Hearing.{IsPlain, heard_if_kept}
use Rattle.world_runs.specs.Actors.{Actor, Running, asked_in, answer_in, has_ended, memory_at_end}
use Rattle.program_calls.specs.declared.went.Went.{Went}
use Rattle.clients.specs.ActorState.{ActorState}

-- ---- its look-ups

abbrev pub standing_looked : {S : Type 0} → Programs S → Counts → Memory → OpId → Standing S → Standing S
standing_looked P c m op (Goes s) = Goes (turned P.kind c m op s).state
standing_looked P c m op Left = Left
standing_looked P c m op NoRoom = NoRoom

abbrev pub actor_looked : {S : Type 0} → Programs S → Counts → Actor S → Option (Running S) → Actor S
actor_looked P c a None = a
actor_looked P c a (Some r) = record a {
  memory = memory_at_end P c a.memory r.op r.at;
  running = Some record { op = r.op; at = standing_looked P c a.memory r.op r.at };
}

-- the actor with the look-ups of its command done
abbrev pub looked : {S : Type 0} → Programs S → ActorState S → ActorState S
looked P a = record a { state = actor_looked P a.counts a.state a.state.running }

-- ---- what its command does as it stands, with no further look-up

abbrev pub standing_now : {S : Type 0} → Programs S → Counts → Memory → OpId → Standing S → Option (Does Answer)
standing_now P c m op (Goes s) = Some (P.kind.does c m op s)
standing_now P c m op Left = None
standing_now P c m op NoRoom = Some (Says no_room)

abbrev pub running_now : {S : Type 0} → Programs S → Counts → Memory → Option (Running S) → Option (Does Answer)
running_now P c m None = None
running_now P c m (Some r) = standing_now P c m r.op r.at

abbrev pub asks_now : {S : Type 0} → Programs S → ActorState S → Option AnyReq
asks_now P a = asked_in (running_now P a.counts a.state.memory a.state.running)

abbrev pub says_now : {S : Type 0} → Programs S → ActorState S → Option Answer
says_now P a = answer_in (running_now P a.counts a.state.memory a.state.running)

-- its answer is no want of memory or of room, unless its op was refused
abbrev pub standing_plain : {S : Type 0} → Standing S → Option Answer → Type 0
standing_plain (Goes s) x = IsPlain x
standing_plain Left x = IsPlain x
standing_plain NoRoom x = Unit {0}

abbrev pub IsPlainOf : {S : Type 0} → Option (Running S) → Option Answer → Type 0
IsPlainOf None x = IsPlain x
IsPlainOf (Some r) x = standing_plain r.at x

-- ---- how it goes on at a reply

abbrev pub standing_on : {S : Type 0} → Programs S → Counts → Memory → OpId → Standing S → AnyReq → AnyReply → Heard → Standing S
standing_on P c m op (Goes s) q x hearing.Whole = Goes (P.kind.hears c m op s q x)
standing_on P c m op (Goes s) q x hearing.Unkept = Goes (P.kind.hears c m op s q x)
standing_on P c m op (Goes s) q x hearing.Left = Left
standing_on P c m op Left q x h = Left
standing_on P c m op NoRoom q x h = NoRoom

abbrev pub memory_on : {S : Type 0} → Programs S → Memory → OpId → Standing S → AnyReq → AnyReply → Heard → Memory
memory_on P m op (Goes s) q x h = always (learnt (kept_of h (P.kind.learns op s q x)) m) q x
memory_on P m op Left q x h = m
memory_on P m op NoRoom q x h = m

abbrev pub actor_on : {S : Type 0} → Programs S → Counts → Actor S → Option (Running S) → AnyReq → AnyReply → Heard → Actor S
actor_on P c a None q x h = a
actor_on P c a (Some r) q x h = record a {
  memory = memory_on P a.memory r.op r.at q x h;
  running = Some record { op = r.op; at = standing_on P c a.memory r.op r.at q x h };
}

-- the actor after a reply to the request that its command asks as it stands
abbrev pub gone_on : {S : Type 0} → Programs S → ActorState S → AnyReq → AnyReply → Heard → ActorState S
gone_on P a q x h = record a { state = actor_on P a.counts a.state a.state.running q x h }

-- its command is let go
abbrev pub let_go : {S : Type 0} → ActorState S → ActorState S
let_go a = record a { state = record a.state { running = None } }

-- its command goes on no more, and has no answer
abbrev pub at_left : {S : Type 0} → Option (Running S) → Option (Running S)
at_left None = None
at_left (Some r) = Some record { op = r.op; at = Left }

abbrev pub left_behind : {S : Type 0} → ActorState S → ActorState S
left_behind a = record a { state = record a.state { running = at_left a.state.running } }

-- It stands where it went on to, and goes on; or it came to that answer there, and is let go.
abbrev pub ComesTo : {S : Type 0} → Programs S → ActorState S → ActorState S → Option Answer → Type 0
ComesTo P there b None = (b ≡ there) × (has_ended P b.counts b.state.memory b.state.running ≡ false)
ComesTo P there b (Some y) = (b ≡ let_go there) × (says_now P there ≡ Some y) × ¬ IsLack y

-- It went on, and kept all of the reply, or only what has to be kept; or memory was wanting, and it goes on no more.
abbrev pub Advances : {S : Type 0} → Programs S → ActorState S → ActorState S → AnyReq → AnyReply → Result Went NoMemory → Type 0
Advances P a b q x (Ok w) = ComesTo P (gone_on P a q x (heard_if_kept w.kept)) b w.answer
Advances P a b q x (Err e) = b ≡ gone_on P a q x hearing.Left
