-- Programs as functions. The laws of runs are over any of them; each command's own stand with the commands.
use Rattle.std.specs.Prelude.{Bool, Option, Some, None, List}
use Rattle.tect_ids.specs.declared.ids.Counts.{Counts}
use Rattle.tect_ids.specs.declared.ids.OpId.{OpId}
use Rattle.tect_ids.specs.declared.answer.Answer.{Answer}
use Rattle.tect_ids.specs.declared.command.Command.{Command}
use Rattle.store_rules.specs.declared.any.AnyReq.{AnyReq}
use Rattle.store_rules.specs.declared.any.AnyReply.{AnyReply}
use Rattle.program_forms.specs.declared.heard.Heard.{Heard}
use Rattle.program_forms.specs.Memories.{Memory, Learnt, learnt, kept_of, always}

-- a running command asks, or has come to its result: it does never both, and never neither
pub data Does (R : Type 0) : Type 0 where
  Asks : AnyReq → Does R
  Says : R → Does R

-- what an actor knows, and where its command stands
pub record Turned (S : Type 0) : Type 0 where
  pub memory : Memory
  pub state : S

-- the request, if it asks; the result, if it has come to one
abbrev pub asked_by : {R : Type 0} → Does R → Option AnyReq
asked_by (Asks q) = Some q
asked_by (Says r) = None

abbrev pub said_by : {R : Type 0} → Does R → Option R
said_by (Asks q) = None
said_by (Says r) = Some r

-- How a command with states S comes to a result R: what it finds in its actor's memory before its next request; what it does next;
-- how it goes on at the reply to its request; and what its actor keeps of that. The op is the command's.
pub record Kind (S R : Type 0) : Type 0 where
  pub turns : Counts → Memory → OpId → S → Turned S
  pub does : Counts → Memory → OpId → S → Does R
  pub hears : Counts → Memory → OpId → S → AnyReq → AnyReply → S
  pub learns : OpId → S → AnyReq → AnyReply → List Learnt

-- the programs of all commands: which commands are served, and how each begins, by what its actor knows
pub record Programs (S : Type 0) : Type 0 where
  pub kind : Kind S Answer
  pub serves : Command → Bool
  pub starts : Counts → Memory → Command → S

-- only where it asks something does it look into the memory before
abbrev pub turned_by : {S R : Type 0} → Does R → Memory → S → Turned S → Turned S
turned_by (Says r) m s t = record { memory = m; state = s }
turned_by (Asks q) m s t = t

-- its look-ups done
abbrev pub turned : {S R : Type 0} → Kind S R → Counts → Memory → OpId → S → Turned S
turned K c m op s = turned_by (K.does c m op s) m s (K.turns c m op s)

-- what it does next, its look-ups done
abbrev pub next_does : {S R : Type 0} → Kind S R → Counts → Memory → OpId → S → Does R
next_does K c m op s = K.does c (turned K c m op s).memory op (turned K c m op s).state

-- where it stands after a reply to its request
abbrev pub state_heard : {S R : Type 0} → Kind S R → Counts → Memory → OpId → S → AnyReq → AnyReply → S
state_heard K c m op s q x = K.hears c (turned K c m op s).memory op (turned K c m op s).state q x

-- what its actor knows after a reply that was heard so
abbrev pub memory_heard : {S R : Type 0} → Kind S R → Counts → Memory → OpId → S → AnyReq → AnyReply → Heard → Memory
memory_heard K c m op s q x h =
    always (learnt (kept_of h (K.learns op (turned K c m op s).state q x)) (turned K c m op s).memory) q x
