-- A part of a command: in each of its states it makes one request, and goes on at the reply.
use Rattle.std.specs.Prelude.{List, []}
use Rattle.tect_ids.specs.declared.ids.Counts.{Counts}
use Rattle.tect_ids.specs.declared.ids.OpId.{OpId}
use Rattle.store_rules.specs.declared.any.AnyReq.{AnyReq}
use Rattle.store_rules.specs.declared.any.AnyReply.{AnyReply}
use Rattle.program_forms.specs.Memories.{Memory, Learnt}
use Rattle.program_forms.specs.Kinds.{Does, Asks, Says, Turned, Kind}
use Rattle.program_parts.specs.declared.next.Next.{Next}
use Rattle.program_parts.specs.declared.next.Next.TheVariants.{Goes, Comes}

-- A part with states S that comes to a result R: what it finds in its actor's memory before its request, by which it may go on or end; its
-- request in a state; where it goes on at the reply; and what its actor keeps of that.
pub record Part (S R : Type 0) : Type 0 where
  pub turns : Counts → Memory → OpId → S → Turned (Next S R)
  pub asks : Counts → Memory → OpId → S → AnyReq
  pub hears : Counts → Memory → OpId → S → AnyReq → AnyReply → Next S R
  pub learns : OpId → S → AnyReq → AnyReply → List Learnt

-- a part that finds nothing in a memory
abbrev pub looks_nothing : {S R : Type 0} → Counts → Memory → OpId → S → Turned (Next S R)
looks_nothing c m op s = record { memory = m; state = Goes s }

-- and of which nothing is kept
abbrev pub learns_nothing : {S : Type 0} → OpId → S → AnyReq → AnyReply → List Learnt
learns_nothing op s q x = []

-- ---- a part within another, whose states are told apart

abbrev pub within : {S T R : Type 0} → (S → T) → Next S R → Next T R
within f (Goes s) = Goes (f s)
within f (Comes r) = Comes r

abbrev pub turned_within : {S T R : Type 0} → (S → T) → Turned (Next S R) → Turned (Next T R)
turned_within f t = record { memory = t.memory; state = within f t.state }

-- ---- a part as a kind of commands

abbrev pub next_turns : {S R : Type 0} → Part S R → Counts → Memory → OpId → Next S R → Turned (Next S R)
next_turns P c m op (Goes s) = P.turns c m op s
next_turns P c m op (Comes r) = record { memory = m; state = Comes r }

abbrev pub next_asks : {S R : Type 0} → Part S R → Counts → Memory → OpId → Next S R → Does R
next_asks P c m op (Goes s) = Asks (P.asks c m op s)
next_asks P c m op (Comes r) = Says r

abbrev pub next_hears : {S R : Type 0} → Part S R → Counts → Memory → OpId → Next S R → AnyReq → AnyReply → Next S R
next_hears P c m op (Goes s) q x = P.hears c m op s q x
next_hears P c m op (Comes r) q x = Comes r

abbrev pub next_learns : {S R : Type 0} → Part S R → OpId → Next S R → AnyReq → AnyReply → List Learnt
next_learns P op (Goes s) q x = P.learns op s q x
next_learns P op (Comes r) q x = []

abbrev pub kind_of : {S R : Type 0} → Part S R → Kind (Next S R) R
kind_of P = record { turns = next_turns P; does = next_asks P; hears = next_hears P; learns = next_learns P }
