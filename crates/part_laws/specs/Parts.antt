-- What has to be proved of a part of a command.
use Rattle.std.specs.Prelude.{◌≡◌, true, Option, Some, None}
use Rattle.tect_ids.specs.declared.ids.Counts.{Counts}
use Rattle.tect_ids.specs.declared.ids.Hold.{Hold}
use Rattle.tect_ids.specs.declared.ids.OpId.{OpId}
use Rattle.store_rules.specs.declared.any.AnyReq.{AnyReq}
use Rattle.store_rules.specs.declared.any.AnyReply.{AnyReply}
use Rattle.store_rules.specs.Store.{store_reply}
use Rattle.store_rules.specs.Views.{is_granted}
use Rattle.program_forms.specs.Memories.{Memory, always}
use Rattle.program_parts.specs.declared.next.Next.{Next}
use Rattle.program_parts.specs.declared.next.Next.TheVariants.{Goes, Comes}
use Rattle.program_parts.specs.Parts.{Part}
use Rattle.store_pasts.specs.Worlds.{World, Given, Live, next, settled}
use Rattle.store_pasts.specs.Later.{Touched, Later}
use Rattle.store_pasts.specs.Requests.{Moved, touched_by}
use Rattle.program_laws.specs.Known.{Deciding, Known, Remembers, AllLearnt, IsActor, IsApart, Meets}

-- what is so of where it goes on, or of what it has come to
abbrev pub NextKnows : {S R : Type 0} → Known S R → World → OpId → Memory → Next S R → Type 0
NextKnows N w op m (Goes s) = N.Knows w op m s
NextKnows N w op m (Comes r) = N.Ends w r

abbrev pub next_known : {S R : Type 0} → Known S R → Known (Next S R) R
next_known N = record { Knows = NextKnows N; Ends = N.Ends }

-- what it has come to is decided
abbrev pub next_decided : {S R : Type 0} → Deciding S R → Next S R → Option R
next_decided D (Goes s) = D.decided s
next_decided D (Comes r) = Some r

abbrev pub next_deciding : {S R : Type 0} → Deciding S R → Deciding (Next S R) R
next_deciding D = record { decided = next_decided D }

-- a look-up decides nothing but what it comes to
abbrev pub IsTurned : {S R : Type 0} → Deciding S R → Option R → Next S R → Type 0
IsTurned D was (Goes t) = D.decided t ≡ was
IsTurned {R = R} D was (Comes r) = (a : R) → was ≡ Some a → a ≡ r

pub record PartLaws {S R : Type 0} (P : Part S R) (D : Deciding S R) (N : Known S R) : Type 0 where
  -- by its look-ups it still knows what it has to, its memory is as true, and no serial is taken
  pub turns : (c : Counts) (w : World) (op : OpId) (m : Memory) (s : S) → Remembers w op.actor m → N.Knows w op m s
      → Remembers w op.actor (P.turns c m op s).memory × ((P.turns c m op s).memory.serial ≡ m.serial)
      × NextKnows N w op (P.turns c m op s).memory (P.turns c m op s).state
  pub turned : (c : Counts) (m : Memory) (op : OpId) (s : S) → IsTurned D (D.decided s) (P.turns c m op s).state
  -- its request is safe
  pub meets : (c : Counts) (w : World) (op : OpId) (m : Memory) (s : S) → Remembers w op.actor m → IsActor op m → N.Knows w op m s
      → Meets w op m (P.asks c m op s)
  -- what others do leaves what it knows, and what is so of its result
  pub stays : (by : Touched) (w v : World) (op : OpId) (m : Memory) (s : S) → Later by w v → IsApart by op → N.Knows w op m s
      → N.Knows v op m s
  pub ends : (by : Touched) (w v : World) (r : R) → Later by w v → N.Ends w r → N.Ends v r
  -- at the reply it goes on, in the world after its request, with what it did not bind given up where its answer is decided; its memory is
  -- then whatever is kept of the reply
  pub goes_on : (c : Counts) (w : World) (op : OpId) (m n : Memory) (s : S) → Remembers w op.actor m → IsActor op m
      → N.Knows w op m s → Moved w (next w (P.asks c m op s)) (P.asks c m op s)
      → n.serial ≡ (always m (P.asks c m op s) (store_reply w.store (P.asks c m op s))).serial
      → NextKnows N
      (settled op (D.decided s) (next_decided D (P.hears c m op s (P.asks c m op s) (store_reply w.store (P.asks c m op s))))
      (next w (P.asks c m op s)))
      op n (P.hears c m op s (P.asks c m op s) (store_reply w.store (P.asks c m op s)))
  -- what its actor keeps of the reply is so
  pub learns : (c : Counts) (w : World) (op : OpId) (m : Memory) (s : S) → Remembers w op.actor m → IsActor op m
      → N.Knows w op m s → Moved w (next w (P.asks c m op s)) (P.asks c m op s)
      → AllLearnt (next w (P.asks c m op s)) op.actor (P.learns op s (P.asks c m op s) (store_reply w.store (P.asks c m op s)))
  -- once decided its answer stays so
  pub heard : (c : Counts) (m : Memory) (op : OpId) (s : S) (q : AnyReq) (x : AnyReply) (r : R) → D.decided s ≡ Some r
      → next_decided D (P.hears c m op s q x) ≡ Some r
  -- while a hold may still be bound, its answer is decided by no request but one that touches this hold
  pub spends : (c : Counts) (w : World) (op : OpId) (m : Memory) (s : S) → Remembers w op.actor m → IsActor op m
      → N.Knows w op m s → D.decided s ≡ None → (r : R) (h : Hold) (g : Given)
      → next_decided D (P.hears c m op s (P.asks c m op s) (store_reply w.store (P.asks c m op s))) ≡ Some r → h.op ≡ op
      → w.ghost.given h ≡ Some g → g.phase ≡ Live → (touched_by (P.asks c m op s)).hold h ≡ true
  -- and no reply decides it that grants one
  pub grants : (c : Counts) (w : World) (op : OpId) (m : Memory) (s : S) → Remembers w op.actor m → IsActor op m
      → N.Knows w op m s → D.decided s ≡ None → Moved w (next w (P.asks c m op s)) (P.asks c m op s) → (h : Hold) → w.ghost.given h ≡ None
      → (touched_by (P.asks c m op s)).hold h ≡ true → is_granted (store_reply w.store (P.asks c m op s)) ≡ true
      → next_decided D (P.hears c m op s (P.asks c m op s) (store_reply w.store (P.asks c m op s))) ≡ None
