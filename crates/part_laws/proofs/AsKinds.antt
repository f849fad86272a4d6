-- a part that keeps the laws of parts is a kind of commands that keeps the laws of programs
use Rattle.std.proofs.Common.{◌≡◌, true, Option, Some, None, refl, ◌∙◌}
use Rattle.tect_ids.specs.declared.ids.Counts.{Counts}
use Rattle.tect_ids.specs.declared.ids.Hold.{Hold}
use Rattle.tect_ids.specs.declared.ids.OpId.{OpId}
use Rattle.store_rules.specs.declared.any.AnyReq.{AnyReq}
use Rattle.store_rules.specs.declared.any.AnyReply.{AnyReply}
use Rattle.store_rules.specs.Store.{store_reply}
use Rattle.store_rules.specs.Views.{is_granted}
use Rattle.program_forms.specs.Memories.{Memory, always}
use Rattle.program_forms.specs.Kinds.{Turned, turned, next_does, state_heard}
use Rattle.program_parts.specs.declared.next.Next.{Next}
use Rattle.program_parts.specs.declared.next.Next.TheVariants.{Goes, Comes}
use Rattle.program_parts.specs.Parts.{Part, kind_of, next_asks, next_hears, next_learns}
use Rattle.store_pasts.specs.Worlds.{World, Given, Live, next, settled}
use Rattle.store_pasts.specs.Later.{Touched, Later}
use Rattle.store_pasts.specs.Requests.{Moved, touched_by}
use Rattle.program_laws.specs.Known.{Deciding, Known, Remembers, AllLearnt, IsActor, IsApart, OfDoing, Meets}
use Rattle.program_laws.specs.Laws.{KindLaws, DecidedLaws, HoldLaws}
use Rattle.part_laws.specs.Parts.{NextKnows, next_known, next_decided, next_deciding, IsTurned, PartLaws}

module _ {S R : Type 0} {P : Part S R} {D : Deciding S R} {N : Known S R} (l : PartLaws P D N) where
  -- ---- its look-ups

  -- by them it still knows what it has to
  abbrev StillSo : World → OpId → Memory → Turned (Next S R) → Type 0
  StillSo w op m t = Remembers w op.actor t.memory × (t.memory.serial ≡ m.serial) × NextKnows N w op t.memory t.state

  turns_so : (c : Counts) (w : World) (op : OpId) (m : Memory) (p : Next S R) → Remembers w op.actor m → NextKnows N w op m p
      → StillSo w op m (turned (kind_of P) c m op p)
  turns_so c w op m (Goes s) r k = l.turns c w op m s r k
  turns_so c w op m (Comes x) r k = (r, refl, k)

  still_decided : (was : Option R) (p : Next S R) (r : R) → IsTurned D was p → was ≡ Some r → next_decided D p ≡ Some r
  still_decided was (Goes s) r t e = t ∙ e
  still_decided was (Comes x) r t e = let same : r ≡ x = t r e in rw same refl

  turns_decided : (c : Counts) (m : Memory) (op : OpId) (p : Next S R) (r : R) → next_decided D p ≡ Some r
      → next_decided D (turned (kind_of P) c m op p).state ≡ Some r
  turns_decided c m op (Goes s) r e = still_decided (D.decided s) (P.turns c m op s).state r (l.turned c m op s) e
  turns_decided c m op (Comes x) r e = e

  -- ---- after them

  actor_still : (op : OpId) (m n : Memory) → n.serial ≡ m.serial → IsActor op m → IsActor op n
  actor_still op m n e a = record { from = a.from; few = rw e a.few }

  meets_then : (c : Counts) (w : World) (op : OpId) (m : Memory) (p : Next S R) → Remembers w op.actor m → IsActor op m
      → NextKnows N w op m p → OfDoing (Meets w op m) (N.Ends w) (next_asks P c m op p)
  meets_then c w op m (Goes s) r a k = l.meets c w op m s r a k
  meets_then c w op m (Comes x) r a k = k

  meets_so : (c : Counts) (w : World) (op : OpId) (m : Memory) (p : Next S R) → Remembers w op.actor m → IsActor op m
      → NextKnows N w op m p
      → OfDoing (Meets w op (turned (kind_of P) c m op p).memory) (N.Ends w) (next_does (kind_of P) c m op p)
  meets_so c w op m p r a k =
      let t : Turned (Next S R) = turned (kind_of P) c m op p in
      let so : StillSo w op m t = turns_so c w op m p r k in
      meets_then c w op t.memory t.state so.0 (actor_still op m t.memory so.1 a) so.2

  stays_so : (by : Touched) (w v : World) (op : OpId) (m : Memory) (p : Next S R) → Later by w v → IsApart by op
      → NextKnows N w op m p → NextKnows N v op m p
  stays_so by w v op m (Goes s) later apart k = l.stays by w v op m s later apart k
  stays_so by w v op m (Comes x) later apart k = l.ends by w v x later k

  -- ---- at a reply

  -- where it stood was decided as it is after its look-ups, or its result was
  abbrev GoesOn : Counts → World → OpId → Memory → Memory → Option R → Next S R → AnyReq → Type 0
  GoesOn c w op m n was p q =
      Moved w (next w q) q → n.serial ≡ (always m q (store_reply w.store q)).serial
      → NextKnows N (settled op was (next_decided D (next_hears P c m op p q (store_reply w.store q))) (next w q)) op n
      (next_hears P c m op p q (store_reply w.store q))

  goes_then : (c : Counts) (w : World) (op : OpId) (m n : Memory) (was : Option R) (p : Next S R) → IsTurned D was p
      → Remembers w op.actor m → IsActor op m → NextKnows N w op m p
      → OfDoing (λ q. GoesOn c w op m n was p q) (λ r. Unit {0}) (next_asks P c m op p)
  goes_then c w op m n was (Goes s) t r a k = λ kept serial. rw (← t) (l.goes_on c w op m n s r a k kept serial)
  goes_then c w op m n was (Comes x) t r a k = tt

  goes_so : (c : Counts) (w : World) (op : OpId) (m n : Memory) (p : Next S R) → Remembers w op.actor m → IsActor op m
      → NextKnows N w op m p
      → OfDoing (λ q. Moved w (next w q) q → n.serial ≡ (always (turned (kind_of P) c m op p).memory q (store_reply w.store q)).serial
      → NextKnows N
      (settled op (next_decided D p) (next_decided D (state_heard (kind_of P) c m op p q (store_reply w.store q))) (next w q)) op n
      (state_heard (kind_of P) c m op p q (store_reply w.store q))) (λ r. Unit {0}) (next_does (kind_of P) c m op p)
  goes_so c w op m n (Goes s) r a k =
      let t : Turned (Next S R) = P.turns c m op s in
      let so : StillSo w op m t = l.turns c w op m s r k in
      goes_then c w op t.memory n (D.decided s) t.state (l.turned c m op s) so.0 (actor_still op m t.memory so.1 a) so.2
  goes_so c w op m n (Comes x) r a k = tt

  -- what its actor keeps of it is so
  abbrev Learns : World → OpId → Next S R → AnyReq → Type 0
  Learns w op p q = Moved w (next w q) q → AllLearnt (next w q) op.actor (next_learns P op p q (store_reply w.store q))

  learns_then : (c : Counts) (w : World) (op : OpId) (m : Memory) (p : Next S R) → Remembers w op.actor m → IsActor op m
      → NextKnows N w op m p → OfDoing (Learns w op p) (λ r. Unit {0}) (next_asks P c m op p)
  learns_then c w op m (Goes s) r a k = l.learns c w op m s r a k
  learns_then c w op m (Comes x) r a k = tt

  learns_so : (c : Counts) (w : World) (op : OpId) (m : Memory) (p : Next S R) → Remembers w op.actor m → IsActor op m
      → NextKnows N w op m p
      → OfDoing (Learns w op (turned (kind_of P) c m op p).state) (λ r. Unit {0}) (next_does (kind_of P) c m op p)
  learns_so c w op m p r a k =
      let t : Turned (Next S R) = turned (kind_of P) c m op p in
      let so : StillSo w op m t = turns_so c w op m p r k in
      learns_then c w op t.memory t.state so.0 (actor_still op m t.memory so.1 a) so.2

  hears_decided : (c : Counts) (m : Memory) (op : OpId) (p : Next S R) (q : AnyReq) (x : AnyReply) (r : R) → next_decided D p ≡ Some r
      → next_decided D (next_hears P c m op p q x) ≡ Some r
  hears_decided c m op (Goes s) q x r e = l.heard c m op s q x r e
  hears_decided c m op (Comes y) q x r e = e

  says_then : (c : Counts) (m : Memory) (op : OpId) (p : Next S R)
      → OfDoing (λ q. Unit {0}) (λ r. next_decided D p ≡ Some r) (next_asks P c m op p)
  says_then c m op (Goes s) = tt
  says_then c m op (Comes x) = refl

  -- ---- its holds

  abbrev Spends : Counts → World → OpId → Memory → Next S R → AnyReq → Type 0
  Spends c w op m p q =
      (r : R) (h : Hold) (g : Given) → next_decided D (next_hears P c m op p q (store_reply w.store q)) ≡ Some r → h.op ≡ op
      → w.ghost.given h ≡ Some g → g.phase ≡ Live → (touched_by q).hold h ≡ true

  spends_then : (c : Counts) (w : World) (op : OpId) (m : Memory) (was : Option R) (p : Next S R) → IsTurned D was p
      → Remembers w op.actor m → IsActor op m → NextKnows N w op m p → was ≡ None
      → OfDoing (Spends c w op m p) (λ r. Unit {0}) (next_asks P c m op p)
  spends_then c w op m was (Goes s) t r a k e = l.spends c w op m s r a k (t ∙ e)
  spends_then c w op m was (Comes x) t r a k e = tt

  spends_so : (c : Counts) (w : World) (op : OpId) (m : Memory) (p : Next S R) → Remembers w op.actor m → IsActor op m
      → NextKnows N w op m p → next_decided D p ≡ None
      → OfDoing (Spends c w op (turned (kind_of P) c m op p).memory (turned (kind_of P) c m op p).state) (λ r. Unit {0})
      (next_does (kind_of P) c m op p)
  spends_so c w op m (Goes s) r a k e =
      let t : Turned (Next S R) = P.turns c m op s in
      let so : StillSo w op m t = l.turns c w op m s r k in
      spends_then c w op t.memory (D.decided s) t.state (l.turned c m op s) so.0 (actor_still op m t.memory so.1 a) so.2 e
  spends_so c w op m (Comes x) r a k e = tt

  abbrev Grants : Counts → World → OpId → Memory → Next S R → AnyReq → Type 0
  Grants c w op m p q =
      Moved w (next w q) q → (h : Hold) → w.ghost.given h ≡ None → (touched_by q).hold h ≡ true
      → is_granted (store_reply w.store q) ≡ true → next_decided D (next_hears P c m op p q (store_reply w.store q)) ≡ None

  grants_then : (c : Counts) (w : World) (op : OpId) (m : Memory) (was : Option R) (p : Next S R) → IsTurned D was p
      → Remembers w op.actor m → IsActor op m → NextKnows N w op m p → was ≡ None
      → OfDoing (Grants c w op m p) (λ r. Unit {0}) (next_asks P c m op p)
  grants_then c w op m was (Goes s) t r a k e = l.grants c w op m s r a k (t ∙ e)
  grants_then c w op m was (Comes x) t r a k e = tt

  grants_so : (c : Counts) (w : World) (op : OpId) (m : Memory) (p : Next S R) → Remembers w op.actor m → IsActor op m
      → NextKnows N w op m p → next_decided D p ≡ None
      → OfDoing (Grants c w op (turned (kind_of P) c m op p).memory (turned (kind_of P) c m op p).state) (λ r. Unit {0})
      (next_does (kind_of P) c m op p)
  grants_so c w op m (Goes s) r a k e =
      let t : Turned (Next S R) = P.turns c m op s in
      let so : StillSo w op m t = l.turns c w op m s r k in
      grants_then c w op t.memory (D.decided s) t.state (l.turned c m op s) so.0 (actor_still op m t.memory so.1 a) so.2 e
  grants_so c w op m (Comes x) r a k e = tt

  -- ---- the laws

  pub kind_laws : KindLaws (kind_of P) (next_deciding D) (next_known N)
  kind_laws = record { turns = turns_so; meets = meets_so; stays = stays_so; goes_on = goes_so; learns = learns_so }

  pub decided_laws : DecidedLaws (kind_of P) (next_deciding D) (next_known N)
  decided_laws = record {
    turns = turns_decided;
    hears = hears_decided;
    says = λ c w op m p k. says_then c (turned (kind_of P) c m op p).memory op (turned (kind_of P) c m op p).state;
  }

  pub hold_laws : HoldLaws (kind_of P) (next_deciding D) (next_known N)
  hold_laws = record { spends = spends_so; grants = grants_so }
