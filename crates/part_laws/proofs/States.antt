-- The laws of a part state by state, and at a state where it looks nothing up and nothing is decided.
use Rattle.std.proofs.Common.{◌≡◌, true, Option, Some, None, sym, ◌∙◌}
use Rattle.tect_ids.specs.declared.ids.Counts.{Counts}
use Rattle.tect_ids.specs.declared.ids.Hold.{Hold}
use Rattle.tect_ids.specs.declared.ids.OpId.{OpId}
use Rattle.store_rules.specs.declared.any.AnyReq.{AnyReq}
use Rattle.store_rules.specs.declared.any.AnyReply.{AnyReply}
use Rattle.store_rules.specs.Store.{store_reply}
use Rattle.store_rules.specs.Views.{is_granted}
use Rattle.program_forms.specs.Memories.{Memory, always}
use Rattle.program_parts.specs.declared.next.Next.TheVariants.{Goes}
use Rattle.program_parts.specs.Parts.{Part}
use Rattle.program_parts.specs.Doings.{Doing, doing}
use Rattle.store_pasts.specs.Worlds.{World, Given, Live, next, settled}
use Rattle.store_pasts.specs.Later.{Touched, Later}
use Rattle.store_pasts.specs.Requests.{Moved, touched_by}
use Rattle.program_laws.specs.Known.{Deciding, Known, Remembers, AllLearnt, IsActor, IsApart, Meets}
use Rattle.part_laws.specs.Parts.{NextKnows, next_decided, IsTurned, PartLaws}
use Rattle.part_laws.proofs.Looks.{nothing_turns, nothing_turned}

-- All of them but that of results: of what it does in a state where its answer is, or is not, decided so, and where it knows so much.
pub record LawsAt {S R : Type 0} (d : Doing S R) (D : Deciding S R) (N : Known S R) (now : Option R)
    (Knows : World → OpId → Memory → Type 0) : Type 0 where
  pub turns : (c : Counts) (w : World) (op : OpId) (m : Memory) → Remembers w op.actor m → Knows w op m
      → Remembers w op.actor (d.turns c m op).memory × ((d.turns c m op).memory.serial ≡ m.serial)
      × NextKnows N w op (d.turns c m op).memory (d.turns c m op).state
  pub turned : (c : Counts) (m : Memory) (op : OpId) → IsTurned D now (d.turns c m op).state
  pub meets : (c : Counts) (w : World) (op : OpId) (m : Memory) → Remembers w op.actor m → IsActor op m → Knows w op m
      → Meets w op m (d.asks c m op)
  pub stays : (by : Touched) (w v : World) (op : OpId) (m : Memory) → Later by w v → IsApart by op → Knows w op m → Knows v op m
  pub goes_on : (c : Counts) (w : World) (op : OpId) (m n : Memory) → Remembers w op.actor m → IsActor op m
      → Knows w op m → Moved w (next w (d.asks c m op)) (d.asks c m op)
      → n.serial ≡ (always m (d.asks c m op) (store_reply w.store (d.asks c m op))).serial
      → NextKnows N
      (settled op now (next_decided D (d.hears c m op (d.asks c m op) (store_reply w.store (d.asks c m op)))) (next w (d.asks c m op)))
      op n (d.hears c m op (d.asks c m op) (store_reply w.store (d.asks c m op)))
  pub learns : (c : Counts) (w : World) (op : OpId) (m : Memory) → Remembers w op.actor m → IsActor op m
      → Knows w op m → Moved w (next w (d.asks c m op)) (d.asks c m op)
      → AllLearnt (next w (d.asks c m op)) op.actor (d.learns op (d.asks c m op) (store_reply w.store (d.asks c m op)))
  pub heard : (c : Counts) (m : Memory) (op : OpId) (q : AnyReq) (x : AnyReply) (r : R) → now ≡ Some r
      → next_decided D (d.hears c m op q x) ≡ Some r
  pub spends : (c : Counts) (w : World) (op : OpId) (m : Memory) → Remembers w op.actor m → IsActor op m
      → Knows w op m → now ≡ None → (r : R) (h : Hold) (g : Given)
      → next_decided D (d.hears c m op (d.asks c m op) (store_reply w.store (d.asks c m op))) ≡ Some r → h.op ≡ op
      → w.ghost.given h ≡ Some g → g.phase ≡ Live → (touched_by (d.asks c m op)).hold h ≡ true
  pub grants : (c : Counts) (w : World) (op : OpId) (m : Memory) → Remembers w op.actor m → IsActor op m
      → Knows w op m → now ≡ None → Moved w (next w (d.asks c m op)) (d.asks c m op) → (h : Hold) → w.ghost.given h ≡ None
      → (touched_by (d.asks c m op)).hold h ≡ true → is_granted (store_reply w.store (d.asks c m op)) ≡ true
      → next_decided D (d.hears c m op (d.asks c m op) (store_reply w.store (d.asks c m op))) ≡ None

-- those of a part in a state
abbrev pub LawsIn : {S R : Type 0} → Part S R → Deciding S R → Known S R → S → Type 0
LawsIn P D N s = LawsAt (doing P s) D N (D.decided s) (λ w op m. N.Knows w op m s)

-- those of a state where it looks nothing up and nothing is decided
pub record WaitsAt {S R : Type 0} (P : Part S R) (D : Deciding S R) (N : Known S R) (s : S) : Type 0 where
  pub looks : (c : Counts) (m : Memory) (op : OpId) → P.turns c m op s ≡ record { memory = m; state = Goes s }
  pub undecided : D.decided s ≡ None
  pub meets : (c : Counts) (w : World) (op : OpId) (m : Memory) → Remembers w op.actor m → IsActor op m → N.Knows w op m s
      → Meets w op m (P.asks c m op s)
  pub stays : (by : Touched) (w v : World) (op : OpId) (m : Memory) → Later by w v → IsApart by op → N.Knows w op m s
      → N.Knows v op m s
  pub goes_on : (c : Counts) (w : World) (op : OpId) (m n : Memory) → Remembers w op.actor m → IsActor op m
      → N.Knows w op m s → Moved w (next w (P.asks c m op s)) (P.asks c m op s)
      → n.serial ≡ (always m (P.asks c m op s) (store_reply w.store (P.asks c m op s))).serial
      → NextKnows N
      (settled op None (next_decided D (P.hears c m op s (P.asks c m op s) (store_reply w.store (P.asks c m op s))))
      (next w (P.asks c m op s)))
      op n (P.hears c m op s (P.asks c m op s) (store_reply w.store (P.asks c m op s)))
  pub learns : (c : Counts) (w : World) (op : OpId) (m : Memory) → Remembers w op.actor m → IsActor op m
      → N.Knows w op m s → Moved w (next w (P.asks c m op s)) (P.asks c m op s)
      → AllLearnt (next w (P.asks c m op s)) op.actor (P.learns op s (P.asks c m op s) (store_reply w.store (P.asks c m op s)))
  pub spends : (c : Counts) (w : World) (op : OpId) (m : Memory) → Remembers w op.actor m → IsActor op m
      → N.Knows w op m s → (r : R) (h : Hold) (g : Given)
      → next_decided D (P.hears c m op s (P.asks c m op s) (store_reply w.store (P.asks c m op s))) ≡ Some r → h.op ≡ op
      → w.ghost.given h ≡ Some g → g.phase ≡ Live → (touched_by (P.asks c m op s)).hold h ≡ true
  pub grants : (c : Counts) (w : World) (op : OpId) (m : Memory) → Remembers w op.actor m → IsActor op m
      → N.Knows w op m s → Moved w (next w (P.asks c m op s)) (P.asks c m op s) → (h : Hold) → w.ghost.given h ≡ None
      → (touched_by (P.asks c m op s)).hold h ≡ true → is_granted (store_reply w.store (P.asks c m op s)) ≡ true
      → next_decided D (P.hears c m op s (P.asks c m op s) (store_reply w.store (P.asks c m op s))) ≡ None

module _ {S R : Type 0} {P : Part S R} {D : Deciding S R} {N : Known S R} where
  -- a part that keeps them at each state
  pub part_laws : ((s : S) → LawsIn P D N s) → ((by : Touched) (w v : World) (r : R) → Later by w v → N.Ends w r → N.Ends v r)
      → PartLaws P D N
  part_laws at ends = record {
    turns = λ c w op m s. (at s).turns c w op m;
    turned = λ c m op s. (at s).turned c m op;
    meets = λ c w op m s. (at s).meets c w op m;
    stays = λ by w v op m s. (at s).stays by w v op m;
    ends = ends;
    goes_on = λ c w op m n s. (at s).goes_on c w op m n;
    learns = λ c w op m s. (at s).learns c w op m;
    heard = λ c m op s. (at s).heard c m op;
    spends = λ c w op m s. (at s).spends c w op m;
    grants = λ c w op m s. (at s).grants c w op m;
  }

  pub laws_in : PartLaws P D N → (s : S) → LawsIn P D N s
  laws_in l s = record {
    turns = λ c w op m. l.turns c w op m s;
    turned = λ c m op. l.turned c m op s;
    meets = λ c w op m. l.meets c w op m s;
    stays = λ by w v op m. l.stays by w v op m s;
    goes_on = λ c w op m n. l.goes_on c w op m n s;
    learns = λ c w op m. l.learns c w op m s;
    heard = λ c m op. l.heard c m op s;
    spends = λ c w op m. l.spends c w op m s;
    grants = λ c w op m. l.grants c w op m s;
  }

  pub waits : {s : S} → WaitsAt P D N s → LawsIn P D N s
  waits {s} l = record {
    turns = λ c w op m r k. nothing_turns P N c w op m s (l.looks c m op) r k;
    turned = λ c m op. nothing_turned P D c m op s (l.looks c m op);
    meets = l.meets;
    stays = l.stays;
    goes_on = λ c w op m n r a k kept serial. rw l.undecided (l.goes_on c w op m n r a k kept serial);
    learns = l.learns;
    heard = λ c m op q x r e. absurd (let f : None ≡ Some r = sym l.undecided ∙ e in cc);
    spends = λ c w op m r a k e. l.spends c w op m r a k;
    grants = λ c w op m r a k e. l.grants c w op m r a k;
  }
