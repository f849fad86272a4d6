-- What has to be proved of programs, so that every moment of every run of them is sound.
use Rattle.std.specs.Prelude.{◌≡◌, ◌≤◌, true, false, Some, None}
use Rattle.tect_ids.specs.declared.ids.Counts.{Counts}
use Rattle.tect_ids.specs.declared.ids.Hold.{Hold}
use Rattle.tect_ids.specs.declared.ids.Node.TheVariants.{Dir}
use Rattle.tect_ids.specs.declared.ids.OpId.{OpId}
use Rattle.tect_ids.specs.declared.answer.Answer.{Answer}
use Rattle.tect_ids.specs.declared.command.Command.{Command}
use Rattle.tect_ids.specs.Numbers.{root}
use Rattle.store_rules.specs.declared.any.AnyReq.{AnyReq}
use Rattle.store_rules.specs.declared.any.AnyReply.{AnyReply}
use Rattle.store_rules.specs.Store.{store_reply}
use Rattle.store_rules.specs.Views.{is_granted}
use Rattle.program_forms.specs.Memories.{Memory, always}
use Rattle.program_forms.specs.Kinds.{Kind, Programs, turned, next_does, state_heard}
use Rattle.store_pasts.specs.Worlds.{World, Given, Live, next, settled}
use Rattle.store_pasts.specs.Pasts.{was_made}
use Rattle.store_pasts.specs.Later.{Touched, Later}
use Rattle.store_pasts.specs.Requests.{Moved, touched_by}
use Rattle.program_laws.specs.Known.{Deciding, Known, Remembers, AllLearnt, IsActor, IsNewOp, HasSaid, IsApart, OfDoing}
use Rattle.program_laws.specs.Known.{Meets, is_odd}

-- Of a kind of commands: by its look-ups a command still knows what it has to, and its memory is as true; what it asks next is safe, and
-- what it comes to is as it ought to be; what others do leaves what it knows; and at a reply it goes on, in the world after its request,
-- with what it did not bind given up where its answer is decided.
pub record KindLaws {S R : Type 0} (K : Kind S R) (D : Deciding S R) (N : Known S R) : Type 0 where
  pub turns : (c : Counts) (w : World) (op : OpId) (m : Memory) (s : S) → Remembers w op.actor m → N.Knows w op m s
      → Remembers w op.actor (turned K c m op s).memory × ((turned K c m op s).memory.serial ≡ m.serial)
      × N.Knows w op (turned K c m op s).memory (turned K c m op s).state
  pub meets : (c : Counts) (w : World) (op : OpId) (m : Memory) (s : S) → Remembers w op.actor m → IsActor op m → N.Knows w op m s
      → OfDoing (Meets w op (turned K c m op s).memory) (N.Ends w) (next_does K c m op s)
  pub stays : (by : Touched) (w v : World) (op : OpId) (m : Memory) (s : S) → Later by w v → IsApart by op → N.Knows w op m s
      → N.Knows v op m s
  -- its memory is then whatever is kept of the reply
  pub goes_on : (c : Counts) (w : World) (op : OpId) (m n : Memory) (s : S) → Remembers w op.actor m → IsActor op m
      → N.Knows w op m s
      → OfDoing (λ q. Moved w (next w q) q → n.serial ≡ (always (turned K c m op s).memory q (store_reply w.store q)).serial
      → N.Knows (settled op (D.decided s) (D.decided (state_heard K c m op s q (store_reply w.store q))) (next w q)) op n
      (state_heard K c m op s q (store_reply w.store q))) (λ r. Unit {0}) (next_does K c m op s)
  -- what its actor keeps of the reply is so
  pub learns : (c : Counts) (w : World) (op : OpId) (m : Memory) (s : S) → Remembers w op.actor m → IsActor op m → N.Knows w op m s
      → OfDoing
      (λ q. Moved w (next w q) q → AllLearnt (next w q) op.actor (K.learns op (turned K c m op s).state q (store_reply w.store q)))
      (λ r. Unit {0}) (next_does K c m op s)

-- Of when its answer is decided: once it is, it stays so, by its look-ups and at each reply to what it asks; and what it comes to was
-- decided.
pub record DecidedLaws {S R : Type 0} (K : Kind S R) (D : Deciding S R) (N : Known S R) : Type 0 where
  pub turns : (c : Counts) (m : Memory) (op : OpId) (s : S) (r : R) → D.decided s ≡ Some r → D.decided ((turned K c m op s).state) ≡ Some r
  pub hears : (c : Counts) (m : Memory) (op : OpId) (s : S) (q : AnyReq) (x : AnyReply) (r : R) → D.decided s ≡ Some r
      → D.decided (K.hears c m op s q x) ≡ Some r
  pub says : (c : Counts) (w : World) (op : OpId) (m : Memory) (s : S) → N.Knows w op m s
      → OfDoing (λ q. Unit {0}) (λ r. D.decided ((turned K c m op s).state) ≡ Some r) (next_does K c m op s)

-- Of its holds: while one may still be bound, its answer is decided by no request but one that touches this hold; and no reply decides it
-- that grants one.
pub record HoldLaws {S R : Type 0} (K : Kind S R) (D : Deciding S R) (N : Known S R) : Type 0 where
  pub spends : (c : Counts) (w : World) (op : OpId) (m : Memory) (s : S) → Remembers w op.actor m → IsActor op m
      → N.Knows w op m s
      → D.decided s ≡ None
      → OfDoing (λ q. (r : R) (h : Hold) (g : Given) → D.decided (state_heard K c m op s q (store_reply w.store q)) ≡ Some r → h.op ≡ op
      → w.ghost.given h ≡ Some g → g.phase ≡ Live → (touched_by q).hold h ≡ true) (λ r. Unit {0}) (next_does K c m op s)
  pub grants : (c : Counts) (w : World) (op : OpId) (m : Memory) (s : S) → Remembers w op.actor m → IsActor op m
      → N.Knows w op m s
      → D.decided s ≡ None
      → OfDoing (λ q. Moved w (next w q) q → (h : Hold) → w.ghost.given h ≡ None → (touched_by q).hold h ≡ true
      → is_granted (store_reply w.store q) ≡ true
      → D.decided (state_heard K c m op s q (store_reply w.store q)) ≡ None) (λ r. Unit {0}) (next_does K c m op s)

-- Of the programs of all commands: each that is served begins with what it has to know, once the root was made and the op has said what it
-- appends, where its actor's memory is true; and no answer says that a reply was odd.
pub record ProgramLaws {S : Type 0} (P : Programs S) (D : Deciding S Answer) (N : Known S Answer) : Type 0 where
  pub kind : KindLaws P.kind D N
  pub begins : (c : Counts) (w : World) (op : OpId) (m : Memory) (k : Command) → was_made w.ghost (Dir root) ≡ true → IsNewOp w op
      → HasSaid w op k → Remembers w op.actor m → m.serial ≤ op.number → P.serves k ≡ true → N.Knows w op m (P.starts c m k)
  pub plain : (w : World) (a : Answer) → N.Ends w a → is_odd a ≡ false
