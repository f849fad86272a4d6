-- What a command knows where it stands, when its answer is decided, and what is so of its actor's memory.
use Rattle.std.specs.Prelude.{◌≡◌, ℕ, ◌<◌, ◌≤◌, ◌^◌, Bool, true, false, ◌||◌, eqb, List, [], ◌∷◌, Option, None, Some}
use Rattle.std.specs.FinMap.{get}
use Rattle.tect_ids.specs.declared.ids.BlkId.{BlkId}
use Rattle.tect_ids.specs.declared.ids.Hold.{Hold}
use Rattle.tect_ids.specs.declared.ids.Node.{Node}
use Rattle.tect_ids.specs.declared.ids.Node.TheVariants.{Dir, File}
use Rattle.tect_ids.specs.declared.ids.OpId.{OpId}
use Rattle.tect_ids.specs.declared.ids.Tag.{Tag}
use Rattle.tect_ids.specs.declared.answer.Answer.{Answer}
use Rattle.tect_ids.specs.declared.answer.Answer.TheVariants as answers
use Rattle.tect_ids.specs.declared.command.Command.{Command}
use Rattle.tect_ids.specs.Keys.{op_eq, node_eq, blk_eq}
use Rattle.tect_ids.specs.Numbers.{object_number}
use Rattle.store_rules.specs.declared.any.AnyReq.{AnyReq}
use Rattle.program_forms.specs.Appends.{command_bytes}
use Rattle.program_forms.specs.Memories.{Memory, OpenedFile, Learnt, Opens}
use Rattle.program_forms.specs.Kinds.{Does, Asks, Says}
use Rattle.store_pasts.specs.Worlds.{World}
use Rattle.store_pasts.specs.Pasts.{was_made}
use Rattle.store_pasts.specs.Later.{actor_of, maker_of, Touched, Within}
use Rattle.store_pasts.specs.Requests.{Needs, makes, touched_by}

-- The answer of a command in such a state, once it can't change any more; what the command has not bound by then it will not bind.
pub record Deciding (S R : Type 0) : Type 0 where
  pub decided : S → Option R

-- What a command knows in such a state, which keeps its requests safe; and what is so of what it comes to. Of its actor's memory it
-- may cite what stays, whatever is kept of a reply.
pub record Known (S R : Type 0) : Type 1 where
  pub Knows : World → OpId → Memory → S → Type 0
  pub Ends : World → R → Type 0

-- whether the answer says that a reply was odd
abbrev pub is_odd : Answer → Bool
is_odd (answers.Odd place) = true
is_odd _ = false

-- no hold was granted by the op, and none of its tags was given to a row
pub record IsNewOp (w : World) (op : OpId) : Type 0 where
  pub given : (h : Hold) → h.op ≡ op → w.ghost.given h ≡ None
  pub row_given : (h : Hold) → h.op ≡ op → w.ghost.row_given h ≡ None
  pub tagged : (t : Tag) → t.op ≡ op → w.ghost.tagged t ≡ None

-- what its command appends, the op has said
abbrev pub HasSaid : World → OpId → Command → Type 0
HasSaid w op c = (bytes : List ℕ) → command_bytes c ≡ Some bytes → w.ghost.said op ≡ Some bytes

-- what is kept of an open is so: the file was made, and the token is the actor's own
pub record IsOpenedFile (w : World) (a : ℕ) (o : OpenedFile) : Type 0 where
  pub made : was_made w.ghost (File o.file) ≡ true
  pub own : o.token.actor ≡ a

-- so is all that a reply tells the actor
abbrev pub AllLearnt : World → ℕ → List Learnt → Type 0
AllLearnt w a [] = Unit {0}
AllLearnt w a (Opens path f t ∷ ls) = IsOpenedFile w a record { file = f; token = t } × AllLearnt w a ls

-- what is so of an actor's memory: nothing was made yet from its serial on, and what is kept of its opens is so
pub record Remembers (w : World) (a : ℕ) (m : Memory) : Type 0 where
  pub files : 1 ≤ a → (i : ℕ) → m.serial ≤ i → i < 2 ^ 32 → was_made w.ghost (File record { 0 = object_number a i }) ≡ false
  pub dirs : 1 ≤ a → (i : ℕ) → m.serial ≤ i → i < 2 ^ 32 → was_made w.ghost (Dir record { 0 = object_number a i }) ≡ false
  pub blocks : 1 ≤ a → (i : ℕ) → m.serial ≤ i → i < 2 ^ 32 → w.ghost.born record { 0 = object_number a i } ≡ None
  pub opened : (path : List (List ℕ)) (o : OpenedFile) → get m.opened path ≡ Some o → IsOpenedFile w a o

-- the op's actor is numbered, and its serial is a small number
pub record IsActor (op : OpId) (m : Memory) : Type 0 where
  pub from : 1 ≤ op.actor
  pub few : m.serial < 2 ^ 32

-- what is asked, or what was come to, is such
abbrev pub OfDoing : {R : Type 0} → (AnyReq → Type 0) → (R → Type 0) → Does R → Type 0
OfDoing A B (Asks q) = A q
OfDoing A B (Says r) = B r

-- what a command may touch: its op's holds and tags, its actor's next object, and the names and seals of what its actor made
abbrev pub by_op : OpId → Memory → Touched
by_op op m = record {
  hold = λ h. op_eq h.op op;
  made = λ n. node_eq n (File record { 0 = object_number op.actor m.serial })
      || node_eq n (Dir record { 0 = object_number op.actor m.serial });
  named = λ n. eqb (actor_of n) op.actor;
  row_hold = λ h. op_eq h.op op;
  born = λ b. blk_eq b record { 0 = object_number op.actor m.serial };
  tag = λ t. op_eq t.op op;
  sealed = λ b. eqb (maker_of b) op.actor;
  said = λ x. false;
}

-- what keeps a request safe: its needs are met, it touches the command's own alone, and each op makes at most one object
pub record Meets (w : World) (op : OpId) (m : Memory) (q : AnyReq) : Type 0 where
  pub needs : Needs w q
  pub own : Within (touched_by q) (by_op op m)
  pub next : makes q ≡ true → m.serial ≤ op.number

-- nothing of that is the op's: no hold or tag of it, and no object of its actor
pub record IsApart (t : Touched) (op : OpId) : Type 0 where
  pub hold : (h : Hold) → h.op ≡ op → t.hold h ≡ false
  pub made : (n : Node) → actor_of n ≡ op.actor → t.made n ≡ false
  pub named : (n : Node) → actor_of n ≡ op.actor → t.named n ≡ false
  pub row_hold : (h : Hold) → h.op ≡ op → t.row_hold h ≡ false
  pub born : (b : BlkId) → maker_of b ≡ op.actor → t.born b ≡ false
  pub tag : (x : Tag) → x.op ≡ op → t.tag x ≡ false
  pub sealed : (b : BlkId) → maker_of b ≡ op.actor → t.sealed b ≡ false
