-- what a command touches is its own: its op's holds, the object that it makes, and what its actor made
use Rattle.std.proofs.Common.{◌≡◌, ℕ, ◌<◌, ◌≤◌, ◌^◌, true, false, Some, None, refl, sym, ◌∙◌, arith}
use Rattle.tect_ids.specs.declared.ids.Hold.{Hold}
use Rattle.tect_ids.specs.declared.ids.Node.{Node}
use Rattle.tect_ids.specs.declared.ids.Node.TheVariants.{Dir, File}
use Rattle.tect_ids.specs.declared.ids.OpId.{OpId}
use Rattle.tect_ids.specs.declared.ids.Tag.{Tag}
use Rattle.tect_ids.specs.declared.command.Command.{Command}
use Rattle.tect_ids.specs.Keys.{op_eq, hold_eq}
use Rattle.tect_ids.specs.Numbers.{object_number}
use Rattle.tect_ids.proofs.KeyTests.{keys}
use Rattle.store_rules.specs.declared.any.AnyReq.{AnyReq}
use Rattle.program_forms.specs.Memories.{Memory}
use Rattle.store_pasts.specs.Worlds.{World, Given}
use Rattle.store_pasts.specs.Pasts.{was_made}
use Rattle.store_pasts.specs.Later.{actor_of, Touched, Later, Within}
use Rattle.store_pasts.specs.Requests.{Needs, makes, touched_by, touches_nothing, touches_hold, touches_bound, touches_new, touches_named}
use Rattle.program_laws.specs.Known.{Remembers, IsActor, IsNewOp, HasSaid, IsApart, by_op, Meets}

-- ---- what a request touches

module _ (op : OpId) (m : Memory) where
  pub nothing_own : Within touches_nothing (by_op op m)
  nothing_own = record {
    hold = λ h o. refl;
    made = λ n o. refl;
    named = λ n o. refl;
    row_hold = λ h o. refl;
    born = λ b o. refl;
    tag = λ t o. refl;
    sealed = λ b o. refl;
    said = λ x o. refl;
  }

  -- a hold of another op is none of this one's
  other_op : (h x : Hold) → h.op ≡ op → op_eq x.op op ≡ false → hold_eq x h ≡ false
  other_op h x own other = grind (arith, keys)

  pub hold_own : (h : Hold) → h.op ≡ op → Within (touches_hold h) (by_op op m)
  hold_own h own = record {
    hold = λ x o. other_op h x own o;
    made = λ n o. refl;
    named = λ n o. refl;
    row_hold = λ x o. refl;
    born = λ b o. refl;
    tag = λ t o. refl;
    sealed = λ b o. refl;
    said = λ x o. refl;
  }

  pub bound_own : (h : Hold) → h.op ≡ op → Within (touches_bound h) (by_op op m)
  bound_own h own = record {
    hold = λ x o. other_op h x own o;
    made = λ n o. refl;
    named = λ n o. refl;
    row_hold = λ x o. other_op h x own o;
    born = λ b o. refl;
    tag = λ t o. refl;
    sealed = λ b o. refl;
    said = λ x o. refl;
  }

  pub file_own : (h : Hold) → h.op ≡ op → Within (touches_new (File record { 0 = object_number op.actor m.serial }) h) (by_op op m)
  file_own h own = record {
    hold = λ x o. other_op h x own o;
    made = λ n o. grind (arith, keys);
    named = λ n o. refl;
    row_hold = λ x o. refl;
    born = λ b o. refl;
    tag = λ t o. refl;
    sealed = λ b o. refl;
    said = λ x o. refl;
  }

  pub dir_own : (h : Hold) → h.op ≡ op → Within (touches_new (Dir record { 0 = object_number op.actor m.serial }) h) (by_op op m)
  dir_own h own = record {
    hold = λ x o. other_op h x own o;
    made = λ n o. grind (arith, keys);
    named = λ n o. refl;
    row_hold = λ x o. refl;
    born = λ b o. refl;
    tag = λ t o. refl;
    sealed = λ b o. refl;
    said = λ x o. refl;
  }

  pub named_own : (n : Node) (h : Hold) → h.op ≡ op → actor_of n ≡ op.actor → Within (touches_named n h) (by_op op m)
  named_own n h own mine = record {
    hold = λ x o. other_op h x own o;
    made = λ k o. refl;
    named = λ k o. grind (arith, keys);
    row_hold = λ x o. other_op h x own o;
    born = λ b o. refl;
    tag = λ t o. refl;
    sealed = λ b o. refl;
    said = λ x o. refl;
  }

module _ (w : World) (op : OpId) (m : Memory) (q : AnyReq) where
  -- a request that makes nothing takes no serial
  pub plain : makes q ≡ false → Needs w q → Within (touched_by q) (by_op op m) → Meets w op m q
  plain none needs own = record { needs = needs; own = own; next = λ e. absurd (let f : false ≡ true = sym none ∙ e in cc) }

  -- one that makes something has a serial left for it
  pub making : m.serial ≤ op.number → Needs w q → Within (touched_by q) (by_op op m) → Meets w op m q
  making left needs own = record { needs = needs; own = own; next = λ e. left }

-- ---- its objects

-- an object's number tells its actor
pub file_number : (op : OpId) (serial : ℕ) → serial < 2 ^ 32 → actor_of (File record { 0 = object_number op.actor serial }) ≡ op.actor
file_number op serial few = omega arith

pub dir_number : (op : OpId) (serial : ℕ) → serial < 2 ^ 32 → actor_of (Dir record { 0 = object_number op.actor serial }) ≡ op.actor
dir_number op serial few = omega arith

-- the next one was not made
module _ (w : World) (op : OpId) (m : Memory) (r : Remembers w op.actor m) (a : IsActor op m) where
  pub file_free : was_made w.ghost (File record { 0 = object_number op.actor m.serial }) ≡ false
  file_free = r.files a.from m.serial (omega arith) a.few

  pub dir_free : was_made w.ghost (Dir record { 0 = object_number op.actor m.serial }) ≡ false
  dir_free = r.dirs a.from m.serial (omega arith) a.few

  -- nor was a block of that number
  pub block_free : w.ghost.born record { 0 = object_number op.actor m.serial } ≡ None
  block_free = r.blocks a.from m.serial (omega arith) a.few

-- ---- its holds

pub same_op : (op : OpId) → op_eq op op ≡ true
same_op op = grind (arith, keys)

pub is_same_hold : (a b : Hold) → hold_eq a b ≡ true → a ≡ b
is_same_hold a b e = grind (arith, keys)

pub no_hold : (w : World) (op : OpId) → IsNewOp w op → (h : Hold) (g : Given) → h.op ≡ op → w.ghost.given h ≡ Some g → ⊥
no_hold w op new h g own is = let f : None ≡ Some g = sym (new.given h own) ∙ is in cc

module _ (by : Touched) (w v : World) (op : OpId) (l : Later by w v) where
  pub new_untouched : ((h : Hold) → h.op ≡ op → by.hold h ≡ false) → ((h : Hold) → h.op ≡ op → by.row_hold h ≡ false)
      → ((t : Tag) → t.op ≡ op → by.tag t ≡ false) → IsNewOp w op → IsNewOp v op
  new_untouched hold row_hold tag new = record {
    given = λ h own. l.fresh h (hold h own) (new.given h own);
    row_given = λ h own. l.rows.fresh h (row_hold h own) (new.row_given h own);
    tagged = λ t own. l.blocks.untagged t (tag t own) (new.tagged t own);
  }

  pub new_stays : IsApart by op → IsNewOp w op → IsNewOp v op
  new_stays apart new = new_untouched apart.hold apart.row_hold apart.tag new

  -- and what it said it has said
  pub said_stays : (c : Command) → HasSaid w op c → HasSaid v op c
  said_stays c said bytes e = l.blocks.said op bytes (said bytes e)
