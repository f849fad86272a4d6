-- what a request makes, and the serial after its reply
use Rattle.std.proofs.Common.{◌≡◌, ℕ, ◌+◌, ◌<◌, ◌≤◌, ◌^◌, ◌||◌, Bool, true, false, Option, Some, None, is_some, refl, arith}
use Rattle.tect_ids.specs.declared.ids.BlkId.{BlkId}
use Rattle.tect_ids.specs.declared.ids.Node.{Node}
use Rattle.tect_ids.specs.declared.ids.Node.TheVariants.{Dir, File}
use Rattle.tect_ids.specs.declared.ids.OpId.{OpId}
use Rattle.tect_ids.specs.Numbers.{object_number}
use Rattle.tect_ids.proofs.KeyTests.{keys, block_keys}
use Rattle.store_rules.specs.declared.any.AnyReq.{AnyReq}
use Rattle.store_rules.specs.declared.any.AnyReply.{AnyReply}
use Rattle.store_rules.specs.Store.{store_reply}
use Rattle.program_forms.specs.Memories.{Memory, always}
use Rattle.store_pasts.specs.Worlds.{World}
use Rattle.store_pasts.specs.Later.{actor_of, maker_of, by_actor, Within}
use Rattle.store_pasts.specs.Roles.{role}
use Rattle.store_pasts.specs.Requests.{makes, is_that, is_that_block, touched_by}
use Rattle.store_world.specs.Kept.{Kept}
use Rattle.store_world.proofs.Rows.{role_laws}
use Rattle.program_laws.specs.Known.{by_op, Meets}

-- ---- a request makes a node just where it is answered so

-- another one touches none that is made
touches_none : (o : Option Node) (b : Option BlkId) → (is_some o || is_some b) ≡ false → (n : Node) → is_that o n ≡ false
touches_none None b e n = refl
touches_none (Some m) b e n = absurd (let f : true ≡ false = e in cc)

touches_no_block : (o : Option Node) (b : Option BlkId) → (is_some o || is_some b) ≡ false → (x : BlkId) → is_that_block b x ≡ false
touches_no_block o None e x = refl
touches_no_block None (Some m) e x = absurd (let f : true ≡ false = e in cc)
touches_no_block (Some n) (Some m) e x = absurd (let f : true ≡ false = e in cc)

-- ---- the serial after a reply

-- the serial goes on, by at most one, and nothing is made from it on
pub record SerialGoesOn (op : OpId) (m : Memory) (q : AnyReq) (x : AnyReply) : Type 0 where
  pub grows : m.serial ≤ (always m q x).serial
  pub few : m.serial ≤ op.number + 1 → (always m q x).serial ≤ op.number + 1
  pub file : (i : ℕ) → (always m q x).serial ≤ i → (touched_by q).made (File record { 0 = object_number op.actor i }) ≡ false
  pub dir : (i : ℕ) → (always m q x).serial ≤ i → (touched_by q).made (Dir record { 0 = object_number op.actor i }) ≡ false
  pub block : (i : ℕ) → (always m q x).serial ≤ i → (touched_by q).born record { 0 = object_number op.actor i } ≡ false

-- no later object is the next
file_later : (op : OpId) (m : Memory) (i : ℕ) → m.serial + 1 ≤ i → (by_op op m).made (File record { 0 = object_number op.actor i }) ≡ false
file_later op m i le = grind (arith, keys)

dir_later : (op : OpId) (m : Memory) (i : ℕ) → m.serial + 1 ≤ i → (by_op op m).made (Dir record { 0 = object_number op.actor i }) ≡ false
dir_later op m i le = grind (arith, keys)

block_later : (op : OpId) (m : Memory) (i : ℕ) → m.serial + 1 ≤ i → (by_op op m).born record { 0 = object_number op.actor i } ≡ false
block_later op m i le = grind (arith, block_keys)

module _ (w v : World) (op : OpId) (m : Memory) (q : AnyReq) (meets : Meets w op m q) (kept : Kept w v q) where
  serial_by : (b : Bool) → makes q ≡ b → SerialGoesOn op m q (store_reply w.store q)
  serial_by false e =
      let same : (always m q (store_reply w.store q)).serial ≡ m.serial = rw ((role_laws q).untold w.store e ((role_laws q).fits w meets.needs)) refl in
      record {
        grows = rw same (omega arith);
        few = λ le. rw same le;
        file = λ i le. touches_none (role q).makes (role q).makes_block e _;
        dir = λ i le. touches_none (role q).makes (role q).makes_block e _;
        block = λ i le. touches_no_block (role q).makes (role q).makes_block e _;
      }
  serial_by true e =
      let more : (always m q (store_reply w.store q)).serial ≡ m.serial + 1 =
      rw ((role_laws q).told v (store_reply w.store q) e kept.taught) refl in
      let next : m.serial ≤ op.number = meets.next e in
      record {
        grows = rw more (omega arith);
        few = λ le. rw more (omega (arith, next));
        file = λ i le. meets.own.made _ (file_later op m i (rw (← more) le));
        dir = λ i le. meets.own.made _ (dir_later op m i (rw (← more) le));
        block = λ i le. meets.own.born _ (block_later op m i (rw (← more) le));
      }

  pub serial_goes_on : SerialGoesOn op m q (store_reply w.store q)
  serial_goes_on = serial_by (makes q) refl

-- ---- an object's number tells its actor

pub file_of_actor : (a i : ℕ) → i < 2 ^ 32 → actor_of (File record { 0 = object_number a i }) ≡ a
file_of_actor a i lt = omega arith

pub dir_of_actor : (a i : ℕ) → i < 2 ^ 32 → actor_of (Dir record { 0 = object_number a i }) ≡ a
dir_of_actor a i lt = omega arith

pub block_of_actor : (a i : ℕ) → i < 2 ^ 32 → maker_of record { 0 = object_number a i } ≡ a
block_of_actor a i lt = omega arith

-- so what a command may touch is its actor's
module _ (op : OpId) (m : Memory) (few : m.serial < 2 ^ 32) where
  not_next : (n : Node) → (actor_of n ≡ op.actor → ⊥) → (by_op op m).made n ≡ false
  not_next n other = grind (arith, keys, file_of_actor op.actor m.serial few, dir_of_actor op.actor m.serial few)

  pub within_actor : Within (by_op op m) (by_actor op.actor)
  within_actor = record {
    hold = λ h o. grind (arith, keys);
    made = λ n o. not_next n (λ e. grind (arith, keys));
    named = λ n o. o;
    row_hold = λ h o. grind (arith, keys);
    born = λ b o. grind (arith, block_keys, block_of_actor op.actor m.serial few);
    tag = λ t o. grind (arith, keys);
    sealed = λ b o. o;
    said = λ x o. refl;
  }
