-- the one hold of an op, from where it is granted on
use Rattle.std.proofs.Common.{◌≡◌, true, false, Some, None, refl, sym, ◌∙◌}
use Rattle.tect_ids.specs.declared.ids.DirId.{DirId}
use Rattle.tect_ids.specs.declared.ids.Hold.{Hold}
use Rattle.tect_ids.specs.declared.ids.Node.{Node}
use Rattle.tect_ids.specs.declared.ids.Node.TheVariants.{Dir}
use Rattle.tect_ids.specs.declared.ids.OpId.{OpId}
use Rattle.tect_ids.specs.declared.key.Key.{Key}
use Rattle.tect_ids.specs.Keys.{op_eq, hold_eq}
use Rattle.tect_ids.specs.Numbers.{own_hold}
use Rattle.program_forms.specs.Memories.{Memory}
use Rattle.store_pasts.specs.Worlds.{World, Given, Live}
use Rattle.store_pasts.specs.Pasts.{IsGranted}
use Rattle.store_pasts.specs.Later.{Touched, Later}
use Rattle.program_laws.specs.Known.{IsNewOp, IsApart}
use Rattle.part_laws.specs.Walks.{OnItsWay}
use Rattle.part_laws.proofs.Own.{same_op, is_same_hold, new_stays}
use Rattle.names_laws.specs.Known.{HasOwnHold}

-- what a walk knew stays so
pub way_stays : (by : Touched) (w v : World) (op : OpId) → Later by w v → IsApart by op → (m : Memory) (d : DirId) → OnItsWay w op m d
    → OnItsWay v op m d
way_stays by w v op l apart m d k = record { made = l.made (Dir d) k.made; new = new_stays by w v op l apart k.new; left = k.left }

-- a request that touches it alone grants a new op no other
pub own_granted : (w v : World) (op : OpId) (by : Touched) (n : Node) (k : Key)
    → ((h : Hold) → hold_eq h (own_hold op) ≡ false → by.hold h ≡ false) → Later by w v → IsNewOp w op → IsGranted v (own_hold op) n k
    → HasOwnHold v op (own_hold op) n k
own_granted w v op by n k alone l new granted = record {
  own = refl;
  granted = granted;
  one = λ other own ne. l.fresh other (alone other ne) (new.given other own);
}

module _ (w : World) (op : OpId) (h : Hold) (n : Node) (k : Key) (has : HasOwnHold w op h n k) where
  pub of_op : h.op ≡ op
  of_op = rw has.own refl

  pub of_op_test : op_eq h.op op ≡ true
  of_op_test = rw of_op (same_op op)

  -- what others do leaves it
  pub own_stays : (by : Touched) (v : World) → Later by w v → IsApart by op → HasOwnHold v op h n k
  own_stays by v l apart = record {
    own = has.own;
    granted = l.live h _ (apart.hold h of_op) has.granted refl;
    one = λ other own ne. l.fresh other (apart.hold other own) (has.one other own ne);
  }

  -- a hold of the op that was granted is this one
  pub is_own : (other : Hold) (g : Given) → other.op ≡ op → w.ghost.given other ≡ Some g → hold_eq other h ≡ true
  is_own other g own is = rw has.own
      (elim (hold_eq other (own_hold op)) as (λ b. hold_eq other (own_hold op) ≡ b → b ≡ true) [
        | true ↦ λ e. refl
        | false ↦ λ e. absurd (let f : None ≡ Some g = sym (has.one other own e) ∙ is in cc)
      ] refl)

  -- and no hold is that was not
  pub not_own : (other : Hold) → w.ghost.given other ≡ None → hold_eq other h ≡ true → ⊥
  not_own other none e =
      let g : Given = record { lower = n; upper = k; phase = Live } in
      let is : w.ghost.given other ≡ Some g = rw (is_same_hold other h e) has.granted in
      let f : None ≡ Some g = sym none ∙ is in cc
