-- what an actor does is its own, and apart from the ops of others
use Rattle.std.proofs.Common.{◌≡◌, ℕ, false, eqb, refl, arith}
use Rattle.tect_ids.specs.declared.ids.OpId.{OpId}
use Rattle.tect_ids.proofs.KeyTests.{keys}
use Rattle.program_forms.specs.Memories.{Memory}
use Rattle.store_pasts.specs.Later.{Within, by_actor}
use Rattle.store_pasts.specs.Requests.{touches_op, touches_said}
use Rattle.program_laws.specs.Known.{IsApart, by_op}

-- what another actor does is apart from an op
pub apart_of : (a : ℕ) (op : OpId) → eqb op.actor a ≡ false → IsApart (by_actor a) op
apart_of a op other = record {
  hold = λ h own. rw (own, other) refl;
  made = λ n own. rw (own, other) refl;
  named = λ n own. rw (own, other) refl;
  row_hold = λ h own. rw (own, other) refl;
  born = λ b own. rw (own, other) refl;
  tag = λ t own. rw (own, other) refl;
  sealed = λ b own. rw (own, other) refl;
}

-- what it says at a begin is its own
pub said_own : (op : OpId) → Within (touches_said op) (by_actor op.actor)
said_own op = record {
  hold = λ h o. refl;
  made = λ n o. refl;
  named = λ n o. refl;
  row_hold = λ h o. refl;
  born = λ b o. refl;
  tag = λ t o. refl;
  sealed = λ b o. refl;
  said = λ x o. grind (arith, keys);
}

-- what is given up is its op's
pub given_up_own : (op : OpId) (m : Memory) → Within (touches_op op) (by_op op m)
given_up_own op m = record {
  hold = λ h o. o;
  made = λ n o. refl;
  named = λ n o. refl;
  row_hold = λ h o. o;
  born = λ b o. refl;
  tag = λ t o. refl;
  sealed = λ b o. refl;
  said = λ x o. refl;
}
