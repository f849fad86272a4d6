-- how a command ends: it releases what can't be bound any more, and then gives its answer
use Rattle.std.proofs.Common.{◌≡◌, true, false, Option, Some, None}
use Rattle.tect_ids.specs.declared.ids.Hold.{Hold}
use Rattle.tect_ids.specs.declared.ids.Node.{Node}
use Rattle.tect_ids.specs.declared.ids.OpId.{OpId}
use Rattle.tect_ids.specs.declared.key.Key.{Key}
use Rattle.tect_ids.specs.declared.answer.Answer.{Answer}
use Rattle.tect_ids.specs.Keys.{op_eq}
use Rattle.tect_calls.specs.declared.tokens.Freed.{Freed}
use Rattle.program_forms.specs.Memories.{Memory}
use Rattle.program_parts.specs.declared.releasing.Releasing.{Releasing}
use Rattle.program_parts.specs.Parts.{within}
use Rattle.program_parts.specs.Releases.{then_release}
use Rattle.store_pasts.specs.Worlds.{World, over, settled}
use Rattle.store_pasts.specs.Pasts.{IsGranted}
use Rattle.store_pasts.proofs.Over.{over_spent}
use Rattle.program_laws.specs.Known.{Deciding, Known, is_odd}
use Rattle.part_laws.specs.Parts.{NextKnows, next_decided}
use Rattle.part_laws.specs.Releases.{IsFreed, ReleaseKnows, release_deciding, release_known}
use Rattle.part_laws.proofs.Within.{IsWithin}
use Rattle.part_laws.proofs.Releases.{release_over}

-- the release is one of the command's states
module _ {S : Type 0} {D : Deciding S Answer} {N : Known S Answer} (f : Releasing → S)
    (i : IsWithin f release_deciding release_known D N) (v : World) (op : OpId) (m : Memory) where
  settled_release : (r : Releasing) → ReleaseKnows (over op v) op m r → N.Knows (settled op None (D.decided (f r)) v) op m (f r)
  settled_release r k = rw (i.decided r) (i.knows (over op v) op m r k)

  pub releases : (r : Releasing) → ReleaseKnows v op m r → N.Knows (settled op None (D.decided (f r)) v) op m (f r)
  releases r k = settled_release r (release_over v op m r k)

  -- a hold that was granted is given up by that
  pub gives_up : (n : Node) (h : Hold) (k : Key) (a : Answer) → op_eq h.op op ≡ true → IsGranted v h n k → is_odd a ≡ false
      → N.Knows
      (settled op None (D.decided (f record { first = record { node = n; hold = h }; second = None; answer = a })) v) op m
      (f record { first = record { node = n; hold = h }; second = None; answer = a })
  gives_up n h k a own granted plain = settled_release record { first = record { node = n; hold = h }; second = None; answer = a }
      record { first = over_spent v op h n k own granted; second = tt; plain = plain }

  pub releases_then : (o : Option Freed) (a : Answer) → IsFreed v o → is_odd a ≡ false
      → NextKnows N (settled op None (next_decided D (within f (then_release o a))) v) op m (within f (then_release o a))
  releases_then None a freed plain = i.ends (over op v) a plain
  releases_then (Some x) a freed plain = releases record { first = x; second = None; answer = a }
      record { first = freed; second = tt; plain = plain }
