-- a part that finds nothing in a memory
use Rattle.std.proofs.Common.{◌≡◌, refl}
use Rattle.tect_ids.specs.declared.ids.Counts.{Counts}
use Rattle.tect_ids.specs.declared.ids.OpId.{OpId}
use Rattle.program_forms.specs.Memories.{Memory}
use Rattle.program_parts.specs.declared.next.Next.TheVariants.{Goes}
use Rattle.program_parts.specs.Parts.{Part}
use Rattle.store_pasts.specs.Worlds.{World}
use Rattle.program_laws.specs.Known.{Deciding, Known, Remembers}
use Rattle.part_laws.specs.Parts.{NextKnows, IsTurned}

module _ {S R : Type 0} (P : Part S R) where
  pub nothing_turns : (N : Known S R) (c : Counts) (w : World) (op : OpId) (m : Memory) (s : S)
      → P.turns c m op s ≡ record { memory = m; state = Goes s } → Remembers w op.actor m → N.Knows w op m s
      → Remembers w op.actor (P.turns c m op s).memory × ((P.turns c m op s).memory.serial ≡ m.serial)
      × NextKnows N w op (P.turns c m op s).memory (P.turns c m op s).state
  nothing_turns N c w op m s e r k = rw e (r, refl, k)

  pub nothing_turned : (D : Deciding S R) (c : Counts) (m : Memory) (op : OpId) (s : S)
      → P.turns c m op s ≡ record { memory = m; state = Goes s } → IsTurned D (D.decided s) (P.turns c m op s).state
  nothing_turned D c m op s e = rw e refl
