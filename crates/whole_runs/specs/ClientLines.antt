-- One client's lines, with those of the dumps: what they ask for, from the op that is busy before them to the one after them.
use Rattle.std.specs.Prelude.{◌≡◌, ℕ, Option, List, [], ◌∷◌, ◌++◌}
use Rattle.tect_ids.specs.declared.ids.OpId.{OpId}
use Rattle.tect_ids.specs.declared.script.Line.{Line}
use Rattle.tect_ids.specs.declared.script.Line.TheVariants as lines
use Rattle.world_runs.specs.declared.event.Event.{Event}
use Rattle.world_runs.specs.declared.event.Event.TheVariants.{Dumped}
use Rattle.world_runs.specs.Follows.{DoesLine}

abbrev pub DoesLines : ℕ → Option OpId → List Line → List Event → Option OpId → Type 0
DoesLines actor busy [] es next = (es ≡ []) × (next ≡ busy)
DoesLines actor busy (lines.Client client other act ∷ ls) es next =
    (part : List Event) × (rest : List Event) × (then : Option OpId)
    × (other ≡ actor) × (es ≡ part ++ rest) × DoesLine actor busy act part then
    × DoesLines actor then ls rest next
DoesLines actor busy (lines.Dump ∷ ls) es next = (rest : List Event) × (es ≡ Dumped ∷ rest) × DoesLines actor busy ls rest next
DoesLines actor busy (lines.Store counts ∷ ls) es next = ⊥
DoesLines actor busy (lines.Sweep ∷ ls) es next = ⊥
DoesLines actor busy (lines.Lose disk ∷ ls) es next = ⊥
