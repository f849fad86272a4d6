-- The label that the shard of a place is started with.
use Rattle.std.specs.Prelude.{ℕ, ◌==◌, false}
use Rattle.tect_ids.specs.declared.ids.Counts.{Counts}
use Rattle.tect_ids.specs.declared.ids.Layer.TheVariants as layers
use Rattle.tect_ids.specs.declared.ids.TheConstants.{ROOT}
use Rattle.tect_ids.specs.Places.{layer_at, place_number}
use Rattle.entry_words.specs.declared.entry.Label.{Label}

-- the name shard of the root's place has the root
abbrev pub label_at : Counts → ℕ → Label
label_at c n =
    record { place = record { 0 = n }; layer = layer_at c n; rooted = n == place_number c layers.Names ROOT.0; folded = false }
