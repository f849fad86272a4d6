-- What the shard of its place shows of an identifier, as the code reads it.
use Rattle.std.proofs.Common.{◌≡◌, ℕ, ◌<◌, List, length, get_or, sym, ap, ◌∙◌, subst}
use Rattle.tect_ids.specs.declared.ids.Counts.{Counts}
use Rattle.tect_ids.specs.declared.ids.Layer.{Layer}
use Rattle.tect_ids.specs.Places.{place_number}
use Rattle.tect_ids.proofs.Layers.{has_place}
use Rattle.store_rules.specs.Alone.{no_store}
use Rattle.store_rules.specs.Store.{Store}
use Rattle.store_shards.specs.Rows.{AreShards, together}
use Rattle.store_shards.proofs.Rows.{any_default}
use Rattle.layers.specs.Dumps.{lines_of}
use Rattle.layers.proofs.Dumped.{row_lines}

pub lines_read : (c : Counts) (row : List Store) → AreShards c row → (l : Layer) (id : ℕ)
    → (n : ℕ) → n ≡ place_number c l id → (s : Store) → s ≡ get_or row n s
    → lines_of l s id ≡ lines_of l (together row) id
lines_read c row is l id n at s read =
    let within : place_number c l id < length row =
    subst (λ (m : ℕ). place_number c l id < m) (sym is.number) (has_place c l id is.places) in
    ap (λ (x : Store). lines_of l x id)
    (read ∙ ap (λ (i : ℕ). get_or row i s) at ∙ any_default row (place_number c l id) s no_store within)
    ∙ row_lines c row is l id
