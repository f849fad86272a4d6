use Rattle.std.proofs.Common.{◌≡◌, ◌∙◌, ap, Some, false, map, reverse}
use Rattle.map_words.specs.Maps.{set_at}
use Rattle.store_rules.specs.Blocks.{rows_from}
use Rattle.block_shard.proofs.MadeRows.{made_next}
use Rattle.block_shard.proofs.requests.rows_from.Goals as goal

pub loop-row-init : goal.loop-row-init
unfolding rows_from
loop-row-init c = c.new-made.ensures

pub loop-row-preserved : goal.loop-row-preserved
loop-row-preserved c =
    let made : c.loop-row.made ≡ rows_from (reverse (map (λ row. row.now) c.loop-row.yielded)) = c.loop-row.invariant in
    let row = c.in-Some.row in
    c.in_ok-put.ensures.ok ∙ ap (λ m. set_at m row.now.disk (Some record { tag = row.now.tag; placed = false })) made
    ∙ made_next c.loop-row.yielded row
