use Rattle.std.proofs.Common.{rules, ap, ◌∙◌}
use Rattle.ordered_rows.specs.Pairs.{pairs}
use Rattle.block_maps.specs.DiskIndexes.{blks_on, blks_of_front}
use Rattle.block_maps.proofs.DiskIndexes.{is_before, before_closed, blks_past}
use Rattle.block_maps.proofs.disk_index.DiskIndex.on.Goals as goal

pub returns : goal.returns
returns c =
    let d = c.args.disk in
    let rest = c.seek_past.ensures.rest (is_before d) (λ k r met. search rules) (before_closed d) in
    c.new.ensures ∙ ap (blks_of_front d) rest ∙ blks_past (pairs c.self.inside.rows) d c.seek_past.ensures.rising
    ∙ ap (λ m. blks_on m d) c.self.view_is
