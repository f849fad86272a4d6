use Rattle.std.proofs.Common.{rules, ap, ◌∙◌}
use Rattle.std.specs.FinMap.{entries}
use Rattle.ordered_rows.specs.Pairs.{pairs}
use Rattle.block_maps.specs.Chunks.{on_disk, front_on}
use Rattle.block_maps.proofs.ChunkFront.{is_before, before_closed, front_on-past}
use Rattle.block_maps.proofs.by_chunk.ChunkMap.on_disk.Goals as goal

pub returns : goal.returns
returns g c =
    let d = c.args.disk in
    let rest = c.seek_past.ensures.rest (is_before d) (λ k r met. search rules) (before_closed d) in
    c.new.ensures ∙ ap (front_on d) rest ∙ front_on-past (pairs c.self.inside.rows) d c.seek_past.ensures.rising
    ∙ ap (λ m. entries (on_disk m d)) c.self.view_is
