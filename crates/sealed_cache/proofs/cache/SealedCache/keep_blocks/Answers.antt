use Rattle.std.proofs.Common.{arith}
use Rattle.sealed_cache.specs.Caches.{block_list_bound}
use Rattle.sealed_cache.proofs.ByNumber.{kept_file}
use Rattle.sealed_cache.proofs.cache.SealedCache.keep_blocks.Goals as goal

pub returns-clause-kept : goal.returns-clause-kept
returns-clause-kept c =
    let valid = c.len-count.ensures.valid in
    let kept = kept_file c.self.inside.block_lists c.args.blocks valid.2 valid.1 block_list_bound c.self.invariant.1 c.args.file in
    rw (← c.self.view_is) (grind (arith, kept))
