use Rattle.std.proofs.Common.{arith}
use Rattle.sealed_cache.specs.Caches.{location_bound}
use Rattle.sealed_cache.proofs.ByNumber.{kept_blk}
use Rattle.sealed_cache.proofs.cache.SealedCache.keep_location.Goals as goal

pub returns-clause-kept : goal.returns-clause-kept
returns-clause-kept c =
    let valid = c.len-count.ensures.valid in
    let kept = kept_blk c.self.inside.locations c.args.location valid.2 valid.1 location_bound c.self.invariant.2 c.args.blk in
    rw (← c.self.view_is) (grind (arith, kept))
