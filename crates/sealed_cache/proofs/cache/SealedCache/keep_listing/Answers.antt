use Rattle.std.proofs.Common.{arith}
use Rattle.sealed_cache.specs.Caches.{listing_bound}
use Rattle.sealed_cache.proofs.ByNumber.{kept_dir}
use Rattle.sealed_cache.proofs.cache.SealedCache.keep_listing.Goals as goal

pub returns-clause-kept : goal.returns-clause-kept
returns-clause-kept c =
    let valid = c.len-count.ensures.valid in
    let kept = kept_dir c.self.inside.listings c.args.listing valid.2 valid.1 listing_bound c.self.invariant.0 c.args.dir in
    rw (← c.self.view_is) (grind (arith, kept))
