use Rattle.std.proofs.Common.{refl, arith}
use Rattle.sealed_cache.proofs.ByNumber.{found_dir, used_dir}
use Rattle.sealed_cache.proofs.cache.SealedCache.listing.Goals as goal

pub returns : goal.returns
returns c =
    let entries = c.self.inside.listings.entries in
    let used = used_dir entries c.args.dir in
    let found = found_dir entries c.args.dir in
    rw (← c.self.view_is) ((refl, λ _. tt, grind (arith, used)), record { used = tt; value = grind (arith, found) })
