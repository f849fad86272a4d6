use Rattle.std.proofs.Common.{refl, arith}
use Rattle.sealed_cache.proofs.ByNumber.{found_blk, used_blk}
use Rattle.sealed_cache.proofs.cache.SealedCache.location.Goals as goal

pub returns : goal.returns
returns c =
    let entries = c.self.inside.locations.entries in
    let used = used_blk entries c.args.blk in
    let found = found_blk entries c.args.blk in
    rw (← c.self.view_is) ((refl, λ _. tt, grind (arith, used)), record { used = tt; value = grind (arith, found) })
