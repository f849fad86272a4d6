use Rattle.std.proofs.Common.{refl, arith}
use Rattle.sealed_cache.proofs.ByNumber.{found_file, used_file}
use Rattle.sealed_cache.proofs.cache.SealedCache.blocks.Goals as goal

pub returns : goal.returns
returns c =
    let entries = c.self.inside.block_lists.entries in
    let used = used_file entries c.args.file in
    let found = found_file entries c.args.file in
    rw (← c.self.view_is) ((refl, λ _. tt, grind (arith, used)), record { used = tt; value = grind (arith, found) })
