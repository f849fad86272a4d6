-- What a cache ends as, once a reference into it has ended.
use Rattle.std.specs.Prelude.{◌≡◌, ⊤}
use Rattle.std.specs.Borrow.{Fml, MutBor, follows_so}
use mathlib.Core.Option.{none}
use Rattle.sealed_cache.specs.Caches.{Caches}
use Rattle.sealed_cache.specs.contracts.cache.SealedCache.{the_row}

abbrev pub ends_as : MutBor Caches → Caches → Fml
ends_as cache caches = follows_so the_row the_row cache.ghost_name none (λ _ _. ⊤) (λ now. now ≡ caches)
