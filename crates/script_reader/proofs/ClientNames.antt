-- The names of the clients, one after another.
use Rattle.std.proofs.Common.{◌≡◌, ℕ, ◌+◌, ◌<◌, take, slice_get, List, [], ◌∷◌, ◌++◌, Some, length, refl}
use Rattle.std.specs.Map.{keys_of}
use Rattle.std.proofs.lemmas.List.{take_more, map-append}
use Rattle.std.proofs.lemmas.Option.{get_or_from_slice_get}
use Rattle.script_forms.specs.declared.clients.ClientState.{ClientState}
use Rattle.script_forms.specs.Clients.{Seen}

-- one more client's name
pub keys_more : (entries : Seen) (at : ℕ) (e : List ℕ × ClientState) → at < length entries → slice_get entries at ≡ Some e
    → keys_of (take (at + 1) entries) ≡ keys_of (take at entries) ++ e.0 ∷ []
keys_more entries at e small is = rw (take_more entries at e small, map-append, get_or_from_slice_get entries at e e is) refl
