-- what is found in changed maps of blocks, of their rows and of chunks, and in rows with one added at the end
use Rattle.std.proofs.Common.{◌≡◌, ℕ, zero, suc, List, [], ◌∷◌, ◌++◌, length, eqb, cond, if◌then◌else◌, Some, None}
use Rattle.std.proofs.Common.{refl, ap, ◌∙◌, arith}
use Rattle.std.specs.List.{slice_get}
use Rattle.std.proofs.lemmas.Option.{slice_get_past}
use Rattle.tect_ids.proofs.KeyTests.{block_keys}
use Rattle.key_words.proofs.BlockLookups.{get-blk_at, get-disk_at, get-chunk_at}
use Rattle.key_words.proofs.Lookups.{maps}

-- a row that is added at the end
pub get-added : {X : Type 0} (xs : List X) (x : X) (i : ℕ) → slice_get (xs ++ (x ∷ [])) i
    ≡ (if eqb i (length xs) then Some x else slice_get xs i)
get-added [] x zero = refl
get-added [] x (suc i) = grind arith
get-added (y ∷ xs) x zero = grind arith
get-added (y ∷ xs) x (suc i) = get-added xs x i
    ∙ ap (λ b. cond b (Some x) (slice_get xs i)) (let e : eqb i (length xs) ≡ eqb (suc i) (suc (length xs)) = grind arith in e)

-- none is past the end
pub get-end : {X : Type 0} (xs : List X) → slice_get xs (length xs) ≡ None
get-end xs = slice_get_past xs (length xs) (omega arith)

-- all that is needed to read changed blocks, rows and chunks
pub ruleset block_maps = (maps, block_keys, get-blk_at, get-disk_at, get-chunk_at, get-added, get-end)
