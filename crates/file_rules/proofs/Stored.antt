-- The chunks of a block's first rows, and the next.
use Rattle.std.proofs.Common.{◌≡◌, ℕ, List, [], ◌∷◌, ◌++◌, length, take, Some, None, zero, suc, refl, sym, ap, ◌∙◌, arith}
use Rattle.std.specs.Prelude.{option_map}
use Rattle.std.specs.List.{slice_get}
use Rattle.std.proofs.lemmas.List.{length-append}
use Rattle.std.proofs.lemmas.Option.{slice_get-map}
use Rattle.tect_ids.specs.declared.key.ChunkKey.{ChunkKey}
use Rattle.tect_calls.specs.MadeBlocks.{NewBlock, chunk_of, chunks_of}

-- its chunk
pub next_row : (b : NewBlock) (at : ℕ) → slice_get (chunks_of b) at ≡ option_map (chunk_of b.blk) (slice_get b.rows at)
next_row b at = slice_get-map (chunk_of b.blk) b.rows at

past_all : {X : Type 0} (xs : List X) (n : ℕ) → slice_get xs n ≡ None → take n xs ≡ xs
past_all [] zero e = refl
past_all [] (suc n) e = refl
past_all (x ∷ xs) zero e = absurd (let no : Some x ≡ None = e in cc)
past_all (x ∷ xs) (suc n) e = ap (λ l. x ∷ l) (past_all xs n e)

-- all are stored where no row is next
pub stored_all : (b : NewBlock) (stored : List ChunkKey) → stored ≡ take (length stored) (chunks_of b)
    → slice_get (chunks_of b) (length stored) ≡ None → stored ≡ chunks_of b
stored_all b stored e none = e ∙ past_all (chunks_of b) (length stored) none

one_more : {X : Type 0} (xs : List X) (n : ℕ) (x : X) → slice_get xs n ≡ Some x → take (suc n) xs ≡ take n xs ++ x ∷ []
one_more [] n x e = absurd (let no : None ≡ Some x = e in cc)
one_more (y ∷ ys) zero x e = grind arith
one_more (y ∷ ys) (suc n) x e = ap (λ l. y ∷ l) (one_more ys n x e)

-- one more is stored
pub stored_more : (b : NewBlock) (stored : List ChunkKey) (c : ChunkKey) → stored ≡ take (length stored) (chunks_of b)
    → slice_get (chunks_of b) (length stored) ≡ Some c → stored ++ c ∷ [] ≡ take (length (stored ++ c ∷ [])) (chunks_of b)
stored_more b stored c e next =
    let more : length (stored ++ c ∷ []) ≡ suc (length stored) = omega (arith, length-append stored (c ∷ [])) in
    ap (λ l. l ++ c ∷ []) e ∙ sym (one_more (chunks_of b) (length stored) c next) ∙ ap (λ n. take n (chunks_of b)) (sym more)
