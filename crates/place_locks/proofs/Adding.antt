-- One place more stands in order.
use Rattle.std.proofs.Common.{◌≡◌, ℕ, zero, suc, ◌⊎◌, List, [], ◌∷◌, ◌++◌, length, Some, refl, inl, inr, arith}
use Rattle.std.specs.Prelude.{slice_get}
use Rattle.tect_ids.specs.declared.ids.Counts.{Counts}
use Rattle.place_kit.specs.declared.any.AnyKept.{AnyKept}
use Rattle.place_kit.specs.Kept.{label_of}
use Rattle.entry_words.specs.Labels.{label_at}
use Rattle.place_kit.specs.Started.{StandFirst}

-- what is read of a list with one item more is read of the list, or it is that item
got : {X : Type 0} (xs : List X) (last x : X) (n : ℕ) → slice_get (xs ++ last ∷ []) n ≡ Some x → (slice_get xs n ≡ Some x)
    ⊎ ((n ≡ length xs) × (last ≡ x))
got [] last x zero e = inr (refl, cc)
got [] last x (suc n) e = cc
got (y ∷ ys) last x zero e = inl e
got (y ∷ ys) last x (suc n) e = elim (got ys last x n e) [ inl h ↦ inl h | inr h ↦ inr (omega (arith, h.0), h.1) ]

-- no machine stands at no place
pub none_stand : (c : Counts) → StandFirst c 0 []
none_stand c = record { number = refl; labels = λ n k e. cc }

-- the machine that is added stands at the next place
pub one_more : (c : Counts) (ks : List AnyKept) (k : AnyKept) (n : ℕ) → StandFirst c (length ks) ks → n ≡ length ks
    → label_of k ≡ label_at c n
    → StandFirst c (length (ks ++ k ∷ [])) (ks ++ k ∷ [])
one_more c ks k n first next label = record {
  number = refl;
  labels = λ i x e. elim (got ks k x i e) [ inl h ↦ first.labels i x h | inr h ↦ cc ];
}
