-- the kept machines stand each at its place, from the first on
use Rattle.std.proofs.Common.{◌≡◌, ℕ, suc, Some, List, [], ◌∷◌, map, length, set, replicate, refl, sym, ap, ◌∙◌, inl, inr}
use Rattle.std.specs.Prelude.{slice_get}
use Rattle.std.proofs.lemmas.List.{length-set}
use Rattle.std.proofs.Math.ListN.{length-map}
use Rattle.tect_ids.specs.declared.ids.Counts.{Counts}
use Rattle.tect_ids.specs.Places.{HasPlaces, place_count}
use Rattle.store_rules.specs.Alone.{opening_of}
use Rattle.store_rules.specs.Store.{opening_store}
use Rattle.store_shards.specs.Rows.{together, AreShards}
use Rattle.store_shards.proofs.Rows.{row_opens}
use Rattle.entry_words.specs.declared.entry.Entry.{Entry}
use Rattle.entry_words.specs.Labels.{label_at}
use Rattle.place_kit.specs.declared.any.AnyKept.{AnyKept}
use Rattle.place_kit.specs.Kept.{label_of, history_of, machine_of}
use Rattle.place_kit.specs.Started.{AreStarted}
use Rattle.all_shards.proofs.AtPlaces.{AllAt, got_of_map, got_of_set}

-- a machine changed, with its label
pub started_set : (c : Counts) (ks : List AnyKept) (i : ℕ) (k l : AnyKept) → AreStarted c ks → slice_get ks i ≡ Some k
    → label_of l ≡ label_of k
    → AreStarted c (set ks i l)
started_set c ks i k l is at label = record {
  number = length-set ks i l ∙ is.number;
  labels = λ n x e. elim (got_of_set ks i l n x e) [
    | inl h ↦ is.labels n x h
    | inr h ↦ ap label_of (sym h.1) ∙ label ∙ is.labels i k at ∙ ap (label_at c) (sym h.0)
  ];
}

-- the machine that a place is started with, with nothing done
pub record IsNew (c : Counts) (n : ℕ) (k : AnyKept) : Type 0 where
  pub label : label_of k ≡ label_at c n
  pub machine : machine_of k ≡ opening_of (label_at c n).layer (label_at c n).rooted
  pub history : history_of k ≡ []

none_yet : (ks : List AnyKept) → ((n : ℕ) (k : AnyKept) → slice_get ks n ≡ Some k → history_of k ≡ [])
    → map history_of ks ≡ replicate (length ks) []
none_yet [] each = refl
none_yet (k ∷ ks) each =
    let first : history_of k ≡ [] = each 0 k refl in
    let rest : map history_of ks ≡ replicate (length ks) [] = none_yet ks (λ n l e. each (suc n) l e) in
    ap (λ (es : List Entry). es ∷ map history_of ks) first ∙ ap (λ (es : List (List Entry)). [] ∷ es) rest

module _ (c : Counts) (places : HasPlaces c) (ks : List AnyKept) (new : AllAt (IsNew c) (place_count c) ks) where
  pub all_started : AreStarted c ks
  all_started = record { number = new.number; labels = λ n k e. (new.each n k e).label }

  pub all_open : (together (map machine_of ks) ≡ opening_store) × AreShards c (map machine_of ks)
  all_open = row_opens c (map machine_of ks) places (length-map ks machine_of ∙ new.number)
      (λ n s e. let item = got_of_map machine_of ks n s e in sym item.2 ∙ (new.each n item.0 item.1).machine)

  pub all_new : map history_of ks ≡ replicate (place_count c) []
  all_new = none_yet ks (λ n k e. (new.each n k e).history) ∙ ap (λ (n : ℕ). replicate n []) new.number
