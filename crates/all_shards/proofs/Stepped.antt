-- a request at the shard of its place is a step of the store that the shards are together
use Rattle.std.proofs.Common.{◌≡◌, ◌==◌, ℕ, ◌<◌, Some, List, map, length, get_or, set, sym, ap, ◌∙◌, subst, Result, Ok, Err, OnOk}
use Rattle.std.proofs.Common.{inl, inr, arith}
use Rattle.std.specs.Prelude.{OnErr, slice_get}
use Rattle.std.proofs.lemmas.List.{map-set, set-get_or}
use Rattle.std.proofs.Math.ListN.{length-map}
use Rattle.tect_ids.specs.declared.ids.Counts.{Counts}
use Rattle.tect_ids.specs.declared.ids.Place.{Place}
use Rattle.tect_ids.specs.Places.{HasPlaces, place_count, layer_at}
use Rattle.store_rules.specs.declared.any.AnyReq.{AnyReq}
use Rattle.store_rules.specs.Alone.{opening_of, request_layer}
use Rattle.store_rules.specs.Places.{request_place}
use Rattle.store_rules.specs.Store.{Store, opening_store, store_reply, store_step}
use Rattle.store_shards.proofs.Asked.{asked_layer}
use Rattle.store_shards.specs.Rows.{together, AreShards}
use Rattle.store_shards.specs.Shards.{root_place}
use Rattle.store_shards.proofs.Rows.{row_index, row_reply, row_done, row_stays, row_opens}
use Rattle.layers.specs.declared.machine.AnyMachine.{AnyMachine}
use Rattle.layers.specs.Machines.{alone, layer_of}
use Rattle.all_shards.specs.Whole.{AreAllShards}
use Rattle.all_shards.proofs.AtPlaces.{AllAt, got_of_map, got_of_set, got_within}
use Rattle.all_shards.proofs.Lent.{read_map}

-- the machine at a request's place, among all
module _ (c : Counts) (ms : List AnyMachine) (is : AreAllShards c ms) (p : Place) (q : AnyReq) (at : p ≡ request_place c q) where
  pub within : p.0 < length ms
  within =
      let lt : (request_place c q).0 < length (map alone ms) = row_index c (map alone ms) is.shards q in
      subst (λ (o : Place). o.0 < length ms) (sym at) (omega (arith, lt, length-map ms alone))

  module _ (m : AnyMachine) (read : m ≡ get_or ms p.0 m) where
    found : slice_get ms p.0 ≡ Some m
    found = got_within ms p.0 m within ∙ ap Some (sym read)

    pub layer_is : layer_of m ≡ request_layer q
    layer_is = is.layers p.0 m found ∙ ap (λ (o : Place). layer_at c o.0) at ∙ asked_layer c q is.shards.places

    state_read : alone m ≡ get_or (map alone ms) p.0 (alone m)
    state_read = read_map alone ms p.0 m read

    pub reply_is : store_reply (alone m) q ≡ store_reply (together (map alone ms)) q
    reply_is = row_reply c (map alone ms) is.shards q p at (alone m) state_read

    module _ (x : AnyMachine) where
      pub done : alone x ≡ store_step (alone m) q → together (map alone (set ms p.0 x)) ≡ store_step (together (map alone ms)) q
      done step = ap together (map-set alone ms p.0 x) ∙ row_done c (map alone ms) is.shards q p at (alone m) state_read (alone x) step

      pub same : x ≡ m → set ms p.0 x ≡ ms
      same e = ap (set ms p.0) (e ∙ read) ∙ set-get_or ms p.0 m

      pub keeps : {R E : Type 0} (result : Result R E) → OnOk result (alone x ≡ store_step (alone m) q) → layer_of x ≡ layer_of m
          → OnErr result (x ≡ m)
          → AreAllShards c (set ms p.0 x)
      keeps (Ok r) step layer err = record {
        shards = subst (λ (row : List Store). AreShards c row) (sym (map-set alone ms p.0 x))
            (row_stays c (map alone ms) is.shards q p at (alone m) state_read (alone x) step);
        layers = λ n y e. elim (got_of_set ms p.0 x n y e) [
          | inl h ↦ is.layers n y h
          | inr h ↦ ap layer_of (sym h.1) ∙ layer ∙ is.layers p.0 m found ∙ ap (layer_at c) (sym h.0)
        ];
      }
      keeps (Err e) step layer err = subst (AreAllShards c) (sym (same err)) is

-- the shard that a place opens with
pub record IsOpening (c : Counts) (n : ℕ) (m : AnyMachine) : Type 0 where
  pub state : alone m ≡ opening_of (layer_at c n) (n == (root_place c).0)
  pub layer : layer_of m ≡ layer_at c n

module _ (c : Counts) (places : HasPlaces c) (ms : List AnyMachine) (new : AllAt (IsOpening c) (place_count c) ms) where
  opens : (together (map alone ms) ≡ opening_store) × AreShards c (map alone ms)
  opens = row_opens c (map alone ms) places (length-map ms alone ∙ new.number)
      (λ n s e. let item = got_of_map alone ms n s e in sym item.2 ∙ (new.each n item.0 item.1).state)

  pub opening_together : together (map alone ms) ≡ opening_store
  opening_together = opens.0

  pub opening_shards : AreAllShards c ms
  opening_shards = record { shards = opens.1; layers = λ n m e. (new.each n m e).layer }
