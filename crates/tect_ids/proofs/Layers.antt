-- The layer of each place.
use Rattle.std.proofs.Common.{◌≡◌, ℕ, ◌+◌, ◌%◌, ◌<◌, ◌≤◌, true, arith}
use Rattle.std.proofs.lemmas.Bool.Decides.{nat_tests}
use Rattle.tect_ids.specs.declared.ids.Counts.{Counts}
use Rattle.tect_ids.specs.declared.ids.Layer.{Layer}
use Rattle.tect_ids.specs.declared.ids.Layer.TheVariants.{Names, Files, Blocks, Disks}
use Rattle.tect_ids.specs.Places.{HasPlaces, count_of, first_place, id_hash, layer_at, place_count, place_number}

-- the places of a layer are its own
pub in_layer : (c : Counts) (l : Layer) (n : ℕ) → first_place c l ≤ n → n < first_place c l + count_of c l → layer_at c n ≡ l
in_layer c Names n low high = grind (arith, nat_tests)
in_layer c Files n low high = grind (arith, nat_tests)
in_layer c Blocks n low high = grind (arith, nat_tests)
in_layer c Disks n low high = grind (arith, nat_tests)

below : (x n : ℕ) → 0 < n → x % n < n
below x n positive = omega arith

-- each id has a shard of its layer, at one of the places
pub has_place : (c : Counts) (l : Layer) (id : ℕ) → HasPlaces c → place_number c l id < place_count c
has_place c Names id places = let lt = below (id_hash id) c.names (omega (arith, places.names)) in omega (arith, lt)
has_place c Files id places = let lt = below (id_hash id) c.files (omega (arith, places.files)) in omega (arith, lt)
has_place c Blocks id places = let lt = below (id_hash id) c.blocks (omega (arith, places.blocks)) in omega (arith, lt)
has_place c Disks id places = let lt = below id c.disks (omega (arith, places.disks)) in omega (arith, lt)

pub has_layer : (c : Counts) (l : Layer) (id : ℕ) → HasPlaces c → layer_at c (place_number c l id) ≡ l
has_layer c Names id places =
    let lt = below (id_hash id) c.names (omega (arith, places.names)) in
    in_layer c Names (place_number c Names id) (omega arith) (omega (arith, lt))
has_layer c Files id places =
    let lt = below (id_hash id) c.files (omega (arith, places.files)) in
    in_layer c Files (place_number c Files id) (omega arith) (omega (arith, lt))
has_layer c Blocks id places =
    let lt = below (id_hash id) c.blocks (omega (arith, places.blocks)) in
    in_layer c Blocks (place_number c Blocks id) (omega arith) (omega (arith, lt))
has_layer c Disks id places =
    let lt = below id c.disks (omega (arith, places.disks)) in
    in_layer c Disks (place_number c Disks id) (omega arith) (omega (arith, lt))
