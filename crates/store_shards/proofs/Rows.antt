-- Shards in a row that are the whole of a store are that store together; and a request at the shard of its place is done as on it.
use Rattle.std.proofs.Common.{◌≡◌, ◌≢◌, ℕ, zero, suc, ◌<◌, ◌≤◌, Bool, true, false, ◌==◌, nat_lt, if◌then◌else◌, Option, Some, None}
use Rattle.std.proofs.Common.{List, [], ◌∷◌, length, get_or, set, refl, sym, ap, ◌∙◌, subst, arith}
use Rattle.std.specs.Prelude.{slice_get}
use Rattle.std.specs.FinMap.{get, get-from_entries}
use Rattle.std.proofs.lemmas.Option.{slice_get-get_or}
use Rattle.std.proofs.lemmas.List.{get_or-set_same, get_or-set_other, get_or_past, length-set}
use Rattle.tect_ids.specs.declared.ids.BlkId.{BlkId}
use Rattle.tect_ids.specs.declared.ids.Counts.{Counts}
use Rattle.tect_ids.specs.declared.ids.DirId.{DirId}
use Rattle.tect_ids.specs.declared.ids.FileId.{FileId}
use Rattle.tect_ids.specs.declared.ids.Layer.{Layer}
use Rattle.tect_ids.specs.declared.ids.Layer.TheVariants as layers
use Rattle.tect_ids.specs.declared.ids.Place.{Place}
use Rattle.tect_ids.specs.declared.key.ChunkKey.{ChunkKey}
use Rattle.tect_ids.specs.declared.key.Key.{Key}
use Rattle.tect_ids.specs.Places.{HasPlaces, place_count, layer_at, place_number}
use Rattle.tect_ids.proofs.KeyTests.{num_eq_cases, blk_cmp_total, chunk_cmp_total, dir_cmp_total, file_cmp_total, key_cmp_total}
use Rattle.tect_ids.proofs.Layers.{has_layer, has_place}
use Rattle.store_rules.specs.declared.any.AnyReq.{AnyReq}
use Rattle.store_rules.specs.Alone.{names_alone, no_store, opening_of}
use Rattle.store_rules.specs.Names.{no_names, root_names}
use Rattle.store_rules.specs.Places.{request_place}
use Rattle.store_rules.specs.Store.{Store, opening_store, store_reply, store_step}
use Rattle.store_shards.proofs.Asked.{asked_place}
use Rattle.store_shards.specs.Rows.{AreShards, blocks_together, chunks_together, files_together, names_together, parts_of, together}
use Rattle.store_shards.specs.Shards.{AreWhole, blk_place, dir_place, disk_place, file_place, root_place}
use Rattle.store_shards.specs.Shards.{opening_parts, parts_step, place_eq}
use Rattle.store_shards.proofs.Blocks.{same_blocks}
use Rattle.store_shards.proofs.Disks.{same_chunks}
use Rattle.store_shards.proofs.Files.{same_files}
use Rattle.store_shards.proofs.Found.{found_at_home}
use Rattle.store_shards.proofs.Names.{same_names}
use Rattle.store_shards.proofs.Parts.{along, opening_whole, same_reply, step_whole}

pub place_own : (p : Place) → place_eq p p ≡ true
place_own p = grind arith

place_other : (i : ℕ) (p : Place) → i ≢ p.0 → place_eq (record { 0 = i }) p ≡ false
place_other i p apart = grind (arith, num_eq_cases i p.0)

pub chosen : {X : Type 0} (b : Bool) (o : Option X) → b ≡ true → (if b then o else None) ≡ o
chosen true o e = refl
chosen false o e = absurd (grind (arith, e))

dropped : {X : Type 0} (b : Bool) (o : Option X) → b ≡ false → (if b then o else None) ≡ None
dropped true o e = absurd (grind (arith, e))
dropped false o e = refl

-- ---- the one store

module _ (c : Counts) (row : List Store) (w : Store) (places : HasPlaces c) (number : length row ≡ place_count c)
    (is : AreWhole c (parts_of row) w) where
  home : (l : Layer) (id : ℕ) → place_number c l id < place_count c → place_number c l id < length row
  home l id lt = subst (λ n. place_number c l id < n) (sym number) lt

  together_dirs : (d : DirId) → get (names_together row).dirs d ≡ get w.names.dirs d
  unfolding names_together
  together_dirs d =
      get-from_entries dir_cmp_total _ d
      ∙ found_at_home (λ (s : Store). s.names.dirs) d no_store row (dir_place c d).0
      (home layers.Names d.0 (has_place c layers.Names d.0 places))
      (λ i lt apart. (is.names (record { 0 = i })).dirs d ∙ dropped _ _ (place_other i (dir_place c d) apart))
      ∙ (is.names (dir_place c d)).dirs d ∙ chosen _ _ (place_own (dir_place c d))

  together_entries : (k : Key) → get (names_together row).entries k ≡ get w.names.entries k
  unfolding names_together
  together_entries k =
      get-from_entries key_cmp_total _ k
      ∙ found_at_home (λ (s : Store). s.names.entries) k no_store row (dir_place c k.dir).0
      (home layers.Names k.dir.0 (has_place c layers.Names k.dir.0 places))
      (λ i lt apart. (is.names (record { 0 = i })).entries k ∙ dropped _ _ (place_other i (dir_place c k.dir) apart))
      ∙ (is.names (dir_place c k.dir)).entries k ∙ chosen _ _ (place_own (dir_place c k.dir))

  together_files : (f : FileId) → get (files_together row) f ≡ get w.files f
  unfolding files_together
  together_files f =
      get-from_entries file_cmp_total _ f
      ∙ found_at_home (λ (s : Store). s.files) f no_store row (file_place c f).0
      (home layers.Files f.0 (has_place c layers.Files f.0 places))
      (λ i lt apart. is.files (record { 0 = i }) f ∙ dropped _ _ (place_other i (file_place c f) apart))
      ∙ is.files (file_place c f) f ∙ chosen _ _ (place_own (file_place c f))

  together_blocks : (b : BlkId) → get (blocks_together row) b ≡ get w.blocks b
  unfolding blocks_together
  together_blocks b =
      get-from_entries blk_cmp_total _ b
      ∙ found_at_home (λ (s : Store). s.blocks) b no_store row (blk_place c b).0
      (home layers.Blocks b.0 (has_place c layers.Blocks b.0 places))
      (λ i lt apart. is.blocks (record { 0 = i }) b ∙ dropped _ _ (place_other i (blk_place c b) apart))
      ∙ is.blocks (blk_place c b) b ∙ chosen _ _ (place_own (blk_place c b))

  together_chunks : (k : ChunkKey) → get (chunks_together row) k ≡ get w.chunks k
  unfolding chunks_together
  together_chunks k =
      get-from_entries chunk_cmp_total _ k
      ∙ found_at_home (λ (s : Store). s.chunks) k no_store row (disk_place c k.disk).0
      (home layers.Disks k.disk.0 (has_place c layers.Disks k.disk.0 places))
      (λ i lt apart. is.chunks (record { 0 = i }) k ∙ dropped _ _ (place_other i (disk_place c k.disk) apart))
      ∙ is.chunks (disk_place c k.disk) k ∙ chosen _ _ (place_own (disk_place c k.disk))

  pub together_is : together row ≡ w
  together_is =
      let same_n : names_together row ≡ w.names = same_names (names_together row) w.names together_dirs together_entries in
      let same_f : files_together row ≡ w.files = same_files (files_together row) w.files together_files in
      let same_b : blocks_together row ≡ w.blocks = same_blocks (blocks_together row) w.blocks together_blocks in
      let same_c : chunks_together row ≡ w.chunks = same_chunks (chunks_together row) w.chunks together_chunks in
      λ i. record { names = same_n i; files = same_f i; blocks = same_b i; chunks = same_c i }

  pub are_shards : AreShards c row
  are_shards = record {
    places = places;
    number = number;
    whole = subst (λ (s : Store). AreWhole c (parts_of row) s) (sym together_is) is;
  }

-- an element that is there, whatever is read else
pub any_default : {A : Type 0} (xs : List A) (i : ℕ) (d e : A) → i < length xs → get_or xs i d ≡ get_or xs i e
any_default [] i d e lt = absurd (omega (arith, lt))
any_default (x ∷ xs) zero d e lt = refl
any_default (x ∷ xs) (suc i) d e lt = any_default xs i d e (omega (arith, lt))

-- ---- a request

module _ (c : Counts) (row : List Store) (is : AreShards c row) (q : AnyReq) where
  pub row_index : (request_place c q).0 < length row
  row_index = subst (λ n. (request_place c q).0 < n) (sym is.number) (asked_place c q is.places)

  module _ (p : Place) (at : p ≡ request_place c q) (s : Store) (read : s ≡ get_or row p.0 s) where
    own_place : p.0 ≡ (request_place c q).0
    own_place = ap (λ (x : Place). x.0) at

    own_shard : s ≡ get_or row (request_place c q).0 no_store
    own_shard = read ∙ ap (λ (i : ℕ). get_or row i s) own_place ∙ any_default row (request_place c q).0 s no_store row_index

    -- the shard of its place replies as the whole store
    pub row_reply : store_reply s q ≡ store_reply (together row) q
    row_reply = ap (λ (x : Store). store_reply x q) own_shard ∙ same_reply c (parts_of row) (together row) is.whole q

    module _ (x : Store) (done : x ≡ store_step s q) where
      abbrev later : List Store
      later = set row (request_place c q).0 x

      part_by : (o : Place) (b : Bool) → place_eq o (request_place c q) ≡ b
          → parts_of later o ≡ (if b then store_step (parts_of row o) q else parts_of row o)
      part_by o true e =
          let here : o.0 ≡ (request_place c q).0 = grind (arith, num_eq_cases o.0 (request_place c q).0) in
          ap (λ (n : ℕ). get_or later n no_store) here ∙ get_or-set_same row (request_place c q).0 x no_store row_index ∙ done
          ∙ ap (λ (s : Store). store_step s q) own_shard
          ∙ ap (λ (n : ℕ). store_step (get_or row n no_store) q) (sym here)
      part_by o false e =
          let apart : o.0 ≢ (request_place c q).0 = λ same. grind (arith, num_eq_cases o.0 (request_place c q).0) in
          get_or-set_other row (request_place c q).0 o.0 x no_store apart

      later_whole : AreWhole c (parts_of later) (store_step (together row) q)
      later_whole = along c (parts_of later) (parts_step c (parts_of row) q) _ _
          (λ o. part_by o (place_eq o (request_place c q)) refl) refl (step_whole c (parts_of row) (together row) is.whole q)

      later_number : length later ≡ place_count c
      later_number = length-set row (request_place c q).0 x ∙ is.number

      -- where it was done there, it was done on the whole store
      pub row_done : together (set row p.0 x) ≡ store_step (together row) q
      row_done = ap (λ (i : ℕ). together (set row i x)) own_place ∙ together_is c later _ is.places later_number later_whole

      pub row_stays : AreShards c (set row p.0 x)
      row_stays = subst (λ (i : ℕ). AreShards c (set row i x)) (sym own_place)
          (are_shards c later _ is.places later_number later_whole)

-- ---- the opening

-- only at the place of the root the shard opens with it
opening_at : (rooted : Bool) (l : Layer) → (rooted ≡ true → l ≡ layers.Names)
    → ◌≡◌ {A = Store} (opening_of l rooted) (names_alone (if rooted then root_names else no_names))
opening_at rooted layers.Names only = refl
opening_at true layers.Files only = absurd (let e = only refl in grind arith)
opening_at false layers.Files only = refl
opening_at true layers.Blocks only = absurd (let e = only refl in grind arith)
opening_at false layers.Blocks only = refl
opening_at true layers.Disks only = absurd (let e = only refl in grind arith)
opening_at false layers.Disks only = refl

rooted_layer : (c : Counts) → HasPlaces c → (n : ℕ) → (n == (root_place c).0) ≡ true → layer_at c n ≡ layers.Names
rooted_layer c places n e =
    let here : n ≡ (root_place c).0 = grind (arith, num_eq_cases n (root_place c).0) in
    ap (layer_at c) here ∙ has_layer c layers.Names 1 places

-- the shard that is opened at a place is the part of the opening store there
pub opening_is : (c : Counts) → HasPlaces c → (n : ℕ)
    → opening_of (layer_at c n) (n == (root_place c).0) ≡ opening_parts c (record { 0 = n })
opening_is c places n = opening_at (n == (root_place c).0) (layer_at c n) (rooted_layer c places n)

module _ (c : Counts) (row : List Store) (places : HasPlaces c) (number : length row ≡ place_count c)
    (each : (n : ℕ) (s : Store) → slice_get row n ≡ Some s → s ≡ opening_of (layer_at c n) (n == (root_place c).0)) where
  opened_by : (p : Place) (b : Bool) → nat_lt p.0 (length row) ≡ b → parts_of row p ≡ opening_parts c p
  opened_by p true e =
      each p.0 (parts_of row p) (slice_get-get_or row p.0 no_store (grind (arith, e))) ∙ opening_is c places p.0
  opened_by p false e =
      let past : length row ≤ p.0 = grind (arith, e) in
      let root : (root_place c).0 < place_count c = has_place c layers.Names 1 places in
      let apart : place_eq p (root_place c) ≡ false = grind (arith, num_eq_cases p.0 (root_place c).0, root, past, number) in
      get_or_past row p.0 no_store past
      ∙ ap (λ (b : Bool). names_alone (if b then root_names else no_names)) (sym apart)

  opens_whole : AreWhole c (parts_of row) opening_store
  opens_whole = along c (parts_of row) (opening_parts c) _ _ (λ p. opened_by p (nat_lt p.0 (length row)) refl) refl (opening_whole c)

  pub row_opens : (together row ≡ opening_store) × AreShards c row
  row_opens = (together_is c row _ places number opens_whole, are_shards c row _ places number opens_whole)
