-- the shards stay the whole store, and reply as it does
use Rattle.std.proofs.Common.{◌≡◌, ℕ, ◌%◌, ◌<◌, Bool, true, false, List, [], ◌∷◌, if◌then◌else◌, refl, sym, ap, subst, arith}
use Rattle.std.specs.FinMap.{get}
use Rattle.tect_ids.specs.declared.ids.BlkId.{BlkId}
use Rattle.tect_ids.specs.declared.ids.Counts.{Counts}
use Rattle.tect_ids.specs.declared.ids.DirId.{DirId}
use Rattle.tect_ids.specs.declared.ids.FileId.{FileId}
use Rattle.tect_ids.specs.declared.ids.Place.{Place}
use Rattle.tect_ids.specs.declared.key.ChunkKey.{ChunkKey}
use Rattle.tect_ids.specs.declared.key.Key.{Key}
use Rattle.tect_ids.specs.Places.{HasPlaces, id_hash}
use Rattle.key_words.proofs.Lookups.{maps}
use Rattle.store_rules.specs.declared.any.AnyReq.{AnyReq}
use Rattle.store_rules.specs.declared.any.AnyReq.TheVariants as any
use Rattle.store_rules.specs.declared.any.AnyReply.TheVariants as reply_of
use Rattle.store_rules.specs.declared.blocks.BlockReq.{BlockReq}
use Rattle.store_rules.specs.declared.disks.DiskReq.{DiskReq}
use Rattle.store_rules.specs.declared.files.FileReq.{FileReq}
use Rattle.store_rules.specs.declared.names.NameReq.{NameReq}
use Rattle.store_rules.specs.Blocks.{Blocks, block_answer, block_change, block_step}
use Rattle.store_rules.specs.Disks.{Chunks, disk_answer, disk_change, disk_step}
use Rattle.store_rules.specs.Files.{Files, file_answer, file_change, file_step}
use Rattle.store_rules.specs.Names.{Names, root_names, no_names, name_answer, name_change, name_step}
use Rattle.store_rules.specs.Outcomes.{reply, changes}
use Rattle.store_rules.specs.Places.{blk_of, dir_of, disk_of, file_of, request_place}
use Rattle.store_rules.specs.Store.{Store, opening_store, store_reply, store_changes, store_step}
use Rattle.store_shards.specs.Runs.{parts_after, parts_replies, store_after, store_replies}
use Rattle.store_shards.specs.Shards.{AreWhole, IsShardOf, KeepsNames, Parts, blk_place, dir_place, disk_place, file_place}
use Rattle.store_shards.specs.Shards.{place_eq, opening_parts, parts_changes, parts_reply, parts_step}
use Rattle.store_rules.specs.Alone.{request_layer}
use Rattle.store_shards.proofs.Blocks.{blocks_kept, same_block_answer, same_blocks}
use Rattle.store_shards.proofs.Disks.{chunks_kept, same_chunks, same_disk_answer}
use Rattle.store_shards.proofs.Files.{same_file_answer, files_kept, same_files}
use Rattle.store_shards.proofs.Names.{same_name_answer, names_kept, same_names}

-- a remainder is below what it is of
mod_below : (x n : ℕ) → 0 < n → x % n < n
mod_below x n positive = omega arith

-- a place is itself
place_eq-same : (p : Place) → place_eq p p ≡ true
place_eq-same p = grind arith

-- the opening
root_kept : (here : DirId → Bool) → KeepsNames here (if here (record { 0 = 1 }) then root_names else no_names) root_names
root_kept here = record { dirs = λ d. grind (arith, maps); entries = λ k. grind (arith, maps) }

pub opening_whole : (c : Counts) → AreWhole c (opening_parts c) opening_store
opening_whole c = record {
  names = λ p. root_kept (λ d. place_eq p (dir_place c d));
  files = λ p f. grind (arith, maps);
  blocks = λ p b. grind (arith, maps);
  chunks = λ p k. grind (arith, maps);
}

-- what a store becomes by a change of one layer that is made or not
module _ (s : Store) where
  names_set : (b : Bool) (x : Names)
      → ◌≡◌ {A = Store} (if b then record s { names = x } else s) (record s { names = if b then x else s.names })
  names_set true x = refl
  names_set false x = refl

  files_set : (b : Bool) (x : Files)
      → ◌≡◌ {A = Store} (if b then record s { files = x } else s) (record s { files = if b then x else s.files })
  files_set true x = refl
  files_set false x = refl

  blocks_set : (b : Bool) (x : Blocks)
      → ◌≡◌ {A = Store} (if b then record s { blocks = x } else s) (record s { blocks = if b then x else s.blocks })
  blocks_set true x = refl
  blocks_set false x = refl

  chunks_set : (b : Bool) (x : Chunks)
      → ◌≡◌ {A = Store} (if b then record s { chunks = x } else s) (record s { chunks = if b then x else s.chunks })
  chunks_set true x = refl
  chunks_set false x = refl

  -- a request changes its own layer alone, where it is done
  name_stepped : (r : NameReq) (b : Bool) → (if b then store_step s (any.Name r) else s)
      ≡ (record s { names = if b then name_step s.names r else s.names })
  name_stepped r true = names_set (changes (name_answer s.names r)) (name_change s.names r)
  name_stepped r false = refl

  file_stepped : (r : FileReq) (b : Bool) → (if b then store_step s (any.File r) else s)
      ≡ (record s { files = if b then file_step s.files r else s.files })
  file_stepped r true = files_set (changes (file_answer s.files r)) (file_change s.files r)
  file_stepped r false = refl

  block_stepped : (r : BlockReq) (b : Bool) → (if b then store_step s (any.Block r) else s)
      ≡ (record s { blocks = if b then block_step s.blocks r else s.blocks })
  block_stepped r true = blocks_set (changes (block_answer s.blocks r)) (block_change s.blocks r)
  block_stepped r false = refl

  disk_stepped : (r : DiskReq) (b : Bool) → (if b then store_step s (any.Disk r) else s)
      ≡ (record s { chunks = if b then disk_step s.chunks r else s.chunks })
  disk_stepped r true = chunks_set (changes (disk_answer s.chunks r)) (disk_change s.chunks r)
  disk_stepped r false = refl

-- parts that are the same at each place, of the same store
pub along : (c : Counts) (one other : Parts) (v w : Store) → ((p : Place) → one p ≡ other p) → v ≡ w → AreWhole c other w
    → AreWhole c one v
along c one other v w parts whole is =
    subst (λ (x : Parts × Store). AreWhole c x.0 x.1) (λ i. (λ p. sym (parts p) i, sym whole i)) is

module _ (c : Counts) (parts : Parts) (whole : Store) (is : AreWhole c parts whole) where
  -- the answer at the request's own place
  same_name : (r : NameReq) → name_answer (parts (dir_place c (dir_of r))).names r ≡ name_answer whole.names r
  same_name r = let p = dir_place c (dir_of r) in same_name_answer (λ d. place_eq p (dir_place c d)) _ _ (is.names p) r (place_eq-same p)

  same_file : (r : FileReq) → file_answer (parts (file_place c (file_of r))).files r ≡ file_answer whole.files r
  same_file r = let p = file_place c (file_of r) in same_file_answer (λ f. place_eq p (file_place c f)) _ _ (is.files p) r (place_eq-same p)

  same_block : (r : BlockReq) → block_answer (parts (blk_place c (blk_of r))).blocks r ≡ block_answer whole.blocks r
  same_block r =
      let p = blk_place c (blk_of r) in same_block_answer (λ b. place_eq p (blk_place c b)) _ _ (is.blocks p) r (place_eq-same p)

  same_disk : (r : DiskReq) → disk_answer (parts (disk_place c (disk_of r))).chunks r ≡ disk_answer whole.chunks r
  same_disk r = let p = disk_place c (disk_of r) in same_disk_answer (λ d. place_eq p (disk_place c d)) _ _ (is.chunks p) r (place_eq-same p)

  pub same_reply : (q : AnyReq) → parts_reply c parts q ≡ store_reply whole q
  same_reply (any.Name r) = ap (λ x. reply_of.Name (reply x)) (same_name r)
  same_reply (any.File r) = ap (λ x. reply_of.File (reply x)) (same_file r)
  same_reply (any.Block r) = ap (λ x. reply_of.Block (reply x)) (same_block r)
  same_reply (any.Disk r) = ap (λ x. reply_of.Disk (reply x)) (same_disk r)

  pub same_changes : (q : AnyReq) → parts_changes c parts q ≡ store_changes whole q
  same_changes (any.Name r) = ap changes (same_name r)
  same_changes (any.File r) = ap changes (same_file r)
  same_changes (any.Block r) = ap changes (same_block r)
  same_changes (any.Disk r) = ap changes (same_disk r)

  pub step_whole : (q : AnyReq) → AreWhole c (parts_step c parts q) (store_step whole q)
  step_whole (any.Name r) =
      along c _ _ _ _ (λ p. name_stepped (parts p) r (place_eq p (dir_place c (dir_of r)))) (name_stepped whole r true)
      (record {
        names = λ p. names_kept (λ d. place_eq p (dir_place c d)) _ _ (is.names p) r _ refl;
        files = is.files;
        blocks = is.blocks;
        chunks = is.chunks;
      })
  step_whole (any.File r) =
      along c _ _ _ _ (λ p. file_stepped (parts p) r (place_eq p (file_place c (file_of r)))) (file_stepped whole r true)
      (record {
        names = is.names;
        files = λ p. files_kept (λ f. place_eq p (file_place c f)) _ _ (is.files p) r _ refl;
        blocks = is.blocks;
        chunks = is.chunks;
      })
  step_whole (any.Block r) =
      along c _ _ _ _ (λ p. block_stepped (parts p) r (place_eq p (blk_place c (blk_of r)))) (block_stepped whole r true)
      (record {
        names = is.names;
        files = is.files;
        blocks = λ p. blocks_kept (λ b. place_eq p (blk_place c b)) _ _ (is.blocks p) r _ refl;
        chunks = is.chunks;
      })
  step_whole (any.Disk r) =
      along c _ _ _ _ (λ p. disk_stepped (parts p) r (place_eq p (disk_place c (disk_of r)))) (disk_stepped whole r true)
      (record {
        names = is.names;
        files = is.files;
        blocks = is.blocks;
        chunks = λ p. chunks_kept (λ d. place_eq p (disk_place c d)) _ _ (is.chunks p) r _ refl;
      })

-- any requests, one after another
pub after_whole : (c : Counts) (parts : Parts) (whole : Store) (qs : List AnyReq) → AreWhole c parts whole
    → AreWhole c (parts_after c parts qs) (store_after whole qs)
after_whole c parts whole [] is = is
after_whole c parts whole (q ∷ qs) is = after_whole c (parts_step c parts q) (store_step whole q) qs (step_whole c parts whole is q)

pub same_replies : (c : Counts) (parts : Parts) (whole : Store) (qs : List AnyReq) → AreWhole c parts whole
    → parts_replies c parts qs ≡ store_replies whole qs
same_replies c parts whole [] is = refl
same_replies c parts whole (q ∷ qs) is =
    let first = same_reply c parts whole is q in
    let rest = same_replies c (parts_step c parts q) (store_step whole q) qs (step_whole c parts whole is q) in
    λ i. first i ∷ rest i

-- what each object's own shard has decides the store
module _ (c : Counts) (parts : Parts) (v w : Store) (is_v : AreWhole c parts v) (is_w : AreWhole c parts w) where
  same_dir : (d : DirId) → get v.names.dirs d ≡ get w.names.dirs d
  same_dir d = let p = dir_place c d in grind (arith, place_eq-same p, (is_v.names p).dirs d, (is_w.names p).dirs d)

  same_entry : (k : Key) → get v.names.entries k ≡ get w.names.entries k
  same_entry k = let p = dir_place c k.dir in grind (arith, place_eq-same p, (is_v.names p).entries k, (is_w.names p).entries k)

  same_file_kept : (f : FileId) → get v.files f ≡ get w.files f
  same_file_kept f = let p = file_place c f in grind (arith, place_eq-same p, is_v.files p f, is_w.files p f)

  same_block_kept : (b : BlkId) → get v.blocks b ≡ get w.blocks b
  same_block_kept b = let p = blk_place c b in grind (arith, place_eq-same p, is_v.blocks p b, is_w.blocks p b)

  same_chunk_kept : (k : ChunkKey) → get v.chunks k ≡ get w.chunks k
  same_chunk_kept k = let p = disk_place c k.disk in grind (arith, place_eq-same p, is_v.chunks p k, is_w.chunks p k)

  pub one_store : v ≡ w
  one_store =
      let names = same_names v.names w.names same_dir same_entry in
      let files = same_files v.files w.files same_file_kept in
      let blocks = same_blocks v.blocks w.blocks same_block_kept in
      let chunks = same_chunks v.chunks w.chunks same_chunk_kept in
      λ i. record { names = names i; files = files i; blocks = blocks i; chunks = chunks i }

-- a place of a layer is one of its shards
pub request_shard : (c : Counts) (q : AnyReq) → HasPlaces c → IsShardOf c (request_layer q) (request_place c q)
request_shard c (any.Name r) has =
    let positive : 0 < c.names = omega (arith, has.names) in
    let below : id_hash (dir_of r).0 % c.names < c.names = mod_below _ c.names positive in
    (omega arith, omega arith)
request_shard c (any.File r) has =
    let positive : 0 < c.files = omega (arith, has.files) in
    let below : id_hash (file_of r).0 % c.files < c.files = mod_below _ c.files positive in
    (omega arith, omega arith)
request_shard c (any.Block r) has =
    let positive : 0 < c.blocks = omega (arith, has.blocks) in
    let below : id_hash (blk_of r).0 % c.blocks < c.blocks = mod_below _ c.blocks positive in
    (omega arith, omega arith)
request_shard c (any.Disk r) has =
    let positive : 0 < c.disks = omega (arith, has.disks) in
    let below : (disk_of r).0 % c.disks < c.disks = mod_below _ c.disks positive in
    (omega arith, omega arith)
