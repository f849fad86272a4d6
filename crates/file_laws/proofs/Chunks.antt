-- the chunks of a block's rows, in their order: each is found by its disk and by its tag, and no tag stands twice
use Rattle.std.proofs.Common.{◌≡◌, ℕ, zero, suc, ◌<◌, List, [], ◌∷◌, map, Bool, true, false, if◌then◌else◌, Some, None, refl}
use Rattle.std.proofs.Common.{ap, subst, arith}
use Rattle.std.specs.List.{slice_get}
use Rattle.tect_ids.specs.declared.ids.BlkId.{BlkId}
use Rattle.tect_ids.specs.declared.ids.DiskId.{DiskId}
use Rattle.tect_ids.specs.declared.ids.Tag.{Tag}
use Rattle.tect_ids.specs.declared.key.ChunkKey.{ChunkKey}
use Rattle.tect_ids.specs.declared.values.NewRow.{NewRow}
use Rattle.tect_ids.specs.Keys.{disk_eq, tag_eq}
use Rattle.tect_ids.proofs.KeyTests.{block_keys}
use Rattle.tect_calls.specs.MadeBlocks.{chunk_of}
use Rattle.store_pasts.specs.Contents.{tag_at, disk_at, Apart}

-- ---- places in a list

-- what stands in a list stands before its end
pub before_end : {X : Type 0} (xs : List X) (i at : ℕ) (x : X) → slice_get xs at ≡ None → slice_get xs i ≡ Some x → i < at
before_end [] i at x none is = absurd (let f : None ≡ Some x = is in cc)
before_end (y ∷ ys) i zero x none is = absurd (let f : Some y ≡ None = none in cc)
before_end (y ∷ ys) zero (suc at) x none is = omega arith
before_end (y ∷ ys) (suc i) (suc at) x none is = let ih : i < at = before_end ys i at x none is in omega arith

-- ---- the chunk of a row

-- it is the block's, and found by its disk and by its tag
pub record IsChunk (b : BlkId) (rs : List NewRow) (c : ChunkKey) : Type 0 where
  pub is : c ≡ record { disk = c.disk; blk = b; tag = c.tag }
  pub tag : tag_at rs c.disk ≡ Some c.tag
  pub disk : disk_at rs c.tag ≡ Some c.disk

chunk_first : (b : BlkId) (r : NewRow) (rs : List NewRow) → IsChunk b (r ∷ rs) record { disk = r.disk; blk = b; tag = r.tag }
unfolding tag_at disk_at
chunk_first b r rs = record { is = refl; tag = grind (arith, block_keys); disk = grind (arith, block_keys) }

later_tag : (r : NewRow) (rs : List NewRow) (d : DiskId) (t : Tag) → tag_at rs r.disk ≡ None → tag_at rs d ≡ Some t
    → tag_at (r ∷ rs) d ≡ Some t
unfolding tag_at
later_tag r rs d t none is = grind (arith, block_keys)

later_disk : (r : NewRow) (rs : List NewRow) (d : DiskId) (t : Tag) → disk_at rs r.tag ≡ None → disk_at rs t ≡ Some d
    → disk_at (r ∷ rs) t ≡ Some d
unfolding disk_at
later_disk r rs d t none is = grind (arith, block_keys)

pub is_chunk : (b : BlkId) (rs : List NewRow) → Apart rs → (i : ℕ) (c : ChunkKey) → slice_get (map (chunk_of b) rs) i ≡ Some c
    → IsChunk b rs c
unfolding Apart
is_chunk b [] apart i c is = absurd (let f : None ≡ Some c = is in cc)
is_chunk b (r ∷ rs) apart zero c is =
    let same : record { disk = r.disk; blk = b; tag = r.tag } ≡ c = cc in
    subst (λ (x : ChunkKey). IsChunk b (r ∷ rs) x) same (chunk_first b r rs)
is_chunk b (r ∷ rs) apart (suc i) c is =
    let ih : IsChunk b rs c = is_chunk b rs apart.2 i c is in
    record {
      is = ih.is;
      tag = later_tag r rs c.disk c.tag apart.0 ih.tag;
      disk = later_disk r rs c.disk c.tag apart.1 ih.disk;
    }

-- two of them have different tags
differ : (r : NewRow) (rs : List NewRow) (d : DiskId) (t : Tag) → disk_at rs r.tag ≡ None → disk_at rs t ≡ Some d → tag_eq t r.tag ≡ false
differ r rs d t none is = grind (arith, block_keys)

pub tags_differ : (b : BlkId) (rs : List NewRow) → Apart rs → (i j : ℕ) (c e : ChunkKey) → i < j
    → slice_get (map (chunk_of b) rs) i ≡ Some c → slice_get (map (chunk_of b) rs) j ≡ Some e → tag_eq e.tag c.tag ≡ false
unfolding Apart
tags_differ b [] apart i j c e below is at = absurd (let f : None ≡ Some c = is in cc)
tags_differ b (r ∷ rs) apart i zero c e below is at = absurd (omega arith)
tags_differ b (r ∷ rs) apart zero (suc j) c e below is at =
    let same : r.tag ≡ c.tag = ap (λ (x : ChunkKey). x.tag) (let s : record { disk = r.disk; blk = b; tag = r.tag } ≡ c = cc in s) in
    rw (← same) (differ r rs e.disk e.tag apart.1 (is_chunk b rs apart.2 j e at).disk)
tags_differ b (r ∷ rs) apart (suc i) (suc j) c e below is at = tags_differ b rs apart.2 i j c e (omega arith) is at

-- and the row at a disk has one of them
same_disk : (a b : DiskId) → disk_eq a b ≡ true → a ≡ b
same_disk a b e = grind (arith, block_keys)

pub chunk_at : (b : BlkId) (rs : List NewRow) (d : DiskId) (t : Tag) → tag_at rs d ≡ Some t
    → (i : ℕ) × (slice_get (map (chunk_of b) rs) i ≡ Some record { disk = d; blk = b; tag = t })
unfolding tag_at
chunk_at b [] d t is = absurd (let f : None ≡ Some t = is in cc)
chunk_at b (r ∷ rs) d t is = split (λ later. chunk_at b rs d t later) (disk_eq d r.disk) refl is
  where
    split : (tag_at rs d ≡ Some t → (i : ℕ) × (slice_get (map (chunk_of b) rs) i ≡ Some record { disk = d; blk = b; tag = t }))
        → (q : Bool) → disk_eq d r.disk ≡ q → (if q then Some r.tag else tag_at rs d) ≡ Some t
        → (i : ℕ) × (slice_get (map (chunk_of b) (r ∷ rs)) i ≡ Some record { disk = d; blk = b; tag = t })
    split ih true e is =
        let at : r.tag ≡ t = cc in
        let on : d ≡ r.disk = same_disk d r.disk e in
        (0, rw (on, at) refl)
    split ih false e is = let rest = ih is in (suc rest.0, rest.1)
