-- in a sound world each row of a file stands for a block that is whole
use Rattle.std.proofs.Common.{◌≡◌, ℕ, List, [], ◌∷◌, length, true, false, Option, Some, None, refl, ◌∙◌, arith}
use Rattle.std.specs.FinMap.{get, len, len-empty}
use Rattle.tect_ids.specs.declared.ids.BlkId.{BlkId}
use Rattle.tect_ids.specs.declared.ids.FileId.{FileId}
use Rattle.tect_ids.specs.declared.values.BlockRow.{BlockRow}
use Rattle.tect_ids.specs.declared.values.NewRow.{NewRow}
use Rattle.tect_ids.specs.Keys.{disk_cmp}
use Rattle.tect_ids.proofs.KeyTests.{disk_cmp_total}
use Rattle.map_words.proofs.Maps.{len-set_at_Some}
use Rattle.small_maps.proofs.RowsOfBlocks.{len-all_placed}
use Rattle.store_rules.specs.declared.blocks.Block.{Block}
use Rattle.store_rules.specs.declared.file_rows.FileRow.{FileRow}
use Rattle.store_rules.specs.Blocks.{rows_from, shown_row}
use Rattle.store_pasts.specs.Contents.{Apart, sealed_length}
use Rattle.store_pasts.specs.Ghosts.{World, Born}
use Rattle.store_pasts.specs.Learned.{IsStored}
use Rattle.store_pasts.specs.Pasts.{content, row_at}
use Rattle.store_world.specs.Sound.{Sound}
use Rattle.store_world.specs.Acknowledged.{IsWholeBlock}
use Rattle.store_world.proofs.Blocks.{row_stored}
use Rattle.store_world.proofs.NewRows.{get-rows_from}

-- where no disk stands twice, a block has as many rows as it is made with
len-rows_from : (rs : List NewRow) → Apart rs → len (rows_from rs) ≡ length rs
unfolding rows_from Apart
len-rows_from [] apart = len-empty disk_cmp BlockRow
len-rows_from (r ∷ rs) apart =
    let none : get (rows_from rs) r.disk ≡ None = rw (get-rows_from rs r.disk, apart.0) refl in
    let rest : len (rows_from rs) ≡ length rs = len-rows_from rs apart.2 in
    len-set_at_Some disk_cmp_total (rows_from rs) r.disk record { tag = r.tag; placed = false } ∙ grind (arith, none, rest)

module _ (w : World) (s : Sound w) (b : BlkId) (n : ℕ) where
  module _ (x : Block) (there : get w.store.blocks b ≡ Some x) (sealed : x.sealed ≡ true) (long : x.len ≡ n) (m : Born)
      (was : w.ghost.born b ≡ Some m) where
    rows_count : len x.rows ≡ length m.rows
    rows_count =
        grind (arith, s.blocks.rows b, len-all_placed (rows_from m.rows), len-rows_from m.rows (s.blocks.apart b m was))

    content_length : (bytes : List ℕ) → w.ghost.said m.maker ≡ Some bytes → length bytes ≡ n
    content_length bytes said = grind (arith, s.blocks.length b, s.blocks.shape b)

    by_content : (o : Option (List ℕ)) → w.ghost.said m.maker ≡ o → IsWholeBlock w b n
    by_content None said = absurd (grind (arith, s.blocks.length b))
    by_content (Some bytes) said =
        let is : content w.ghost b ≡ Some bytes = rw was said in
        record {
          block = x;
          born = m;
          bytes = bytes;
          there = there;
          was = was;
          said = is;
          sealed = sealed;
          long = long;
          full = content_length bytes said;
          count = rows_count;
          stored = λ d r at. let k : IsStored w b (shown_row (d, r)) = row_stored w s b x there sealed d r at in (k.0, k.2 ∙ is);
        }

  by_born : (x : Block) → get w.store.blocks b ≡ Some x → x.sealed ≡ true → x.len ≡ n → (o : Option Born) → w.ghost.born b ≡ o
      → IsWholeBlock w b n
  by_born x there sealed long None was = absurd (grind (arith, s.blocks.shape b))
  by_born x there sealed long (Some m) was = by_content x there sealed long m was (w.ghost.said m.maker) refl

  by_block : (o : Option Block) → get w.store.blocks b ≡ o → sealed_length o ≡ Some n → IsWholeBlock w b n
  by_block None there is = absurd (let k : None ≡ Some n = is in cc)
  by_block (Some x) there is = by_born x there (grind arith) (grind arith) (w.ghost.born b) refl

  -- what is sealed is whole
  pub sealed_is_whole : sealed_length (get w.store.blocks b) ≡ Some n → IsWholeBlock w b n
  sealed_is_whole is = by_block (get w.store.blocks b) refl is

-- Each row of a file stands for a whole block, as long as the row says.
pub row_is_whole : (w : World) → Sound w → (f : FileId) (i : ℕ) (r : FileRow) → row_at w.store f i ≡ Some r → IsWholeBlock w r.blk r.len
row_is_whole w s f i r is = sealed_is_whole w s r.blk r.len (s.rows.sealed_as f i r is)
