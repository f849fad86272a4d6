-- the blocks of a listing, and their bytes: those of the first ones, one more, and all; and that they stay
use Rattle.std.proofs.Common.{◌≡◌, ℕ, zero, suc, ◌+◌, true, false, Some}
use Rattle.std.proofs.Common.{None, is_some, List, [], ◌∷◌, ◌++◌, map, take, length, nat_lt}
use Rattle.std.proofs.Common.{refl, sym, ap, subst, ◌∙◌, arith}
use Rattle.std.proofs.lemmas.Grind.{flat_map-append}
use Rattle.std.proofs.lemmas.List.{append-nil}
use Rattle.std.proofs.Math.Seq.{take-length}
use Rattle.std.specs.FinMap.{get}
use Rattle.std.specs.List.{slice_get, flat_map}
use Rattle.tect_ids.specs.declared.ids.BlkId.{BlkId}
use Rattle.tect_ids.specs.declared.ids.FileId.{FileId}
use Rattle.tect_ids.specs.declared.key.ChunkKey.{ChunkKey}
use Rattle.tect_ids.specs.declared.values.Row.{Row}
use Rattle.tect_ids.specs.declared.values.RowPart.{RowPart}
use Rattle.store_rules.specs.declared.file_rows.FileRow.{FileRow}
use Rattle.store_rules.specs.Files.{row_part}
use Rattle.tree_model.specs.declared.blocks.TreeBlock.{TreeBlock}
use Rattle.tree_model.specs.declared.step.TreeFile.{TreeFile}
use Rattle.tree_model.specs.declared.step.StepValue.TheVariants as shown
use Rattle.tree_model.specs.declared.step.TreeReply.TheVariants.{Ok}
use Rattle.tree_model.specs.Tree.{Tree, read_reply}
use Rattle.world_runs.specs.declared.event.Event.{Event}
use Rattle.claim_words.specs.Commands.{content_of, content_in}
use Rattle.telling_laws.specs.View.{shown_row}
use Rattle.telling_laws.proofs.Contents.{content_same}
use Rattle.files_told.specs.FilesTelling.{bytes_of, AreChunks}

-- ---- the first of a list

pub take_ended : {X : Type 0} (xs : List X) (i : ℕ) → slice_get xs i ≡ None → take i xs ≡ xs
take_ended [] zero e = refl
take_ended [] (suc i) e = refl
take_ended (x ∷ xs) zero e = absurd (let z : Some x ≡ None = e in cc)
take_ended (x ∷ xs) (suc i) e = ap (λ l. x ∷ l) (take_ended xs i e)

pub take_one_more : {X : Type 0} (xs : List X) (i : ℕ) (x : X) → slice_get xs i ≡ Some x → take (suc i) xs ≡ take i xs ++ x ∷ []
take_one_more [] i x e = absurd (let z : None ≡ Some x = e in cc)
take_one_more (y ∷ ys) zero x e = let z : Some y ≡ Some x = e in let same : y ≡ x = cc in ap (λ w. w ∷ []) same
take_one_more (y ∷ ys) (suc i) x e = ap (λ l. y ∷ l) (take_one_more ys i x e)

-- ---- blocks whose content is known

-- so is that of each of these
abbrev pub AllPartsKnown : List Event → List RowPart → Type 0
AllPartsKnown h parts = (i : ℕ) (p : RowPart) → slice_get parts i ≡ Some p → is_some (content_of h p.blk) ≡ true

pub bytes_same : (h : List Event) (e : Event) (parts : List RowPart) → AllPartsKnown h parts
    → bytes_of (h ++ e ∷ []) parts ≡ bytes_of h parts
bytes_same h e [] known = refl
bytes_same h e (p ∷ ps) known =
    ap (λ l. l ++ bytes_of (h ++ e ∷ []) ps) (content_same h e p.blk (known 0 p refl))
    ∙ ap (λ l. content_in h p.blk ++ l) (bytes_same h e ps (λ i q is. known (suc i) q is))

pub first_bytes_same : (h : List Event) (e : Event) (n : ℕ) (parts : List RowPart) → AllPartsKnown h parts
    → bytes_of (h ++ e ∷ []) (take n parts) ≡ bytes_of h (take n parts)
first_bytes_same h e zero parts known = refl
first_bytes_same h e (suc n) [] known = refl
first_bytes_same h e (suc n) (p ∷ ps) known =
    ap (λ l. l ++ bytes_of (h ++ e ∷ []) (take n ps)) (content_same h e p.blk (known 0 p refl))
    ∙ ap (λ l. content_in h p.blk ++ l) (first_bytes_same h e n ps (λ i q is. known (suc i) q is))

-- the bytes of one block more
pub bytes_more : (h : List Event) (parts : List RowPart) (i : ℕ) (p : RowPart) (bytes : List ℕ) → slice_get parts i ≡ Some p
    → content_in h p.blk ≡ bytes → bytes_of h (take i parts) ++ bytes ≡ bytes_of h (take (i + 1) parts)
bytes_more h parts i p bytes is consists =
    let next : i + 1 ≡ suc i = omega arith in
    ap (λ l. bytes_of h (take i parts) ++ l) (sym consists ∙ sym (append-nil (content_in h p.blk)))
    ∙ sym (flat_map-append (λ (q : RowPart). content_in h q.blk) (take i parts) (p ∷ []))
    ∙ ap (λ l. bytes_of h l) (sym (take_one_more parts i p is)) ∙ ap (λ n. bytes_of h (take n parts)) (sym next)

-- ---- the rows of a file

-- the listed blocks of rows whose content is known
pub rows_known : (h : List Event) (rows : List FileRow)
    → ((i : ℕ) (r : FileRow) → slice_get rows i ≡ Some r → is_some (content_of h r.blk) ≡ true)
    → AllPartsKnown h (map row_part rows)
rows_known h [] known i p is = absurd (let z : None ≡ Some p = is in cc)
rows_known h (r ∷ rs) known zero p is =
    let z : Some (row_part r) ≡ Some p = is in
    let same : row_part r ≡ p = cc in
    subst (λ (q : RowPart). is_some (content_of h q.blk) ≡ true) same (known 0 r refl)
rows_known h (r ∷ rs) known (suc i) p is = rows_known h rs (λ j q e. known (suc j) q e) i p is

-- what the tree shows of them
pub shown_bytes : (h : List Event) (rows : List FileRow)
    → flat_map (λ (b : TreeBlock). b.bytes) (map (shown_row (content_in h)) rows) ≡ bytes_of h (map row_part rows)
shown_bytes h [] = refl
shown_bytes h (r ∷ rs) = ap (λ l. content_in h r.blk ++ l) (shown_bytes h rs)

-- what the tree says to a reading of all blocks of a file
pub reads_all : (t : Tree) (f : FileId) (x : TreeFile) (n : ℕ) → get t.files f ≡ Some x → length x.blocks ≡ n
    → read_reply t f n ≡ Ok (shown.Bytes (flat_map (λ b. b.bytes) x.blocks))
reads_all t f x n is many =
    let no : nat_lt (length x.blocks) (length x.blocks) ≡ false = grind arith in rw (is, ← many, no, take-length x.blocks) refl

-- ---- chunks

pub map_of_block : (b : BlkId) (rows : List Row) → AreChunks (map (λ (r : Row). record { disk = r.disk; blk = b; tag = r.tag }) rows) b
map_of_block b [] i k is = absurd (let z : None ≡ Some k = is in cc)
map_of_block b (r ∷ rs) zero k is =
    let z : Some record { disk = r.disk; blk = b; tag = r.tag } ≡ Some k = is in
    let same : record { disk = r.disk; blk = b; tag = r.tag } ≡ k = cc in
    ap (λ (c : ChunkKey). c.blk) (sym same)
map_of_block b (r ∷ rs) (suc i) k is = map_of_block b rs i k is
