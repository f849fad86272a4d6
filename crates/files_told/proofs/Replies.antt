-- what a program makes of a reply, against what the reply says to the tree
use Rattle.std.proofs.Common.{◌≡◌, ℕ, Bool, true, false, Option, Some, None, List, map, refl, arith}
use Rattle.std.specs.FinMap.{get}
use Rattle.tect_ids.specs.declared.ids.BlkId.{BlkId}
use Rattle.tect_ids.specs.declared.ids.DirId.{DirId}
use Rattle.tect_ids.specs.declared.ids.FileId.{FileId}
use Rattle.tect_ids.specs.declared.ids.Hold.{Hold}
use Rattle.tect_ids.specs.declared.ids.Node.TheVariants.{Dir}
use Rattle.tect_ids.specs.declared.ids.OpId.{OpId}
use Rattle.tect_ids.specs.declared.ids.Place.{Place}
use Rattle.tect_ids.specs.declared.key.ChunkKey.{ChunkKey}
use Rattle.tect_ids.specs.declared.key.Key.{Key}
use Rattle.tect_ids.specs.declared.values.RowPart.{RowPart}
use Rattle.tect_ids.specs.declared.values.Refusal.TheVariants.{NoFile}
use Rattle.tect_ids.specs.declared.answer.Answer.{Answer}
use Rattle.tect_ids.specs.declared.answer.Answer.TheVariants as answers
use Rattle.tect_ids.specs.Refusals.{refusal_answer}
use Rattle.store_rules.specs.declared.disks.DiskReq.TheVariants as disks
use Rattle.store_rules.specs.declared.files.File.{File}
use Rattle.store_rules.specs.declared.files.FileReply.TheVariants as file_replies
use Rattle.store_rules.specs.declared.files.FileReq.TheVariants as files
use Rattle.store_rules.specs.declared.any.AnyReq.TheVariants as any
use Rattle.store_rules.specs.declared.any.AnyReply.{AnyReply}
use Rattle.store_rules.specs.declared.any.AnyReply.TheVariants as any_reply
use Rattle.store_rules.specs.declared.outcome.Outcome.TheVariants.{Leaves}
use Rattle.store_rules.specs.Files.{row_part}
use Rattle.store_rules.specs.Outcomes.{reply, found}
use Rattle.store_rules.specs.Store.{Store, store_reply}
use Rattle.store_rules.specs.Views.{as_attached, as_block_list, as_bytes, is_opened}
use Rattle.tree_model.specs.declared.step.StepValue.TheVariants as shown
use Rattle.tree_model.specs.declared.step.TreeReply.{TreeReply}
use Rattle.tree_model.specs.declared.step.TreeReply.TheVariants.{Ok, Refused}
use Rattle.file_rules.specs.Append.{is_lost}
use Rattle.file_rules.specs.Finds.{file_refusal}
use Rattle.claim_words.specs.Points.{done_answer, file_key, Attaches, FindsNoFile, IsRefusal, ListsBlocks}
use Rattle.claim_words.specs.TreeSteps.{says}
use Rattle.telling_laws.proofs.Replies.{why_of}

-- the reply to a request for the file itself is a refusal, and makes the answer that the tree's refusal makes
abbrev pub RefusesFile : Place → FileId → AnyReply → Type 0
RefusesFile place f x =
    (says x ≡ Refused (why_of (says x))) × (file_refusal place f x ≡ refusal_answer (file_key f) (why_of (says x)))

-- ---- what a reply decides

-- one that is refused
module _ (k : Key) (b : Answer) where
  pub done_no : (a : Answer) (r : TreeReply) → r ≡ Refused (why_of r) → b ≡ refusal_answer k (why_of r) → b ≡ done_answer k a r
  done_no a (Ok x) e h = absurd (let z : Ok x ≡ Refused (why_of (Ok x)) = e in cc)
  done_no a (Refused why) e h = h

  pub no_file_no : (r : TreeReply) → r ≡ Refused (why_of r) → b ≡ refusal_answer k (why_of r) → FindsNoFile k r b
  no_file_no (Ok x) e h = absurd (let z : Ok x ≡ Refused (why_of (Ok x)) = e in cc)
  no_file_no (Refused why) e h = h

  pub lists_no : (r : TreeReply) → r ≡ Refused (why_of r) → b ≡ refusal_answer k (why_of r) → ListsBlocks k r b
  lists_no (Ok x) e h = absurd (let z : Ok x ≡ Refused (why_of (Ok x)) = e in cc)
  lists_no (Refused why) e h = h

  pub attaches_no : (blk : BlkId) (r : TreeReply) → r ≡ Refused (why_of r) → b ≡ refusal_answer k (why_of r) → Attaches k blk r b
  attaches_no blk (Ok x) e h = absurd (let z : Ok x ≡ Refused (why_of (Ok x)) = e in cc)
  attaches_no blk (Refused why) e h = h

  pub refusal_no : (r : TreeReply) → r ≡ Refused (why_of r) → b ≡ refusal_answer k (why_of r) → IsRefusal k r b
  refusal_no (Ok x) e h = absurd (let z : Ok x ≡ Refused (why_of (Ok x)) = e in cc)
  refusal_no (Refused why) e h = h

pub no_file_dir : (k : Key) (d : DirId) (r : TreeReply) → r ≡ Ok (shown.Node (Dir d)) → FindsNoFile k r answers.IsDir
no_file_dir k d r e = rw e refl

pub lists_yes : (k : Key) (sealed : Bool) (rows : List RowPart) (r : TreeReply) → r ≡ Ok (shown.Blocks sealed rows)
    → ListsBlocks k r (answers.Blocks rows)
lists_yes k sealed rows r e = rw e refl

pub attaches_yes : (k : Key) (blk : BlkId) (i : ℕ) (r : TreeReply) → r ≡ Ok (shown.Attached i) → Attaches k blk r (answers.Appended blk i)
attaches_yes k blk i r e = rw e refl

pub opens_yes : (k : Key) (a : Answer) (r : TreeReply) → r ≡ Ok shown.Done → a ≡ done_answer k a r
opens_yes k a r e = rw e refl

-- ---- the store's replies

module _ (s : Store) (place : Place) where
  pub take_yes : (f : FileId) (t : OpId) → is_opened (store_reply s (any.File (files.TakeToken f t))) ≡ true
      → says (store_reply s (any.File (files.TakeToken f t))) ≡ Ok shown.Done
  take_yes f t e = grind arith

  pub take_no : (f : FileId) (t : OpId) → is_opened (store_reply s (any.File (files.TakeToken f t))) ≡ false
      → RefusesFile place f (store_reply s (any.File (files.TakeToken f t)))
  take_no f t e = (grind arith, grind arith)

  pub attach_some : (f : FileId) (t : OpId) (b : BlkId) (n : ℕ) (h : Hold) (i : ℕ)
      → as_attached (store_reply s (any.File (files.Attach f t b n h))) ≡ Some i
      → says (store_reply s (any.File (files.Attach f t b n h))) ≡ Ok (shown.Attached i)
  attach_some f t b n h i e = grind arith

  pub attach_none : (f : FileId) (t : OpId) (b : BlkId) (n : ℕ) (h : Hold)
      → as_attached (store_reply s (any.File (files.Attach f t b n h))) ≡ None
      → RefusesFile place f (store_reply s (any.File (files.Attach f t b n h)))
  attach_none f t b n h e = (grind arith, grind arith)

  pub list_none : (f : FileId) → as_block_list (store_reply s (any.File (files.ListBlocks f))) ≡ None
      → RefusesFile place f (store_reply s (any.File (files.ListBlocks f)))
  list_none f e = (grind arith, grind arith)

-- the rows that are listed are those of the file that stands
pub record ListsFile (s : Store) (f : FileId) (parts : List RowPart) : Type 0 where
  pub file : File
  pub is : get s.files f ≡ Some file
  pub rows : map row_part file.rows ≡ parts
  pub said : says (store_reply s (any.File (files.ListBlocks f))) ≡ Ok (shown.Blocks file.sealed parts)

module _ (s : Store) (f : FileId) (parts : List RowPart) where
  -- the reply, by what stands there
  abbrev listing_of : Option File → AnyReply
  listing_of o =
      any_reply.File (reply (found o (file_replies.Refused NoFile) (λ x. Leaves (file_replies.Blocks x.sealed (map row_part x.rows)))))

  listed_by : (o : Option File) → get s.files f ≡ o → as_block_list (listing_of o) ≡ Some parts → ListsFile s f parts
  listed_by None is e = absurd (let z : None ≡ Some parts = e in cc)
  listed_by (Some x) is e =
      let z : Some (map row_part x.rows) ≡ Some parts = e in
      let same : map row_part x.rows ≡ parts = cc in
      record { file = x; is = is; rows = same; said = rw (is, same) refl }

  pub list_some : as_block_list (store_reply s (any.File (files.ListBlocks f))) ≡ Some parts → ListsFile s f parts
  list_some e = listed_by (get s.files f) refl e

-- no disk is lost
pub put_not_lost : (s : Store) (k : ChunkKey) (bytes : List ℕ) → is_lost (store_reply s (any.Disk (disks.Put k bytes))) ≡ false
put_not_lost s k bytes = grind arith

-- the chunk that is got stands
pub got_stands : (s : Store) (k : ChunkKey) (bytes : List ℕ) → as_bytes (store_reply s (any.Disk (disks.Get k))) ≡ Some bytes
    → get s.chunks k ≡ Some bytes
got_stands s k bytes e = grind arith
