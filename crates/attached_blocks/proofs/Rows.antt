-- what is attached to a file is its row with that index, and rows stay
use Rattle.std.proofs.Common.{◌≡◌, ℕ, Bool, true, false, if◌then◌else◌, Option, Some, None, List, [], ◌∷◌, ◌++◌, refl, ap, subst, ◌∙◌}
use Rattle.std.proofs.Common.{arith}
use Rattle.std.specs.FinMap.{get}
use Rattle.tect_ids.specs.declared.ids.BlkId.{BlkId}
use Rattle.tect_ids.specs.declared.ids.FileId.{FileId}
use Rattle.tect_ids.specs.declared.ids.Hold.{Hold}
use Rattle.tect_ids.specs.declared.ids.OpId.{OpId}
use Rattle.store_rules.specs.declared.file_rows.FileRow.{FileRow}
use Rattle.store_rules.specs.declared.files.File.{File}
use Rattle.store_rules.specs.declared.files.FileReq.{FileReq}
use Rattle.store_rules.specs.declared.files.FileReq.TheVariants as files
use Rattle.store_rules.specs.declared.files.FileReply.TheVariants as file_replies
use Rattle.store_rules.specs.declared.any.AnyReq.{AnyReq}
use Rattle.store_rules.specs.declared.any.AnyReq.TheVariants as any
use Rattle.store_rules.specs.declared.any.AnyReply.TheVariants as any_reply
use Rattle.store_rules.specs.Files.{file_with_row}
use Rattle.store_rules.specs.Store.{Store, opening_store, store_step, store_change, store_changes, store_reply}
use Rattle.store_pasts.specs.Contents.{row_in}
use Rattle.store_pasts.specs.Pasts.{row_at}
use Rattle.store_world.proofs.BlockMaps.{block_maps}
use Rattle.world_runs.specs.declared.event.Event.{Event}
use Rattle.world_runs.specs.declared.event.Event.TheVariants.{Own, Dumped}
use Rattle.world_runs.specs.declared.event.Happening.TheVariants.{Began, NotBegun, Acted, Ended, Stopped, Failed}
use Rattle.world_runs.specs.OwnRuns.{RepliesAre, stored_next, stored_after}
use Rattle.whole_runs.proofs.Actors.{replies-rest, stored_after-append}
use Rattle.claim_words.specs.Attached.{HasAttached}

-- ---- a row stays

module _ (f : FileId) (i : ℕ) (r : FileRow) where
  -- a row of a file with one more at its end
  more_stays : (x : Option File) (row : FileRow) → row_in x i ≡ Some r → row_in (file_with_row x row) i ≡ Some r
  more_stays None row is = is
  more_stays (Some x) row is = grind (arith, block_maps, is)

  file_row_stays : (s : Store) (q : FileReq) → store_changes s (any.File q) ≡ true → row_at s f i ≡ Some r
      → row_at (store_change s (any.File q)) f i ≡ Some r
  file_row_stays s (files.MakeFile g h k t) changed is = grind (arith, block_maps, changed, is)
  file_row_stays s (files.Grant g h k) changed is = grind (arith, block_maps, is)
  file_row_stays s (files.Release g h) changed is = grind (arith, block_maps, is)
  file_row_stays s (files.TakeToken g t) changed is = grind (arith, block_maps, is)
  file_row_stays s (files.Attach g t b n h) changed is =
      grind (arith, block_maps, more_stays (get s.files g) record { blk = b; len = n; hold = h }, is)
  file_row_stays s (files.ListBlocks g) changed is = is
  file_row_stays s (files.SealFile g) changed is = grind (arith, block_maps, is)

  change_row_stays : (s : Store) (q : AnyReq) → store_changes s q ≡ true → row_at s f i ≡ Some r → row_at (store_change s q) f i ≡ Some r
  change_row_stays s (any.Name q) changed is = is
  change_row_stays s (any.File q) changed is = file_row_stays s q changed is
  change_row_stays s (any.Block q) changed is = is
  change_row_stays s (any.Disk q) changed is = is

  step_row_stays : (s : Store) (q : AnyReq) (c : Bool) → store_changes s q ≡ c → row_at s f i ≡ Some r
      → row_at (if c then store_change s q else s) f i ≡ Some r
  step_row_stays s q true changed is = change_row_stays s q changed is
  step_row_stays s q false changed is = is

  event_row_stays : (s : Store) (e : Event) → row_at s f i ≡ Some r → row_at (stored_next s e) f i ≡ Some r
  event_row_stays s (Own op (Acted q x how)) is = step_row_stays s q (store_changes s q) refl is
  event_row_stays s (Own op (Began c)) is = is
  event_row_stays s (Own op (NotBegun c)) is = is
  event_row_stays s (Own op (Ended a)) is = is
  event_row_stays s (Own op Stopped) is = is
  event_row_stays s (Own op (Failed a)) is = is
  event_row_stays s Dumped is = is

  pub rows_stay : (s : Store) (es : List Event) → row_at s f i ≡ Some r → row_at (stored_after s es) f i ≡ Some r
  rows_stay s [] is = is
  rows_stay s (e ∷ es) is = rows_stay (stored_next s e) es (event_row_stays s e is)

-- ---- a row that is attached

-- the store said so: the file has the token, and then the row with that index
module _ (s : Store) (f : FileId) (t : OpId) (b : BlkId) (n : ℕ) (h : Hold) (i : ℕ)
    (said : any_reply.File (file_replies.Attached i) ≡ store_reply s (any.File (files.Attach f t b n h))) where
  attach_changes : store_changes s (any.File (files.Attach f t b n h)) ≡ true
  attach_changes = grind (arith, said)

  pub attached_row : row_at (store_step s (any.File (files.Attach f t b n h))) f i ≡ Some record { blk = b; len = n; hold = h }
  attached_row = grind (arith, block_maps, said, attach_changes)

-- ---- in a history

-- its reply is the store's, and the row stands to the end
module _ (es : List Event) (replies : RepliesAre opening_store es) (op : OpId) (f : FileId) (t : OpId) (b : BlkId) (n i : ℕ)
    (a : HasAttached es op f t b n i) where
  -- the request, and the event
  abbrev pub asked : AnyReq
  asked = any.File (files.Attach f t b n a.hold)

  abbrev pub attaching : Event
  attaching = Own op (Acted asked (any_reply.File (file_replies.Attached i)) a.heard)

  pub attach_said : any_reply.File (file_replies.Attached i) ≡ store_reply (stored_after opening_store a.before) asked
  attach_said =
      let whole : RepliesAre opening_store (a.before ++ attaching ∷ a.rest) =
      subst (λ (l : List Event). RepliesAre opening_store l) a.there replies in
      (replies-rest opening_store a.before (attaching ∷ a.rest) whole).0

  pub row_stands : row_at (stored_after opening_store es) f i ≡ Some record { blk = b; len = n; hold = a.hold }
  row_stands =
      ap (λ (l : List Event). row_at (stored_after opening_store l) f i) a.there
      ∙ ap (λ (s : Store). row_at s f i) (stored_after-append opening_store a.before (attaching ∷ a.rest))
      ∙ rows_stay f i record { blk = b; len = n; hold = a.hold } (store_step (stored_after opening_store a.before) asked) a.rest
      (attached_row (stored_after opening_store a.before) f t b n a.hold i attach_said)
