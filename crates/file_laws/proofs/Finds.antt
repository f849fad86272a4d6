-- no refusal of a request for a file is odd
use Rattle.std.proofs.Common.{◌≡◌, ℕ, false, None, arith}
use Rattle.tect_ids.specs.declared.ids.BlkId.{BlkId}
use Rattle.tect_ids.specs.declared.ids.FileId.{FileId}
use Rattle.tect_ids.specs.declared.ids.Hold.{Hold}
use Rattle.tect_ids.specs.declared.ids.OpId.{OpId}
use Rattle.tect_ids.specs.declared.ids.Place.{Place}
use Rattle.store_rules.specs.declared.files.FileReq.TheVariants as files
use Rattle.store_rules.specs.declared.any.AnyReq.TheVariants as any
use Rattle.store_rules.specs.Store.{Store, store_reply}
use Rattle.store_rules.specs.Views.{is_opened, as_block_list, as_attached, is_sealed}
use Rattle.program_laws.specs.Known.{is_odd}
use Rattle.file_rules.specs.Finds.{file_refusal}

module _ (s : Store) (place : Place) (l f : FileId) where
  pub token_not_odd : (t : OpId) → is_opened (store_reply s (any.File (files.TakeToken f t))) ≡ false
      → is_odd (file_refusal place l (store_reply s (any.File (files.TakeToken f t)))) ≡ false
  token_not_odd t none = grind arith

  pub list_not_odd : as_block_list (store_reply s (any.File (files.ListBlocks f))) ≡ None
      → is_odd (file_refusal place l (store_reply s (any.File (files.ListBlocks f)))) ≡ false
  list_not_odd none = grind arith

  pub attach_not_odd : (t : OpId) (b : BlkId) (n : ℕ) (h : Hold) → as_attached (store_reply s (any.File (files.Attach f t b n h))) ≡ None
      → is_odd (file_refusal place l (store_reply s (any.File (files.Attach f t b n h)))) ≡ false
  attach_not_odd t b n h none = grind arith

  pub seal_not_odd : is_sealed (store_reply s (any.File (files.SealFile f))) ≡ false
      → is_odd (file_refusal place l (store_reply s (any.File (files.SealFile f)))) ≡ false
  seal_not_odd none = grind arith
