-- no refusal is odd: a reply that is no success of its request is one that its request may get
use Rattle.std.proofs.Common.{◌≡◌, ℕ, List, false, is_some, None, arith}
use Rattle.tect_ids.specs.declared.ids.DirId.{DirId}
use Rattle.tect_ids.specs.declared.ids.FileId.{FileId}
use Rattle.tect_ids.specs.declared.ids.Hold.{Hold}
use Rattle.tect_ids.specs.declared.ids.Node.{Node}
use Rattle.tect_ids.specs.declared.ids.Place.{Place}
use Rattle.tect_ids.specs.declared.key.Key.{Key}
use Rattle.tect_ids.specs.declared.values.Over.{Over}
use Rattle.tect_ids.specs.declared.values.Want.{Want}
use Rattle.store_rules.specs.declared.names.NameReq.TheVariants as names
use Rattle.store_rules.specs.declared.files.FileReq.TheVariants as files
use Rattle.store_rules.specs.declared.any.AnyReq.TheVariants as any
use Rattle.store_rules.specs.Store.{Store, store_reply}
use Rattle.store_rules.specs.Views.{as_found, as_parent, as_listing, is_granted, as_bound, as_unbound, as_swapped, is_sealed}
use Rattle.program_parts.specs.Refused.{refusal, dir_refusal}
use Rattle.program_laws.specs.Known.{is_odd}

-- of requests that concern a whole directory
module _ (s : Store) (place : Place) (d : DirId) where
  pub check_not_odd : is_some (as_parent (store_reply s (any.Name (names.CheckDir d)))) ≡ false
      → is_odd (dir_refusal place (store_reply s (any.Name (names.CheckDir d)))) ≡ false
  check_not_odd none = grind arith

  pub list_not_odd : as_listing (store_reply s (any.Name (names.List d))) ≡ None
      → is_odd (dir_refusal place (store_reply s (any.Name (names.List d)))) ≡ false
  list_not_odd none = grind arith

  pub seal_not_odd : is_sealed (store_reply s (any.Name (names.SealDir d))) ≡ false
      → is_odd (dir_refusal place (store_reply s (any.Name (names.SealDir d)))) ≡ false
  seal_not_odd none = grind arith

-- of requests that concern an entry, or a hold for one
module _ (s : Store) (place : Place) (l : Key) where
  pub look_not_odd : (k : Key) → as_found (store_reply s (any.Name (names.Look k))) ≡ None
      → is_odd (refusal place l (store_reply s (any.Name (names.Look k)))) ≡ false
  look_not_odd k none = grind arith

  pub bind_not_odd : (k : Key) (n : Node) (h : Hold) (o : Over) → as_bound (store_reply s (any.Name (names.Bind k n h o))) ≡ None
      → is_odd (refusal place l (store_reply s (any.Name (names.Bind k n h o)))) ≡ false
  bind_not_odd k n h o none = grind arith

  pub swap_not_odd : (d : DirId) (from to : List ℕ) (n : Node) (h : Hold)
      → as_swapped (store_reply s (any.Name (names.Swap d from to n h))) ≡ None
      → is_odd (refusal place l (store_reply s (any.Name (names.Swap d from to n h)))) ≡ false
  swap_not_odd d from to n h none = grind arith

  pub unbind_not_odd : (k : Key) (want : Want) → as_unbound (store_reply s (any.Name (names.Unbind k want))) ≡ None
      → is_odd (refusal place l (store_reply s (any.Name (names.Unbind k want)))) ≡ false
  unbind_not_odd k want none = grind arith

  pub dir_grant_not_odd : (d : DirId) (h : Hold) (k : Key) → is_granted (store_reply s (any.Name (names.Grant d h k))) ≡ false
      → is_odd (refusal place l (store_reply s (any.Name (names.Grant d h k)))) ≡ false
  dir_grant_not_odd d h k none = grind arith

  pub file_grant_not_odd : (f : FileId) (h : Hold) (k : Key) → is_granted (store_reply s (any.File (files.Grant f h k))) ≡ false
      → is_odd (refusal place l (store_reply s (any.File (files.Grant f h k)))) ≡ false
  file_grant_not_odd f h k none = grind arith
