-- An opening name shard has the root as it was asked for.
use Rattle.std.proofs.Common.{◌≡◌, Bool, true, false, Option, Some, None, is_some, refl, arith}
use Rattle.key_words.proofs.Lookups.{maps}
use Rattle.store_rules.specs.declared.any.AnyReq.TheVariants.{Name}
use Rattle.store_rules.specs.declared.any.AnyReply.TheVariants as replies
use Rattle.store_rules.specs.declared.names.Directory.{Directory}
use Rattle.store_rules.specs.declared.names.NameReq.TheVariants as names
use Rattle.tect_ids.specs.declared.values.Refusal.TheVariants.{NoDir}
use Rattle.store_rules.specs.declared.names.NameReply.TheVariants.{DirIs, Refused}
use Rattle.store_rules.specs.declared.outcome.Outcome.TheVariants.{Leaves}
use Rattle.store_rules.specs.Outcomes.{reply, found}
use Rattle.store_rules.specs.Names.{Names}
use Rattle.std.specs.FinMap.{get}
use Rattle.store_rules.specs.Views.{as_parent}
use Rattle.place_kit.specs.Machines.{has_root, name_opening, name_replies}

pub opens_so : (b : Bool) → has_root (name_opening b) ≡ b
opens_so true = grind (arith, maps)
opens_so false = grind (arith, maps)

-- a directory that is asked for stands where the reply says so
stands : (d : Option Directory)
    → is_some (as_parent (replies.Name (reply (found d (Refused NoDir) (λ x. Leaves (DirIs x.parent x.sealed)))))) ≡ is_some d
stands None = refl
stands (Some d) = refl

pub has_root-told : (s : Names) → is_some (as_parent (name_replies s (Name (names.CheckDir (record { 0 = 1 }))))) ≡ has_root s
has_root-told s = stands (get s.dirs (record { 0 = 1 }))
