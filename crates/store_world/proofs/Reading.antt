-- requests that only read
use Rattle.std.proofs.Common.{◌≡◌, true, false, Some, refl, arith}
use Rattle.std.specs.FinMap.{get}
use Rattle.tect_ids.specs.declared.ids.DirId.{DirId}
use Rattle.tect_ids.specs.declared.key.Key.{Key}
use Rattle.store_rules.specs.declared.names.DirectoryEntry.{DirectoryEntry}
use Rattle.store_rules.specs.declared.names.NameReq.TheVariants as names
use Rattle.store_rules.specs.declared.any.AnyReq.TheVariants as any
use Rattle.store_rules.specs.Store.{Store, store_reply}
use Rattle.store_rules.specs.Views.{is_made, as_found}
use Rattle.store_pasts.specs.Worlds.{World}
use Rattle.store_pasts.specs.Pasts.{was_made}
use Rattle.store_world.specs.Sound.{Sound}
use Rattle.store_pasts.specs.Requests.{FoundTaught}
use Rattle.store_world.proofs.Frames.{Row, by_answer, by_reading, grants_nothing, no_rows}

check_untold : (s : Store) (d : DirId) → is_made (store_reply s (any.Name (names.CheckDir d))) ≡ false
check_untold s d = grind arith

pub check_row : (d : DirId) → Row (any.Name (names.CheckDir d))
check_row d = record {
  kept = λ w s needs. by_answer w (any.Name (names.CheckDir d)) _ refl (λ e. by_reading w _ s tt) (λ e. by_reading w _ s tt);
  laws = grants_nothing (any.Name (names.CheckDir d)) refl refl (λ s. check_untold s d) (λ w k. tt) (no_rows _ refl refl);
}

-- what has a name was made
pub named_was_made : (w : World) → Sound w → (k : Key) (e : DirectoryEntry) → get w.store.names.entries k ≡ Some e
    → was_made w.ghost e.node ≡ true
named_was_made w s k e is = s.nodes.named_made e.node (grind (arith, s.entries.at_home k e))

look_taught : (w : World) (s : Sound w) (k : Key) → FoundTaught w (as_found (store_reply w.store (any.Name (names.Look k))))
look_taught w s k = grind (arith, named_was_made w s k, s.entries.at_home k)

look_untold : (s : Store) (k : Key) → is_made (store_reply s (any.Name (names.Look k))) ≡ false
look_untold s k = grind arith

pub look_row : (k : Key) → Row (any.Name (names.Look k))
look_row k = record {
  kept = λ w s needs. by_answer w (any.Name (names.Look k)) _ refl (λ e. by_reading w _ s (look_taught w s k))
      (λ e. by_reading w _ s (look_taught w s k));
  laws = grants_nothing (any.Name (names.Look k)) refl refl (λ s. look_untold s k) (λ w k. tt) (no_rows _ refl refl);
}

list_untold : (s : Store) (d : DirId) → is_made (store_reply s (any.Name (names.List d))) ≡ false
list_untold s d = grind arith

pub list_row : (d : DirId) → Row (any.Name (names.List d))
list_row d = record {
  kept = λ w s needs. by_answer w (any.Name (names.List d)) _ refl (λ e. by_reading w _ s tt) (λ e. by_reading w _ s tt);
  laws = grants_nothing (any.Name (names.List d)) refl refl (λ s. list_untold s d) (λ w k. tt) (no_rows _ refl refl);
}
