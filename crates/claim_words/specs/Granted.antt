-- Holds that were granted, and neither bound nor given up.
use Rattle.std.specs.Prelude.{◌≡◌, ◌≢◌, Bool, true, false, ◌&&◌, Option, Some, None, List, ◌∷◌, ◌++◌}
use Rattle.std.specs.List.{AllByRecursion}
use Rattle.std.specs.FinMap.{get}
use Rattle.tect_ids.specs.declared.ids.Hold.{Hold}
use Rattle.tect_ids.specs.declared.ids.OpId.{OpId}
use Rattle.tect_ids.specs.declared.key.Key.{Key}
use Rattle.tect_ids.specs.declared.key.Upper.TheVariants as uppers
use Rattle.tect_ids.specs.Keys.{op_eq}
use Rattle.store_rules.specs.declared.names.DirectoryEntry.{DirectoryEntry}
use Rattle.store_rules.specs.declared.any.AnyReq.{AnyReq}
use Rattle.store_rules.specs.declared.any.AnyReply.{AnyReply}
use Rattle.store_rules.specs.Holds.{Grant, grant_of, spends}
use Rattle.store_rules.specs.Store.{Store, opening_store}
use Rattle.store_rules.specs.Views.{is_granted}
use Rattle.program_forms.specs.declared.heard.Heard.{Heard}
use Rattle.world_runs.specs.declared.event.Event.{Event}
use Rattle.world_runs.specs.declared.event.Event.TheVariants.{Own, Dumped}
use Rattle.world_runs.specs.declared.event.Happening.TheVariants.{Began, NotBegun, Acted, Ended, Stopped, Failed}
use Rattle.world_runs.specs.OwnRuns.{stored_after}
use Rattle.claim_words.specs.Sound.{lists, dir_stands}

-- the op's own request binds the hold, or gives it up
abbrev pub op_spends : OpId → Hold → Event → Bool
op_spends op h (Own other (Acted q x heard)) = op_eq other op && spends h q
op_spends op h (Own other (Began c)) = false
op_spends op h (Own other (NotBegun c)) = false
op_spends op h (Own other (Ended a)) = false
op_spends op h (Own other Stopped) = false
op_spends op h (Own other (Failed a)) = false
op_spends op h Dumped = false

-- by these events the op was granted that hold, and has neither bound it nor given it up
pub record HasHold (events : List Event) (op : OpId) (g : Grant) : Type 0 where
  pub before : List Event
  pub req : AnyReq
  pub reply : AnyReply
  pub heard : Heard
  pub rest : List Event
  pub there : events ≡ before ++ Own op (Acted req reply heard) ∷ rest
  pub asked : grant_of req ≡ Some g
  pub granted : is_granted reply ≡ true
  pub kept : AllByRecursion (λ e. op_spends op g.hold e ≡ false) rest

-- It is bound nowhere, and its object stands and lists it with its key, unless the key's directory stands no more.
pub record IsHeld (s : Store) (g : Grant) : Type 0 where
  pub bound_nowhere : (k : Key) (e : DirectoryEntry) → get s.names.entries k ≡ Some e → e.hold ≢ g.hold
  pub listed : dir_stands s g.key.dir ≡ true → lists s g.node g.hold ≡ Some (uppers.Entry g.key)

-- so is each hold that was granted by these events, and neither bound nor given up; whether its command still runs does not matter
abbrev pub GrantedHoldsAreListed : List Event → Type 0
GrantedHoldsAreListed events = (op : OpId) (g : Grant) → HasHold events op g → IsHeld (stored_after opening_store events) g
