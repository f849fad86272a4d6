-- What a running command asks is safe.
use Rattle.std.specs.Prelude.{◌≡◌, ℕ, false, Some, None, List}
use Rattle.std.specs.FinMap.{get}
use Rattle.tect_ids.specs.declared.ids.BlkId.{BlkId}
use Rattle.tect_ids.specs.declared.ids.Counts.{Counts}
use Rattle.tect_ids.specs.declared.ids.Node.{Node}
use Rattle.tect_ids.specs.declared.ids.OpId.{OpId}
use Rattle.store_rules.specs.declared.any.AnyReq.{AnyReq}
use Rattle.store_rules.specs.Store.{opening_store}
use Rattle.store_pasts.specs.Worlds.{World}
use Rattle.store_pasts.specs.Pasts.{was_made, content}
use Rattle.store_pasts.specs.Requests.{Needs}
use Rattle.store_world.specs.Sound.{Sound}
use Rattle.program_forms.specs.declared.standing.Standing.TheVariants.{Goes}
use Rattle.program_forms.specs.Kinds.{Asks, Programs, next_does}
use Rattle.world_runs.specs.declared.event.Event.{Event}
use Rattle.world_runs.specs.Moments.{IsWorldRun, moment}
use Rattle.world_runs.specs.OwnRuns.{stored_after}
use Rattle.claim_words.specs.Commands.{maker_of, content_of}
use Rattle.telling_laws.specs.Telling.{tree_of}

-- What is asked after that history is safe: some past of the store knows what the request needs, and the tree has made no more than was
-- made in that past; blocks consist of what they do by the history, which tells of no other blocks.
pub record IsSafe (h : List Event) (q : AnyReq) : Type 0 where
  pub world : World
  pub store : world.store ≡ stored_after opening_store h
  pub sound : Sound world
  pub needs : Needs world q
  pub made : (n : Node) → was_made world.ghost n ≡ false → get (tree_of h).made n ≡ None
  pub contents : (b : BlkId) → content world.ghost b ≡ content_of h b
  pub unmade : (b : BlkId) → world.ghost.born b ≡ None → maker_of h b ≡ None

-- at each moment of each run, what a running command asks next is safe
abbrev pub RunsAskSafely : {S : Type 0} → Programs S → Type 0
RunsAskSafely {S = S} P = (counts : Counts) (es : List Event) → IsWorldRun P counts es → (a : ℕ) (op : OpId) (s : S) (q : AnyReq)
    → ((moment P counts es).actors a).running ≡ Some record { op = op; at = Goes s }
    → next_does P.kind counts ((moment P counts es).actors a).memory op s ≡ Asks q → IsSafe es q
