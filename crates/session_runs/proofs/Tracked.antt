-- the commands' own runs are tracked by the tree
use Rattle.std.proofs.Common.{◌≡◌, Some, List, [], ◌∷◌, ◌++◌}
use Rattle.tect_ids.specs.declared.ids.Counts.{Counts}
use Rattle.tect_ids.specs.declared.ids.OpId.{OpId}
use Rattle.store_rules.specs.declared.any.AnyReq.{AnyReq}
use Rattle.store_rules.specs.Store.{store_reply}
use Rattle.store_pasts.specs.Worlds.{next}
use Rattle.store_world.specs.Kept.{Kept}
use Rattle.tree_model.specs.Tree.{Tree, opening_tree}
use Rattle.program_rules.specs.Served.{Program, programs}
use Rattle.world_runs.specs.declared.event.Event.{Event}
use Rattle.world_runs.specs.Moments.{WorldState, May, RunFrom, opening, after, after_all, asked}
use Rattle.claim_words.specs.TreeSteps.{told_of, steps_after, tree_after, IsTreeRun}
use Rattle.run_laws.specs.Pasts.{world_of}
use Rattle.run_laws.proofs.Turns.{IsAsked, asked_by_op}
use Rattle.run_laws.proofs.MomentsKeep.{kept}
use Rattle.run_laws.proofs.RunsKeep.{knows_of}
use Rattle.names_laws.specs.Known.{names_known, names_deciding}
use Rattle.names_laws.proofs.Laws.{names_program_laws}
use Rattle.tree_runs.proofs.Tracks as tracks

-- so it is after some history
pub record Tracks (m : WorldState Program) (t : Tree) : Type 0 where
  pub history : List Event
  pub so : tracks.Tracks names_known history m t

pub opening_tracks : (counts : Counts) → Tracks (opening counts) opening_tree
opening_tracks counts = record { history = []; so = tracks.opening_tracks names_known counts }

pub event_tracked : (m : WorldState Program) (t : Tree) (e : Event) (k : Tracks m t) → May programs m e
    → Tracks (after programs m e) (tree_after t (told_of k.history e)) × IsTreeRun t (told_of k.history e)
event_tracked m t e k may =
    let next = tracks.event_tracked programs names_deciding names_known names_program_laws k.history m t k.so e may in
    (record { history = k.history ++ e ∷ []; so = next.0 }, next.1)

pub run_tracked : (m : WorldState Program) (t : Tree) (es : List Event) (k : Tracks m t) → RunFrom programs m es
    → Tracks (after_all programs m es) (tree_after t (steps_after k.history es)) × IsTreeRun t (steps_after k.history es)
run_tracked m t es k run =
    let next = tracks.run_tracked programs names_deciding names_known names_program_laws es k.history m t k.so run in
    (record { history = k.history ++ es; so = next.0 }, next.1)

module _ (m : WorldState Program) (t : Tree) (so : Tracks m t) (op : OpId) (q : AnyReq) (asks : asked programs m op ≡ Some q) where
  by : (s : Program) × IsAsked programs m op q s
  by = asked_by_op programs m op q asks

  -- the op of a transaction is its actor's last
  pub acts_last : op.number ≡ (m.actors op.actor).number
  acts_last = (knows_of programs names_deciding names_known names_program_laws m so.so.past so.so.sound op.actor _ (by.1).is).last

  -- what the request's reply teaches
  pub act_kept : Kept (world_of m so.so.past) (next (world_of m so.so.past) q) q
  act_kept = kept programs names_deciding names_known names_program_laws m so.so.past so.so.sound op q by.0 by.1
