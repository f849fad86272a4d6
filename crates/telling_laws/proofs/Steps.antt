-- one transaction more of an op: its walk, what it saw, and its point
use Rattle.std.proofs.Common.{◌≡◌, ℕ, false, Some, List, [], ◌∷◌, ◌++◌}
use Rattle.tect_ids.specs.declared.ids.DirId.{DirId}
use Rattle.tect_ids.specs.declared.ids.OpId.{OpId}
use Rattle.tect_ids.specs.declared.ids.Node.TheVariants.{Dir}
use Rattle.tect_ids.specs.declared.command.Command.{Command}
use Rattle.tect_ids.specs.declared.answer.Answer.{Answer}
use Rattle.tect_ids.specs.Numbers.{root}
use Rattle.store_rules.specs.declared.any.AnyReq.{AnyReq}
use Rattle.store_rules.specs.declared.any.AnyReply.{AnyReply}
use Rattle.store_rules.specs.Names.{key_in}
use Rattle.store_rules.specs.Store.{opening_store, store_reply}
use Rattle.tree_model.specs.declared.step.TreeStep.{TreeStep}
use Rattle.tree_model.specs.declared.step.TreeStep.TheVariants as step
use Rattle.tree_model.specs.declared.step.StepValue.TheVariants as shown
use Rattle.tree_model.specs.declared.step.TreeReply.{TreeReply}
use Rattle.tree_model.specs.declared.step.TreeReply.TheVariants.{Ok}
use Rattle.program_forms.specs.declared.heard.Heard.{Heard}
use Rattle.world_runs.specs.declared.event.Event.{Event}
use Rattle.world_runs.specs.declared.event.Event.TheVariants.{Own}
use Rattle.world_runs.specs.declared.event.Happening.TheVariants.{Acted}
use Rattle.world_runs.specs.OwnRuns.{stored_after}
use Rattle.claim_words.specs.Points.{way, of_op, Walked, Seen, DecidesAt, Point}
use Rattle.claim_words.specs.Commands.{content_in}
use Rattle.claim_words.specs.TreeSteps.{tree_step, says, told_of, tree_steps, IsTreeRun}
use Rattle.telling_laws.specs.Telling.{is_of, tree_of}
use Rattle.telling_laws.proofs.Histories.{steps_more, others_steps}
use Rattle.telling_laws.proofs.Walks.{here, over_still, seen_still, seen_now, walks_on}

-- what the store replies after that history, and the event then
abbrev pub reply_at : List Event → AnyReq → AnyReply
reply_at h q = store_reply (stored_after opening_store h) q

abbrev pub act_at : List Event → OpId → AnyReq → Heard → Event
act_at h op q how = Own op (Acted q (reply_at h q) how)

-- the tree allows it
abbrev pub Allows : List Event → Event → Type 0
Allows h e = IsTreeRun (tree_of h) (told_of h e)

-- the op's walk came to that directory, with these names left
abbrev pub WalkedTo : List Event → OpId → Command → DirId → List (List ℕ) → Type 0
WalkedTo h op c d left = Walked root (way c) (of_op op (tree_steps h)) d left

-- the op saw that step, with what was said to it
abbrev pub Saw : List Event → OpId → TreeStep → TreeReply → Type 0
Saw h op s x = Seen (of_op op (tree_steps h)) s x

module _ (h : List Event) (e : Event) (op : OpId) (c : Command) where
  -- an event of any op
  pub over_then : (d : DirId) → WalkedTo h op c d [] → WalkedTo (h ++ e ∷ []) op c d []
  over_then d w = rw (steps_more h e) (over_still (tree_steps h) op c d (told_of h e) w)

  pub saw_then : (s : TreeStep) (x : TreeReply) → Saw h op s x → Saw (h ++ e ∷ []) op s x
  saw_then s x saw = rw (steps_more h e) (seen_still (tree_steps h) op c (told_of h e) s x saw)

  -- an event of another op
  pub walked_stays : (d : DirId) (left : List (List ℕ)) → is_of op e ≡ false → WalkedTo h op c d left
      → WalkedTo (h ++ e ∷ []) op c d left
  walked_stays d left other w = rw (others_steps h e op other) w

-- an event of its own, which is that step
module _ (h : List Event) (op : OpId) (c : Command) (q : AnyReq) (x : AnyReply) (how : Heard) (s : TreeStep) (is : tree_step (content_in h) q x ≡ Some s)
  where
    -- the event
    abbrev e : Event
    e = Own op (Acted q x how)

    -- it decides
    pub decides_now : (d : DirId) (left : List (List ℕ)) (a : Answer) → WalkedTo h op c d left → Allows h e
        → DecidesAt c (of_op op (tree_steps h)) d left s (says x) a → Point (tree_steps (h ++ e ∷ [])) op c a
    decides_now d left a w run decides =
        rw (steps_more h e, is) (here (tree_steps h) op c d left s (says x) a w (rw is at run).0 decides)

    pub saw_now : (y : TreeReply) → says x ≡ y → Saw (h ++ e ∷ []) op s y
    saw_now y said = rw (steps_more h e, is) (seen_now (tree_steps h) op c s (says x) y said)

    pub walks_now : (d : DirId) (n : List ℕ) (ns : List (List ℕ)) (f : DirId) → s ≡ step.Look (key_in d n) → WalkedTo h op c d (n ∷ ns)
        → says x ≡ Ok (shown.Node (Dir f)) → WalkedTo (h ++ e ∷ []) op c f ns
    walks_now d n ns f look w said = rw (steps_more h e, is, look) (walks_on (tree_steps h) op c d n ns (says x) f w said)
