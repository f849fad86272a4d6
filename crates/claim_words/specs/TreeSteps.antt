-- The steps of the small machine in a history: the requests that are visible changes or readings of the tree, with what
-- was replied.
use Rattle.std.specs.Prelude.{ℕ, Option, Some, None, List, [], ◌∷◌, ◌++◌}
use Rattle.tect_ids.specs.declared.ids.BlkId.{BlkId}
use Rattle.tect_ids.specs.declared.ids.OpId.{OpId}
use Rattle.store_rules.specs.declared.names.NameReq.{NameReq}
use Rattle.store_rules.specs.declared.names.NameReq.TheVariants as names
use Rattle.store_rules.specs.declared.names.NameReply.{NameReply}
use Rattle.store_rules.specs.declared.names.NameReply.TheVariants as name_replies
use Rattle.store_rules.specs.declared.files.FileReq.{FileReq}
use Rattle.store_rules.specs.declared.files.FileReq.TheVariants as files
use Rattle.store_rules.specs.declared.files.FileReply.{FileReply}
use Rattle.store_rules.specs.declared.files.FileReply.TheVariants as file_replies
use Rattle.store_rules.specs.declared.any.AnyReq.{AnyReq}
use Rattle.store_rules.specs.declared.any.AnyReq.TheVariants as any
use Rattle.store_rules.specs.declared.any.AnyReply.{AnyReply}
use Rattle.store_rules.specs.declared.any.AnyReply.TheVariants as any_reply
use Rattle.tree_model.specs.declared.step.TreeStep.{TreeStep}
use Rattle.tree_model.specs.declared.step.TreeStep.TheVariants as step
use Rattle.tree_model.specs.declared.step.StepValue.TheVariants as shown
use Rattle.tect_ids.specs.declared.values.Refusal.TheVariants.{Exists}
use Rattle.tree_model.specs.declared.step.TreeReply.{TreeReply}
use Rattle.tree_model.specs.declared.step.TreeReply.TheVariants.{Ok, Refused}
use Rattle.tree_model.specs.Tree.{Tree, Allowed, tree_next}
use Rattle.world_runs.specs.declared.event.Event.{Event}
use Rattle.world_runs.specs.declared.event.Event.TheVariants.{Own, Dumped}
use Rattle.world_runs.specs.declared.event.Happening.TheVariants.{Began, NotBegun, Acted, Ended, Stopped, Failed}
use Rattle.claim_words.specs.Commands.{content_in}

-- what a reply says to the tree's step
abbrev pub name_says : NameReply → TreeReply
name_says (name_replies.DirIs p sealed) = Ok (shown.Parent p sealed)
name_says (name_replies.Found n) = Ok (shown.Node n)
name_says (name_replies.Listing sealed items) = Ok (shown.Entries sealed items)
name_says name_replies.Made = Ok shown.Done
name_says (name_replies.Bound old) = Ok shown.Done
name_says (name_replies.Swapped h old) = Ok shown.Done
name_says (name_replies.Unbound n h) = Ok shown.Done
name_says name_replies.Granted = Ok shown.Done
name_says (name_replies.Released was) = Ok shown.Done
name_says name_replies.SealedNow = Ok shown.Done
name_says name_replies.HasId = Refused Exists
name_says (name_replies.Refused why) = Refused why

abbrev pub file_says : FileReply → TreeReply
file_says file_replies.Made = Ok shown.Done
file_says file_replies.Granted = Ok shown.Done
file_says (file_replies.Released was) = Ok shown.Done
file_says file_replies.Opened = Ok shown.Done
file_says (file_replies.Attached i) = Ok (shown.Attached i)
file_says (file_replies.Blocks sealed rows) = Ok (shown.Blocks sealed rows)
file_says file_replies.SealedNow = Ok shown.Done
file_says file_replies.HasId = Refused Exists
file_says (file_replies.Refused why) = Refused why

-- requests to blocks and disks are no steps
abbrev pub says : AnyReply → TreeReply
says (any_reply.Name x) = name_says x
says (any_reply.File x) = file_says x
says (any_reply.Block x) = Ok shown.Done
says (any_reply.Disk x) = Ok shown.Done

-- a grant is a step only where it is refused
abbrev pub where_refused : TreeStep → TreeReply → Option TreeStep
where_refused s (Ok x) = None
where_refused s (Refused why) = Some s

-- the step that a request is; a release is none
abbrev pub name_step_of : NameReq → NameReply → Option TreeStep
name_step_of (names.CheckDir d) x = Some (step.Check d)
name_step_of (names.Look k) x = Some (step.Look k)
name_step_of (names.List d) x = Some (step.List d)
name_step_of (names.MakeDir d p h k) x = Some (step.MakeDir d p)
name_step_of (names.Bind k n h o) x = Some (step.Bind k n o)
name_step_of (names.Swap d from to n h) x = Some (step.Swap d from to n)
name_step_of (names.Unbind k w) x = Some (step.Unbind k w)
name_step_of (names.Grant d h k) x = where_refused (step.GrantDir d) (name_says x)
name_step_of (names.Release d h) x = None
name_step_of (names.SealDir d) x = Some (step.SealDir d)

-- a block is attached with its content
abbrev pub file_step_of : (BlkId → List ℕ) → FileReq → FileReply → Option TreeStep
file_step_of content (files.MakeFile f h k t) x = Some (step.MakeFile f t)
file_step_of content (files.Grant f h k) x = where_refused (step.GrantFile f) (file_says x)
file_step_of content (files.Release f h) x = None
file_step_of content (files.TakeToken f t) x = Some (step.Open f t)
file_step_of content (files.Attach f t b n h) x = Some (step.Attach f t b (content b))
file_step_of content (files.ListBlocks f) x = Some (step.Blocks f)
file_step_of content (files.SealFile f) x = Some (step.SealFile f)

abbrev pub tree_step : (BlkId → List ℕ) → AnyReq → AnyReply → Option TreeStep
tree_step content (any.Name q) (any_reply.Name x) = name_step_of q x
tree_step content (any.File q) (any_reply.File x) = file_step_of content q x
tree_step content (any.Name q) (any_reply.File x) = None
tree_step content (any.Name q) (any_reply.Block x) = None
tree_step content (any.Name q) (any_reply.Disk x) = None
tree_step content (any.File q) (any_reply.Name x) = None
tree_step content (any.File q) (any_reply.Block x) = None
tree_step content (any.File q) (any_reply.Disk x) = None
tree_step content (any.Block q) x = None
tree_step content (any.Disk q) x = None

-- a step in a history: whose it was, what it did, and what was said to it
pub record Told : Type 0 where
  pub op : OpId
  pub does : TreeStep
  pub says : TreeReply

abbrev pub told_as : OpId → Option TreeStep → TreeReply → List Told
told_as op None x = []
told_as op (Some s) x = record { op = op; does = s; says = x } ∷ []

-- the step that an event is, after that history
abbrev pub told_of : List Event → Event → List Told
told_of h (Own op (Acted q x how)) = told_as op (tree_step (content_in h) q x) (says x)
told_of h (Own op (Began c)) = []
told_of h (Own op (NotBegun c)) = []
told_of h (Own op (Ended a)) = []
told_of h (Own op Stopped) = []
told_of h (Own op (Failed a)) = []
told_of h Dumped = []

-- the tree's steps in these events, which come after that history
abbrev pub steps_after : List Event → List Event → List Told
steps_after h [] = []
steps_after h (e ∷ es) = told_of h e ++ steps_after (h ++ e ∷ []) es

-- the tree's steps in a history, in order
abbrev pub tree_steps : List Event → List Told
tree_steps es = steps_after [] es

-- the tree after steps to which this was said
abbrev pub tree_after : Tree → List Told → Tree
tree_after t [] = t
tree_after t (s ∷ ss) = tree_after (tree_next t s.op s.does s.says) ss

-- they are a run of the small machine: the tree allows what was said to each
abbrev pub IsTreeRun : Tree → List Told → Type 0
IsTreeRun t [] = Unit {0}
IsTreeRun t (s ∷ ss) = Allowed t s.op s.does s.says × IsTreeRun (tree_next t s.op s.does s.says) ss
