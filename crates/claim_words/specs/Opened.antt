-- Which files an actor opened, by a history.
use Rattle.std.specs.Prelude.{ℕ, Bool, true, eqb, if◌then◌else◌, Option, Some, None, List, [], ◌∷◌, ◌++◌}
use Rattle.std.specs.FinMap.{empty}
use Rattle.tect_ids.specs.declared.ids.FileId.{FileId}
use Rattle.tect_ids.specs.declared.ids.OpId.{OpId}
use Rattle.tect_ids.specs.declared.command.Command.{Command}
use Rattle.tect_ids.specs.declared.command.Command.TheVariants as commands
use Rattle.store_rules.specs.declared.files.FileReq.{FileReq}
use Rattle.store_rules.specs.declared.files.FileReq.TheVariants as files
use Rattle.store_rules.specs.declared.any.AnyReq.{AnyReq}
use Rattle.store_rules.specs.declared.any.AnyReq.TheVariants as any
use Rattle.store_rules.specs.declared.any.AnyReply.{AnyReply}
use Rattle.store_rules.specs.Views.{is_opened}
use Rattle.program_forms.specs.Memories.{Learnt, Opens, OpenedFiles, kept_of, opened_by}
use Rattle.world_runs.specs.declared.event.Event.{Event}
use Rattle.world_runs.specs.declared.event.Event.TheVariants.{Own, Dumped}
use Rattle.world_runs.specs.declared.event.Happening.TheVariants.{Began, NotBegun, Acted, Ended, Stopped, Failed}
use Rattle.claim_words.specs.Commands.{command_of}

-- an open that wrote its token into a file opened this file at its path
abbrev pub opened_at : Option Command → FileId → OpId → Bool → List Learnt
opened_at (Some (commands.Open p)) f t true = Opens p f t ∷ []
opened_at c f t opened = []

abbrev pub file_opens : Option Command → FileReq → AnyReply → List Learnt
file_opens c (files.TakeToken f t) x = opened_at c f t (is_opened x)
file_opens c (files.MakeFile f h k t) x = []
file_opens c (files.Grant f h k) x = []
file_opens c (files.Release f h) x = []
file_opens c (files.Attach f t b n h) x = []
file_opens c (files.ListBlocks f) x = []
file_opens c (files.SealFile f) x = []

-- what a request of that command opens
abbrev pub opens_of : Option Command → AnyReq → AnyReply → List Learnt
opens_of c (any.Name q) x = []
opens_of c (any.File q) x = file_opens c q x
opens_of c (any.Block q) x = []
opens_of c (any.Disk q) x = []

-- what the actor keeps of an event after that history; nothing where the reply was not heard
abbrev pub learnt_by : List Event → Event → ℕ → List Learnt
learnt_by h (Own op (Acted q x how)) a = if eqb op.actor a then kept_of how (opens_of (command_of h op) q x) else []
learnt_by h (Own op (Began c)) a = []
learnt_by h (Own op (NotBegun c)) a = []
learnt_by h (Own op (Ended x)) a = []
learnt_by h (Own op Stopped) a = []
learnt_by h (Own op (Failed x)) a = []
learnt_by h Dumped a = []

-- the files that an actor has opened after these events, which come after that history
abbrev pub opened_after : List Event → List Event → ℕ → OpenedFiles → OpenedFiles
opened_after h [] a o = o
opened_after h (e ∷ es) a o = opened_after (h ++ e ∷ []) es a (opened_by (learnt_by h e a) o)

-- those that it has opened in a history, by the paths: at each path the last
abbrev pub opened_in : List Event → ℕ → OpenedFiles
opened_in h a = opened_after [] h a empty
