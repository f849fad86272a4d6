-- How each command on the contents of files begins: where its walk came to the directory of its path's last name, or at once.
use Rattle.std.specs.Prelude.{◌≡◌, ℕ, ◌+◌, None, List, [], ◌∷◌, ◌++◌}
use Rattle.tect_ids.specs.declared.ids.Counts.{Counts}
use Rattle.tect_ids.specs.declared.ids.DirId.{DirId}
use Rattle.tect_ids.specs.declared.ids.OpId.{OpId}
use Rattle.tect_ids.specs.declared.command.Command.TheVariants as commands
use Rattle.tect_ids.specs.Numbers.{root}
use Rattle.tect_ids.specs.Paths.{but_last, last_name}
use Rattle.program_forms.specs.Memories.{Memory}
use Rattle.file_rules.specs.Append.{append_starts}
use Rattle.file_rules.specs.Blocks.{blocks_starts}
use Rattle.file_rules.specs.Open.{open_starts}
use Rattle.file_rules.specs.Placing.{copies_of}
use Rattle.file_rules.specs.Read.{read_starts}
use Rattle.file_laws.specs.Known.{append_deciding}
use Rattle.world_runs.specs.declared.event.Event.{Event}
use Rattle.world_runs.specs.declared.event.Event.TheVariants.{Own}
use Rattle.world_runs.specs.declared.event.Happening.TheVariants.{Began}
use Rattle.claim_words.specs.Commands.{command_of}
use Rattle.claim_words.specs.Opened.{opened_in}
use Rattle.claim_words.specs.Points.{of_op, Walked}
use Rattle.claim_words.specs.TreeSteps.{tree_steps}
use Rattle.fall_laws.specs.Bounding.{AtMost}
use Rattle.fall_laws.specs.Parts.{next_left}
use Rattle.telling_laws.specs.Parts.{NextTells}
use Rattle.files_told.specs.FilesTelling.{OpenBefore, BlocksBefore, ReadBefore, append_telling, append_left, others}

-- the op's walk along all names of the path but the last came to that directory
abbrev pub CameAlong : List Event → OpId → List (List ℕ) → DirId → Type 0
CameAlong h op p d = Walked root (but_last p) (of_op op (tree_steps h)) d []

pub record FilesBegin (counts : Counts) : Type 0 where
  pub opens : (h : List Event) (op : OpId) (p : List (List ℕ)) (d : DirId) → CameAlong h op p d
      → OpenBefore h op (commands.Open p) (open_starts p (last_name p) d)
  pub lists : (h : List Event) (op : OpId) (p : List (List ℕ)) (d : DirId) → CameAlong h op p d
      → BlocksBefore h op (commands.Blocks p) (blocks_starts (last_name p) d)
  pub reads : (h : List Event) (op : OpId) (p : List (List ℕ)) (d : DirId) → CameAlong h op p d
      → ReadBefore h op (commands.Read p) (read_starts (last_name p) d)
  -- by an op that begins no other command, whose actor knows which files it opened
  pub appends : (h : List Event) (op : OpId) (p : List (List ℕ)) (bytes : List ℕ) (m : Memory) → command_of h op ≡ None
      → m.opened ≡ opened_in h op.actor
      → NextTells append_deciding (append_telling counts) (h ++ Own op (Began (commands.Append p bytes)) ∷ []) op
      (commands.Append p bytes) (append_starts counts m p bytes)
  -- four transactions beside one for each copy
  pub few : (m : Memory) (p : List (List ℕ)) (bytes : List ℕ)
      → AtMost (next_left append_left (append_starts counts m p bytes)) (others (copies_of counts + 4))
