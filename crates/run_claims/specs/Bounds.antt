-- How many transactions a command may take.
use Rattle.std.specs.Prelude.{◌+◌, ◌≤◌, ℕ, if◌then◌else◌, List, [], ◌∷◌}
use Rattle.tect_ids.specs.declared.ids.Counts.{Counts}
use Rattle.tect_ids.specs.declared.ids.OpId.{OpId}
use Rattle.tect_ids.specs.declared.command.Command.{Command}
use Rattle.tect_ids.specs.declared.command.Command.TheVariants as commands
use Rattle.tect_ids.specs.Keys.{op_eq}
use Rattle.world_runs.specs.declared.event.Event.{Event}
use Rattle.world_runs.specs.declared.event.Event.TheVariants.{Own, Dumped}
use Rattle.world_runs.specs.declared.event.Happening.TheVariants.{Began, NotBegun, Acted, Ended, Stopped, Failed}
use Rattle.world_runs.specs.Report.{transactions}
use Rattle.fall_laws.specs.Counting.{looks_of, others_of}
use Rattle.claim_words.specs.Bounds.{most_others, lists}
use Rattle.claim_words.specs.Points.{most_looks}

-- ---- what a read adds

abbrev pub lists_by : Event → OpId → ℕ
lists_by (Own other (Acted q x how)) op = if op_eq other op then lists x else 0
lists_by (Own other (Began c)) op = 0
lists_by (Own other (NotBegun c)) op = 0
lists_by (Own other (Ended a)) op = 0
lists_by (Own other Stopped) op = 0
lists_by (Own other (Failed a)) op = 0
lists_by Dumped op = 0

-- how many blocks, and placed rows of blocks, the replies to an op listed
abbrev pub listed_in : List Event → OpId → ℕ
listed_in [] op = 0
listed_in (e ∷ es) op = lists_by e op + listed_in es op

-- a read locates each block of its list, and may ask for the chunk of each placed row
abbrev pub read_adds : List Event → OpId → Command → ℕ
read_adds history op (commands.Read p) = listed_in history op
read_adds history op c = 0

-- ---- each command

-- The op's command takes no more looks than its path has names, no more other transactions than its kind does (and a read what its replies
-- listed), and no transactions beside these.
pub record IsShort (counts : Counts) (history : List Event) (op : OpId) (c : Command) : Type 0 where
  pub looks : looks_of history op ≤ most_looks c
  pub others : others_of history op ≤ most_others counts c + read_adds history op c
  pub all : transactions history op ≤ most_looks c + most_others counts c + read_adds history op c
