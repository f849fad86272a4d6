-- How many transactions a command may take beside its looks.
use Rattle.std.specs.Prelude.{ℕ, ◌+◌, max, List, length, Option, Some, None}
use Rattle.std.specs.List.{filter}
use Rattle.tect_ids.specs.declared.ids.Counts.{Counts}
use Rattle.tect_ids.specs.declared.values.Location.{Location}
use Rattle.tect_ids.specs.declared.values.RowPart.{RowPart}
use Rattle.tect_ids.specs.declared.command.Command.{Command}
use Rattle.tect_ids.specs.declared.command.Command.TheVariants as commands
use Rattle.store_rules.specs.declared.any.AnyReply.{AnyReply}
use Rattle.store_rules.specs.Views.{as_block_list, as_location}

-- An open, a listing of blocks and a seal take one: what was found is asked. An append makes its block, puts each copy, seals and attaches
-- it, and may release its hold. A read takes one, and then what the blocks that it lists take. Others take at most four.
abbrev pub most_others : Counts → Command → ℕ
most_others counts (commands.Open p) = 1
most_others counts (commands.Blocks p) = 1
most_others counts (commands.Read p) = 1
most_others counts (commands.Seal p) = 1
most_others counts (commands.Append p bytes) = max counts.copies 1 + 4
most_others counts c = 4

-- ---- what a read adds

-- how many blocks a listing has, and how many placed rows a location
abbrev pub listed_blocks : Option (List RowPart) → ℕ
listed_blocks None = 0
listed_blocks (Some parts) = length parts

abbrev pub placed_rows : Option Location → ℕ
placed_rows None = 0
placed_rows (Some l) = length (filter (λ r. r.placed) l.rows)

-- how many of either the reply lists
abbrev pub lists : AnyReply → ℕ
lists x = listed_blocks (as_block_list x) + placed_rows (as_location x)
