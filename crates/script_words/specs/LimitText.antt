-- The limits of what is read: the word of each, and its value.
use Rattle.std.specs.Prelude.{ℕ, List, codes}
use Rattle.script_words.specs.declared.limits.Limit.{Limit}
use Rattle.script_words.specs.declared.limits.Limit.TheVariants as limits

abbrev pub limit_word : Limit → List ℕ
limit_word limits.Script = codes "script"
limit_word limits.Lines = codes "lines"
limit_word limits.Line = codes "line"
limit_word limits.Clients = codes "clients"
limit_word limits.Shards = codes "shards"
limit_word limits.Disks = codes "disks"
limit_word limits.Copies = codes "copies"
limit_word limits.Name = codes "name"
limit_word limits.Depth = codes "depth"
limit_word limits.Block = codes "block"
limit_word limits.Trace = codes "trace"

-- the greatest count of bytes, lines, clients, and so on
abbrev pub limit_value : Limit → ℕ
limit_value limits.Script = 67108864
limit_value limits.Lines = 65536
limit_value limits.Line = 70000
limit_value limits.Clients = 64
limit_value limits.Shards = 64
limit_value limits.Disks = 64
limit_value limits.Copies = 5
limit_value limits.Name = 255
limit_value limits.Depth = 256
limit_value limits.Block = 32768
limit_value limits.Trace = 268435456
