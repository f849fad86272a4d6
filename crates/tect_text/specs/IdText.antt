-- How identifiers are written.
use Rattle.std.specs.Prelude.{ℕ, List, ◌++◌, Option, Some, None, codes}
use Rattle.std.specs.Fmt.{decimal}
use Rattle.tect_ids.specs.declared.ids.OpId.{OpId}
use Rattle.tect_ids.specs.declared.ids.Tag.{Tag}
use Rattle.tect_ids.specs.declared.ids.Node.{Node}
use Rattle.tect_ids.specs.declared.ids.Node.TheVariants.{Dir, File}

-- the actor and the number of its command
abbrev pub op_text : OpId → List ℕ
op_text op = decimal op.actor ++ codes "." ++ decimal op.number

-- the op, and the number of its tag
abbrev pub tag_text : Tag → List ℕ
tag_text tag = op_text tag.op ++ codes "." ++ decimal tag.part

-- the kind and the identifier
abbrev pub node_text : Node → List ℕ
node_text (Dir dir) = codes "dir " ++ decimal dir.0
node_text (File file) = codes "file " ++ decimal file.0

abbrev pub node_or_none : Option Node → List ℕ
node_or_none (Some node) = node_text node
node_or_none None = codes "none"
