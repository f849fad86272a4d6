-- What is so of the token of a file.
use Rattle.std.specs.Prelude.{◌≡◌}
use Rattle.tect_ids.specs.declared.ids.Node.TheVariants.{File}
use Rattle.tect_calls.specs.declared.tokens.MadeFile.TheInside.{Inside}

-- it is that of its file
pub record IsOfFile (a : Inside) : Type 0 where
  pub same : a.made ≡ File a.file
