-- What is so of the token of a directory.
use Rattle.std.specs.Prelude.{◌≡◌}
use Rattle.tect_ids.specs.declared.ids.Node.TheVariants.{Dir}
use Rattle.tect_calls.specs.declared.tokens.MadeDir.TheInside.{Inside}

-- it is that of its directory
pub record IsOfDir (a : Inside) : Type 0 where
  pub same : a.made ≡ Dir a.dir
