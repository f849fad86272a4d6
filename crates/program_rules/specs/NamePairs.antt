-- The old and the new name of a rename.
use Rattle.std.specs.Prelude.{◌≡◌, ℕ, Bool, true, false, Option, Some, None, List}
use Rattle.tect_ids.specs.Keys.{name_eq}
use Rattle.program_rules.specs.declared.name_pair.NamePair.TheInside.{Inside}

pub record OldAndNew : Type 0 where
  pub from : List ℕ
  pub to : List ℕ

-- they differ
pub record Differ (a : Inside) : Type 0 where
  pub other : name_eq a.from a.to ≡ false

-- the pair, unless the names are equal
abbrev pub pair_of : List ℕ → List ℕ → Bool → Option OldAndNew
pair_of from to true = None
pair_of from to false = Some record { from = from; to = to }
