-- Keys, and items of a listing, are equal where `==` says so.
use Rattle.std.proofs.Common.{◌≡◌, Decides, arith}
use Rattle.tect_ids.specs.NameEquality.{same_names}
use Rattle.tect_ids.specs.contracts.key.KeyPartialEq.TheImpl as key
use Rattle.tect_ids.specs.contracts.values.ListedPartialEq.TheImpl as listed
use Rattle.tect_ids.specs.declared.key.Key.{Key}
use Rattle.tect_ids.specs.declared.values.Listed.{Listed}

pub key_decides : (a b : Key) → Decides ((key.ghosts).eq a b) (a ≡ b)
key_decides a b = grind (arith, same_names)

pub listed_decides : (a b : Listed) → Decides ((listed.ghosts).eq a b) (a ≡ b)
listed_decides a b = grind (arith, same_names)
