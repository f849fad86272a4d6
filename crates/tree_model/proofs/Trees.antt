-- the tests of the code, and changes of maps that are taken back or come in another order
use Rattle.std.proofs.Common.{◌≡◌, ◌≢◌, ap, ℕ, false, List, Option, Some, None, arith}
use Rattle.std.specs.FinMap.{FinMap, get}
use Rattle.std.specs.Ordering.{eq_by_cmp}
use Rattle.tect_ids.specs.declared.ids.DirId.{DirId}
use Rattle.tect_ids.specs.declared.key.Key.{Key}
use Rattle.tect_ids.specs.declared.ids.Node.{Node}
use Rattle.tect_ids.specs.contracts.ids.NodePartialEq.TheImpl as node_impl
use Rattle.tect_ids.specs.Keys.{dir_eq, file_eq, node_eq, name_eq, node_cmp, key_cmp}
use Rattle.tect_ids.proofs.KeyTests.{key_eq_cases, name_eq_cases, key_ties, node_cmp_total, node_antisymmetric}
use Rattle.tect_ids.proofs.KeyTests.{key_cmp_total, key_antisymmetric}
use Rattle.map_words.specs.Maps.{set_at}
use Rattle.map_words.proofs.Maps.{set_at_back, set_at_swap}
use Rattle.tree_model.specs.Tree.{at_name}

pub node_same : (a b : Node) → (node_impl.ghosts).eq a b ≡ node_eq a b
unfolding node_eq dir_eq file_eq
node_same a b = grind arith

-- a node that is taken out of the made ones again
pub made_back : (made : FinMap node_cmp (Unit {0})) (n : Node) (w : Option (Unit {0})) → get made n ≡ None
    → set_at (set_at made n w) n None ≡ made
made_back made n w free = set_at_back node_cmp_total node_antisymmetric made n None w free

keys_apart : (j k : Key) → j ≢ k → eq_by_cmp key_cmp j k ≡ false
keys_apart j k apart = grind (arith, key_ties j k, key_eq_cases j k)

-- two names of one directory are set in any order
pub names_swap : (entries : FinMap key_cmp Node) (d : DirId) (from to : List ℕ) (n : Node) → name_eq from to ≡ false
    → set_at (set_at entries (at_name d to) (Some n)) (at_name d from) None
    ≡ set_at (set_at entries (at_name d from) None) (at_name d to) (Some n)
names_swap entries d from to n apart =
    set_at_swap key_cmp_total key_antisymmetric entries (at_name d to) (at_name d from) (Some n) None
    (keys_apart (at_name d to) (at_name d from) (λ same. grind (arith, name_eq_cases from to, ap (λ (k : Key). k.name) same)))
