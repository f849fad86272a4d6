-- a command begins, and may say bytes: what was said before stays, and nothing else is changed
use Rattle.std.proofs.Common.{◌≡◌, ℕ, true, false, if◌then◌else◌, List, Option, Some, None, arith}
use Rattle.tect_ids.specs.declared.ids.OpId.{OpId}
use Rattle.tect_ids.specs.Keys.{op_eq}
use Rattle.tect_ids.proofs.KeyTests.{keys}
use Rattle.store_pasts.specs.Ghosts.{World, first_said, with_said}
use Rattle.store_pasts.specs.Worlds.{saying}
use Rattle.store_pasts.specs.Later.{Later}
use Rattle.store_pasts.specs.Requests.{touches_said}
use Rattle.store_pasts.proofs.Laters.{later_same, rows_same, chunks_same}

first_stays : (o : Option (List ℕ)) (bytes was : List ℕ) → o ≡ Some was → first_said o bytes ≡ Some was
first_stays None bytes was e = absurd (let k : None ≡ Some was = e in cc)
first_stays (Some x) bytes was e = e

-- what an op said stays
pub said_stays : (said : OpId → Option (List ℕ)) (op : OpId) (bytes : List ℕ) (x : OpId) (was : List ℕ) → said x ≡ Some was
    → with_said said op bytes x ≡ Some was
said_stays said op bytes x was e = elim (op_eq x op) as (λ b. (if b then first_said (said x) bytes else said x) ≡ Some was)
    [ true ↦ first_stays (said x) bytes was e | false ↦ e ]

-- what an op says at its begin it has said then
pub says_now : (w : World) (op : OpId) (o : Option (List ℕ)) (bytes : List ℕ) → o ≡ Some bytes → w.ghost.said op ≡ None
    → (saying op o w).ghost.said op ≡ Some bytes
says_now w op None bytes e none = absurd (let k : None ≡ Some bytes = e in cc)
says_now w op (Some x) bytes e none = let own : op_eq op op ≡ true = grind (arith, keys) in rw (own, none) e

pub saying_later : (w : World) (op : OpId) (o : Option (List ℕ)) → Later (touches_said op) w (saying op o w)
saying_later w op None = later_same _ w
saying_later w op (Some bytes) = record {
  made = λ n e. e;
  unmade = λ n o e. e;
  named = λ n e. e;
  unnamed = λ n o e. e;
  fresh = λ h o e. e;
  live = λ h g o e l. e;
  kept = λ h p e. e;
  spent = λ h e. e;
  rows = rows_same _ _ _;
  blocks = record {
    born = λ b m e. e;
    unborn = λ b o e. e;
    tagged = λ t m e. e;
    untagged = λ t o e. e;
    said = λ x was e. said_stays w.ghost.said op bytes x was e;
    unsaid = λ x o e. rw o e;
    sealed = λ b n e. e;
    unsealed = λ b o e. e;
  };
  chunks = chunks_same _ _;
}
