-- what each command on the contents of files knows as it begins
use Rattle.std.proofs.Common.{◌≡◌, ℕ, ◌≤◌, nat_lt, List, Bool, true, false, if◌then◌else◌, Option, Some, None, refl, arith}
use Rattle.std.specs.FinMap.{get}
use Rattle.tect_ids.specs.declared.ids.Counts.{Counts}
use Rattle.tect_ids.specs.declared.ids.DirId.{DirId}
use Rattle.tect_ids.specs.declared.ids.OpId.{OpId}
use Rattle.tect_ids.specs.declared.answer.Answer.TheVariants as answers
use Rattle.tect_ids.specs.declared.command.Command.{Command}
use Rattle.program_forms.specs.Appends.{command_bytes}
use Rattle.program_forms.specs.Memories.{Memory, OpenedFile}
use Rattle.program_parts.specs.declared.next.Next.TheVariants.{Goes, Comes}
use Rattle.file_rules.specs.declared.states.Append.TheVariants.{Make}
use Rattle.file_rules.specs.Placing.{copies_of, spread_of}
use Rattle.file_rules.specs.Open.{open_starts}
use Rattle.file_rules.specs.Append as appends
use Rattle.file_rules.specs.Blocks.{blocks_starts}
use Rattle.file_rules.specs.Read.{read_starts}
use Rattle.store_pasts.specs.Worlds.{World}
use Rattle.program_laws.specs.Known.{IsNewOp, HasSaid, Remembers}
use Rattle.part_laws.specs.Parts.{NextKnows}
use Rattle.part_laws.specs.Walks.{OnItsWay, BeginsLaws}
use Rattle.file_laws.specs.Known.{open_known, open_deciding, append_known, blocks_known, blocks_deciding, read_known, read_deciding}

-- ---- after a walk

pub open_begins : (w : World) (op : OpId) (m : Memory) (path : List (List ℕ)) (n : List ℕ) (d : DirId) → OnItsWay w op m d
    → open_known.Knows w op m (open_starts path n d)
open_begins w op m path n d k = k.new

pub blocks_begins : (w : World) (op : OpId) (m : Memory) (n : List ℕ) (d : DirId) → OnItsWay w op m d
    → blocks_known.Knows w op m (blocks_starts n d)
blocks_begins w op m n d k = k.new

pub read_begins : (w : World) (op : OpId) (m : Memory) (n : List ℕ) (d : DirId) → OnItsWay w op m d
    → read_known.Knows w op m (read_starts n d)
read_begins w op m n d k = k.new

-- undecided
pub open_begins_laws : (path : List (List ℕ)) → BeginsLaws (open_starts path) open_deciding open_known
open_begins_laws path = record {
  undecided = λ n d. refl;
  knows = λ w op m n d k. open_begins w op m path n d k;
  plain = λ w a e. e;
}

pub blocks_begins_laws : BeginsLaws blocks_starts blocks_deciding blocks_known
blocks_begins_laws = record {
  undecided = λ n d. refl;
  knows = blocks_begins;
  plain = λ w a e. e;
}

pub read_begins_laws : BeginsLaws read_starts read_deciding read_known
read_begins_laws = record {
  undecided = λ n d. refl;
  knows = read_begins;
  plain = λ w a e. e;
}

-- ---- by what the actor opened

-- a block lies on at least one disk
one_copy : (c : Counts) → 1 ≤ copies_of c
one_copy c = omega arith

enough_disks : (c : Counts) → nat_lt c.disks (copies_of c) ≡ false → copies_of c ≤ c.disks
enough_disks c e = grind arith

module _ (c : Counts) (w : World) (op : OpId) (m : Memory) (bytes : List ℕ) (new : IsNewOp w op) (said : w.ghost.said op ≡ Some bytes)
    (r : Remembers w op.actor m) (left : m.serial ≤ op.number) where
  -- where the file is open, by whether there are disks for all copies
  made_begins : (path : List (List ℕ)) (o : OpenedFile) → get m.opened path ≡ Some o → (few : Bool) → nat_lt c.disks (copies_of c) ≡ few
      → NextKnows append_known w op m
      (if few then Comes (answers.FewDisks c.disks (copies_of c)) else Goes (Make o.file o.token bytes (spread_of c)))
  made_begins path o is true e = refl
  made_begins path o is false e = record {
    made = (r.opened path o is).made;
    said = said;
    new = new;
    left = left;
    some = one_copy c;
    enough = enough_disks c e;
  }

  opened_begins : (path : List (List ℕ)) (o : Option OpenedFile) → get m.opened path ≡ o
      → NextKnows append_known w op m (appends.append_begins c bytes o)
  opened_begins path None is = refl
  opened_begins path (Some o) is = made_begins path o is (nat_lt c.disks (copies_of c)) refl

-- an append begins where its op has said what its command appends
pub append_begins : (c : Counts) (w : World) (op : OpId) (m : Memory) (k : Command) (p : List (List ℕ)) (bytes : List ℕ)
    → command_bytes k ≡ Some bytes → IsNewOp w op → HasSaid w op k → Remembers w op.actor m → m.serial ≤ op.number
    → NextKnows append_known w op m (appends.append_starts c m p bytes)
append_begins c w op m k p bytes is new said r left =
    opened_begins c w op m bytes new (said bytes is) r left p (get m.opened p) refl
