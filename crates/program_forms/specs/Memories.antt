-- What an actor knows between its commands, and what a reply does to that.
use Rattle.std.specs.Prelude.{ℕ, ◌+◌, Bool, true, if◌then◌else◌, List, [], ◌∷◌, Some}
use Rattle.std.specs.declared.cmp.Ordering.{Ordering}
use Rattle.std.specs.Ordering.{nat_cmp}
use Rattle.std.specs.Cmp.Lexicographic.{slice_cmp}
use Rattle.std.specs.FinMap.{FinMap, empty}
use Rattle.std.specs.List.{filter}
use Rattle.tect_ids.specs.declared.ids.FileId.{FileId}
use Rattle.tect_ids.specs.declared.ids.OpId.{OpId}
use Rattle.map_words.specs.Maps.{set_at}
use Rattle.store_rules.specs.declared.any.AnyReq.{AnyReq}
use Rattle.store_rules.specs.declared.any.AnyReply.{AnyReply}
use Rattle.store_rules.specs.Views.{is_made}
use Rattle.program_forms.specs.declared.heard.Heard.{Heard}
use Rattle.program_forms.specs.declared.heard.Heard.TheVariants.{Whole, Unkept, Left}

-- paths in the order of their names
abbrev pub path_cmp : List (List ℕ) → List (List ℕ) → Ordering
path_cmp = slice_cmp (slice_cmp nat_cmp)

-- a file that an actor opened, and the token that its open wrote into it
pub record OpenedFile : Type 0 where
  pub file : FileId
  pub token : OpId

-- the files that an actor opened, by the paths that it opened them at
abbrev pub OpenedFiles : Type 0
OpenedFiles = FinMap path_cmp OpenedFile

-- the serial of the next object that the actor makes, and the files that it opened
pub record Memory : Type 0 where
  pub serial : ℕ
  pub opened : OpenedFiles

-- an actor that made and opened nothing
abbrev pub opening_memory : Memory
opening_memory = record { serial = 1; opened = empty }

-- what a reply tells that an actor keeps: the file that was opened at that path, and the token
pub data Learnt : Type 0 where
  Opens : List (List ℕ) → FileId → OpId → Learnt

-- whether it has to be kept for its command to go on
abbrev pub must_keep : Learnt → Bool
must_keep (Opens path f t) = true

-- what is kept after a reply that was heard so
abbrev pub kept_of : Heard → List Learnt → List Learnt
kept_of Whole ls = ls
kept_of Unkept ls = filter must_keep ls
kept_of Left ls = []

-- a file that is opened anew takes the place of what was opened at the path before
abbrev pub opened_by : List Learnt → OpenedFiles → OpenedFiles
opened_by [] o = o
opened_by (Opens path f t ∷ ls) o = opened_by ls (set_at o path (Some record { file = f; token = t }))

abbrev pub learnt : List Learnt → Memory → Memory
learnt ls m = record { serial = m.serial; opened = opened_by ls m.opened }

-- what every reply does to a memory, whatever the command: a serial is taken when an object was made
abbrev pub always : Memory → AnyReq → AnyReply → Memory
always m q x = record m { serial = if is_made x then m.serial + 1 else m.serial }
