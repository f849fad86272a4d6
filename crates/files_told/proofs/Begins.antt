-- how each command on the contents of files begins: behind its walk, or at once
use Rattle.std.proofs.Common.{◌≡◌, ℕ, ◌+◌, ◌<◌, Bool, true, false, if◌then◌else◌, nat_lt, Option, Some, None, List, [], ◌∷◌, ◌++◌}
use Rattle.std.proofs.Common.{refl, sym, ap, ◌∙◌, arith, inl, inr}
use Rattle.std.specs.FinMap.{get}
use Rattle.tect_ids.specs.declared.ids.Counts.{Counts}
use Rattle.tect_ids.specs.declared.ids.DirId.{DirId}
use Rattle.tect_ids.specs.declared.ids.OpId.{OpId}
use Rattle.tect_ids.specs.declared.command.Command.{Command}
use Rattle.tect_ids.specs.declared.command.Command.TheVariants as commands
use Rattle.tect_ids.specs.declared.answer.Answer.{Answer}
use Rattle.tect_ids.specs.declared.answer.Answer.TheVariants as answers
use Rattle.tect_ids.specs.Keys.{op_eq}
use Rattle.tect_ids.specs.Paths.{last_name}
use Rattle.program_forms.specs.Appends.{command_bytes}
use Rattle.program_forms.specs.Memories.{Memory, OpenedFile}
use Rattle.program_parts.specs.declared.next.Next.TheVariants.{Goes, Comes}
use Rattle.file_rules.specs.declared.states.Append.TheVariants as appending
use Rattle.file_rules.specs.Append.{append_begins, append_starts}
use Rattle.file_rules.specs.Blocks.{blocks_starts}
use Rattle.file_rules.specs.Open.{open_starts}
use Rattle.file_rules.specs.Placing.{copies_of, spread_of}
use Rattle.file_rules.specs.Read.{read_starts}
use Rattle.world_runs.specs.declared.event.Event.{Event}
use Rattle.world_runs.specs.declared.event.Event.TheVariants.{Own, Dumped}
use Rattle.world_runs.specs.declared.event.Happening.TheVariants.{Began, NotBegun, Acted, Ended, Stopped, Failed}
use Rattle.claim_words.specs.Commands.{or_later, begun_by, command_of, said_by, said_in}
use Rattle.claim_words.specs.Opened.{opened_in}
use Rattle.fall_laws.specs.Bounding.{AtMost}
use Rattle.fall_laws.specs.Parts.{next_left}
use Rattle.telling_laws.specs.Parts.{NextTells}
use Rattle.telling_laws.proofs.Contents.{said_more}
use Rattle.telling_laws.proofs.Histories.{itself}
use Rattle.files_told.specs.FilesBegin.{CameAlong, FilesBegin}
use Rattle.files_told.specs.FilesTelling.{Appends, OpenBefore, BlocksBefore}
use Rattle.file_laws.specs.Known.{append_deciding}
use Rattle.files_told.specs.FilesTelling.{ReadBefore, append_telling, append_left}
use Rattle.files_told.specs.FilesTelling.{others}

-- ---- behind a walk

module _ (h : List Event) (op : OpId) (p : List (List ℕ)) (d : DirId) where
  pub open_comes : CameAlong h op p d
      → OpenBefore h op (commands.Open p) (open_starts p (last_name p) d)
  open_comes walked = record { is = refl; walked = walked; last = refl }

  pub blocks_comes : CameAlong h op p d
      → BlocksBefore h op (commands.Blocks p) (blocks_starts (last_name p) d)
  blocks_comes walked = (p, record { is = refl; walked = walked; last = refl })

  pub read_comes : CameAlong h op p d → ReadBefore h op (commands.Read p) (read_starts (last_name p) d)
  read_comes walked = (p, record { is = refl; walked = walked; last = refl })

-- ---- an append, which has no walk

-- an op that began no command has said nothing
said_none : (e : Event) (op : OpId) → begun_by e op ≡ None → said_by e op ≡ None
said_none (Own other (Began c)) op e = by (op_eq other op) e
  where
    by : (b : Bool) → (if b then Some c else None) ≡ None → (if b then command_bytes c else None) ≡ None
    by true is = absurd (let z : Some c ≡ None = is in cc)
    by false is = refl
said_none (Own other (NotBegun c)) op e = refl
said_none (Own other (Acted q x how)) op e = refl
said_none (Own other (Ended a)) op e = refl
said_none (Own other Stopped) op e = refl
said_none (Own other (Failed a)) op e = refl
said_none Dumped op e = refl

first_none : (a b : Option Command) → or_later a b ≡ None → a ≡ None
first_none None b e = refl
first_none (Some c) b e = e

rest_none : (a b : Option Command) → or_later a b ≡ None → b ≡ None
rest_none None b e = e
rest_none (Some c) b e = absurd (let z : Some c ≡ None = e in cc)

nothing_said : (h : List Event) (op : OpId) → command_of h op ≡ None → said_in h op ≡ None
nothing_said [] op e = refl
nothing_said (x ∷ xs) op e =
    ap (λ (o : Option (List ℕ)). or_later o (said_in xs op)) (said_none x op (first_none (begun_by x op) (command_of xs op) e))
    ∙ nothing_said xs op (rest_none (begun_by x op) (command_of xs op) e)

module _ (counts : Counts) (h : List Event) (op : OpId) (p : List (List ℕ)) (bytes : List ℕ) where
  -- the command, and the history as it begins
  abbrev c : Command
  c = commands.Append p bytes

  abbrev then_begun : List Event
  then_begun = h ++ Own op (Began c) ∷ []

  appends : command_of h op ≡ None → (o : OpenedFile) → get (opened_in h op.actor) p ≡ Some o
      → Appends then_begun op c o.file o.token bytes
  appends new o last = record {
    path = p;
    is = refl;
    opened = record { before = h; later = []; there = refl; last = last };
    said = said_more h (Own op (Began c)) op ∙ ap (λ (o : Option (List ℕ)). or_later o (said_by (Own op (Began c)) op))
        (nothing_said h op new)
        ∙ said_now;
  }
    where
      said_now : said_by (Own op (Began c)) op ≡ Some bytes
      said_now = rw (itself op) refl

  few_disks : nat_lt counts.disks (copies_of counts) ≡ true → counts.disks < copies_of counts
  few_disks less = grind (arith, less)

  begins_tells : command_of h op ≡ None → (o : Option OpenedFile) → get (opened_in h op.actor) p ≡ o
      → NextTells append_deciding (append_telling counts) then_begun op c (append_begins counts bytes o)
  begins_tells new None e = inl (inr (inl (record { before = h; later = []; there = refl; never = e }, refl)))
  begins_tells new (Some o) e = spread_tells (nat_lt counts.disks (copies_of counts)) refl
    where
      few : Answer
      few = answers.FewDisks counts.disks (copies_of counts)

      spread_tells : (b : Bool) → nat_lt counts.disks (copies_of counts) ≡ b
          → NextTells append_deciding (append_telling counts) then_begun op c
          (if b then Comes few else Goes (appending.Make o.file o.token bytes (spread_of counts)))
      spread_tells true is = inl (inr (inr (few_disks is, refl)))
      spread_tells false is = (appends new o e, refl)

  pub append_tells_as_it_begins : (m : Memory) → command_of h op ≡ None → m.opened ≡ opened_in h op.actor
      → NextTells append_deciding (append_telling counts) then_begun op c (append_starts counts m p bytes)
  append_tells_as_it_begins m new opened = begins_tells new (get m.opened p) (ap (λ o. get o p) (sym opened))

-- ---- how many transactions an append takes

begun_leaves : (counts : Counts) (bytes : List ℕ) (o : Option OpenedFile)
    → AtMost (next_left append_left (append_begins counts bytes o)) (others (copies_of counts + 4))
begun_leaves counts bytes None = record { looks = omega arith; others = omega arith }
begun_leaves counts bytes (Some o) = by (nat_lt counts.disks (copies_of counts))
  where
    by : (b : Bool) → AtMost (next_left append_left (if b then Comes (answers.FewDisks counts.disks (copies_of counts))
        else Goes (appending.Make o.file o.token bytes (spread_of counts)))) (others (copies_of counts + 4))
    by true = record { looks = omega arith; others = omega arith }
    by false = record { looks = omega arith; others = omega arith }

pub append_leaves_as_it_begins : (counts : Counts) (m : Memory) (p : List (List ℕ)) (bytes : List ℕ)
    → AtMost (next_left append_left (append_starts counts m p bytes)) (others (copies_of counts + 4))
append_leaves_as_it_begins counts m p bytes = begun_leaves counts bytes (get m.opened p)

-- ---- all of them

pub files_begin_so : (counts : Counts) → FilesBegin counts
files_begin_so counts = record {
  opens = open_comes;
  lists = blocks_comes;
  reads = read_comes;
  appends = λ h op p bytes m new opened. append_tells_as_it_begins counts h op p bytes m new opened;
  few = append_leaves_as_it_begins counts;
}
