-- what is owed of each request of a running command is so: only an append makes and attaches a block, and only an open writes a token
use Rattle.std.proofs.Common.{◌≡◌, ℕ, List, refl, subst, ◌∙◌}
use Rattle.tect_ids.specs.declared.ids.Counts.{Counts}
use Rattle.tect_ids.specs.declared.ids.Hold.{Hold}
use Rattle.tect_ids.specs.declared.ids.Node.{Node}
use Rattle.tect_ids.specs.declared.ids.Node.TheVariants as nodes
use Rattle.tect_ids.specs.declared.ids.OpId.{OpId}
use Rattle.tect_ids.specs.declared.key.Key.{Key}
use Rattle.tect_ids.specs.declared.command.Command.{Command}
use Rattle.tect_ids.specs.declared.answer.Answer.{Answer}
use Rattle.tect_ids.specs.Numbers.{object_number}
use Rattle.program_forms.specs.Memories.{Memory}
use Rattle.program_forms.specs.Kinds.{Does, Asks, Says}
use Rattle.program_parts.specs.declared.next.Next.TheVariants.{Goes, Comes}
use Rattle.program_parts.specs.declared.walking.Walking.TheVariants.{Way, There}
use Rattle.program_parts.specs.Releases.{release_ask}
use Rattle.file_rules.specs.declared.states.Append.{Append}
use Rattle.file_rules.specs.declared.states.Append.TheVariants as appending
use Rattle.file_rules.specs.declared.states.Blocks.{Blocks}
use Rattle.file_rules.specs.declared.states.Blocks.TheVariants as listing
use Rattle.file_rules.specs.declared.states.Open.{Open}
use Rattle.file_rules.specs.declared.states.Open.TheVariants as opening
use Rattle.file_rules.specs.declared.states.Read.{Read}
use Rattle.file_rules.specs.declared.states.Read.TheVariants as reading
use Rattle.file_rules.specs.Blocks.{blocks_asks}
use Rattle.file_rules.specs.Open.{open_asks}
use Rattle.file_rules.specs.Placing.{first_disk}
use Rattle.file_rules.specs.Read.{read_asks}
use Rattle.program_rules.specs.declared.states.Delete.{Delete}
use Rattle.program_rules.specs.declared.states.Delete.TheVariants as deleting
use Rattle.program_rules.specs.declared.states.Look.{Look}
use Rattle.program_rules.specs.declared.states.Look.TheVariants as looking
use Rattle.program_rules.specs.declared.states.Make.{Make}
use Rattle.program_rules.specs.declared.states.Make.TheVariants as making
use Rattle.program_rules.specs.declared.states.NewNode.TheVariants as new
use Rattle.program_rules.specs.declared.states.Rename.{Rename}
use Rattle.program_rules.specs.declared.states.Rename.TheVariants as renaming
use Rattle.program_rules.specs.declared.states.Seal.{Seal}
use Rattle.program_rules.specs.declared.states.Seal.TheVariants as sealing
use Rattle.program_rules.specs.declared.operation.OperationState.{OperationState}
use Rattle.program_rules.specs.declared.operation.OperationState.TheVariants as states
use Rattle.program_rules.specs.Delete.{delete_asks}
use Rattle.program_rules.specs.Look.{look_asks}
use Rattle.program_rules.specs.Make.{make_asks}
use Rattle.program_rules.specs.Rename.{grant_ask, rename_asks}
use Rattle.program_rules.specs.Seal.{seal_asks}
use Rattle.program_rules.specs.Served.{Program, programs}
use Rattle.world_runs.specs.declared.event.Event.{Event}
use Rattle.telling_laws.specs.Telling.{RunsAskFresh, Tells}
use Rattle.telling_laws.proofs.Asked.{AskedTells, told_when_asked}
use Rattle.claim_words.specs.FilesBecause.{copies_needed}
use Rattle.file_laws.proofs.Spread.{count_rows}
use Rattle.names_laws.specs.Known.{names_deciding}
use Rattle.files_told.specs.FilesTelling.{Appends, AppendsBlock, OpenBefore}
use Rattle.names_told.specs.NamesTelling.{names_telling}
use Rattle.names_told.proofs.NamesTell.{names_tell_so}
use Rattle.tree_runs.proofs.AskSafely.{runs_ask_fresh}
use Rattle.tree_runs.proofs.Headlines.{safely, followed_so}
use Rattle.attached_blocks.proofs.Owing.{Owes, RequestsOwe}

-- ---- each request

module _ (counts : Counts) (h : List Event) (op : OpId) (c : Command) where
  release_owes : (n : Node) (g : Hold) → Owes counts h op c (release_ask n g)
  release_owes (nodes.Dir d) g = tt
  release_owes (nodes.File f) g = tt

  look_owes : (s : Look) → Owes counts h op c (look_asks s)
  look_owes (looking.Check d) = tt
  look_owes (looking.Entry k) = tt

  make_owes : (number : ℕ) (s : Make) → Owes counts h op c (make_asks op number s)
  make_owes number (making.New new.File d n) = refl
  make_owes number (making.New new.Dir d n) = tt
  make_owes number (making.Bind kind k n g) = tt
  make_owes number (making.Release r) = release_owes (r.first).node (r.first).hold

  delete_owes : (s : Delete) → Owes counts h op c (delete_asks s)
  delete_owes (deleting.Unbind k) = tt
  delete_owes (deleting.Release r) = release_owes (r.first).node (r.first).hold

  grant_owes : (n : Node) (g : Hold) (k : Key) → Owes counts h op c (grant_ask n g k)
  grant_owes (nodes.Dir d) g k = tt
  grant_owes (nodes.File f) g k = tt

  rename_owes : (s : Rename) → Owes counts h op c (rename_asks op s)
  rename_owes (renaming.Find d from to) = tt
  rename_owes (renaming.Grant d p n) = grant_owes n _ _
  rename_owes (renaming.Swap d p n g) = tt
  rename_owes (renaming.Release r) = release_owes (r.first).node (r.first).hold

  -- it opens with itself as the token
  open_owes : (s : Open) → OpenBefore h op c s → Owes counts h op c (open_asks op s)
  open_owes (opening.Find k path) t = tt
  open_owes (opening.Take f path) t = (refl, (path, t.is))

  blocks_owes : (s : Blocks) → Owes counts h op c (blocks_asks s)
  blocks_owes (listing.Find k) = tt
  blocks_owes (listing.List f) = tt

  read_owes : (s : Read) → Owes counts h op c (read_asks s)
  read_owes (reading.Find k) = tt
  read_owes (reading.List f) = tt
  read_owes (reading.Locate r b) = tt
  read_owes (reading.Fetch r t) = tt

  seal_owes : (s : Seal) → Owes counts h op c (seal_asks s)
  seal_owes (sealing.Find k) = tt
  seal_owes (sealing.Close (nodes.Dir d)) = tt
  seal_owes (sealing.Close (nodes.File f)) = tt

  -- ---- of a running command

  abbrev DoesOwe : {R : Type 0} → Does R → Type 0
  DoesOwe (Asks q) = Owes counts h op c q
  DoesOwe (Says r) = Unit {0}

  module _ (m : Memory) where
    -- what is told of a command in its state, of whose request that is so
    abbrev OwesIn : Program → Type 0
    OwesIn s = Tells names_deciding (names_telling counts) h op c s → DoesOwe (programs.kind.does counts m op s)

    append_owes : (s : Append) → OwesIn (Goes (There (states.Append s)))
    append_owes (appending.Make f token bytes p) t =
        let k : Appends h op c f token bytes × (p.copies ≡ copies_needed counts) = t in
        count_rows p.disks op (first_disk p (object_number op.actor m.serial)) 0 p.copies ∙ k.1
    append_owes (appending.Put a putting) t = tt
    append_owes (appending.Seal a made) t = tt
    append_owes (appending.Attach a b) t =
        let k : AppendsBlock h op c a b = t in
        record {
          path = (k.appends).path;
          bytes = a.bytes;
          is = (k.appends).is;
          content = k.made;
          opened = (k.appends).opened;
        }
    append_owes (appending.Release b g answer) t = tt

    operation_owes : (s : OperationState) → OwesIn (Goes (There s))
    operation_owes (states.Look s) t = look_owes s
    operation_owes (states.List s) t = tt
    operation_owes (states.Make s) t = make_owes _ s
    operation_owes (states.Delete s) t = delete_owes s
    operation_owes (states.Rename s) t = rename_owes s
    operation_owes (states.Open s) t = open_owes s t
    operation_owes (states.Append s) t = append_owes s t
    operation_owes (states.Blocks s) t = blocks_owes s
    operation_owes (states.Read s) t = read_owes s
    operation_owes (states.Seal s) t = seal_owes s

    program_owes : (s : Program) → OwesIn s
    program_owes (Goes (Way d n ns o)) t = tt
    program_owes (Goes (There s)) t = operation_owes s t
    program_owes (Comes a) t = tt

freshly : RunsAskFresh programs
freshly = runs_ask_fresh programs safely

pub requests_owe : RequestsOwe programs
requests_owe counts h es op q x how run =
    let told : AskedTells counts programs names_deciding (names_telling counts) h op q =
    told_when_asked Program counts programs names_deciding (names_telling counts) (names_tell_so counts) freshly followed_so h es op q x how
    run in
    record {
      command = told.command;
      begun = told.begun;
      owes = subst (λ (d : Does Answer). DoesOwe counts h op told.command d) told.asks
          (program_owes counts h op told.command told.memory told.state told.tells);
    }
