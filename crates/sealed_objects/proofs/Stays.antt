-- no step of the small machine changes what is sealed
use Rattle.std.proofs.Common.{◌≡◌, ℕ, Bool, true, false, Option, Some, None, List, [], ◌∷◌, refl, ap, ◌∙◌, subst, arith}
use Rattle.std.specs.Prelude.{map, is_some, nat_lt, length, take}
use Rattle.std.specs.List.{flat_map}
use Rattle.std.specs.FinMap.{FinMap, get, entries, same_map}
use Rattle.tect_ids.specs.declared.ids.Counts.{Counts}
use Rattle.tect_ids.specs.declared.ids.DirId.{DirId}
use Rattle.tect_ids.specs.declared.ids.FileId.{FileId}
use Rattle.tect_ids.specs.declared.ids.Node.{Node}
use Rattle.tect_ids.specs.declared.ids.OpId.{OpId}
use Rattle.tect_ids.specs.declared.key.Key.{Key}
use Rattle.tect_ids.specs.declared.values.Listed.{Listed}
use Rattle.tect_ids.specs.declared.values.RowPart.{RowPart}
use Rattle.tect_ids.specs.declared.values.Refusal.TheVariants.{NoDir, NoFile, Sealed}
use Rattle.tect_ids.specs.Keys.{dir_eq, key_cmp}
use Rattle.tect_ids.proofs.KeyTests.{key_cmp_total, key_antisymmetric}
use Rattle.map_words.specs.Maps.{set_at}
use Rattle.key_words.specs.Maps.{within}
use Rattle.key_words.proofs.Lookups.{maps}
use Rattle.tree_model.specs.declared.blocks.TreeBlock.{TreeBlock}
use Rattle.tree_model.specs.declared.step.TreeDir.{TreeDir}
use Rattle.tree_model.specs.declared.step.TreeFile.{TreeFile}
use Rattle.tree_model.specs.declared.step.TreeReply.{TreeReply}
use Rattle.tree_model.specs.declared.step.TreeReply.TheVariants.{Ok, Refused}
use Rattle.tree_model.specs.declared.step.TreeStep.{TreeStep}
use Rattle.tree_model.specs.declared.step.TreeStep.TheVariants as step
use Rattle.tree_model.specs.declared.step.StepValue.{StepValue}
use Rattle.tree_model.specs.declared.step.StepValue.TheVariants as shown
use Rattle.tree_model.specs.Tree.{Tree, Allowed, opening_tree, tree_reply, tree_next, tree_change, finding, unless}
use Rattle.tree_model.specs.Tree.{as_listed, block_part, at_name, renamed, list_reply, blocks_reply, read_reply}
use Rattle.program_rules.specs.Served.{programs}
use Rattle.world_runs.specs.declared.event.Event.{Event}
use Rattle.world_runs.specs.Moments.{IsWorldRun}
use Rattle.claim_words.specs.TreeSteps.{Told, tree_steps, tree_after, IsTreeRun}
use Rattle.telling_laws.proofs.Histories.{tree_after-append, tree_run-rest}
use Rattle.telling_laws.proofs.Made.{TreeMade, next_made, opening_made}
use Rattle.tree_runs.proofs.Headlines.{run_headline}
use Rattle.sealed_objects.specs.Sealed.{SealedDirsStay, SealedFilesStay, SealedObjectsStay}

-- ---- directories

abbrev dir_sealed_in : Option TreeDir → Bool
dir_sealed_in None = false
dir_sealed_in (Some d) = d.sealed

-- it is sealed, with these entries
record IsSealedDir (t : Tree) (d : DirId) (items : List Listed) : Type 0 where
  sealed : dir_sealed_in (get t.dirs d) ≡ true
  lists : map as_listed (entries (within t.entries d)) ≡ items

-- a change at a name of another directory leaves the entries
within_other : (es : FinMap key_cmp Node) (k : Key) (x : Option Node) (d : DirId) → dir_eq k.dir d ≡ false → within (set_at es k x) d ≡ within es d
within_other es k x d other = same_map key_cmp_total key_antisymmetric _ _ (λ q. grind (arith, maps))

-- what is not refused is not sealed
open_dir : (x : Option TreeDir) (on : TreeDir → TreeReply) (v : StepValue) → Ok v ≡ finding x NoDir (λ d. unless d.sealed Sealed (on d))
    → dir_sealed_in x ≡ false
open_dir None on v e = grind arith
open_dir (Some d) on v e = grind arith

apart : (t : Tree) (e d : DirId) → dir_sealed_in (get t.dirs e) ≡ false → dir_sealed_in (get t.dirs d) ≡ true → dir_eq e d ≡ false
apart t e d free closed = grind (arith, maps)

stood : (x : Option TreeDir) → dir_sealed_in x ≡ true → is_some x ≡ true
stood None is = grind arith
stood (Some d) is = refl

module _ (t : Tree) (made : TreeMade t) (d : DirId) (items : List Listed) (h : IsSealedDir t d items) where
  entry_changed : (k : Key) (x : Option Node) → dir_sealed_in (get t.dirs k.dir) ≡ false
      → IsSealedDir (record t { entries = set_at t.entries k x }) d items
  entry_changed k x free = record {
    sealed = h.sealed;
    lists = ap (λ (m : FinMap key_cmp Node). map as_listed (entries m))
        (within_other t.entries k x d (apart t k.dir d free h.sealed)) ∙ h.lists;
  }

  names_changed : (e : DirId) (from to : List ℕ) (n : Node) → dir_sealed_in (get t.dirs e) ≡ false → IsSealedDir (renamed t e from to n) d items
  names_changed e from to n free =
      let other : dir_eq e d ≡ false = apart t e d free h.sealed in
      record {
        sealed = h.sealed;
        lists = ap (λ (m : FinMap key_cmp Node). map as_listed (entries m))
            (within_other (set_at t.entries (at_name e from) None) (at_name e to) (Some n) d other
            ∙ within_other t.entries (at_name e from) None d other) ∙ h.lists;
      }

  dir_changed : (op : OpId) (s : TreeStep) (v : StepValue) → Ok v ≡ tree_reply t op s → IsSealedDir (tree_change t op s) d items
  dir_changed op (step.Check e) v is = h
  dir_changed op (step.Look k) v is = h
  dir_changed op (step.List e) v is = h
  dir_changed op (step.MakeDir e p) v is =
      record { sealed = grind (arith, maps, made.dirs d (stood (get t.dirs d) h.sealed)); lists = h.lists }
  dir_changed op (step.MakeFile f token) v is = record { sealed = h.sealed; lists = h.lists }
  dir_changed op (step.Bind k n o) v is = entry_changed k (Some n) (open_dir (get t.dirs k.dir) _ v is)
  dir_changed op (step.Swap e from to n) v is = names_changed e from to n (open_dir (get t.dirs e) _ v is)
  dir_changed op (step.Unbind k w) v is = entry_changed k None (open_dir (get t.dirs k.dir) _ v is)
  dir_changed op (step.GrantDir e) v is = h
  dir_changed op (step.GrantFile f) v is = h
  dir_changed op (step.Open f token) v is = record { sealed = h.sealed; lists = h.lists }
  dir_changed op (step.Attach f token b bytes) v is = record { sealed = h.sealed; lists = h.lists }
  dir_changed op (step.Blocks f) v is = h
  dir_changed op (step.Read f n) v is = h
  dir_changed op (step.SealDir e) v is = record { sealed = grind (arith, maps, h.sealed); lists = h.lists }
  dir_changed op (step.SealFile f) v is = record { sealed = h.sealed; lists = h.lists }

  dir_next : (op : OpId) (s : TreeStep) (x : TreeReply) → Allowed t op s x → IsSealedDir (tree_next t op s x) d items
  dir_next op s (Ok v) is = dir_changed op s v is
  dir_next op s (Refused why) is = h

dir_after : (t : Tree) (made : TreeMade t) (d : DirId) (items : List Listed) (ss : List Told) → IsTreeRun t ss → IsSealedDir t d items
    → IsSealedDir (tree_after t ss) d items
dir_after t made d items [] run h = h
dir_after t made d items (s ∷ ss) run h =
    dir_after (tree_next t s.op s.does s.says) (next_made t s.op s.does s.says made) d items ss run.1
    (dir_next t made d items h s.op s.does s.says run.0)

-- ---- files

abbrev file_sealed_in : Option TreeFile → Bool
file_sealed_in None = false
file_sealed_in (Some f) = f.sealed

abbrev blocks_in : Option TreeFile → List TreeBlock
blocks_in None = []
blocks_in (Some f) = f.blocks

-- it is sealed, with these blocks
record IsSealedFile (t : Tree) (f : FileId) (blocks : List TreeBlock) : Type 0 where
  sealed : file_sealed_in (get t.files f) ≡ true
  same : blocks_in (get t.files f) ≡ blocks

open_file : (x : Option TreeFile) (on : TreeFile → TreeReply) (v : StepValue) → Ok v ≡ finding x NoFile (λ f. unless f.sealed Sealed (on f))
    → file_sealed_in x ≡ false
open_file None on v e = grind arith
open_file (Some f) on v e = grind arith

file_stood : (x : Option TreeFile) → file_sealed_in x ≡ true → is_some x ≡ true
file_stood None is = grind arith
file_stood (Some f) is = refl

module _ (t : Tree) (made : TreeMade t) (f : FileId) (blocks : List TreeBlock) (h : IsSealedFile t f blocks) where
  file_changed : (op : OpId) (s : TreeStep) (v : StepValue) → Ok v ≡ tree_reply t op s → IsSealedFile (tree_change t op s) f blocks
  file_changed op (step.Check e) v is = h
  file_changed op (step.Look k) v is = h
  file_changed op (step.List e) v is = h
  file_changed op (step.MakeDir e p) v is = record { sealed = h.sealed; same = h.same }
  file_changed op (step.MakeFile g token) v is = record {
    sealed = grind (arith, maps, h.sealed, made.files f (file_stood (get t.files f) h.sealed));
    same = grind (arith, maps, h.same, made.files f (file_stood (get t.files f) h.sealed));
  }
  file_changed op (step.Bind k n o) v is = record { sealed = h.sealed; same = h.same }
  file_changed op (step.Swap e from to n) v is = record { sealed = h.sealed; same = h.same }
  file_changed op (step.Unbind k w) v is = record { sealed = h.sealed; same = h.same }
  file_changed op (step.GrantDir e) v is = h
  file_changed op (step.GrantFile g) v is = h
  file_changed op (step.Open g token) v is = record {
    sealed = grind (arith, maps, h.sealed, open_file (get t.files g) _ v is);
    same = grind (arith, maps, h.sealed, h.same, open_file (get t.files g) _ v is);
  }
  file_changed op (step.Attach g token b bytes) v is = record {
    sealed = grind (arith, maps, h.sealed, open_file (get t.files g) _ v is);
    same = grind (arith, maps, h.sealed, h.same, open_file (get t.files g) _ v is);
  }
  file_changed op (step.Blocks g) v is = h
  file_changed op (step.Read g n) v is = h
  file_changed op (step.SealDir e) v is = record { sealed = h.sealed; same = h.same }
  file_changed op (step.SealFile g) v is = record { sealed = grind (arith, maps, h.sealed); same = grind (arith, maps, h.same) }

  file_next : (op : OpId) (s : TreeStep) (x : TreeReply) → Allowed t op s x → IsSealedFile (tree_next t op s x) f blocks
  file_next op s (Ok v) is = file_changed op s v is
  file_next op s (Refused why) is = h

file_after : (t : Tree) (made : TreeMade t) (f : FileId) (blocks : List TreeBlock) (ss : List Told) → IsTreeRun t ss → IsSealedFile t f blocks
    → IsSealedFile (tree_after t ss) f blocks
file_after t made f blocks [] run h = h
file_after t made f blocks (s ∷ ss) run h =
    file_after (tree_next t s.op s.does s.says) (next_made t s.op s.does s.says made) f blocks ss run.1
    (file_next t made f blocks h s.op s.does s.says run.0)

-- ---- from the step that showed it on

made_after : (t : Tree) (ss : List Told) → TreeMade t → TreeMade (tree_after t ss)
made_after t [] made = made
made_after t (s ∷ ss) made = made_after (tree_next t s.op s.does s.says) ss (next_made t s.op s.does s.says made)

-- what a listing of a sealed directory says, and the other way round
shown_dir : (x : Option TreeDir) (all items : List Listed)
    → Ok (shown.Entries true items) ≡ finding x NoDir (λ d. Ok (shown.Entries d.sealed all)) → (dir_sealed_in x ≡ true) × (all ≡ items)
shown_dir None all items e = absurd (grind arith)
shown_dir (Some d) all items e = (grind arith, grind arith)

shows_dir : (x : Option TreeDir) (all items : List Listed) → dir_sealed_in x ≡ true → all ≡ items
    → finding x NoDir (λ d. Ok (shown.Entries d.sealed all)) ≡ Ok (shown.Entries true items)
shows_dir None all items is same = absurd (grind arith)
shows_dir (Some d) all items is same = rw (is, same) refl

dirs_stay : (steps : List Told) → IsTreeRun opening_tree steps → SealedDirsStay steps
dirs_stay steps run before later op other d items is =
    let t : Tree = tree_after opening_tree before in
    let s : Told = record { op = op; does = step.List d; says = Ok (shown.Entries true items) } in
    let rest : IsTreeRun t (s ∷ later) = tree_run-rest opening_tree before (s ∷ later) (subst (IsTreeRun opening_tree) is run) in
    let told : (dir_sealed_in (get t.dirs d) ≡ true) × (map as_listed (entries (within t.entries d)) ≡ items) =
    shown_dir (get t.dirs d) (map as_listed (entries (within t.entries d))) items rest.0 in
    let end : IsSealedDir (tree_after t later) d items =
    dir_after t (made_after opening_tree before opening_made) d items later rest.1 record { sealed = told.0; lists = told.1 } in
    ap (λ (u : Tree). list_reply u d) (ap (tree_after opening_tree) is ∙ tree_after-append opening_tree before (s ∷ later))
    ∙ shows_dir (get (tree_after t later).dirs d) (map as_listed (entries (within (tree_after t later).entries d))) items end.sealed end.lists

shown_file : (x : Option TreeFile) (rows : List RowPart)
    → Ok (shown.Blocks true rows) ≡ finding x NoFile (λ f. Ok (shown.Blocks f.sealed (map block_part f.blocks)))
    → (file_sealed_in x ≡ true) × (map block_part (blocks_in x) ≡ rows)
shown_file None rows e = absurd (grind arith)
shown_file (Some f) rows e = (grind arith, grind arith)

shows_file : (x : Option TreeFile) (rows : List RowPart) → file_sealed_in x ≡ true → map block_part (blocks_in x) ≡ rows
    → finding x NoFile (λ f. Ok (shown.Blocks f.sealed (map block_part f.blocks))) ≡ Ok (shown.Blocks true rows)
shows_file None rows is same = absurd (grind arith)
shows_file (Some f) rows is same = rw (is, same) refl

abbrev reading : Option TreeFile → ℕ → TreeReply
reading x n =
    finding x NoFile (λ f.
    unless (nat_lt (length f.blocks) n) NoFile
    (Ok (shown.Bytes (flat_map (λ b. b.bytes) (take n f.blocks)))))

-- files with the same blocks read the same
reads_same : (x y : Option TreeFile) (n : ℕ) → file_sealed_in x ≡ true → file_sealed_in y ≡ true → blocks_in x ≡ blocks_in y
    → reading x n ≡ reading y n
reads_same None y n is and same = absurd (grind arith)
reads_same (Some f) None n is and same = absurd (grind arith)
reads_same (Some f) (Some g) n is and same = rw same refl

files_stay : (steps : List Told) → IsTreeRun opening_tree steps → SealedFilesStay steps
files_stay steps run before later op other f rows is =
    let t : Tree = tree_after opening_tree before in
    let s : Told = record { op = op; does = step.Blocks f; says = Ok (shown.Blocks true rows) } in
    let rest : IsTreeRun t (s ∷ later) = tree_run-rest opening_tree before (s ∷ later) (subst (IsTreeRun opening_tree) is run) in
    let told : (file_sealed_in (get t.files f) ≡ true) × (map block_part (blocks_in (get t.files f)) ≡ rows) =
    shown_file (get t.files f) rows rest.0 in
    let end : IsSealedFile (tree_after t later) f (blocks_in (get t.files f)) =
    file_after t (made_after opening_tree before opening_made) f (blocks_in (get t.files f)) later rest.1
    record { sealed = told.0; same = refl } in
    let all : tree_after opening_tree steps ≡ tree_after t later =
    ap (tree_after opening_tree) is ∙ tree_after-append opening_tree before (s ∷ later) in (
      ap (λ (u : Tree). blocks_reply u f) all
          ∙ shows_file (get (tree_after t later).files f) rows end.sealed (ap (map block_part) end.same ∙ told.1),
      λ n. ap (λ (u : Tree). read_reply u f n) all
          ∙ reads_same (get (tree_after t later).files f) (get t.files f) n end.sealed told.0 end.same,
    )

pub objects_stay : (counts : Counts) (events : List Event) → IsWorldRun programs counts events → SealedObjectsStay events
objects_stay counts events run =
    let tree : IsTreeRun opening_tree (tree_steps events) = (run_headline counts events run).tree in
    record { dirs = dirs_stay (tree_steps events) tree; files = files_stay (tree_steps events) tree }
