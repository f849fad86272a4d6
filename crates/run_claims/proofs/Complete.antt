-- a command that met no bar has succeeded
use Rattle.std.proofs.Common.{◌≡◌, ◌≢◌, ℕ, zero, suc, ◌⊎◌, inl, inr, true, false, if◌then◌else◌, Bool, Some, None, List, [], ◌∷◌, ◌++◌}
use Rattle.std.proofs.Common.{take, refl, sym, ap, ◌∙◌, subst, arith}
use Rattle.std.proofs.Common.{append_assoc}
use Rattle.std.proofs.lemmas.List.{append-nil}
use Rattle.std.specs.List.{slice_get, AllByRecursion}
use Rattle.tect_ids.specs.declared.ids.Counts.{Counts}
use Rattle.tect_ids.specs.declared.ids.BlkId.{BlkId}
use Rattle.tect_ids.specs.declared.ids.DirId.{DirId}
use Rattle.tect_ids.specs.declared.ids.Node.TheVariants.{Dir, File}
use Rattle.tect_ids.specs.declared.ids.OpId.{OpId}
use Rattle.tect_ids.specs.declared.key.Key.{Key}
use Rattle.tect_ids.specs.declared.values.Over.TheVariants as over
use Rattle.tect_ids.specs.declared.values.Want.TheVariants.{AnyFile}
use Rattle.tect_ids.specs.declared.command.Command.{Command}
use Rattle.tect_ids.specs.declared.command.Command.TheVariants as commands
use Rattle.tect_ids.specs.declared.answer.Answer.{Answer}
use Rattle.tect_ids.specs.declared.answer.Answer.TheVariants as answers
use Rattle.tect_ids.specs.Keys.{op_eq}
use Rattle.tect_ids.proofs.KeyTests.{op_eq_cases}
use Rattle.store_rules.specs.Names.{key_in}
use Rattle.tree_model.specs.declared.step.TreeStep.{TreeStep}
use Rattle.tree_model.specs.declared.step.TreeStep.TheVariants as step
use Rattle.tree_model.specs.declared.step.StepValue.{StepValue}
use Rattle.tree_model.specs.declared.step.StepValue.TheVariants as shown
use Rattle.tree_model.specs.declared.step.TreeReply.{TreeReply}
use Rattle.tree_model.specs.declared.step.TreeReply.TheVariants.{Ok}
use Rattle.program_forms.specs.Lacks.{IsLack}
use Rattle.tect_ids.specs.Numbers.{root}
use Rattle.program_rules.specs.Served.{Program, programs}
use Rattle.world_runs.specs.declared.event.Event.{Event}
use Rattle.world_runs.specs.declared.event.Event.TheVariants.{Own}
use Rattle.world_runs.specs.declared.event.Happening.TheVariants.{Failed}
use Rattle.world_runs.specs.Actors.{Actor}
use Rattle.world_runs.specs.Limits.{IsFull, EndsFull, KeepsRoom, actor_in, KeepsLimitsAfter, KeepsLimits}
use Rattle.world_runs.specs.Moments.{WorldState, May, IsWorldRun, moment, opening}
use Rattle.world_runs.specs.Refusals.{was_refused}
use Rattle.whole_runs.proofs.Fronts.{may_at}
use Rattle.claim_words.specs.Points.{way, of_op, Walked, StopsWalk, Finds, Lists, LookDecides, ListDecides, CreateDecides}
use Rattle.claim_words.specs.TreeSteps.{Told, tree_steps}
use Rattle.claim_words.specs.Points as looks
use Rattle.claim_words.specs.Points.{OpenDecides, AppendDecides, BlocksDecides, ReadDecides, ListsBlocks, Attaches, file_key}
use Rattle.claim_words.specs.Points.{MkdirDecides, DeleteDecides, RenameDecides, SealDecides, Decides, DecidesAt, Point, LacksName}
use Rattle.claim_words.specs.Because.{because}
use Rattle.claim_words.specs.FilesBecause.{files_because}
use Rattle.claim_words.specs.Headline.{command_of, Explains, HadNoRoom, Headline}
use Rattle.telling_laws.proofs.Histories.{of_op-append}
use Rattle.run_claims.specs.Complete.{Succeeds, WentWell, IsNoFile, FindsNoFile, IsNoDir, SawNoDir, LedToFile, LacksFile}
use Rattle.run_claims.specs.Complete.{MeetsNoBar, IsComplete}

-- ---- what decides with a reply that refuses nothing

succeeds_as : (a b : Answer) → a ≡ b → Succeeds b → Succeeds a
succeeds_as a b e s = rw e s

finds_well : (k : Key) (v : StepValue) (a : Answer) → Finds k (Ok v) a → Succeeds a
finds_well k (shown.Node n) a h = succeeds_as a (answers.Found n) h tt
finds_well k shown.Done a h = absurd h
finds_well k (shown.Parent p sealed) a h = absurd h
finds_well k (shown.Entries sealed items) a h = absurd h
finds_well k (shown.Attached i) a h = absurd h
finds_well k (shown.Blocks sealed rows) a h = absurd h
finds_well k (shown.Bytes bytes) a h = absurd h

lists_well : (k : Key) (v : StepValue) (a : Answer) → Lists k (Ok v) a → Succeeds a
lists_well k (shown.Entries sealed items) a h = succeeds_as a (answers.Entries items) h tt
lists_well k shown.Done a h = absurd h
lists_well k (shown.Parent p sealed) a h = absurd h
lists_well k (shown.Node n) a h = absurd h
lists_well k (shown.Attached i) a h = absurd h
lists_well k (shown.Blocks sealed rows) a h = absurd h
lists_well k (shown.Bytes bytes) a h = absurd h

-- a look on the way ends a command only where it is refused or finds a file
stops_not : (k : Key) (v : StepValue) (a : Answer) → IsNoFile (Ok v) → StopsWalk k (Ok v) a → ⊥
stops_not k (shown.Node (File f)) a clear h = clear
stops_not k (shown.Node (Dir d)) a clear h = h
stops_not k shown.Done a clear h = h
stops_not k (shown.Parent p sealed) a clear h = h
stops_not k (shown.Entries sealed items) a clear h = h
stops_not k (shown.Attached i) a clear h = h
stops_not k (shown.Blocks sealed rows) a clear h = h
stops_not k (shown.Bytes bytes) a clear h = h

look_well : (d : DirId) (p : List (List ℕ)) (s : TreeStep) (v : StepValue) (a : Answer) → LookDecides d p s (Ok v) a → Succeeds a
look_well d [] (step.Check e) v a h = succeeds_as a (answers.Found (Dir d)) h.1 tt
look_well d (n ∷ ns) (step.Look k) v a h = finds_well k v a h.1
look_well d p s v a h = absurd h

list_well : (d : DirId) (s : TreeStep) (v : StepValue) (a : Answer) → ListDecides d s (Ok v) a → Succeeds a
list_well d (step.List e) v a h = lists_well (key_in d []) v a h.1
list_well d s v a h = absurd h

create_well : (d : DirId) (p : List (List ℕ)) (s : TreeStep) (v : StepValue) (a : Answer) → CreateDecides d p s (Ok v) a → Succeeds a
create_well d p (step.Bind k (File f) over.File) v a h = succeeds_as a (answers.Found (File f)) h.1 tt
create_well d p s v a h = absurd h

mkdir_well : (d : DirId) (p : List (List ℕ)) (s : TreeStep) (v : StepValue) (a : Answer) → MkdirDecides d p s (Ok v) a → Succeeds a
mkdir_well d p (step.Bind k (Dir x) over.Absent) v a h = succeeds_as a (answers.Found (Dir x)) h.1 tt
mkdir_well d p s v a h = absurd h

delete_well : (d : DirId) (p : List (List ℕ)) (s : TreeStep) (v : StepValue) (a : Answer) → DeleteDecides d p s (Ok v) a → Succeeds a
delete_well d p (step.Unbind k AnyFile) v a h = succeeds_as a answers.Done h.1 tt
delete_well d p s v a h = absurd h

rename_well : (own : List Told) (d : DirId) (p : List (List ℕ)) (to : List ℕ) (s : TreeStep) (v : StepValue) (a : Answer)
    → RenameDecides own d p to s (Ok v) a → Succeeds a
rename_well own d p to (step.Look k) v a h = succeeds_as a answers.Done (h.1).1 tt
rename_well own d p to (step.GrantDir x) v a h = absurd h.1
rename_well own d p to (step.GrantFile f) v a h = absurd h.1
rename_well own d p to (step.Swap e old new n) v a h = succeeds_as a answers.Done h.4 tt
rename_well own d p to s v a h = absurd h

-- a look for a file ends a command only where it is refused or finds a directory
no_file_not : (k : Key) (v : StepValue) (a : Answer) → ((d : DirId) → Ok v ≢ Ok (shown.Node (Dir d))) → looks.FindsNoFile k (Ok v) a → ⊥
no_file_not k (shown.Node (Dir d)) a clear h = clear d refl
no_file_not k (shown.Node (File f)) a clear h = h
no_file_not k shown.Done a clear h = h
no_file_not k (shown.Parent p sealed) a clear h = h
no_file_not k (shown.Entries sealed items) a clear h = h
no_file_not k (shown.Attached i) a clear h = h
no_file_not k (shown.Blocks sealed rows) a clear h = h
no_file_not k (shown.Bytes bytes) a clear h = h

blocks_listed_well : (k : Key) (v : StepValue) (a : Answer) → ListsBlocks k (Ok v) a → Succeeds a
blocks_listed_well k (shown.Blocks sealed rows) a h = succeeds_as a (answers.Blocks rows) h tt
blocks_listed_well k shown.Done a h = absurd h
blocks_listed_well k (shown.Parent p sealed) a h = absurd h
blocks_listed_well k (shown.Node n) a h = absurd h
blocks_listed_well k (shown.Entries sealed items) a h = absurd h
blocks_listed_well k (shown.Attached i) a h = absurd h
blocks_listed_well k (shown.Bytes bytes) a h = absurd h

attaches_well : (k : Key) (b : BlkId) (v : StepValue) (a : Answer) → Attaches k b (Ok v) a → Succeeds a
attaches_well k b (shown.Attached i) a h = succeeds_as a (answers.Appended b i) h tt
attaches_well k b shown.Done a h = absurd h
attaches_well k b (shown.Parent p sealed) a h = absurd h
attaches_well k b (shown.Node n) a h = absurd h
attaches_well k b (shown.Entries sealed items) a h = absurd h
attaches_well k b (shown.Blocks sealed rows) a h = absurd h
attaches_well k b (shown.Bytes bytes) a h = absurd h

-- the reply shows no directory
abbrev ShowsNoDir : StepValue → Type 0
ShowsNoDir v = (d : DirId) → Ok v ≢ Ok (shown.Node (Dir d))

open_well : (own : List Told) (d : DirId) (p : List (List ℕ)) (s : TreeStep) (v : StepValue) (a : Answer) → ShowsNoDir v
    → OpenDecides own d p s (Ok v) a → Succeeds a
open_well own d p (step.Look k) v a clear h = absurd (no_file_not k v a clear h.1)
open_well own d p (step.Open f token) v a clear h = succeeds_as a (answers.Opened f token) h.1 tt
open_well own d p s v a clear h = absurd h

blocks_well : (own : List Told) (d : DirId) (p : List (List ℕ)) (s : TreeStep) (v : StepValue) (a : Answer) → ShowsNoDir v
    → BlocksDecides own d p s (Ok v) a → Succeeds a
blocks_well own d p (step.Look k) v a clear h = absurd (no_file_not k v a clear h.1)
blocks_well own d p (step.Blocks f) v a clear h = blocks_listed_well (file_key f) v a h.1
blocks_well own d p s v a clear h = absurd h

read_well : (own : List Told) (d : DirId) (p : List (List ℕ)) (s : TreeStep) (v : StepValue) (a : Answer) → ShowsNoDir v
    → ReadDecides own d p s (Ok v) a → Succeeds a
read_well own d p (step.Look k) v a clear h = absurd (no_file_not k v a clear h.1)
read_well own d p (step.Blocks f) v a clear h = absurd h.1
read_well own d p s v a clear h = absurd h

append_well : (bytes : List ℕ) (s : TreeStep) (v : StepValue) (a : Answer) → AppendDecides bytes s (Ok v) a → Succeeds a
append_well bytes (step.Attach f token b content) v a h = attaches_well (file_key f) b v a h.1
append_well bytes s v a h = absurd h

seal_well : (own : List Told) (d : DirId) (p : List (List ℕ)) (s : TreeStep) (v : StepValue) (a : Answer) → SealDecides own d p s (Ok v) a
    → Succeeds a
seal_well own d [] (step.SealDir e) v a h = succeeds_as a answers.Done h.1 tt
seal_well own d (n ∷ ns) (step.Look k) v a h = absurd h.1
seal_well own d (n ∷ ns) (step.SealDir e) v a h = succeeds_as a answers.Done h.1 tt
seal_well own d (n ∷ ns) (step.SealFile f) v a h = succeeds_as a answers.Done h.1 tt
seal_well own d p s v a h = absurd h

-- where it leads to a file, what it was shown is no directory
abbrev NoDirShown : Command → StepValue → Type 0
NoDirShown (commands.Open p) v = ShowsNoDir v
NoDirShown (commands.Blocks p) v = ShowsNoDir v
NoDirShown (commands.Read p) v = ShowsNoDir v
NoDirShown c v = Unit {0}

decides_well : (c : Command) (own : List Told) (d : DirId) (s : TreeStep) (v : StepValue) (a : Answer) → NoDirShown c v
    → Decides c own d s (Ok v) a → Succeeds a
decides_well (commands.Look p) own d s v a clear h = look_well d p s v a h
decides_well (commands.List p) own d s v a clear h = list_well d s v a h
decides_well (commands.Create p) own d s v a clear h = create_well d p s v a h
decides_well (commands.Mkdir p) own d s v a clear h = mkdir_well d p s v a h
decides_well (commands.Delete p) own d s v a clear h = delete_well d p s v a h
decides_well (commands.Rename p to) own d s v a clear h = rename_well own d p _ s v a h
decides_well (commands.Open p) own d s v a clear h = open_well own d p s v a clear h
decides_well (commands.Append p bytes) own d s v a clear h = append_well bytes s v a h
decides_well (commands.Blocks p) own d s v a clear h = blocks_well own d p s v a clear h
decides_well (commands.Read p) own d s v a clear h = read_well own d p s v a clear h
decides_well (commands.Seal p) own d s v a clear h = seal_well own d p s v a h
decides_well _ own d s v a clear h = absurd h

-- ---- the point among the op's own steps

-- behind the steps that led there, with names left, comes a look on the way
on_way : (d : DirId) (names : List (List ℕ)) (own : List Told) (e : DirId) (n : List ℕ) (left : List (List ℕ)) (s : Told) (more : List Told)
    → Walked d names own e (n ∷ left) → FindsNoFile names (own ++ s ∷ more) → IsNoFile s.says
on_way d [] [] e n left s more w clear = absurd (let k : [] ≡ n ∷ left = w.1 in cc)
on_way d (m ∷ ms) [] e n left s more w clear = clear.0
on_way d [] (o ∷ os) e n left s more w clear = absurd (nothing_left d os w)
  where
    nothing_left : (d : DirId) (own : List Told) → Walked d [] own e (n ∷ left) → ⊥
    nothing_left d [] w = let k : [] ≡ n ∷ left = w.1 in cc
    nothing_left d (o ∷ os) w = nothing_left d os w
on_way d (m ∷ ms) (o ∷ os) e n left s more w clear = on_way w.0 ms os e n left s more w.3 clear.1

-- behind the steps that led there, with no name left, comes a step that showed no directory
behind_way : (d : DirId) (names : List (List ℕ)) (own : List Told) (e : DirId) (s : Told) (more : List Told) → Walked d names own e []
    → SawNoDir names (own ++ s ∷ more) → IsNoDir s
behind_way d [] [] e s more w clear = clear.0
behind_way d [] (o ∷ os) e s more w clear = behind_way d [] os e s more w clear.1
behind_way d (m ∷ ms) [] e s more w clear = absurd (let k : m ∷ ms ≡ [] = w.1 in cc)
behind_way d (m ∷ ms) (o ∷ os) e s more w clear = behind_way w.0 ms os e s more w.3 clear

no_dir_shown : (c : Command) (own more : List Told) (d : DirId) (s : Told) (v : StepValue) → s.says ≡ Ok v → Walked root (way c) own d []
    → LedToFile c (own ++ s ∷ more) → NoDirShown c v
no_dir_shown (commands.Open p) own more d s v e w to = λ x is. behind_way root (way (commands.Open p)) own d s more w to x (e ∙ is)
no_dir_shown (commands.Blocks p) own more d s v e w to = λ x is. behind_way root (way (commands.Blocks p)) own d s more w to x (e ∙ is)
no_dir_shown (commands.Read p) own more d s v e w to = λ x is. behind_way root (way (commands.Read p)) own d s more w to x (e ∙ is)
no_dir_shown c own more d s v e w to = tt

-- one of them went well as all of them
one_well : (own more : List Told) (s : Told) → AllByRecursion WentWell (own ++ s ∷ more) → WentWell s
one_well [] more s all = all.0
one_well (o ∷ os) more s all = one_well os more s all.1

-- an op's own step among its own
own_first : (op : OpId) (s : Told) (more : List Told) → s.op ≡ op → of_op op (s ∷ more) ≡ s ∷ of_op op more
own_first op s more own =
    let same : op_eq s.op op ≡ true = grind (arith, own, op_eq_cases s.op op) in
    ap (λ (b : Bool). if b then s ∷ of_op op more else of_op op more) same

decided_well : (c : Command) (own more : List Told) (d : DirId) (left : List (List ℕ)) (s : Told) (v : StepValue) (a : Answer)
    → s.says ≡ Ok v → Walked root (way c) own d left → FindsNoFile (way c) (own ++ s ∷ more) → LedToFile c (own ++ s ∷ more)
    → DecidesAt c own d left s.does s.says a → Succeeds a
decided_well c own more d (n ∷ ns) s v a e w clear to h =
    let k : Key = key_in d n in
    let stops : StopsWalk k (Ok v) a = subst (λ (r : TreeReply). StopsWalk k r a) e h.1 in
    absurd (stops_not k v a (subst (λ (r : TreeReply). IsNoFile r) e (on_way root (way c) own d n ns s more w clear)) stops)
decided_well c own more d [] s v a e w clear to h =
    decides_well c own d s.does v a (no_dir_shown c own more d s v e w to) (subst (λ (r : TreeReply). Decides c own d s.does r a) e h)

point_succeeds : (counts : Counts) (history : List Event) (steps : List Told) (op : OpId) (c : Command) (a : Answer) → Point steps op c a
    → MeetsNoBar counts history op c (of_op op steps) → Succeeds a
point_succeeds counts history steps op c a p meets =
    let own : List Told = of_op op p.before in
    let more : List Told = of_op op p.later in
    let all : of_op op steps ≡ own ++ p.point ∷ more =
    ap (of_op op) p.there ∙ of_op-append op p.before (p.point ∷ p.later)
    ∙ ap (λ (l : List Told). own ++ l) (own_first op p.point p.later p.own) in
    let well : WentWell p.point = one_well own more p.point (subst (λ (l : List Told). AllByRecursion WentWell l) all meets.allowed) in
    decided_well c own more p.dir p.left p.point well.0 a well.1 p.walked
    (subst (λ (l : List Told). FindsNoFile (way c) l) all meets.led)
    (subst (λ (l : List Told). LedToFile c l) all meets.to_file) p.decides

-- ---- an op that ended

-- what lacked nothing was not refused for that, and a read's bytes are its success
able_succeeds : (counts : Counts) (history : List Event) (op : OpId) (c : Command) (a : Answer) → ¬ LacksFile counts history op c
    → files_because counts history op c a → Succeeds a
able_succeeds counts history op (commands.Open p) a able why = absurd (able why.0)
able_succeeds counts history op (commands.Blocks p) a able why = absurd (able why.0)
able_succeeds counts history op (commands.Read p) a able (inl why) = absurd (able why.0)
able_succeeds counts history op (commands.Read p) a able (inr why) = succeeds_as a (answers.Read why.0) why.1 tt
able_succeeds counts history op (commands.Append p bytes) a able (inl why) = absurd (able (inl why.0))
able_succeeds counts history op (commands.Append p bytes) a able (inr why) = absurd (able (inr why.0))
able_succeeds counts history op c a able why = absurd why

module _ (counts : Counts) (history : List Event) (op : OpId) (a : Answer) where
  -- what such a command must come to
  abbrev Succeeded : Command → Type 0
  Succeeded c = MeetsNoBar counts history op c (of_op op (tree_steps history)) → Succeeds a

  because_succeeds : (c : Command) → because counts history op c a → Succeeded c
  because_succeeds c (inl (inl p)) meets = point_succeeds counts history (tree_steps history) op c a p meets
  because_succeeds c (inl (inr lacks)) meets = absurd (meets.named lacks.0)
  because_succeeds c (inr why) meets = able_succeeds counts history op c a meets.able why

  ended_succeeds : Explains counts history op a ⊎ HadNoRoom history op a → was_refused history op ≡ false
      → (c : Command) × (command_of history op ≡ Some c) × Succeeded c
  ended_succeeds (inl x) begun = (x.command, x.begun, because_succeeds x.command x.because)
  ended_succeeds (inr clear) begun = absurd (let k : false ≡ true = sym begun ∙ clear.0 in cc)

-- ---- an op that failed

-- each event keeps the room at its place
room_at : (counts : Counts) (before es : List Event) → KeepsLimitsAfter programs counts before es → (n : ℕ) (e : Event)
    → slice_get es n ≡ Some e
    → KeepsRoom programs counts (before ++ take n es) ((moment programs counts (before ++ take n es)).actors (actor_in e)) e
room_at counts before [] keeps n e at = absurd (let k : None ≡ Some e = at in cc)
room_at counts before (f ∷ es) keeps zero e at =
    let k : Some f ≡ Some e = at in
    let same : f ≡ e = cc in
    subst (λ (b : List Event). KeepsRoom programs counts b ((moment programs counts b).actors (actor_in e)) e) (sym (append-nil before))
    (subst (λ (g : Event). KeepsRoom programs counts before ((moment programs counts before).actors (actor_in g)) g) same keeps.0)
room_at counts before (f ∷ es) keeps (suc n) e at =
    subst (λ (b : List Event). KeepsRoom programs counts b ((moment programs counts b).actors (actor_in e)) e)
    (append_assoc before (f ∷ []) (take n es)) (room_at counts (before ++ f ∷ []) es keeps.1 n e at)

lacks_room : (counts : Counts) (before : List Event) (s : Actor Program) (op : OpId) (a : Answer) → IsLack a
    → EndsFull programs counts before s op a → (a ≡ answers.NoMemory) ⊎ IsFull before op.actor
lacks_room counts before s op answers.NoMemory lack full = inl refl
lacks_room counts before s op (answers.HistoryFull p) lack full = inr full.0
lacks_room counts before s op _ lack full = absurd lack

pub is_complete : (counts : Counts) (history : List Event) → IsWorldRun programs counts history → KeepsLimits programs counts history
    → Headline counts history → IsComplete counts history
is_complete counts history run limits headline = record {
  succeeds = λ place op a at begun. ended_succeeds counts (take place history) op a (headline.answers place op a at) begun;
  fails = λ place op a at.
      let m : WorldState Program = moment programs counts (take place history) in
      let may : May programs m (Own op (Failed a)) = may_at programs (opening counts) history place (Own op (Failed a)) run at in
      lacks_room counts (take place history) (m.actors op.actor) op a (may.0).0 (room_at counts [] history limits place _ at);
}
