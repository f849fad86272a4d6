-- What is owed of programs so that each of their answers is explained by the history before it, and that it is so in all their runs.
use Rattle.std.specs.Prelude.{◌≡◌, ℕ, Bool, true, false, Option, Some, None, is_some, List, [], ◌∷◌, ◌++◌}
use Rattle.std.specs.FinMap.{get}
use Rattle.tect_ids.specs.declared.ids.BlkId.{BlkId}
use Rattle.tect_ids.specs.declared.ids.Counts.{Counts}
use Rattle.tect_ids.specs.declared.ids.OpId.{OpId}
use Rattle.tect_ids.specs.declared.key.ChunkKey.{ChunkKey}
use Rattle.tect_ids.specs.declared.values.RowPart.{RowPart}
use Rattle.tect_ids.specs.declared.command.Command.{Command}
use Rattle.tect_ids.specs.declared.answer.Answer.{Answer}
use Rattle.tect_ids.specs.Keys.{op_eq}
use Rattle.store_rules.specs.declared.any.AnyReq.{AnyReq}
use Rattle.store_rules.specs.declared.any.AnyReply.{AnyReply}
use Rattle.store_rules.specs.Store.{opening_store, store_reply}
use Rattle.store_rules.specs.Views.{is_made}
use Rattle.store_pasts.specs.Requests.{makes}
use Rattle.program_laws.specs.Known.{Deciding}
use Rattle.tree_model.specs.Tree.{Tree, opening_tree}
use Rattle.program_forms.specs.declared.heard.Heard.{Heard}
use Rattle.program_forms.specs.declared.standing.Standing.TheVariants.{Goes}
use Rattle.program_forms.specs.Memories.{Memory}
use Rattle.program_forms.specs.Kinds.{Asks, Says, Programs, turned, next_does, state_heard}
use Rattle.world_runs.specs.declared.event.Event.{Event}
use Rattle.world_runs.specs.declared.event.Event.TheVariants.{Own, Dumped}
use Rattle.world_runs.specs.declared.event.Happening.TheVariants.{Began, Acted}
use Rattle.world_runs.specs.Moments.{IsWorldRun, moment}
use Rattle.world_runs.specs.OwnRuns.{stored_after}
use Rattle.claim_words.specs.Commands.{makes_block, maker_of, content_of, content_in}
use Rattle.claim_words.specs.Opened.{opens_of, opened_in}
use Rattle.claim_words.specs.TreeSteps.{told_of, tree_steps, tree_after, IsTreeRun}
use Rattle.claim_words.specs.Points.{of_op}
use Rattle.claim_words.specs.Headline.{HeadlineBy, command_of}
use Rattle.telling_laws.specs.View.{Shows, AllKnown, MakesNew, attaches}

-- the event is of that op
abbrev pub is_of : OpId → Event → Bool
is_of op (Own other h) = op_eq other op
is_of op Dumped = false

-- the tree that the steps of a history made
abbrev pub tree_of : List Event → Tree
tree_of h = tree_after opening_tree (tree_steps h)

-- What is asked after that history is fresh: the tree has not made what it is to make, and the store says that it is made; what it attaches
-- has its content, and so has each chunk that stands; and a block that it makes, no op has made.
pub record IsFresh (h : List Event) (q : AnyReq) : Type 0 where
  pub new : MakesNew (content_in h) (tree_of h).made q
  pub made : makes q ≡ true → is_made (store_reply (stored_after opening_store h) q) ≡ true
  pub known : (p : RowPart) → attaches q ≡ Some p → is_some (content_of h p.blk) ≡ true
  pub chunks : (c : ChunkKey) (bytes : List ℕ) → get (stored_after opening_store h).chunks c ≡ Some bytes → content_of h c.blk ≡ Some bytes
  pub unmade : (b : BlkId) → makes_block q b ≡ true → maker_of h b ≡ None

-- What is asked after that history is fresh, and the store shows the tree then, the content of each row's block known: what the store
-- replies, the tree says.
pub record IsSeen (h : List Event) (q : AnyReq) : Type 0 where
  pub fresh : IsFresh h q
  pub shows : Shows (stored_after opening_store h) (content_in h) (tree_of h)
  pub known : AllKnown h (stored_after opening_store h)

-- at each moment of each run, what a running command asks next is fresh
abbrev pub RunsAskFresh : {S : Type 0} → Programs S → Type 0
RunsAskFresh {S = S} P = (counts : Counts) (es : List Event) → IsWorldRun P counts es → (a : ℕ) (op : OpId) (s : S) (q : AnyReq)
    → ((moment P counts es).actors a).running ≡ Some record { op = op; at = Goes s }
    → next_does P.kind counts ((moment P counts es).actors a).memory op s ≡ Asks q → IsFresh es q

-- in each run the tree allows what was said to each of its steps
abbrev pub RunsFollowTree : {S : Type 0} → Programs S → Type 0
RunsFollowTree P = (counts : Counts) (es : List Event) → IsWorldRun P counts es → IsTreeRun opening_tree (tree_steps es)

-- How commands with states S come to their answers: what the history tells of the command before its answer is decided, and what explains
-- an answer.
pub record Telling (S : Type 0) : Type 1 where
  pub Before : List Event → OpId → Command → S → Type 0
  pub because : List Event → OpId → Command → Answer → Type 0

abbrev pub OfDecided : Type 0 → (Answer → Type 0) → Option Answer → Type 0
OfDecided A B None = A
OfDecided A B (Some a) = B a

-- what the history tells of a command in its state: what is so before its answer is decided, or what explains the answer
abbrev pub Tells : {S : Type 0} → Deciding S Answer → Telling S → List Event → OpId → Command → S → Type 0
Tells D T h op c s = OfDecided (T.Before h op c s) (T.because h op c) (D.decided s)

-- What is owed of programs, in a world of so many shards.
pub record TellingLaws {S : Type 0} (counts : Counts) (P : Programs S) (D : Deciding S Answer) (T : Telling S) : Type 0 where
  -- as a served command begins, its op has begun no other and taken no step, and its actor knows which files it opened
  pub begins : (h : List Event) (op : OpId) (c : Command) (m : Memory) → P.serves c ≡ true → command_of h op ≡ None
      → of_op op (tree_steps h) ≡ [] → m.opened ≡ opened_in h op.actor → Tells D T (h ++ Own op (Began c) ∷ []) op c (P.starts counts m c)
  -- by its look-ups in its actor's memory it goes on, or finds its answer
  pub turns : (h : List Event) (op : OpId) (c : Command) (m : Memory) (s : S) → T.Before h op c s → D.decided s ≡ None
      → Tells D T h op c (turned P.kind counts m op s).state
  -- at the store's reply to its request, which the tree allows, if it is a step
  pub hears : (h : List Event) (op : OpId) (c : Command) (m : Memory) (s : S) (q : AnyReq) (x : AnyReply) (how : Heard)
      → IsSeen h q → next_does P.kind counts m op s ≡ Asks q → x ≡ store_reply (stored_after opening_store h) q
      → T.Before h op c (turned P.kind counts m op s).state → D.decided (turned P.kind counts m op s).state ≡ None
      → IsTreeRun (tree_of h) (told_of h (Own op (Acted q x how)))
      → Tells D T (h ++ Own op (Acted q x how) ∷ []) op c (state_heard P.kind counts m op s q x)
  -- other ops' events change nothing of it
  pub stays : (h : List Event) (e : Event) (op : OpId) (c : Command) (s : S) → is_of op e ≡ false → T.Before h op c s
      → T.Before (h ++ e ∷ []) op c s
  -- what explains an answer explains it later too
  pub lasts : (h es : List Event) (op : OpId) (c : Command) (a : Answer) → T.because h op c a → T.because (h ++ es) op c a
  -- once decided an answer stays so
  pub turned_so : (m : Memory) (op : OpId) (s : S) (a : Answer) → D.decided s ≡ Some a
      → D.decided (turned P.kind counts m op s).state ≡ Some a
  pub heard_so : (m : Memory) (op : OpId) (s : S) (q : AnyReq) (x : AnyReply) (a : Answer)
      → D.decided (turned P.kind counts m op s).state ≡ Some a → D.decided (state_heard P.kind counts m op s q x) ≡ Some a
  -- what is said was decided
  pub says : (m : Memory) (op : OpId) (s : S) (a : Answer) → next_does P.kind counts m op s ≡ Says a
      → D.decided (turned P.kind counts m op s).state ≡ Some a
  -- of its replies its actor keeps just what it opened
  pub learns : (h : List Event) (op : OpId) (c : Command) (m : Memory) (s : S) (q : AnyReq) (x : AnyReply)
      → next_does P.kind counts m op s ≡ Asks q → Tells D T h op c (turned P.kind counts m op s).state
      → P.kind.learns op (turned P.kind counts m op s).state q x ≡ opens_of (Some c) q x
  -- its look-ups leave what it opened
  pub opened : (m : Memory) (op : OpId) (s : S) → (turned P.kind counts m op s).memory.opened ≡ m.opened

-- in each run each answer is explained by the history before it
abbrev pub RunsAreExplained : {S : Type 0} → Counts → Programs S → Telling S → Type 0
RunsAreExplained counts P T = (es : List Event) → IsWorldRun P counts es → HeadlineBy T.because es

-- at each moment of each run each actor knows which files it opened
abbrev pub RunsRemember : {S : Type 0} → Counts → Programs S → Type 0
RunsRemember counts P = (es : List Event) → IsWorldRun P counts es → (a : ℕ)
    → ((moment P counts es).actors a).memory.opened ≡ opened_in es a
