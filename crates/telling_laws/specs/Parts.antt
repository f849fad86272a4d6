-- What is owed of a part of a command, so that the history explains the answers of a command made of parts.
use Rattle.std.specs.Prelude.{◌≡◌, false, Some, None, List, [], ◌∷◌, ◌++◌}
use Rattle.tect_ids.specs.declared.ids.Counts.{Counts}
use Rattle.tect_ids.specs.declared.ids.DirId.{DirId}
use Rattle.tect_ids.specs.declared.ids.OpId.{OpId}
use Rattle.tect_ids.specs.declared.command.Command.{Command}
use Rattle.tect_ids.specs.declared.answer.Answer.{Answer}
use Rattle.tect_ids.specs.Numbers.{root}
use Rattle.store_rules.specs.declared.any.AnyReq.{AnyReq}
use Rattle.store_rules.specs.declared.any.AnyReply.{AnyReply}
use Rattle.store_rules.specs.Store.{opening_store, store_reply}
use Rattle.program_forms.specs.declared.heard.Heard.{Heard}
use Rattle.program_forms.specs.Memories.{Memory}
use Rattle.program_parts.specs.declared.next.Next.{Next}
use Rattle.program_parts.specs.declared.next.Next.TheVariants.{Goes, Comes}
use Rattle.program_parts.specs.declared.releasing.Releasing.{Releasing}
use Rattle.program_parts.specs.declared.walking.Walking.{Walking}
use Rattle.program_parts.specs.declared.walking.Walking.TheVariants.{Way, There}
use Rattle.program_parts.specs.Parts.{Part}
use Rattle.program_laws.specs.Known.{Deciding}
use Rattle.part_laws.specs.Parts.{IsTurned, next_decided}
use Rattle.world_runs.specs.declared.event.Event.{Event}
use Rattle.world_runs.specs.declared.event.Event.TheVariants.{Own}
use Rattle.world_runs.specs.declared.event.Happening.TheVariants.{Acted}
use Rattle.world_runs.specs.OwnRuns.{stored_after}
use Rattle.claim_words.specs.Opened.{opens_of}
use Rattle.claim_words.specs.Points.{way, of_op, Walked, Point}
use Rattle.claim_words.specs.TreeSteps.{told_of, tree_steps, IsTreeRun}
use Rattle.telling_laws.specs.Telling.{is_of, tree_of, IsSeen, Telling, Tells}

-- what the history tells where the part goes on, or explains what it has come to
abbrev pub NextTells : {S : Type 0} → Deciding S Answer → Telling S → List Event → OpId → Command → Next S Answer → Type 0
NextTells D T h op c (Goes s) = Tells D T h op c s
NextTells D T h op c (Comes a) = T.because h op c a

-- of a part as a kind of commands; what it has come to is decided, so nothing is told before that
abbrev pub NextBefore : {S : Type 0} → Telling S → List Event → OpId → Command → Next S Answer → Type 0
NextBefore T h op c (Goes s) = T.Before h op c s
NextBefore T h op c (Comes a) = Unit {0}

abbrev pub next_telling : {S : Type 0} → Telling S → Telling (Next S Answer)
next_telling T = record { Before = NextBefore T; because = T.because }

pub record PartTells {S : Type 0} (counts : Counts) (P : Part S Answer) (D : Deciding S Answer) (T : Telling S) : Type 0 where
  pub turns : (h : List Event) (op : OpId) (c : Command) (m : Memory) (s : S) → T.Before h op c s → D.decided s ≡ None
      → NextTells D T h op c (P.turns counts m op s).state
  pub hears : (h : List Event) (op : OpId) (c : Command) (m : Memory) (s : S) (x : AnyReply) (how : Heard)
      → IsSeen h (P.asks counts m op s) → x ≡ store_reply (stored_after opening_store h) (P.asks counts m op s)
      → T.Before h op c s → D.decided s ≡ None → IsTreeRun (tree_of h) (told_of h (Own op (Acted (P.asks counts m op s) x how)))
      → NextTells D T (h ++ Own op (Acted (P.asks counts m op s) x how) ∷ []) op c (P.hears counts m op s (P.asks counts m op s) x)
  pub stays : (h : List Event) (e : Event) (op : OpId) (c : Command) (s : S) → is_of op e ≡ false → T.Before h op c s
      → T.Before (h ++ e ∷ []) op c s
  pub lasts : (h es : List Event) (op : OpId) (c : Command) (a : Answer) → T.because h op c a → T.because (h ++ es) op c a
  -- look-ups decide nothing but what they come to, and once decided an answer stays so
  pub turned : (m : Memory) (op : OpId) (s : S) → IsTurned D (D.decided s) (P.turns counts m op s).state
  pub heard : (m : Memory) (op : OpId) (s : S) (q : AnyReq) (x : AnyReply) (a : Answer) → D.decided s ≡ Some a
      → next_decided D (P.hears counts m op s q x) ≡ Some a
  -- of a reply its actor keeps just what it opened, and nothing once it is decided; its look-ups leave what it opened
  pub learns : (h : List Event) (op : OpId) (c : Command) (m : Memory) (s : S) (x : AnyReply) → T.Before h op c s → D.decided s ≡ None
      → P.learns op s (P.asks counts m op s) x ≡ opens_of (Some c) (P.asks counts m op s) x
  pub learns_none : (op : OpId) (c : Command) (m : Memory) (s : S) (x : AnyReply) (a : Answer) → D.decided s ≡ Some a
      → P.learns op s (P.asks counts m op s) x ≡ opens_of (Some c) (P.asks counts m op s) x
  pub opened : (m : Memory) (op : OpId) (s : S) → (P.turns counts m op s).memory.opened ≡ m.opened

-- ---- a walk before an operation that fits the command

abbrev pub WalkBefore : {O S : Type 0} → (Command → O → Type 0) → Telling S → List Event → OpId → Command → Walking O S → Type 0
WalkBefore fits T h op c (Way d n ns o) = Walked root (way c) (of_op op (tree_steps h)) d (n ∷ ns) × fits c o
WalkBefore fits T h op c (There s) = T.Before h op c s

abbrev pub walk_telling : {O S : Type 0} → (Command → O → Type 0) → Telling S → Telling (Walking O S)
walk_telling fits T = record { Before = WalkBefore fits T; because = T.because }

-- what a walk asks of the operation behind it: it begins where the walk led, and a point explains an answer
pub record WalkTells {O S : Type 0} (begins : O → DirId → S) (fits : Command → O → Type 0) (D : Deciding S Answer) (T : Telling S) : Type 0
  where
    pub undecided : (o : O) (d : DirId) → D.decided (begins o d) ≡ None
    pub before : (h : List Event) (op : OpId) (c : Command) (o : O) (d : DirId) → Walked root (way c) (of_op op (tree_steps h)) d []
        → fits c o → T.Before h op c (begins o d)
    pub point : (h : List Event) (op : OpId) (c : Command) (a : Answer) → Point (tree_steps h) op c a → T.because h op c a

-- ---- the release, whose answer is decided from the first

abbrev pub release_telling : (List Event → OpId → Command → Answer → Type 0) → Telling Releasing
release_telling because = record { Before = λ h op c r. Unit {0}; because = because }
