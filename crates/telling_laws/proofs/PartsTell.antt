-- a part state by state, a part within another, and a part as a kind of commands
use Rattle.std.proofs.Common.{◌≡◌, true, false, Bool, Option, Some, None, List, [], ◌∷◌, ◌++◌, refl, sym, ap, subst, ◌∙◌}
use Rattle.tect_ids.specs.declared.ids.Counts.{Counts}
use Rattle.tect_ids.specs.declared.ids.Hold.{Hold}
use Rattle.tect_ids.specs.declared.ids.Node.{Node}
use Rattle.tect_ids.specs.declared.ids.Node.TheVariants as nodes
use Rattle.tect_ids.specs.declared.ids.OpId.{OpId}
use Rattle.tect_ids.specs.declared.command.Command.{Command}
use Rattle.tect_ids.specs.declared.answer.Answer.{Answer}
use Rattle.store_rules.specs.declared.any.AnyReq.{AnyReq}
use Rattle.store_rules.specs.declared.any.AnyReply.{AnyReply}
use Rattle.program_forms.specs.declared.heard.Heard.{Heard}
use Rattle.program_forms.specs.Memories.{Memory}
use Rattle.program_forms.specs.Kinds.{Does, Asks, Says, asked_by, said_by, Turned, Programs, turned}
use Rattle.program_parts.specs.declared.next.Next.{Next}
use Rattle.program_parts.specs.declared.releasing.Releasing.{Releasing}
use Rattle.program_parts.specs.declared.next.Next.TheVariants.{Goes, Comes}
use Rattle.program_parts.specs.Parts.{Part, within, kind_of, next_asks, next_hears, next_learns}
use Rattle.program_parts.specs.Doings.{Doing, doing, doing_within}
use Rattle.program_parts.specs.Releases.{release_ask, then_release, releasing}
use Rattle.tect_calls.specs.declared.tokens.Freed.{Freed}
use Rattle.program_laws.specs.Known.{Deciding}
use Rattle.part_laws.specs.Parts.{IsTurned, next_decided, next_deciding}
use Rattle.part_laws.specs.Releases.{release_deciding}
use Rattle.part_laws.proofs.Within.{within_decided, within_turned}
use Rattle.world_runs.specs.declared.event.Event.{Event}
use Rattle.world_runs.specs.declared.event.Event.TheVariants.{Own}
use Rattle.world_runs.specs.declared.event.Happening.TheVariants.{Began, Acted}
use Rattle.claim_words.specs.Opened.{opens_of, opened_in}
use Rattle.claim_words.specs.TreeSteps.{tree_steps}
use Rattle.claim_words.specs.Commands.{command_of}
use Rattle.claim_words.specs.Points.{of_op}
use Rattle.telling_laws.specs.Telling.{is_of, IsSeen, Telling, OfDecided, Tells, TellingLaws}
use Rattle.telling_laws.specs.Parts.{NextTells, NextBefore, next_telling, PartTells, release_telling}
use Rattle.telling_laws.proofs.Steps.{reply_at, act_at, Allows}

-- ---- a part state by state

-- what a part does in a state whose answer is decided so, before which the history tells that
pub record TellsAt {S : Type 0} (counts : Counts) (d : Doing S Answer) (D : Deciding S Answer) (T : Telling S) (now : Option Answer)
    (Before : List Event → OpId → Command → Type 0) : Type 0 where
  pub turns : (h : List Event) (op : OpId) (c : Command) (m : Memory) → Before h op c → now ≡ None
      → NextTells D T h op c (d.turns counts m op).state
  pub hears : (h : List Event) (op : OpId) (c : Command) (m : Memory) (how : Heard) → IsSeen h (d.asks counts m op)
      → Before h op c → now ≡ None → Allows h (act_at h op (d.asks counts m op) how)
      → NextTells D T (h ++ act_at h op (d.asks counts m op) how ∷ []) op c
      (d.hears counts m op (d.asks counts m op) (reply_at h (d.asks counts m op)))
  pub stays : (h : List Event) (e : Event) (op : OpId) (c : Command) → is_of op e ≡ false → Before h op c → Before (h ++ e ∷ []) op c
  pub turned : (m : Memory) (op : OpId) → IsTurned D now (d.turns counts m op).state
  pub heard : (m : Memory) (op : OpId) (q : AnyReq) (x : AnyReply) (a : Answer) → now ≡ Some a
      → next_decided D (d.hears counts m op q x) ≡ Some a
  pub learns : (h : List Event) (op : OpId) (c : Command) (m : Memory) (x : AnyReply) → Before h op c → now ≡ None
      → d.learns op (d.asks counts m op) x ≡ opens_of (Some c) (d.asks counts m op) x
  pub learns_none : (op : OpId) (c : Command) (m : Memory) (x : AnyReply) (a : Answer) → now ≡ Some a
      → d.learns op (d.asks counts m op) x ≡ opens_of (Some c) (d.asks counts m op) x
  pub opened : (m : Memory) (op : OpId) → (d.turns counts m op).memory.opened ≡ m.opened

abbrev pub TellsIn : {S : Type 0} → Counts → Part S Answer → Deciding S Answer → Telling S → S → Type 0
TellsIn counts P D T s = TellsAt counts (doing P s) D T (D.decided s) (λ h op c. T.Before h op c s)

-- what explains an answer explains it later too
abbrev pub Lasts : {S : Type 0} → Telling S → Type 0
Lasts T = (h es : List Event) (op : OpId) (c : Command) (a : Answer) → T.because h op c a → T.because (h ++ es) op c a

module _ {S : Type 0} {counts : Counts} {P : Part S Answer} {D : Deciding S Answer} {T : Telling S} where
  pub part_tells : ((s : S) → TellsIn counts P D T s) → Lasts T → PartTells counts P D T
  part_tells at lasts = record {
    turns = λ h op c m s. (at s).turns h op c m;
    hears = λ h op c m s x how fresh is before none.
        let q : AnyReq = P.asks counts m op s in
        subst (λ (y : AnyReply). Allows h (Own op (Acted q y how))
        → NextTells D T (h ++ Own op (Acted q y how) ∷ []) op c (P.hears counts m op s q y)) (sym is)
        ((at s).hears h op c m how fresh before none);
    stays = λ h e op c s. (at s).stays h e op c;
    lasts = lasts;
    turned = λ m op s. (at s).turned m op;
    heard = λ m op s. (at s).heard m op;
    learns = λ h op c m s. (at s).learns h op c m;
    learns_none = λ op c m s. (at s).learns_none op c m;
    opened = λ m op s. (at s).opened m op;
  }

  pub tells_in : PartTells counts P D T → (s : S) → TellsIn counts P D T s
  tells_in L s = record {
    turns = λ h op c m. L.turns h op c m s;
    hears = λ h op c m how fresh before none.
        L.hears h op c m s (reply_at h (P.asks counts m op s)) how fresh refl before none;
    stays = λ h e op c. L.stays h e op c s;
    turned = λ m op. L.turned m op s;
    heard = λ m op. L.heard m op s;
    learns = λ h op c m. L.learns h op c m s;
    learns_none = λ op c m. L.learns_none op c m s;
    opened = λ m op. L.opened m op s;
  }

-- a state where it looks nothing up and nothing is decided
pub record WaitsAt {S : Type 0} (counts : Counts) (P : Part S Answer) (D : Deciding S Answer) (T : Telling S) (s : S) : Type 0 where
  pub looks : (m : Memory) (op : OpId) → P.turns counts m op s ≡ record { memory = m; state = Goes s }
  pub undecided : D.decided s ≡ None
  pub hears : (h : List Event) (op : OpId) (c : Command) (m : Memory) (how : Heard) → IsSeen h (P.asks counts m op s)
      → T.Before h op c s → Allows h (act_at h op (P.asks counts m op s) how)
      → NextTells D T (h ++ act_at h op (P.asks counts m op s) how ∷ []) op c
      (P.hears counts m op s (P.asks counts m op s) (reply_at h (P.asks counts m op s)))
  pub stays : (h : List Event) (e : Event) (op : OpId) (c : Command) → is_of op e ≡ false → T.Before h op c s
      → T.Before (h ++ e ∷ []) op c s
  pub learns : (h : List Event) (op : OpId) (c : Command) (m : Memory) (x : AnyReply) → T.Before h op c s
      → P.learns op s (P.asks counts m op s) x ≡ opens_of (Some c) (P.asks counts m op s) x

-- what is told before an answer, where none is decided
pub told_before : {S : Type 0} (D : Deciding S Answer) (T : Telling S) (h : List Event) (op : OpId) (c : Command) (s : S)
    → D.decided s ≡ None → T.Before h op c s → Tells D T h op c s
told_before D T h op c s none before = rw none before

pub waits_tell : {S : Type 0} {counts : Counts} (P : Part S Answer) (D : Deciding S Answer) (T : Telling S) (s : S)
    → WaitsAt counts P D T s → TellsIn counts P D T s
waits_tell {S} {counts} P D T s L = record {
  turns = λ h op c m before none.
      subst (λ (t : Turned (Next S Answer)). NextTells D T h op c t.state) (sym (L.looks m op))
      (told_before D T h op c s none before);
  hears = λ h op c m how fresh before none. L.hears h op c m how fresh before;
  stays = L.stays;
  turned = λ m op. subst (λ (t : Turned (Next S Answer)). IsTurned D (D.decided s) t.state) (sym (L.looks m op)) refl;
  heard = λ m op q x a is. absurd (let k : None ≡ Some a = sym L.undecided ∙ is in cc);
  learns = λ h op c m x before none. L.learns h op c m x before;
  learns_none = λ op c m x a is. absurd (let k : None ≡ Some a = sym L.undecided ∙ is in cc);
  opened = λ m op. ap (λ (t : Turned (Next S Answer)). t.memory.opened) (L.looks m op);
}

-- ---- a part within another

-- in these states it is decided as the part is, the same is told before that, and the same explains an answer
pub record IsWithin {S R : Type 0} (f : S → R) (D : Deciding S Answer) (T : Telling S) (E : Deciding R Answer) (U : Telling R) : Type 0
  where
    pub decided : (s : S) → E.decided (f s) ≡ D.decided s
    pub before : (h : List Event) (op : OpId) (c : Command) (s : S) → T.Before h op c s → U.Before h op c (f s)
    pub because : (h : List Event) (op : OpId) (c : Command) (a : Answer) → T.because h op c a → U.because h op c a

of_decided : {A B : Type 0} {F G : Answer → Type 0} (o : Option Answer) → (A → B) → ((a : Answer) → F a → G a) → OfDecided A F o
    → OfDecided B G o
of_decided None f g t = f t
of_decided (Some a) f g t = g a t

module _ {S R : Type 0} (f : S → R) {D : Deciding S Answer} {T : Telling S} {E : Deciding R Answer} {U : Telling R}
    (i : IsWithin f D T E U) where
  pub within_tells : (h : List Event) (op : OpId) (c : Command) (n : Next S Answer) → NextTells D T h op c n
      → NextTells E U h op c (within f n)
  within_tells h op c (Goes s) t = rw (i.decided s) (of_decided (D.decided s) (i.before h op c s) (i.because h op c) t)
  within_tells h op c (Comes a) t = i.because h op c a t

  pub tells_within : {counts : Counts} {d : Doing S Answer} {now : Option Answer} {Before : List Event → OpId → Command → Type 0}
      → TellsAt counts d D T now Before → TellsAt counts (doing_within f d) E U now Before
  tells_within {counts} {d} {now} {Before} L = record {
    turns = λ h op c m before none. within_tells h op c (d.turns counts m op).state (L.turns h op c m before none);
    hears = λ h op c m how fresh before none run. within_tells _ op c _ (L.hears h op c m how fresh before none run);
    stays = L.stays;
    turned = λ m op. within_turned f D E i.decided now (d.turns counts m op).state (L.turned m op);
    heard = λ m op q x a is. within_decided f D E i.decided (d.hears counts m op q x) ∙ L.heard m op q x a is;
    learns = L.learns;
    learns_none = L.learns_none;
    opened = L.opened;
  }

-- ---- the release

then_release_decided : (f : Option Freed) (a : Answer) → next_decided release_deciding (then_release f a) ≡ Some a
then_release_decided None a = refl
then_release_decided (Some f) a = refl

-- a release opens nothing
pub release_opens : (c : Option Command) (n : Node) (h : Hold) (x : AnyReply) → [] ≡ opens_of c (release_ask n h) x
release_opens c (nodes.Dir d) h x = refl
release_opens c (nodes.File f) h x = refl

-- nothing is told before it, for its answer is decided from the first
release_at : (counts : Counts) (because : List Event → OpId → Command → Answer → Type 0) (r : Releasing)
    → TellsIn counts releasing release_deciding (release_telling because) r
release_at counts because r = record {
  turns = λ h op c m before none. absurd (let k : Some r.answer ≡ None = none in cc);
  hears = λ h op c m how fresh before none. absurd (let k : Some r.answer ≡ None = none in cc);
  stays = λ h e op c other before. tt;
  turned = λ m op. refl;
  heard = λ m op q x a is. then_release_decided r.second r.answer ∙ is;
  learns = λ h op c m x before none. release_opens (Some c) (r.first).node (r.first).hold x;
  learns_none = λ op c m x a is. release_opens (Some c) (r.first).node (r.first).hold x;
  opened = λ m op. refl;
}

pub release_tells : (counts : Counts) (because : List Event → OpId → Command → Answer → Type 0)
    → ((h es : List Event) (op : OpId) (c : Command) (a : Answer) → because h op c a → because (h ++ es) op c a)
    → PartTells counts releasing release_deciding (release_telling because)
release_tells counts because lasts = part_tells (release_at counts because) lasts

-- holds may be released before an answer that is explained
pub then_release_tells : (because : List Event → OpId → Command → Answer → Type 0) (h : List Event) (op : OpId) (c : Command)
    (f : Option Freed) (a : Answer) → because h op c a → NextTells release_deciding (release_telling because) h op c (then_release f a)
then_release_tells because h op c None a b = b
then_release_tells because h op c (Some f) a b = b

-- ---- a part as a kind of commands

same_ask : (r q : AnyReq) → Some r ≡ Some q → r ≡ q
same_ask r q e = cc

module _ {S : Type 0} {counts : Counts} {P : Part S Answer} {D : Deciding S Answer} {T : Telling S} (L : PartTells counts P D T) where
  next_tells : (h : List Event) (op : OpId) (c : Command) (n : Next S Answer) → NextTells D T h op c n
      → Tells (next_deciding D) (next_telling T) h op c n
  next_tells h op c (Goes s) t = of_decided (D.decided s) (λ b. b) (λ a b. b) t
  next_tells h op c (Comes a) t = t

  next_turns : (h : List Event) (op : OpId) (c : Command) (m : Memory) (n : Next S Answer) → NextBefore T h op c n
      → next_decided D n ≡ None → Tells (next_deciding D) (next_telling T) h op c (turned (kind_of P) counts m op n).state
  next_turns h op c m (Goes s) before none = next_tells h op c (P.turns counts m op s).state (L.turns h op c m s before none)
  next_turns h op c m (Comes r) before none = absurd (let k : Some r ≡ None = none in cc)

  next_hears_told : (h : List Event) (op : OpId) (c : Command) (m : Memory) (n : Next S Answer) (q : AnyReq)
      (x : AnyReply) (how : Heard) → IsSeen h q → next_asks P counts m op n ≡ Asks q → x ≡ reply_at h q → NextBefore T h op c n
      → next_decided D n ≡ None → Allows h (Own op (Acted q x how))
      → Tells (next_deciding D) (next_telling T) (h ++ Own op (Acted q x how) ∷ []) op c (next_hears P counts m op n q x)
  next_hears_told h op c m (Goes s) q x how fresh asks is before none run =
      next_tells (h ++ Own op (Acted q x how) ∷ []) op c (P.hears counts m op s q x) (subst (λ (r : AnyReq). IsSeen h r → x ≡ reply_at h r
      → Allows h (Own op (Acted r x how)) → NextTells D T (h ++ Own op (Acted r x how) ∷ []) op c (P.hears counts m op s r x))
      (same_ask (P.asks counts m op s) q (ap (λ (d : Does Answer). asked_by d) asks))
      (λ fresh is run. L.hears h op c m s x how fresh is before none run) fresh is run)
  next_hears_told h op c m (Comes r) q x how fresh asks is before none run = absurd (let k : Some r ≡ None = none in cc)

  next_stays : (h : List Event) (e : Event) (op : OpId) (c : Command) (n : Next S Answer) → is_of op e ≡ false → NextBefore T h op c n
      → NextBefore T (h ++ e ∷ []) op c n
  next_stays h e op c (Goes s) other before = L.stays h e op c s other before
  next_stays h e op c (Comes r) other before = tt

  turned_decided : (was : Option Answer) (a : Answer) (n : Next S Answer) → IsTurned D was n → was ≡ Some a → next_decided D n ≡ Some a
  turned_decided was a (Goes s) t is = t ∙ is
  turned_decided was a (Comes r) t is = ap (λ (b : Answer). Some b) (sym (t a is))

  next_turned : (m : Memory) (op : OpId) (n : Next S Answer) (a : Answer) → next_decided D n ≡ Some a
      → next_decided D (turned (kind_of P) counts m op n).state ≡ Some a
  next_turned m op (Goes s) a is = turned_decided (D.decided s) a (P.turns counts m op s).state (L.turned m op s) is
  next_turned m op (Comes r) a is = is

  next_heard : (m : Memory) (op : OpId) (n : Next S Answer) (q : AnyReq) (x : AnyReply) (a : Answer)
      → next_decided D n ≡ Some a → next_decided D (next_hears P counts m op n q x) ≡ Some a
  next_heard m op (Goes s) q x a is = L.heard m op s q x a is
  next_heard m op (Comes r) q x a is = is

  next_says : (m : Memory) (op : OpId) (n : Next S Answer) (a : Answer) → next_asks P counts m op n ≡ Says a
      → next_decided D n ≡ Some a
  next_says m op (Goes s) a says =
      absurd (let k : None ≡ Some a = ap (λ (d : Does Answer). said_by d) says in cc)
  next_says m op (Comes r) a says = ap (λ (d : Does Answer). said_by d) says

  state_learnt : (h : List Event) (op : OpId) (c : Command) (m : Memory) (s : S) (x : AnyReply) (o : Option Answer) → D.decided s ≡ o
      → OfDecided (T.Before h op c s) (T.because h op c) o → P.learns op s (P.asks counts m op s) x ≡ opens_of (Some c) (P.asks counts m op s) x
  state_learnt h op c m s x None is before = L.learns h op c m s x before is
  state_learnt h op c m s x (Some a) is tells = L.learns_none op c m s x a is

  next_learnt : (h : List Event) (op : OpId) (c : Command) (m : Memory) (n : Next S Answer) (q : AnyReq) (x : AnyReply)
      → next_asks P counts m op n ≡ Asks q → Tells (next_deciding D) (next_telling T) h op c n
      → next_learns P op n q x ≡ opens_of (Some c) q x
  next_learnt h op c m (Goes s) q x asks tells =
      subst (λ (r : AnyReq). P.learns op s r x ≡ opens_of (Some c) r x)
      (same_ask (P.asks counts m op s) q (ap (λ (d : Does Answer). asked_by d) asks))
      (state_learnt h op c m s x (D.decided s) refl tells)
  next_learnt h op c m (Comes r) q x asks tells = absurd (let k : None ≡ Some q = ap (λ (d : Does Answer). asked_by d) asks in cc)

  next_opened : (m : Memory) (op : OpId) (n : Next S Answer) → (turned (kind_of P) counts m op n).memory.opened ≡ m.opened
  next_opened m op (Goes s) = L.opened m op s
  next_opened m op (Comes r) = refl

  -- so commands made of it keep the laws, if they begin so
  module _ (serves : Command → Bool) (starts : Counts → Memory → Command → Next S Answer) where
    -- the programs
    abbrev programs : Programs (Next S Answer)
    programs = record { kind = kind_of P; serves = serves; starts = starts }

    pub part_telling_laws : ((h : List Event) (op : OpId) (c : Command) (m : Memory) → serves c ≡ true
        → command_of h op ≡ None → of_op op (tree_steps h) ≡ [] → m.opened ≡ opened_in h op.actor
        → NextTells D T (h ++ Own op (Began c) ∷ []) op c (starts counts m c))
        → TellingLaws counts programs (next_deciding D) (next_telling T)
    part_telling_laws begins = record {
      begins = λ h op c m served unbegun none opened. next_tells (h ++ Own op (Began c) ∷ []) op c (starts counts m c)
          (begins h op c m served unbegun none opened);
      turns = next_turns;
      hears = λ h op c m n q x how fresh asks is before none run.
          let t : Turned (Next S Answer) = turned (kind_of P) counts m op n in
          next_hears_told h op c t.memory t.state q x how fresh asks is before none run;
      stays = next_stays;
      lasts = L.lasts;
      turned_so = next_turned;
      heard_so = λ m op n q x a is.
          let t : Turned (Next S Answer) = turned (kind_of P) counts m op n in next_heard t.memory op t.state q x a is;
      says = λ m op n a says.
          let t : Turned (Next S Answer) = turned (kind_of P) counts m op n in next_says t.memory op t.state a says;
      learns = λ h op c m n q x asks tells.
          let t : Turned (Next S Answer) = turned (kind_of P) counts m op n in next_learnt h op c t.memory t.state q x asks tells;
      opened = next_opened;
    }
