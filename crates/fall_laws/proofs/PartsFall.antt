-- a command made of a part takes as few transactions as the part; so do a part within another, a walk and a release
use Rattle.std.proofs.Common.{◌≡◌, ◌+◌, ℕ, Bool, false, Option, Some, None, List, [], ◌∷◌, length, refl, sym, ap, subst, arith}
use Rattle.tect_ids.specs.declared.ids.Counts.{Counts}
use Rattle.tect_ids.specs.declared.ids.DirId.{DirId}
use Rattle.tect_ids.specs.declared.ids.Hold.{Hold}
use Rattle.tect_ids.specs.declared.ids.Node.{Node}
use Rattle.tect_ids.specs.declared.ids.Node.TheVariants as nodes
use Rattle.tect_ids.specs.declared.ids.OpId.{OpId}
use Rattle.tect_ids.specs.declared.ids.Place.{Place}
use Rattle.tect_ids.specs.declared.key.Key.{Key}
use Rattle.tect_ids.specs.declared.command.Command.{Command}
use Rattle.tect_ids.specs.declared.answer.Answer.{Answer}
use Rattle.store_rules.specs.declared.names.NameReq.TheVariants as names
use Rattle.store_rules.specs.declared.any.AnyReq.{AnyReq}
use Rattle.store_rules.specs.declared.any.AnyReq.TheVariants as any
use Rattle.store_rules.specs.declared.any.AnyReply.{AnyReply}
use Rattle.store_rules.specs.Names.{key_in}
use Rattle.store_rules.specs.Places.{request_place}
use Rattle.store_rules.specs.Views.{as_found}
use Rattle.tect_calls.specs.declared.tokens.Freed.{Freed}
use Rattle.program_forms.specs.Memories.{Memory}
use Rattle.program_forms.specs.Kinds.{Does, Asks, Says, asked_by, Turned, Programs, next_does}
use Rattle.program_parts.specs.declared.next.Next.{Next}
use Rattle.program_parts.specs.declared.next.Next.TheVariants.{Goes, Comes}
use Rattle.program_parts.specs.declared.walking.Walking.{Walking}
use Rattle.program_parts.specs.declared.walking.Walking.TheVariants.{Way, There}
use Rattle.program_parts.specs.Parts.{Part, within, kind_of, next_asks, next_hears}
use Rattle.program_parts.specs.Doings.{Doing, doing, doing_within}
use Rattle.program_parts.specs.Releases.{release_ask, then_release, releasing}
use Rattle.program_parts.specs.Walks.{walk_on, walked, walking}
use Rattle.fall_laws.specs.Counting.{is_look}
use Rattle.fall_laws.specs.Bounding.{Many, AtMost, Falls, FallLaws, none}
use Rattle.fall_laws.specs.Parts.{PartBounding, PartFalls, Takes, plus, next_left, next_bounding, never_grows}
use Rattle.fall_laws.specs.Parts.{walk_left, walk_bounding, BeginsAtMost, releases_left, release_left}

-- ---- a part state by state

-- what a part does in a state in which that is left, which look-ups let grow so
pub record FallsAt {S R : Type 0} (d : Doing S R) (B : PartBounding S) (was : Many) (grown : Counts → Memory → OpId → Many) : Type 0 where
  pub turns : (c : Counts) (m : Memory) (op : OpId) → AtMost (next_left B.left (d.turns c m op).state) (plus was (grown c m op))
  pub hears : (c : Counts) (m : Memory) (op : OpId) (x : AnyReply)
      → Takes (d.asks c m op) (next_left B.left (d.hears c m op (d.asks c m op) x)) (plus was (B.grows c (d.asks c m op) x))

abbrev pub FallsIn : {S R : Type 0} → Part S R → PartBounding S → S → Type 0
FallsIn P B s = FallsAt (doing P s) B (B.left s) (λ c m op. B.grown c m op s)

pub part_falls : {S R : Type 0} {P : Part S R} {B : PartBounding S} → ((s : S) → FallsIn P B s) → PartFalls P B
part_falls at = record { turns = λ c m op s. (at s).turns c m op; hears = λ c m op s. (at s).hears c m op }

pub falls_in : {S R : Type 0} {P : Part S R} {B : PartBounding S} → PartFalls P B → (s : S) → FallsIn P B s
falls_in L s = record { turns = λ c m op. L.turns c m op s; hears = λ c m op. L.hears c m op s }

-- a part that looks nothing up, and to which nothing is added
pub record WaitsAt {S R : Type 0} (P : Part S R) (left : S → Many) (s : S) : Type 0 where
  pub looks : (c : Counts) (m : Memory) (op : OpId) → P.turns c m op s ≡ record { memory = m; state = Goes s }
  pub hears : (c : Counts) (m : Memory) (op : OpId) (x : AnyReply)
      → Takes (P.asks c m op s) (next_left left (P.hears c m op s (P.asks c m op s) x)) (left s)

more_left : (q : AnyReq) (after before : Many) → Takes q after before → Takes q after (plus before none)
more_left q after before t = record { looks = omega (arith, t.looks); others = omega (arith, t.others) }

pub waits_fall : {S R : Type 0} (P : Part S R) (left : S → Many) (s : S) → WaitsAt P left s → FallsIn P (never_grows left) s
waits_fall {S} {R} P left s L = record {
  turns = λ c m op.
      subst (λ (t : Turned (Next S R)). AtMost (next_left left t.state) (plus (left s) none)) (sym (L.looks c m op)) record {
        looks = omega arith;
        others = omega arith;
      };
  hears = λ c m op x. more_left (P.asks c m op s) _ _ (L.hears c m op x);
}

-- what takes so many takes no more where replies add something
pub grows_too : {S R : Type 0} {d : Doing S R} {left : S → Many} {was : Many} (grows : Counts → AnyReq → AnyReply → Many)
    → FallsAt d (never_grows left) was (λ c m op. none)
    → FallsAt d record { left = left; grown = λ c m op s. none; grows = grows } was (λ c m op. none)
grows_too grows L = record {
  turns = L.turns;
  hears = λ c m op x.
      let t = L.hears c m op x in record { looks = omega (arith, t.looks); others = omega (arith, t.others) };
}

-- ---- a part within another

pub record IsWithin {S T : Type 0} (f : S → T) (B : PartBounding S) (U : PartBounding T) : Type 0 where
  pub left : (s : S) → U.left (f s) ≡ B.left s
  pub grows : (c : Counts) (q : AnyReq) (x : AnyReply) → U.grows c q x ≡ B.grows c q x

within_left : {S T R : Type 0} (f : S → T) (B : PartBounding S) (U : PartBounding T) → IsWithin f B U → (n : Next S R)
    → next_left B.left n ≡ next_left U.left (within f n)
within_left f B U i (Goes s) = sym (i.left s)
within_left f B U i (Comes r) = refl

pub falls_within : {S T R : Type 0} (f : S → T) {B : PartBounding S} {U : PartBounding T} {d : Doing S R} {was : Many}
    {grown : Counts → Memory → OpId → Many} → IsWithin f B U → FallsAt d B was grown → FallsAt (doing_within f d) U was grown
falls_within f {B} {U} {d} {was} {grown} i L = record {
  turns = λ c m op.
      subst (λ (n : Many). AtMost n (plus was (grown c m op))) (within_left f B U i (d.turns c m op).state) (L.turns c m op);
  hears = λ c m op x.
      let q : AnyReq = d.asks c m op in
      subst (λ (g : Many). Takes q (next_left U.left (within f (d.hears c m op q x))) (plus was g)) (sym (i.grows c q x))
      (subst (λ (n : Many). Takes q n (plus was (B.grows c q x))) (within_left f B U i (d.hears c m op q x)) (L.hears c m op x));
}

-- ---- a part as a kind of commands

same_ask : (r q : AnyReq) → Some r ≡ Some q → r ≡ q
same_ask r q e = cc

no_ask : (r : Answer) (q : AnyReq) → Says r ≡ Asks q → ⊥
no_ask r q e = let k : None ≡ Some q = ap (λ (d : Does Answer). asked_by d) e in cc

module _ {S : Type 0} {P : Part S Answer} {B : PartBounding S} (L : PartFalls P B) where
  heard_takes : (c : Counts) (m : Memory) (op : OpId) (n : Next S Answer) (q : AnyReq) (x : AnyReply) → next_asks P c m op n ≡ Asks q
      → Takes q (next_left B.left (next_hears P c m op n q x)) (plus (next_left B.left n) (B.grows c q x))
  heard_takes c m op (Goes s) q x e =
      subst (λ (r : AnyReq). Takes r (next_left B.left (P.hears c m op s r x)) (plus (B.left s) (B.grows c r x)))
      (same_ask (P.asks c m op s) q (ap (λ (d : Does Answer). asked_by d) e))
      (L.hears c m op s x)
  heard_takes c m op (Comes r) q x e = absurd (no_ask r q e)

  module _ (serves : Command → Bool) (starts : Counts → Memory → Command → Next S Answer) (most : Counts → Command → Option Many) where
    abbrev programs : Programs (Next S Answer)
    programs = record { kind = kind_of P; serves = serves; starts = starts }

    falls_so : (c : Counts) (m : Memory) (op : OpId) (n : Next S Answer) (q : AnyReq) (x : AnyReply)
        → next_does (kind_of P) c m op n ≡ Asks q → Falls programs (next_bounding B most) c m op n q x
    falls_so c m op (Goes s) q x e =
        let t : Turned (Next S Answer) = P.turns c m op s in
        let turned : AtMost (next_left B.left t.state) (plus (B.left s) (B.grown c m op s)) = L.turns c m op s in
        let takes : Takes q (next_left B.left (next_hears P c t.memory op t.state q x)) (plus (next_left B.left t.state) (B.grows c q x)) =
        heard_takes c t.memory op t.state q x e in
        record { looks = omega (arith, turned.looks, takes.looks); others = omega (arith, turned.others, takes.others) }
    falls_so c m op (Comes r) q x e = absurd (no_ask r q e)

    pub part_fall_laws
        : ((c : Counts) (m : Memory) (k : Command) (n : Many) → most c k ≡ Some n → AtMost (next_left B.left (starts c m k)) n)
        → FallLaws programs (next_bounding B most)
    part_fall_laws begins = record { falls = falls_so; most = begins }

-- ---- a walk before an operation

module _ {O S : Type 0} (begins : O → DirId → S) (left : S → Many) (most : O → Many) (at_most : BeginsAtMost begins left most) where
  -- as it begins, there is a look for each name
  pub walk_on_left : (d : DirId) (ns : List (List ℕ)) (o : O)
      → AtMost (walk_left most left (walk_on begins d ns o)) record { looks = length ns + (most o).looks; others = (most o).others }
  walk_on_left d [] o = record { looks = omega (arith, (at_most o d).looks); others = omega (arith, (at_most o d).others) }
  walk_on_left d (n ∷ ns) o = record { looks = omega arith; others = omega arith }

  walked_takes : (place : Place) (k : Key) (ns : List (List ℕ)) (o : O) (x : AnyReply) (more : Many) (f : Option Node)
      → Takes (any.Name (names.Look k)) (next_left (walk_left most left) (walked begins place k ns o x f))
      (plus record { looks = 1 + length ns + (most o).looks; others = (most o).others } more)
  walked_takes place k ns o x more None = record { looks = omega arith; others = omega arith }
  walked_takes place k ns o x more (Some (nodes.Dir d)) =
      let on
      : AtMost (walk_left most left (walk_on begins d ns o)) record { looks = length ns + (most o).looks; others = (most o).others } =
      walk_on_left d ns o in
      record { looks = omega (arith, on.looks); others = omega (arith, on.others) }
  walked_takes place k ns o x more (Some (nodes.File f)) = record { looks = omega arith; others = omega arith }

module _ {O S : Type 0} (begins : O → DirId → S) (P : Part S Answer) (B : PartBounding S) (most : O → Many)
    (at_most : BeginsAtMost begins B.left most) (L : PartFalls P B) where
  walk_falls_in : (s : Walking O S) → FallsIn (walking begins P) (walk_bounding most B) s
  walk_falls_in (Way d n ns o) = record {
    turns = λ c m op. record { looks = omega arith; others = omega arith };
    hears = λ c m op x.
        let q : AnyReq = any.Name (names.Look (key_in d n)) in
        walked_takes begins B.left most at_most (request_place c q) (key_in d n) ns o x (B.grows c q x) (as_found x);
  }
  walk_falls_in (There s) = falls_within There record { left = λ t. refl; grows = λ c q x. refl } (falls_in L s)

  pub walk_falls : PartFalls (walking begins P) (walk_bounding most B)
  walk_falls = part_falls walk_falls_in

-- ---- the release

-- a release is no look
release_no_look : (n : Node) (h : Hold) → is_look (release_ask n h) ≡ false
release_no_look (nodes.Dir d) h = refl
release_no_look (nodes.File f) h = refl

then_release_left : (q : AnyReq) (f : Option Freed) (a : Answer) → is_look q ≡ false
    → Takes q (next_left release_left (then_release f a)) record { looks = 0; others = releases_left f }
then_release_left q None a e = record { looks = rw e (omega arith); others = rw e (omega arith) }
then_release_left q (Some f) a e = record { looks = rw e (omega arith); others = rw e (omega arith) }

pub release_falls : PartFalls releasing (never_grows release_left)
release_falls = part_falls (λ r. waits_fall releasing release_left r record {
  looks = λ c m op. refl;
  hears = λ c m op x. then_release_left _ r.second r.answer (release_no_look (r.first).node (r.first).hold);
})
