-- what no moment notes of a gathered history is of refused ops
use Rattle.std.proofs.Common.{◌≡◌, inl, inr, ℕ, zero, suc, Some, List, [], ◌∷◌, ◌++◌, map, refl, sym, subst}
use Rattle.std.specs.List.{flat_map, slice_get}
use Rattle.world_runs.specs.declared.event.Event.{Event}
use Rattle.world_runs.specs.Refusals.{AreOfRefused}
use Rattle.whole_runs.specs.Woven.{AreSilentAfter}
use Rattle.world_runs.proofs.Refusals.{AreRefusedIn, of_refused-append}
use Rattle.whole_runs.proofs.Refusals.{AreQuiet, all_quiet_of_refused, of_refused-wider, of_refused_behind}
use Rattle.world_runs.proofs.Refusals.{refused-rest}
use Rattle.whole_runs.proofs.Refusals.{refused-cases, refused-front}
use Rattle.race_runs.specs.Stories.{Part, Story, SilentAfter, Timely}
use Rattle.race_runs.specs.Gathered.{part_of, rest_of, silent_now, silent_last, cuts_of}
use Rattle.race_runs.proofs.Cuts.{last_stays}
use Rattle.race_runs.proofs.Lists.{mapped_at}
use Rattle.race_runs.proofs.Parts.{AllPartsQuiet, ended_is, none_ended}

-- each client's, and so those of all
pieces_refused : (f : Story → List Event) (before : List Event) (ss : List Story)
    → ((i : ℕ) (s : Story) → slice_get ss i ≡ Some s → AreOfRefused before (f s)) → AreOfRefused before (flat_map f ss)
pieces_refused f before [] each = tt
pieces_refused f before (s ∷ ss) each =
    of_refused-append before (f s) (flat_map f ss) (each 0 s refl)
    (pieces_refused f (before ++ f s) ss (λ i t e. of_refused_behind before (f s) (f t) (each (suc i) t e)))

piece_in : (f : Story → List Event) (ss : List Story) (i : ℕ) (s : Story) → slice_get ss i ≡ Some s
    → AreRefusedIn (f s) (flat_map f ss)
piece_in f [] i s e op is = absurd (cc)
piece_in f (r ∷ ss) zero s e op is =
    let same : r ≡ s = cc in
    subst (λ (t : Story). AreRefusedIn (f s) (f t ++ flat_map f ss)) (sym same) (refused-front (f s) (flat_map f ss)) op is
piece_in f (r ∷ ss) (suc i) s e op is = refused-rest (f r) (flat_map f ss) op (piece_in f ss i s e op is)

-- Of one client, from a point on: its events are of ops refused in some that are among those before.
abbrev GoesOnRefused : ℕ → List ℕ → List Event → Story → Type 0
GoesOnRefused low clocks before s =
    Timely low clocks s.ended s.last × ((own_before : List Event) × AreRefusedIn own_before before × SilentAfter own_before s.ended s.last)

abbrev AllGoOnRefused : ℕ → List ℕ → List Event → List Story → Type 0
AllGoOnRefused low clocks before ss = (i : ℕ) (s : Story) → slice_get ss i ≡ Some s → GoesOnRefused low clocks before s

-- its part before the next dump, and what comes behind that
part_refused : (low k : ℕ) (ks : List ℕ) (before : List Event) (s : Story) → GoesOnRefused low (k ∷ ks) before s
    → AreOfRefused before (part_of s).silent
part_refused low k ks before s (t, (own_before, known, silent)) =
    let is : s.ended ≡ part_of s ∷ (rest_of s).ended = ended_is low k ks s t in
    let all : SilentAfter own_before (part_of s ∷ (rest_of s).ended) s.last = subst
    (λ (ps : List Part). SilentAfter own_before ps s.last) is silent in
    of_refused-wider own_before before (part_of s).silent known all.0

rest_refused : (low k : ℕ) (ks : List ℕ) (before now : List Event) (s : Story) → AreRefusedIn (part_of s).silent now
    → GoesOnRefused low (k ∷ ks) before s → GoesOnRefused k ks (before ++ now) (rest_of s)
rest_refused low k ks before now s here (t, (own_before, known, silent)) =
    let is : s.ended ≡ part_of s ∷ (rest_of s).ended = ended_is low k ks s t in
    let timely : Timely low (k ∷ ks) (part_of s ∷ (rest_of s).ended) s.last = subst
    (λ (ps : List Part). Timely low (k ∷ ks) ps s.last) is t in
    let all : SilentAfter own_before (part_of s ∷ (rest_of s).ended) s.last = subst
    (λ (ps : List Part). SilentAfter own_before ps s.last) is silent in (
      timely.2,
      (
        own_before ++ (part_of s).silent,
        λ op refused. elim (refused-cases own_before (part_of s).silent op refused) [
          | inl h ↦ refused-front before now op (known op h)
          | inr h ↦ refused-rest before now op (here op h)
        ],
        all.1,
      ),
    )

last_refused : (low : ℕ) (before : List Event) (s : Story) → GoesOnRefused low [] before s → AreOfRefused before s.last.silent
last_refused low before s (t, (own_before, known, silent)) =
    let all : SilentAfter own_before [] s.last = subst (λ (ps : List Part). SilentAfter own_before ps s.last)
    (none_ended low s.ended s.last t) silent in
    of_refused-wider own_before before s.last.silent known all

pub silent_cuts : (low : ℕ) (clocks : List ℕ) (before : List Event) (ss : List Story) → AllGoOnRefused low clocks before ss
    → AreSilentAfter before (cuts_of clocks ss) (silent_last ss)
silent_cuts low [] before ss go = pieces_refused (λ s. s.last.silent) before ss (λ i s e. last_refused low before s (go i s e))
silent_cuts low (k ∷ ks) before ss go = (
  pieces_refused (λ s. (part_of s).silent) before ss (λ i s e. part_refused low k ks before s (go i s e)),
  subst (λ (es : List Event). AreSilentAfter (before ++ silent_now ss) (cuts_of ks (map rest_of ss)) es) (last_stays ss)
      (silent_cuts k ks (before ++ silent_now ss) (map rest_of ss) next),
)
  where
    next : AllGoOnRefused k ks (before ++ silent_now ss) (map rest_of ss)
    next i r e =
        let at : (s : Story) × (slice_get ss i ≡ Some s) × (r ≡ rest_of s) = mapped_at rest_of ss i r e in
        subst (λ (t : Story). GoesOnRefused k ks (before ++ silent_now ss) t) (sym at.2)
        (rest_refused low k ks before (silent_now ss) at.0 (piece_in (λ s. (part_of s).silent) ss i at.0 at.1) (go i at.0 at.1))

-- so none of them is a transaction, a begin or a dump
pub quiet_parts : (before : List Event) (ended : List Part) (last : Part) → SilentAfter before ended last
    → AllPartsQuiet ended × AreQuiet last.silent
quiet_parts before [] last silent = (tt, all_quiet_of_refused before last.silent silent)
quiet_parts before (p ∷ ps) last silent =
    let rest = quiet_parts (before ++ p.silent) ps last silent.1 in
    ((all_quiet_of_refused before p.silent silent.0, rest.0), rest.1)
