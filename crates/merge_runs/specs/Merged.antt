-- One list of all moments, and what it has of each actor and of each place.
use Rattle.std.specs.Prelude.{◌≡◌, ℕ, ◌+◌, ◌≤◌, List, [], ◌∷◌, ◌==◌, IsPermutation}
use Rattle.std.specs.List.{count_by, Contains, All, filter, flat_map}
use Rattle.std.specs.Ordering.{nat_cmp, on, then_cmp}
use Rattle.std.specs.declared.cmp.Ordering.{Ordering}
use Rattle.std.specs.declared.cmp.Ordering.TheVariants.{Less}
use Rattle.place_kit.specs.declared.any.AnyKept.{AnyKept}
use Rattle.entry_words.specs.declared.entry.Entry.{Entry}
use Rattle.entry_words.specs.declared.entry.Moment.{Moment}
use Rattle.passes.specs.declared.pass.Pass.{Pass}
use Rattle.place_kit.specs.Kept.{history_of, place_of}
use Rattle.entry_words.specs.Moments.{stamp_of, actor_of, place_of_moment, is_at, is_of, trail_of}

-- no two passes are of one actor
abbrev pub HaveDifferentActors : List Pass → Type 0
HaveDifferentActors ps = (actor : ℕ) → count_by (λ p. p.actor == actor) ps ≤ 1

-- the places are those from that number on, in order
abbrev pub StandInOrder : ℕ → List AnyKept → Type 0
StandInOrder n [] = Unit {0}
StandInOrder n (k ∷ ks) = (place_of k ≡ n) × StandInOrder (n + 1) ks

abbrev pub moments_of : Pass → List Moment
moments_of p = p.moments.items

abbrev pub entries_of : Pass → List Entry
entries_of p = trail_of p.moments.items

-- the entries of all passes
abbrev pub trails : List Pass → List Entry
trails ps = flat_map entries_of ps

-- the entries of all places
abbrev pub histories : List AnyKept → List Entry
histories ks = flat_map history_of ks

-- trails and histories have the same entries, each as often
abbrev pub Agree : List AnyKept → List Pass → Type 0
Agree ks ps = IsPermutation (trails ps) (histories ks)

-- by stamp, then by place, then by actor
abbrev pub moment_cmp : Moment → Moment → Ordering
moment_cmp = then_cmp (then_cmp (on stamp_of nat_cmp) (on place_of_moment nat_cmp)) (on actor_of nat_cmp)

abbrev pub Before : Moment → Moment → Type 0
Before x y = moment_cmp x y ≡ Less

abbrev pub BeforeAll : Moment → List Moment → Type 0
BeforeAll x [] = Unit {0}
BeforeAll x (y ∷ ys) = Before x y × BeforeAll x ys

-- each moment comes before all that are behind it
abbrev pub IsInOrder : List Moment → Type 0
IsInOrder [] = Unit {0}
IsInOrder (m ∷ ms) = BeforeAll m ms × IsInOrder ms

-- the moments of each actor are those of its pass
abbrev pub RestrictsToTrails : List Pass → List Moment → Type 0
RestrictsToTrails ps ms = All (λ p. filter (is_of p.actor) ms ≡ moments_of p) ps

-- the transactions at each place are its history
abbrev pub RestrictsToHistories : List AnyKept → List Moment → Type 0
RestrictsToHistories ks ms = All (λ k. trail_of (filter (is_at (place_of k)) ms) ≡ history_of k) ks

-- the history of its place has the entry
abbrev pub IsStored : List AnyKept → Entry → Type 0
IsStored ks e = (k : AnyKept) × Contains ks k × (place_of k ≡ e.place.0) × Contains (history_of k) e
