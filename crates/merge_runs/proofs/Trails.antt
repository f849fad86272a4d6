-- The entries of a pass are the transactions among its moments.
use Rattle.std.proofs.Common.{◌≡◌, ◌≢◌, ℕ, List, refl, get_or}
use Rattle.std.specs.List.{All, Contains}
use Rattle.std.proofs.lemmas.List.Elements.{All-contains, Contains-get_or}
use Rattle.entry_words.specs.declared.entry.Entry.{Entry}
use Rattle.entry_words.specs.declared.entry.Moment.{Moment}
use Rattle.entry_words.specs.declared.entry.Moment.TheVariants.{Act}
use Rattle.passes.specs.declared.pass.Pass.{Pass}
use Rattle.merge_runs.specs.Merged.{moments_of, entries_of, trails}
use Rattle.merge_runs.specs.Splits.{IsActOf}
use Rattle.merge_runs.proofs.Order.{In}
use Rattle.merge_runs.proofs.Members.{in_from_contains, contains_from_in, in_flat, flat_in}
use Rattle.merge_runs.proofs.Acts.{act_in}
use Rattle.merge_runs.proofs.Restricts.{actor_in}

module _ {X : Type 0} (P : X → Type 0) where
  pub all_in : (xs : List X) → All P xs → (x : X) → In x xs → P x
  all_in xs a x i = All-contains P xs x a (contains_from_in xs x i)

  pub in_all : (xs : List X) → ((x : X) → In x xs → P x) → All P xs
  in_all xs f k d l = f (get_or xs k d) (in_from_contains xs (get_or xs k d) (Contains-get_or xs k d l))

pub owner_of : (p : Pass) (e : Entry) → In e (entries_of p) → e.actor ≡ p.actor
owner_of p e i = let a = act_in p.moments.items e i in actor_in p.actor p.moments.items (Act e a.0) p.known.own a.1

-- an entry of the trails is an entry of one pass
pub in_trails : (ps : List Pass) (e : Entry) → Contains (trails ps) e → (p : Pass) × In p ps × In e (entries_of p)
in_trails ps e c = in_flat entries_of ps e (in_from_contains (trails ps) e c)

pub trails_in : (ps : List Pass) (p : Pass) (e : Entry) → In p ps → In e (entries_of p) → Contains (trails ps) e
trails_in ps p e i j = contains_from_in (trails ps) e (flat_in entries_of ps p e i j)

abbrev pub IsNotAt : ℕ → Moment → Type 0
IsNotAt step m = (e : Entry) → IsActOf e m → e.step ≢ step

pub not_at : (step : ℕ) (p : Pass) → All (IsNotAt step) (moments_of p) → All (λ e. e.step ≢ step) (entries_of p)
not_at step p a = in_all (λ e. e.step ≢ step) (entries_of p) (λ e i. let m = act_in p.moments.items e i in
    all_in (IsNotAt step) (moments_of p) a (Act e m.0) m.1 e refl)
