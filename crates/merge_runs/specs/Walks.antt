-- What a walk along all moments, in order, takes of each history.
use Rattle.std.specs.Prelude.{◌≡◌, ◌≢◌, ℕ, ◌<◌, ◌≤◌, ◌⊎◌, List, [], ◌∷◌, map, slice_index_or}
use Rattle.std.specs.List.{Contains, filter}
use Rattle.place_kit.specs.declared.any.AnyKept.{AnyKept}
use Rattle.entry_words.specs.declared.entry.Entry.{Entry}
use Rattle.entry_words.specs.declared.entry.Moment.{Moment}
use Rattle.entry_words.specs.declared.entry.Moment.TheVariants.{Act, Local}
use Rattle.entry_words.specs.Moments.{is_at, trail_of}
use Rattle.place_kit.specs.Kept.{history_of}
use Rattle.merge_runs.specs.Merged.{histories}

-- the list of the place of that number; there is nothing at a number beyond the places
abbrev pub list_at : List (List Entry) → ℕ → List Entry
list_at lists n = slice_index_or lists n []

-- the transactions at the place of that number
abbrev pub acted_at : ℕ → List Moment → List Entry
acted_at n ms = trail_of (filter (is_at n) ms)

-- at each place the transactions are its history
abbrev pub IsWalked : List AnyKept → List Moment → Type 0
IsWalked ks ms = (n : ℕ) → acted_at n ms ≡ list_at (map history_of ks) n

-- x is first in the list, and is stamped before e
abbrev pub IsAhead : List Entry → Entry → Entry → Type 0
IsAhead list e x = (rest : List Entry) × (list ≡ x ∷ rest) × (x.stamp < e.stamp)

-- e is not first in the list, and what is first is not stamped before it
abbrev pub IsLacking : List Entry → Entry → Type 0
IsLacking list e = (x : Entry) (rest : List Entry) → list ≡ x ∷ rest → (x ≢ e) × (e.stamp ≤ x.stamp)

-- the list does not go on with e, but with x, or lacks x, which is e
abbrev pub IsBlocked : List Entry → Entry → Entry → Type 0
IsBlocked list e x = IsAhead list e x ⊎ ((x ≡ e) × IsLacking list e)

-- e was first in the list of its place, and was taken from it; the other lists stay
abbrev pub TakesEntry : List (List Entry) → List (List Entry) → Entry → Type 0
TakesEntry old new e =
    (list_at old e.place.0 ≡ e ∷ list_at new e.place.0) × ((n : ℕ) → n ≢ e.place.0 → list_at new n ≡ list_at old n)

-- the moment's entry, if it is a transaction, was taken so
abbrev pub TakesMoment : List (List Entry) → List (List Entry) → Moment → Type 0
TakesMoment old new (Act e heard) = TakesEntry old new e
TakesMoment old new (Local stamp actor note) = new ≡ old

-- the moment is a transaction, with whose entry the list of its place does not go on
abbrev pub BlocksMoment : List (List Entry) → Moment → Entry → Type 0
BlocksMoment lists (Act e heard) x = IsBlocked (list_at lists e.place.0) e x
BlocksMoment lists (Local stamp actor note) x = ⊥

-- the moments have the entry or the histories have it, and not both
abbrev pub IsApartFrom : List AnyKept → List Moment → Entry → Type 0
IsApartFrom ks ms e =
    (Contains (trail_of ms) e × (¬ Contains (histories ks) e)) ⊎ (Contains (histories ks) e × (¬ Contains (trail_of ms) e))
