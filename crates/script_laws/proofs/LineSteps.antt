-- Reading goes on from one line to the next.
use Rattle.std.proofs.Common.{◌≡◌, ℕ, ◌+◌, List, [], ◌∷◌, refl}
use Rattle.tect_ids.specs.declared.ids.Counts.{Counts}
use Rattle.script_forms.specs.Clients.{Seen}
use Rattle.script_forms.specs.Reading.{add_line, go_on, ended_by, text_read, store_text_read, seen_behind, lines_read, plan_of}
use Rattle.script_forms.specs.Reading.{behind_store, store_read}

-- the last part is not empty, or there is another one behind it
abbrev pub IsLine : List ℕ → List (List ℕ) → Type 0
IsLine [] [] = ⊥
IsLine line more = Unit {0}

pub lines_step : (counts : Counts) (seen : Seen) (n : ℕ) (line : List ℕ) (more : List (List ℕ)) → IsLine line more →
    lines_read counts seen n (line ∷ more) ≡ go_on (text_read counts seen n line)
    (λ read. ended_by n line more (add_line read (lines_read counts (seen_behind seen read) (n + 1) more)))
lines_step counts seen n [] [] is = absurd is
lines_step counts seen n [] (part ∷ parts) is = refl
lines_step counts seen n (b ∷ line) more is = refl

pub store_step : (n : ℕ) (line : List ℕ) (more : List (List ℕ)) → IsLine line more →
    store_read n (line ∷ more) ≡ go_on (store_text_read n line)
    (λ read. ended_by n line more
    (behind_store read (store_read (n + 1) more) (λ counts. plan_of counts (lines_read counts [] (n + 1) more))))
store_step n [] [] is = absurd is
store_step n [] (part ∷ parts) is = refl
store_step n (b ∷ line) more is = refl
