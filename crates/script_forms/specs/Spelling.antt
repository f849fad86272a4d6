-- Which bytes spell a plan.
use Rattle.std.specs.Prelude.{ℕ, ◌≡◌, ◌≤◌, Bool, false, not, List, [], ◌∷◌, ◌++◌, length, map, filter}
use Rattle.std.specs.List.{AllByRecursion, flat_map}
use Rattle.std.specs.Map.{keys_of}
use Rattle.script_words.specs.declared.limits.Fit.TheVariants.{Fits}
use Rattle.script_words.specs.Splitting.{parts}
use Rattle.tect_ids.specs.declared.ids.Counts.{Counts}
use Rattle.tect_ids.specs.declared.script.Line.{Line}
use Rattle.tect_ids.specs.declared.script.Line.TheVariants as lines
use Rattle.tect_ids.specs.declared.script.Plan.{Plan}
use Rattle.script_forms.specs.LineText.{act_words, line_text}
use Rattle.script_forms.specs.LineForms.{IsLine, line_limit, AreCounts}
use Rattle.script_forms.specs.Clients.{Seen, client_number, is_one_too_many, seen_after}
use Rattle.script_forms.specs.Reading.{out_of_state, is_comment}

-- A client does what its state allows, is one of 64, and has its number in first-seen order.
abbrev pub IsInOrder : Seen → Line → Type 0
IsInOrder seen (lines.Client client actor act) = (out_of_state seen client (act_words act) ≡ false) × (is_one_too_many seen client ≡ false)
    × (actor ≡ client_number seen client)
IsInOrder seen line = Unit {0}

-- the line may stand behind lines that left the clients so
pub record MayStand (counts : Counts) (seen : Seen) (line : Line) : Type 0 where
  pub form : IsLine counts line
  pub within : line_limit line ≡ Fits
  pub in_order : IsInOrder seen line

abbrev pub AreLines : Counts → Seen → List Line → Type 0
AreLines counts seen [] = Unit {0}
AreLines counts seen (line ∷ lines) = MayStand counts seen line × AreLines counts (seen_after seen line) lines

-- the clients behind these lines
abbrev pub seen_of : Seen → List Line → Seen
seen_of seen [] = seen
seen_of seen (line ∷ lines) = seen_of (seen_after seen line) lines

abbrev pub is_told : List ℕ → Bool
is_told text = not (is_comment text)

-- the lines of a plan, its store line too
abbrev pub plan_lines : Plan → List Line
plan_lines plan = lines.Store plan.counts ∷ plan.lines

pub record IsPlan (plan : Plan) : Type 0 where
  pub counts : AreCounts plan.counts
  pub lines : AreLines plan.counts [] plan.lines
  pub clients : plan.clients ≡ keys_of (seen_of [] plan.lines)

-- The bytes are lines, each ended by a line feed. But for comments they are the texts of the plan's lines.
pub record Spells (bytes : List ℕ) (plan : Plan) : Type 0 where
  pub plan_is : IsPlan plan
  pub size : length bytes ≤ 67108864
  pub texts : List (List ℕ)
  pub whole : parts 10 bytes ≡ texts ++ [] ∷ []
  pub few : length texts ≤ 65536
  pub short : AllByRecursion (λ (text : List ℕ). length text ≤ 70000) texts
  pub told : filter is_told texts ≡ map line_text (plan_lines plan)

-- the lines of a plan, as they are written without comments
abbrev pub script_text : Plan → List ℕ
script_text plan = flat_map (λ line. line_text line ++ 10 ∷ []) (plan_lines plan)

-- the text that is written stays within the limits of texts
pub record IsSmall (plan : Plan) : Type 0 where
  pub size : length (script_text plan) ≤ 67108864
  pub few : length (plan_lines plan) ≤ 65536
  pub short : AllByRecursion (λ (text : List ℕ). length text ≤ 70000) (map line_text (plan_lines plan))
