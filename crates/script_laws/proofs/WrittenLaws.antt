-- What is written of a plan spells it.
use Rattle.std.proofs.Common.{◌≡◌, ℕ, ◌≤◌, Bool, true, false, nat_le, List, [], ◌∷◌, ◌++◌, length, map, filter, refl, sym, ap, subst, ◌∙◌}
use Rattle.std.proofs.Common.{append_assoc, arith}
use Rattle.std.specs.List.{list_all, AllByRecursion, flat_map}
use Rattle.std.proofs.lemmas.Bool.{leb-true, le-leb, ne_eqb, false≢true}
use Rattle.script_words.specs.Splitting.{splits, parts}
use Rattle.script_words.specs.WordForm.{is_client_name}
use Rattle.script_words.proofs.Apart.{both, joined, parts_first}
use Rattle.tect_ids.specs.declared.ids.Counts.{Counts}
use Rattle.tect_ids.specs.declared.script.Line.{Line}
use Rattle.tect_ids.specs.declared.script.Line.TheVariants as lines
use Rattle.tect_ids.specs.declared.script.Plan.{Plan}
use Rattle.script_forms.specs.LineText.{behind, spaced, act_words, line_words, line_text}
use Rattle.script_forms.specs.LineForms.{IsLine, AreCounts}
use Rattle.script_forms.specs.Clients.{Seen, seen_after}
use Rattle.script_forms.specs.Reading.{is_comment}
use Rattle.script_forms.specs.Spelling.{AreLines, is_told, plan_lines, IsPlan, Spells, script_text, IsSmall}
use Rattle.script_laws.proofs.Visible.{is_visible, IsVisible, AreVisible, line_visible, store_visible}

-- a byte of a line's text: no control character
abbrev is_plain : ℕ → Bool
is_plain b = nat_le 32 b

plain_apart : (b : ℕ) → is_plain b ≡ true → splits 10 b ≡ false
plain_apart b is = let low = leb-true 32 b is in ne_eqb b 10 (λ e. omega (arith, e))

visible_plain : (w : List ℕ) → IsVisible w → list_all is_plain w ≡ true
visible_plain [] is = refl
visible_plain (b ∷ w) is =
    let h = both (is_visible b) (list_all is_visible w) is in
    let low = leb-true 33 b h.0 in
    joined (is_plain b) (list_all is_plain w) (le-leb 32 b (omega arith)) (visible_plain w h.1)

plain_append : (a b : List ℕ) → list_all is_plain a ≡ true → list_all is_plain b ≡ true → list_all is_plain (a ++ b) ≡ true
plain_append [] b p q = q
plain_append (x ∷ a) b p q =
    let h = both (is_plain x) (list_all is_plain a) p in
    joined (is_plain x) (list_all is_plain (a ++ b)) h.0 (plain_append a b h.1 q)

behind_plain : (ws : List (List ℕ)) → AreVisible ws → list_all is_plain (behind ws) ≡ true
behind_plain [] are = refl
behind_plain (w ∷ ws) are = plain_append (32 ∷ w) (behind ws) (joined (is_plain 32) (list_all is_plain w) refl (visible_plain w are.0))
    (behind_plain ws are.1)

spaced_plain : (ws : List (List ℕ)) → AreVisible ws → list_all is_plain (spaced ws) ≡ true
spaced_plain [] are = refl
spaced_plain (w ∷ ws) are = plain_append w (behind ws) (visible_plain w are.0) (behind_plain ws are.1)

letter_first : (client : List ℕ) (more : List ℕ) → is_client_name client ≡ true → is_comment (client ++ more) ≡ false
letter_first [] more is = absurd (false≢true is)
letter_first (b ∷ client) more is =
    let letter = (both _ _ (both _ _ (both _ _ is).0).0).1 in
    let low = leb-true 97 b (both (nat_le 97 b) (nat_le b 122) letter).0 in
    ne_eqb b 35 (λ e. omega (arith, e))

line_told : (counts : Counts) (line : Line) → IsLine counts line → is_comment (line_text line) ≡ false
line_told counts (lines.Store other) is = absurd is
line_told counts (lines.Client client actor act) is = letter_first client (behind (act_words act)) is.0
line_told counts lines.Sweep is = refl
line_told counts (lines.Lose disk) is = refl
line_told counts lines.Dump is = refl

-- lines whose texts are no comments and have no line feeds
abbrev IsWritten : List ℕ → Type 0
IsWritten text = (list_all is_plain text ≡ true) × (is_comment text ≡ false)

written_lines : (counts : Counts) → AreCounts counts → (seen : Seen) (ls : List Line) → AreLines counts seen ls
    → AllByRecursion IsWritten (map line_text ls)
written_lines counts are seen [] may = tt
written_lines counts are seen (l ∷ ls) may = (
  (spaced_plain (line_words l) (line_visible counts are l may.0.form), line_told counts l may.0.form),
  written_lines counts are
      (seen_after seen l) ls may.1,
)

written_told : (texts : List (List ℕ)) → AllByRecursion IsWritten texts → filter is_told texts ≡ texts
written_told [] are = refl
written_told (t ∷ texts) are = rw are.0.1 (ap (λ (ts : List (List ℕ)). t ∷ ts) (written_told texts are.1))

written_parts : (ls : List Line) → AllByRecursion IsWritten (map line_text ls)
    → parts 10 (flat_map (λ line. line_text line ++ 10 ∷ []) ls) ≡ map line_text ls ++ [] ∷ []
written_parts [] are = refl
written_parts (l ∷ ls) are =
    ap (λ (bs : List ℕ). parts 10 bs) (append_assoc (line_text l) (10 ∷ []) (flat_map (λ line. line_text line ++ 10 ∷ []) ls))
    ∙ parts_first 10 is_plain plain_apart refl (line_text l) (flat_map (λ line. line_text line ++ 10 ∷ []) ls) are.0.0
    ∙ ap (λ (ps : List (List ℕ)). line_text l ∷ ps) (written_parts ls are.1)

length-map : (ls : List Line) → length (map line_text ls) ≡ length ls
length-map [] = refl
length-map (l ∷ ls) = omega (arith, length-map ls)

pub script_written : (plan : Plan) → IsPlan plan → IsSmall plan → Spells (script_text plan) plan
script_written plan is small =
    let written : AllByRecursion IsWritten (map line_text (plan_lines plan)) = (
      (spaced_plain (line_words (lines.Store plan.counts)) (store_visible plan.counts is.counts), refl),
      written_lines plan.counts
          is.counts [] plan.lines is.lines,
    ) in
    let few = small.few in
    let same = length-map (plan_lines plan) in
    record {
      plan_is = is;
      size = small.size;
      texts = map line_text (plan_lines plan);
      whole = written_parts (plan_lines plan) written;
      few = subst (λ (k : ℕ). k ≤ 65536) (sym same) few;
      short = small.short;
      told = written_told (map line_text (plan_lines plan)) written;
    }
