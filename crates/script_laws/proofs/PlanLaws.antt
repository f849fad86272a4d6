-- Whole scripts: what is read is spelled, and what is spelled is read.
use Rattle.std.proofs.Common.{◌≡◌, ℕ, ◌+◌, ◌-◌, ◌≤◌, true, false, List, [], ◌∷◌, ◌++◌, length, map, filter, refl, sym, ap, subst, ◌∙◌}
use Rattle.std.proofs.Common.{arith, inl, inr, Option, Some, None, Result, Ok, Err, nat_lt}
use Rattle.std.specs.Prelude.{if◌then◌else◌}
use Rattle.std.specs.List.{AllByRecursion}
use Rattle.std.specs.Map.{keys_of}
use Rattle.std.proofs.lemmas.Bool.{cases_Bool, ltb-false, le-ltb}
use Rattle.script_words.specs.declared.limits.Limit.TheVariants as limits
use Rattle.script_words.specs.Splitting.{parts}
use Rattle.script_words.proofs.Parts.{parts_some}
use Rattle.tect_ids.specs.declared.ids.Counts.{Counts}
use Rattle.tect_ids.specs.declared.script.Line.{Line}
use Rattle.tect_ids.specs.declared.script.Line.TheVariants as lines
use Rattle.tect_ids.specs.declared.script.Plan.{Plan}
use Rattle.script_forms.specs.declared.faults.ScriptFault.{ScriptFault}
use Rattle.script_forms.specs.Form.{Got, read, ended}
use Rattle.script_forms.specs.LineText.{spaced, line_text}
use Rattle.script_forms.specs.Grammar.{store_form}
use Rattle.script_forms.specs.LineForms.{AreCounts}
use Rattle.script_forms.specs.Clients.{Seen, seen_after}
use Rattle.script_forms.specs.Reading.{at_line, is_comment, text_read, store_text_read, go_on, add_line, seen_behind, lines_read}
use Rattle.script_forms.specs.Reading.{behind_store, plan_of, the_plan, store_read, script_read, too_large}
use Rattle.script_forms.specs.Spelling.{AreLines, seen_of, is_told, plan_lines, IsPlan, Spells}
use Rattle.script_laws.proofs.GrammarLaws.{store_words, store_sound, store_complete}
use Rattle.script_laws.proofs.Visible.{parts_spaced, spaced_parts, store_visible}
use Rattle.script_laws.proofs.LineSteps.{IsLine as IsText, lines_step, store_step}
use Rattle.script_laws.proofs.ScriptLaws.{right_same, faulty_right, ended_got, append_nil, measured_right, measures, at_line_right}
use Rattle.script_laws.proofs.ScriptLaws.{text_told, go_on_right, outcome, lines_right}

-- the empty text behind the last line feed
abbrev closed : List (List ℕ) → List (List ℕ)
closed texts = texts ++ [] ∷ []

closed_some : (texts : List (List ℕ)) → (p : List ℕ) × (ps : List (List ℕ)) × (closed texts ≡ p ∷ ps)
closed_some [] = ([], [], refl)
closed_some (t ∷ texts) = (t, closed texts, refl)

is_text : (t : List ℕ) (texts : List (List ℕ)) → IsText t (closed texts)
is_text [] [] = tt
is_text [] (u ∷ texts) = tt
is_text (b ∷ t) texts = tt

pub list_cons : {A : Type 0} (x y : A) (xs ys : List A) → x ∷ xs ≡ y ∷ ys → (x ≡ y) × (xs ≡ ys)
list_cons x y xs ys e = (cc, cc)

pub list_none : {A P : Type 0} (x : A) (xs : List A) → [] ≡ x ∷ xs → P
list_none x xs e = absurd cc

pub list_some : {A P : Type 0} (x : A) (xs : List A) → x ∷ xs ≡ [] → P
list_some x xs e = absurd cc

-- ---- the lines behind the store line

step_on : (counts : Counts) (seen : Seen) (n : ℕ) (t : List ℕ) (texts : List (List ℕ)) (read : Option Line)
    → text_read counts seen n t ≡ Ok read
    → lines_read counts seen n (t ∷ closed texts) ≡ add_line read (lines_read counts (seen_behind seen read) (n + 1) (closed texts))
step_on counts seen n t texts read is =
    let some = closed_some texts in
    lines_step counts seen n t (closed texts) (is_text t texts) ∙ rw (is, some.2) refl

pub lines_complete : (counts : Counts) → AreCounts counts → (seen : Seen) (n : ℕ) (texts : List (List ℕ)) (ls : List Line)
    → length texts ≤ 65537 - n → AllByRecursion (λ (text : List ℕ). length text ≤ 70000) texts → filter is_told texts ≡ map line_text ls
    → AreLines counts seen ls →
    lines_read counts seen n (closed texts) ≡ Ok (outcome ls (seen_of seen ls))
lines_complete counts are seen n [] [] few short told may = refl
lines_complete counts are seen n [] (l ∷ ls) few short told may = list_none _ _ told
lines_complete counts are seen n (t ∷ texts) ls few short told may = elim (cases_Bool (is_comment t)) [
  | inl hit ↦
      step_on counts seen n t texts None (text_told counts are seen n t None (omega arith) short.0 hit)
      ∙ lines_complete counts are seen (n + 1) texts ls (omega arith) short.1 (rw hit at told) may
  | inr miss ↦ told_line counts are seen n t texts ls few short miss (rw miss at told) may
      (λ ls' seen' few' told' may'. lines_complete counts are seen' (n + 1) texts ls' few' short.1 told' may')
]
  where
    told_line : (counts : Counts) → AreCounts counts → (seen : Seen) (n : ℕ) (t : List ℕ) (texts : List (List ℕ)) (ls : List Line)
        → length (t ∷ texts) ≤ 65537 - n → AllByRecursion (λ (text : List ℕ). length text ≤ 70000) (t ∷ texts) → is_comment t ≡ false → t
        ∷ filter is_told texts ≡ map line_text ls → AreLines counts seen ls →
        ((vs : List Line) (after : Seen) → length texts ≤ 65537 - (n + 1) → filter is_told texts ≡ map line_text vs
        → AreLines counts after vs → lines_read counts after (n + 1) (closed texts) ≡ Ok (outcome vs (seen_of after vs)))
        → lines_read counts seen n (t ∷ closed texts) ≡ Ok (outcome ls (seen_of seen ls))
    told_line counts are seen n t texts [] few short miss told may go = list_some _ _ told
    told_line counts are seen n t texts (l ∷ ls) few short miss told may go =
        let same = list_cons t (line_text l) (filter is_told texts) (map line_text ls) told in
        step_on counts seen n t texts (Some l) (text_told counts are seen n t (Some l) (omega arith) short.0 (miss, may.0, same.0))
        ∙ ap (λ r. add_line (Some l) r) (go ls (seen_after seen l) (omega arith) same.1 may.1)

-- ---- the store line

pub record StoreRight (n : ℕ) (ps : List (List ℕ)) (plan : Plan) : Type 0 where
  pub plan_is : IsPlan plan
  pub texts : List (List ℕ)
  pub whole : ps ≡ closed texts
  pub few : length texts ≤ 65537 - n
  pub short : AllByRecursion (λ (text : List ℕ). length text ≤ 70000) texts
  pub told : filter is_told texts ≡ map line_text (plan_lines plan)

abbrev pub IsStore : List ℕ → Option Counts → Type 0
IsStore text None = is_comment text ≡ true
IsStore text (Some counts) = (is_comment text ≡ false) × AreCounts counts × (text ≡ line_text (lines.Store counts))

pub store_by : (n : ℕ) (text : List ℕ) (found : Option Counts)
    → (if is_comment text then Ok None else go_on (at_line n text (ended (read true store_form (parts 32 text))))
    (λ counts. Ok (Some counts))) ≡ Ok found → IsStore text found
store_by n text found is = elim (cases_Bool (is_comment text)) [
  | inl hit ↦ subst (λ (r : Option Counts). IsStore text r) (right_same None found (rw hit at is)) hit
  | inr miss ↦
      let g = go_on_right (at_line n text (ended (read true store_form (parts 32 text)))) (λ counts. Ok (Some counts)) found (rw miss at is)
      in
      let o = at_line_right n text (ended (read true store_form (parts 32 text))) g.0 g.1 in
      let e = ended_got (read true store_form (parts 32 text)) g.0 o.0 o.1 in
      let s = store_sound (parts 32 text) g.0 [] e.0 in
      let words : store_words g.0 ≡ parts 32 text = sym (append_nil (store_words g.0)) ∙ s.words in
      subst (λ (r : Option Counts). IsStore text r) (right_same (Some g.0) found g.2)
      (miss, s.form, sym (ap (λ (ws : List (List ℕ)). spaced ws) words ∙ spaced_parts text))
]

pub store_told : (n : ℕ) (text : List ℕ) (found : Option Counts) → n ≤ 65536 → length text ≤ 70000 → IsStore text found
    → store_text_read n text ≡ Ok found
store_told n text None few short told = measures n text _ few short ∙ rw told refl
store_told n text (Some counts) few short told =
    let words : parts 32 text ≡ store_words counts = ap (λ (t : List ℕ). parts 32 t) told.2 ∙ parts_spaced _ _ (store_visible counts told.1)
    in
    let is : read true store_form (parts 32 text) ≡ Got counts [] = ap (λ (ws : List (List ℕ)). read true store_form ws)
    (words ∙ sym (append_nil (store_words counts))) ∙ store_complete true counts told.1 [] in
    measures n text _ few short ∙ rw (told.0, is) refl

plan_right : (counts : Counts) (r : Result (List Line × Seen) ScriptFault) (plan : Plan) → plan_of counts r ≡ Ok plan → (ls : List Line)
    × (after : Seen) × (r ≡ Ok (outcome ls after)) × (the_plan counts (keys_of after) ls ≡ plan)
plan_right counts (Ok out) plan is = (out.0, out.1, refl, right_same (the_plan counts (keys_of out.1) out.0) plan is)
plan_right counts (Err fault) plan is = faulty_right fault plan is

found_right : (n : ℕ) (text : List ℕ) (q : List ℕ) (qs : List (List ℕ)) (found : Option Counts) (plan : Plan) → n ≤ 65536
    → length text ≤ 70000 → IsStore text found →
    behind_store found (store_read (n + 1) (q ∷ qs)) (λ counts. plan_of counts (lines_read counts [] (n + 1) (q ∷ qs))) ≡ Ok plan
    → (store_read (n + 1) (q ∷ qs) ≡ Ok plan → StoreRight (n + 1) (q ∷ qs) plan) → StoreRight n (text ∷ q ∷ qs) plan
found_right n text q qs None plan small short told is later =
    let m = later is in
    let few = m.few in
    record {
      plan_is = m.plan_is;
      texts = text ∷ m.texts;
      whole = ap (λ (ps : List (List ℕ)). text ∷ ps) m.whole;
      few = omega arith;
      short = (short, m.short);
      told = rw told m.told;
    }
found_right n text q qs (Some counts) plan small short told is later =
    let p = plan_right counts (lines_read counts [] (n + 1) (q ∷ qs)) plan is in
    let m = lines_right counts told.1 [] (n + 1) q qs p.0 p.1 p.2 in
    let few = m.few in
    subst (λ (x : Plan). StoreRight n (text ∷ q ∷ qs) x) p.3 (record {
      plan_is = record { counts = told.1; lines = m.are; clients = ap (λ (s : Seen). keys_of s) m.after_is };
      texts = text ∷ m.texts;
      whole = ap (λ (ps : List (List ℕ)). text ∷ ps) m.whole;
      few = omega arith;
      short = (short, m.short);
      told = rw told.0
          (ap (λ (t : List ℕ). t ∷ filter is_told m.texts) told.2 ∙ ap (λ (ts : List (List ℕ)). line_text (lines.Store counts) ∷ ts)
          m.told);
    })

pub store_right : (n : ℕ) (p : List ℕ) (ps : List (List ℕ)) (plan : Plan) → store_read n (p ∷ ps) ≡ Ok plan → StoreRight n (p ∷ ps) plan
store_right n [] [] plan is = faulty_right _ plan is
store_right n (b ∷ line) [] plan is =
    let g = go_on_right (store_text_read n (b ∷ line)) _ plan is in
    faulty_right _ plan g.2
store_right n p (q ∷ qs) plan is =
    let g = go_on_right (store_text_read n p)
    (λ found. behind_store found (store_read (n + 1) (q ∷ qs)) (λ counts. plan_of counts (lines_read counts [] (n + 1) (q ∷ qs)))) plan
    (sym (store_step n p (q ∷ qs) (text_before p q qs)) ∙ is) in
    let m = measured_right n p _ g.0 g.1 in
    found_right n p q qs g.0 plan m.number m.size (store_by n p g.0 m.is) g.2 (λ h. store_right (n + 1) q qs plan h)
  where
    text_before : (p q : List ℕ) (qs : List (List ℕ)) → IsText p (q ∷ qs)
    text_before [] q qs = tt
    text_before (b ∷ p) q qs = tt

store_on : (n : ℕ) (t : List ℕ) (texts : List (List ℕ)) (found : Option Counts) → store_text_read n t ≡ Ok found
    → store_read n (t ∷ closed texts) ≡ behind_store found (store_read (n + 1) (closed texts))
    (λ counts. plan_of counts (lines_read counts [] (n + 1) (closed texts)))
store_on n t texts found is =
    let some = closed_some texts in
    store_step n t (closed texts) (is_text t texts) ∙ rw (is, some.2) refl

pub plan_complete : (n : ℕ) (texts : List (List ℕ)) (plan : Plan) → IsPlan plan → length texts ≤ 65537 - n
    → AllByRecursion (λ (text : List ℕ). length text ≤ 70000) texts → filter is_told texts ≡ map line_text (plan_lines plan)
    → store_read n (closed texts) ≡ Ok plan
plan_complete n [] plan is few short told = list_none _ _ told
plan_complete n (t ∷ texts) plan is few short told = elim (cases_Bool (is_comment t)) [
  | inl hit ↦
      store_on n t texts None (store_told n t None (omega arith) short.0 hit)
      ∙ plan_complete (n + 1) texts plan is (omega arith) short.1 (rw hit at told)
  | inr miss ↦
      let same = list_cons t (line_text (lines.Store plan.counts)) (filter is_told texts) (map line_text plan.lines) (rw miss at told) in
      store_on n t texts (Some plan.counts) (store_told n t (Some plan.counts) (omega arith) short.0 (miss, is.counts, same.0))
      ∙ ap (λ r. plan_of plan.counts r)
      (lines_complete plan.counts is.counts [] (n + 1) texts plan.lines (omega arith) short.1 same.1 is.lines)
      ∙ ap (λ (names : List (List ℕ)). Ok (the_plan plan.counts names plan.lines)) (sym is.clients)
]

-- ---- the whole

pub script_sound : (bytes : List ℕ) (plan : Plan) → script_read bytes ≡ Ok plan → Spells bytes plan
script_sound bytes plan is = elim (cases_Bool (nat_lt 67108864 (length bytes))) [
  | inl large ↦ faulty_right (too_large limits.Script) plan (rw large at is)
  | inr small ↦
      let some = parts_some 10 bytes in
      let m = store_right 1 some.0 some.1 plan (ap (λ (ps : List (List ℕ)). store_read 1 ps) (sym some.2) ∙ (rw small at is)) in
      let few = m.few in
      record {
        plan_is = m.plan_is;
        size = ltb-false 67108864 (length bytes) small;
        texts = m.texts;
        whole = some.2 ∙ m.whole;
        few = omega arith;
        short = m.short;
        told = m.told;
      }
]

pub script_complete : (bytes : List ℕ) (plan : Plan) → Spells bytes plan → script_read bytes ≡ Ok plan
script_complete bytes plan s =
    let few = s.few in
    rw (le-ltb 67108864 (length bytes) s.size)
    (ap (λ (ps : List (List ℕ)). store_read 1 ps) s.whole ∙ plan_complete 1 s.texts plan s.plan_is (omega arith) s.short s.told)
