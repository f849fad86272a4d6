-- The fault that reading gives is the script's first.
use Rattle.std.proofs.Common.{◌≡◌, ℕ, ◌+◌, ◌<◌, ◌≤◌, true, false, List, [], ◌∷◌, ◌++◌, length, map, filter, refl, sym, ap, subst, ◌∙◌}
use Rattle.std.proofs.Common.{arith, inl, inr, ◌⊎◌, Option, Some, None, Result, Ok, Err, nat_lt}
use Rattle.std.specs.Prelude.{if◌then◌else◌}
use Rattle.std.specs.List.{AllByRecursion}
use Rattle.std.proofs.lemmas.Bool.{cases_Bool, ltb-false, ltb-true}
use Rattle.script_words.specs.declared.limits.Limit.{Limit}
use Rattle.script_words.specs.declared.limits.Limit.TheVariants as limits
use Rattle.script_words.specs.Splitting.{parts}
use Rattle.script_words.proofs.Parts.{parts_some}
use Rattle.tect_ids.specs.declared.ids.Counts.{Counts}
use Rattle.tect_ids.specs.declared.script.Line.{Line}
use Rattle.tect_ids.specs.declared.script.Line.TheVariants as lines
use Rattle.tect_ids.specs.declared.script.Plan.{Plan}
use Rattle.script_forms.specs.declared.faults.ScriptFault.{ScriptFault}
use Rattle.script_forms.specs.declared.faults.ScriptFault.TheVariants as faults
use Rattle.script_forms.specs.Form.{Outcome, Got, Wrong, Large, read, ended}
use Rattle.script_forms.specs.LineText.{line_text}
use Rattle.script_forms.specs.Grammar.{store_form}
use Rattle.script_forms.specs.LineForms.{AreCounts}
use Rattle.script_forms.specs.Clients.{Seen, seen_after}
use Rattle.script_forms.specs.Reading.{line_read, at_line, measured, is_comment, some_line, text_read, store_text_read, go_on, ended_by}
use Rattle.script_forms.specs.Reading.{add_line, seen_behind, lines_read, behind_store, plan_of, store_read, script_read, too_large}
use Rattle.script_forms.specs.Spelling.{is_told, AreLines, MayStand, seen_of}
use Rattle.script_forms.specs.FirstWrong.{IsWrongLine, IsLargeLine}
use Rattle.script_forms.specs.FirstFault.{column_of, IsTextFault, IsStoreFault, IsMeasuredFault, IsFaultBehind, IsFaultAt}
use Rattle.script_forms.specs.FirstFault.{IsEnd, IsEarlyFault, IsLateFault}
use Rattle.script_laws.proofs.LineSteps.{IsLine as IsText, lines_step, store_step}
use Rattle.script_laws.proofs.ScriptLaws.{right, faulty, measured_right, IsTold, told_by}
use Rattle.script_laws.proofs.PlanLaws.{IsStore, store_by}
use Rattle.script_laws.proofs.WrongLaws.{line_wrong, line_large}

pub fault_same : (A : Type 0) (x y : ScriptFault) → faulty A x ≡ Err y → x ≡ y
fault_same A x y e = cc

pub right_faulty : {A P : Type 0} (x : A) (fault : ScriptFault) → right x ≡ Err fault → P
right_faulty x fault e = absurd cc

-- ---- one text

measured_wrong : {A : Type 0} (n : ℕ) (text : List ℕ) (more : Result A ScriptFault) (fault : ScriptFault) (words : Type 0)
    → measured n text more ≡ Err fault → (more ≡ Err fault → words) → IsMeasuredFault n text fault words
measured_wrong {A} n text more fault words is inner = elim (cases_Bool (nat_lt 65536 n)) [
  | inl many ↦ inl (ltb-true 65536 n many, sym (fault_same A (too_large limits.Lines) fault (rw many at is)))
  | inr few ↦ elim (cases_Bool (nat_lt 70000 (length text))) [
    | inl long ↦ inr
        (inl (
          ltb-false 65536 n few,
          ltb-true 70000 (length text) long,
          sym
              (fault_same A (too_large limits.Line) fault (rw (few, long) at is)),
        ))
    | inr short ↦ inr (inr (ltb-false 65536 n few, ltb-false 70000 (length text) short, inner (rw (few, short) at is)))
  ]
]

some_line_wrong : (r : Result Line ScriptFault) (fault : ScriptFault) → some_line r ≡ Err fault → r ≡ Err fault
some_line_wrong (Ok line) fault is = right_faulty (Some line) fault is
some_line_wrong (Err other) fault is = ap (λ (f : ScriptFault). Err f) (fault_same (Option Line) other fault is)

at_line_wrong : {A : Type 0} (n : ℕ) (text : List ℕ) (o : Outcome A) (fault : ScriptFault) → at_line n text o ≡ Err fault →
    ((rest : List (List ℕ)) × (o ≡ Wrong rest) × (fault ≡ faults.Bad n (column_of text rest)))
    ⊎ ((limit : Limit) × (rest : List (List ℕ)) × (o ≡ Large limit rest) × (fault ≡ too_large limit))
at_line_wrong n text (Got value ws) fault is = right_faulty value fault is
at_line_wrong {A} n text (Wrong rest) fault is = inl (rest, refl, sym (fault_same A _ fault is))
at_line_wrong {A} n text (Large limit rest) fault is = inr (limit, rest, refl, sym (fault_same A _ fault is))

text_wrong_words : (counts : Counts) → AreCounts counts
    → (seen : Seen) (n : ℕ) (text : List ℕ) (others : List (List ℕ)) (fault : ScriptFault)
    → (if is_comment text then Ok None else some_line (at_line n text (line_read counts seen (parts 32 text)))) ≡ Err fault
    → IsTextFault counts seen n text others fault
text_wrong_words counts are seen n text others fault is = elim (cases_Bool (is_comment text)) [
  | inl hit ↦ right_faulty None fault (rw hit at is)
  | inr miss ↦
      let some = parts_some 32 text in
      by miss (at_line_wrong n text (line_read counts seen (parts 32 text)) fault (some_line_wrong _ fault (rw miss at is))) some.0 some.1
      some.2
]
  where
    by : is_comment text ≡ false
        → ((rest : List (List ℕ)) × (line_read counts seen (parts 32 text) ≡ Wrong rest) × (fault ≡ faults.Bad n (column_of text rest)))
        ⊎ ((limit : Limit) × (rest : List (List ℕ)) × (line_read counts seen (parts 32 text) ≡ Large limit rest)
        × (fault ≡ too_large limit)) →
        (first : List ℕ) (words : List (List ℕ)) → parts 32 text ≡ first ∷ words → IsTextFault counts seen n text others fault
    by miss (inl w) first words split = inr
        (inl (
          miss,
          (
            w.0,
            subst (λ (ws : List (List ℕ)). IsWrongLine counts seen ws w.0) (sym split)
                (line_wrong counts are seen first words w.0 (ap (λ (ws : List (List ℕ)). line_read counts seen ws) (sym split) ∙ w.1)),
            w.2,
          ),
        ))
    by miss (inr l) first words split = inr
        (inr (
          miss,
          (
            l.0,
            l.1,
            subst (λ (ws : List (List ℕ)). IsLargeLine counts seen ws l.0 l.1) (sym split)
                (line_large counts are seen first words l.0 l.1 (ap (λ (ws : List (List ℕ)). line_read counts seen ws) (sym split) ∙ l.2)),
            l.3,
          ),
        ))

told_is : (counts : Counts) (seen : Seen) (text : List ℕ) (read : Option Line) → IsTold counts seen text read → (is_comment text ≡ true)
    ⊎ ((line : Line) × MayStand counts seen line × (text ≡ line_text line))
told_is counts seen text None told = inl told
told_is counts seen text (Some line) told = inr (line, told.1, told.2)

-- ---- the lines behind the store line

pub record LinesWrong (counts : Counts) (seen : Seen) (n : ℕ) (ps : List (List ℕ)) (fault : ScriptFault) : Type 0 where
  pub before : List (List ℕ)
  pub text : List ℕ
  pub others : List (List ℕ)
  pub whole : ps ≡ before ++ text ∷ others
  pub short : AllByRecursion (λ (text : List ℕ). length text ≤ 70000) before
  pub ls : List Line
  pub told : filter is_told before ≡ map line_text ls
  pub are : AreLines counts seen ls
  pub fault_is : IsLateFault counts (seen_of seen ls) (n + length before) text others fault

-- a text stands where it has a byte, or others stand behind it
stands : (b : ℕ) (line : List ℕ) (others : List (List ℕ)) → ¬ IsEnd (b ∷ line) others
stands b line others end = let e = end.0 in absurd cc

goes_on : (text q : List ℕ) (qs : List (List ℕ)) → ¬ IsEnd text (q ∷ qs)
goes_on text q qs end = let e = end.1 in absurd cc

here_wrong : (counts : Counts) (seen : Seen) (n : ℕ) (text : List ℕ) (others : List (List ℕ)) (fault : ScriptFault)
    → (¬ IsEnd text others) → IsMeasuredFault n text fault (IsTextFault counts seen n text others fault)
    → LinesWrong counts seen n (text ∷ others) fault
here_wrong counts seen n text others fault stands is =
    let at : n ≡ n + 0 = omega arith in
    record {
      before = [];
      text = text;
      others = others;
      whole = refl;
      short = tt;
      ls = [];
      told = refl;
      are = tt;
      fault_is = (stands, subst (λ (k : ℕ). IsMeasuredFault k text fault (IsTextFault counts seen k text others fault)) at is);
    }

go_on_wrong : {A B : Type 0} (r : Result A ScriptFault) (go : A → Result B ScriptFault) (fault : ScriptFault) → go_on r go ≡ Err fault
    → (r ≡ Err fault) ⊎ ((x : A) × (r ≡ Ok x) × (go x ≡ Err fault))
go_on_wrong (Ok x) go fault is = inr (x, refl, is)
go_on_wrong {A} {B} (Err other) go fault is = inl (ap (λ (f : ScriptFault). Err f) (fault_same B other fault is))

add_wrong : (read : Option Line) (r : Result (List Line × Seen) ScriptFault) (fault : ScriptFault) → add_line read r ≡ Err fault
    → r ≡ Err fault
add_wrong None r fault is = is
add_wrong (Some line) (Ok out) fault is = right_faulty _ fault is
add_wrong (Some line) (Err other) fault is = ap (λ (f : ScriptFault). Err f) (fault_same (List Line × Seen) other fault is)

behind_wrong : (counts : Counts) (seen : Seen) (n : ℕ) (text : List ℕ) (more : List (List ℕ)) (fault : ScriptFault) (read : Option Line)
    → length text ≤ 70000 → IsTold counts seen text read → LinesWrong counts (seen_behind seen read) (n + 1) more fault
    → LinesWrong counts seen n (text ∷ more) fault
behind_wrong counts seen n text more fault None short told m =
    let at : n + 1 + length m.before ≡ n + length (text ∷ m.before) = omega arith in
    record {
      before = text ∷ m.before;
      text = m.text;
      others = m.others;
      whole = ap (λ (ps : List (List ℕ)). text ∷ ps) m.whole;
      short = (short, m.short);
      ls = m.ls;
      told = rw told m.told;
      are = m.are;
      fault_is = subst (λ (k : ℕ). IsLateFault counts (seen_of seen m.ls) k m.text m.others fault) at m.fault_is;
    }
behind_wrong counts seen n text more fault (Some line) short told m =
    let at : n + 1 + length m.before ≡ n + length (text ∷ m.before) = omega arith in
    record {
      before = text ∷ m.before;
      text = m.text;
      others = m.others;
      whole = ap (λ (ps : List (List ℕ)). text ∷ ps) m.whole;
      short = (short, m.short);
      ls = line ∷ m.ls;
      told = rw told.0 (ap (λ (t : List ℕ). t ∷ filter is_told m.before) told.2 ∙ ap (λ (ts : List (List ℕ)). line_text line ∷ ts) m.told);
      are = (told.1, m.are);
      fault_is = subst (λ (k : ℕ). IsLateFault counts (seen_of (seen_after seen line) m.ls) k m.text m.others fault) at m.fault_is;
    }

abbrev HasGone : Counts → Seen → ℕ → List ℕ → List (List ℕ) → Option Line → Result (List Line × Seen) ScriptFault
HasGone counts seen n p more read = ended_by n p more (add_line read (lines_read counts (seen_behind seen read) (n + 1) more))

pub lines_wrong : (counts : Counts) → AreCounts counts → (seen : Seen) (n : ℕ) (p : List ℕ) (ps : List (List ℕ)) (fault : ScriptFault)
    → lines_read counts seen n (p ∷ ps) ≡ Err fault → LinesWrong counts seen n (p ∷ ps) fault
lines_wrong counts are seen n [] [] fault is = right_faulty _ fault is
lines_wrong counts are seen n (b ∷ line) [] fault is = by
    (go_on_wrong (text_read counts seen n (b ∷ line)) (λ read. HasGone counts seen n (b ∷ line) [] read) fault is)
  where
    by : (text_read counts seen n (b ∷ line) ≡ Err fault)
        ⊎ ((read : Option Line) × (text_read counts seen n (b ∷ line) ≡ Ok read) × (HasGone counts seen n (b ∷ line) [] read ≡ Err fault))
        → LinesWrong counts seen n ((b ∷ line) ∷ []) fault
    by (inl e) = here_wrong counts seen n (b ∷ line) [] fault (stands b line [])
        (measured_wrong n (b ∷ line) _ fault _ e (λ h. text_wrong_words counts are seen n (b ∷ line) [] fault h))
    by (inr (read, ok, e)) =
        let m = measured_right n (b ∷ line) _ read ok in
        here_wrong counts seen n (b ∷ line) [] fault (stands b line [])
        (inr (inr (
          m.number,
          m.size,
          inl (
            told_is counts seen (b ∷ line) read (told_by counts are seen n (b ∷ line) read m.is),
            refl,
            sym
                (fault_same (List Line × Seen) _ fault e),
          ),
        )))
lines_wrong counts are seen n p (q ∷ qs) fault is = by
    (go_on_wrong (text_read counts seen n p) (λ read. HasGone counts seen n p (q ∷ qs) read) fault
    (sym (lines_step counts seen n p (q ∷ qs) (text_before p)) ∙ is)) (λ then_seen h. lines_wrong counts are then_seen (n + 1) q qs fault h)
  where
    text_before : (p : List ℕ) → IsText p (q ∷ qs)
    text_before [] = tt
    text_before (b ∷ p) = tt

    by : (text_read counts seen n p ≡ Err fault)
        ⊎ ((read : Option Line) × (text_read counts seen n p ≡ Ok read) × (HasGone counts seen n p (q ∷ qs) read ≡ Err fault))
        → ((after : Seen) → lines_read counts after (n + 1) (q ∷ qs) ≡ Err fault → LinesWrong counts after (n + 1) (q ∷ qs) fault)
        → LinesWrong counts seen n (p ∷ q ∷ qs) fault
    by (inl e) go = here_wrong counts seen n p (q ∷ qs) fault (goes_on p q qs)
        (measured_wrong n p _ fault _ e (λ h. text_wrong_words counts are seen n p (q ∷ qs) fault h))
    by (inr (read, ok, e)) go =
        let m = measured_right n p _ read ok in
        behind_wrong counts seen n p (q ∷ qs) fault read m.size (told_by counts are seen n p read m.is)
        (go (seen_behind seen read) (add_wrong read _ fault e))

-- ---- the store line

store_words_wrong : (n : ℕ) (text : List ℕ) (others : List (List ℕ)) (fault : ScriptFault)
    → (if is_comment text then Ok None else go_on (at_line n text (ended (read true store_form (parts 32 text))))
    (λ counts. Ok (Some counts))) ≡ Err fault → IsStoreFault n text others fault
store_words_wrong n text others fault is = elim (cases_Bool (is_comment text)) [
  | inl hit ↦ right_faulty None fault (rw hit at is)
  | inr miss ↦ by miss
      (go_on_wrong (at_line n text (ended (read true store_form (parts 32 text)))) (λ counts. right (Some counts)) fault (rw miss at is))
]
  where
    placed : is_comment text ≡ false
        → ((rest : List (List ℕ)) × (ended (read true store_form (parts 32 text)) ≡ Wrong rest)
        × (fault ≡ faults.Bad n (column_of text rest)))
        ⊎ ((limit : Limit) × (rest : List (List ℕ)) × (ended (read true store_form (parts 32 text)) ≡ Large limit rest)
        × (fault ≡ too_large limit)) → IsStoreFault n text others fault
    placed miss (inl w) = inr (inl (miss, (w.0, w.1, w.2)))
    placed miss (inr l) = inr (inr (miss, (l.0, l.1, l.2, l.3)))

    by : is_comment text ≡ false → (at_line n text (ended (read true store_form (parts 32 text))) ≡ Err fault)
        ⊎ ((counts : Counts) × (at_line n text (ended (read true store_form (parts 32 text))) ≡ Ok counts)
        × (right (Some counts) ≡ Err fault)) → IsStoreFault n text others fault
    by miss (inl e) = placed miss (at_line_wrong n text (ended (read true store_form (parts 32 text))) fault e)
    by miss (inr (counts, ok, e)) = right_faulty (Some counts) fault e

store_is : (text : List ℕ) (found : Option Counts) → IsStore text found → (is_comment text ≡ true)
    ⊎ ((counts : Counts) × AreCounts counts × (text ≡ line_text (lines.Store counts)))
store_is text None told = inl told
store_is text (Some counts) told = inr (counts, told.1, told.2)

-- what stands behind so many texts, from line number n on
abbrev pub IsBehind : ℕ → List (List ℕ) → List ℕ → List (List ℕ) → ScriptFault → Type 0
IsBehind n before text others fault =
    ((filter is_told before ≡ []) × IsEarlyFault (n + length before) text others fault)
    ⊎ ((counts : Counts) × (ls : List Line) × (filter is_told before ≡ map line_text (lines.Store counts ∷ ls)) × AreCounts counts
    × AreLines counts [] ls
    × IsLateFault counts (seen_of [] ls) (n + length before) text others fault)

pub record StoreWrong (n : ℕ) (ps : List (List ℕ)) (fault : ScriptFault) : Type 0 where
  pub before : List (List ℕ)
  pub text : List ℕ
  pub others : List (List ℕ)
  pub whole : ps ≡ before ++ text ∷ others
  pub short : AllByRecursion (λ (text : List ℕ). length text ≤ 70000) before
  pub fault_is : IsBehind n before text others fault

here_store : (n : ℕ) (text : List ℕ) (others : List (List ℕ)) (fault : ScriptFault)
    → IsEarlyFault n text others fault → StoreWrong n (text ∷ others) fault
here_store n text others fault is =
    let at : n ≡ n + 0 = omega arith in
    record {
      before = [];
      text = text;
      others = others;
      whole = refl;
      short = tt;
      fault_is = inl (refl, subst (λ (k : ℕ). IsEarlyFault k text others fault) at is);
    }

-- a comment before
comment_before : (n : ℕ) (t : List ℕ) (before : List (List ℕ)) (text : List ℕ) (others : List (List ℕ)) (fault : ScriptFault)
    → is_comment t ≡ true → IsBehind (n + 1) before text others fault → IsBehind n (t ∷ before) text others fault
comment_before n t before text others fault hit (inl (none, is)) =
    let at : n + 1 + length before ≡ n + length (t ∷ before) = omega arith in
    inl (
      rw hit none,
      subst (λ (k : ℕ). IsEarlyFault k text others fault) at is,
    )
comment_before n t before text others fault hit (inr (counts, ls, told, are, may, is)) =
    let at : n + 1 + length before ≡ n + length (t ∷ before) = omega arith in
    inr (
      counts,
      ls,
      rw hit told,
      are,
      may,
      subst (λ (k : ℕ). IsLateFault counts (seen_of [] ls) k text others fault) at is,
    )

plan_wrong : (counts : Counts) (r : Result (List Line × Seen) ScriptFault) (fault : ScriptFault) → plan_of counts r ≡ Err fault
    → r ≡ Err fault
plan_wrong counts (Ok out) fault is = right_faulty _ fault is
plan_wrong counts (Err other) fault is = ap (λ (f : ScriptFault). Err f) (fault_same Plan other fault is)

found_wrong : (n : ℕ) (t q : List ℕ) (qs : List (List ℕ)) (found : Option Counts) (fault : ScriptFault) → length t ≤ 70000 → IsStore t found
    →
    behind_store found (store_read (n + 1) (q ∷ qs)) (λ counts. plan_of counts (lines_read counts [] (n + 1) (q ∷ qs))) ≡ Err fault
    → (store_read (n + 1) (q ∷ qs) ≡ Err fault → StoreWrong (n + 1) (q ∷ qs) fault) → StoreWrong n (t ∷ q ∷ qs) fault
found_wrong n t q qs None fault short told is later =
    let m = later is in
    record {
      before = t ∷ m.before;
      text = m.text;
      others = m.others;
      whole = ap (λ (ps : List (List ℕ)). t ∷ ps) m.whole;
      short = (short, m.short);
      fault_is = comment_before n t m.before m.text m.others fault told m.fault_is;
    }
found_wrong n t q qs (Some counts) fault short told is later =
    let m = lines_wrong counts told.1 [] (n + 1) q qs fault (plan_wrong counts _ fault is) in
    let at : n + 1 + length m.before ≡ n + length (t ∷ m.before) = omega arith in
    record {
      before = t ∷ m.before;
      text = m.text;
      others = m.others;
      whole = ap (λ (ps : List (List ℕ)). t ∷ ps) m.whole;
      short = (short, m.short);
      fault_is = inr (
        counts,
        m.ls,
        rw told.0 (ap (λ (v : List ℕ). v ∷ filter is_told m.before) told.2 ∙ ap
            (λ (ts : List (List ℕ)). line_text (lines.Store counts) ∷ ts) m.told),
        told.1,
        m.are,
        subst (λ (k : ℕ). IsLateFault counts (seen_of [] m.ls) k m.text m.others fault) at m.fault_is,
      );
    }

abbrev StoreGone : ℕ → List ℕ → List (List ℕ) → Option Counts → Result Plan ScriptFault
StoreGone n p more found = ended_by n p more
    (behind_store found (store_read (n + 1) more) (λ counts. plan_of counts (lines_read counts [] (n + 1) more)))

pub store_wrong_at : (n : ℕ) (p : List ℕ) (ps : List (List ℕ)) (fault : ScriptFault) → n ≤ 65537 → store_read n (p ∷ ps) ≡ Err fault
    → StoreWrong n (p ∷ ps) fault
store_wrong_at n [] [] fault few is = here_store n [] [] fault (inl ((refl, refl), few, sym (fault_same Plan (faults.Bad n 1) fault is)))
store_wrong_at n (b ∷ line) [] fault few is = by
    (go_on_wrong (store_text_read n (b ∷ line)) (λ found. StoreGone n (b ∷ line) [] found) fault is)
  where
    by : (store_text_read n (b ∷ line) ≡ Err fault)
        ⊎ ((found : Option Counts) × (store_text_read n (b ∷ line) ≡ Ok found) × (StoreGone n (b ∷ line) [] found ≡ Err fault))
        → StoreWrong n ((b ∷ line) ∷ []) fault
    by (inl e) = here_store n (b ∷ line) [] fault
        (inr (stands b line [], measured_wrong n (b ∷ line) _ fault _ e (λ h. store_words_wrong n (b ∷ line) [] fault h)))
    by (inr (found, ok, e)) =
        let m = measured_right n (b ∷ line) _ found ok in
        here_store n (b ∷ line) [] fault
        (inr (
          stands b line [],
          inr (inr
              (m.number, m.size, inl (store_is (b ∷ line) found (store_by n (b ∷ line) found m.is), refl, sym (fault_same Plan _ fault e)))),
        ))
store_wrong_at n p (q ∷ qs) fault few is = by
    (go_on_wrong (store_text_read n p) (λ found. StoreGone n p (q ∷ qs) found) fault (sym (store_step n p (q ∷ qs) (text_before p)) ∙ is))
    (λ next h. store_wrong_at (n + 1) q qs fault next h)
  where
    text_before : (p : List ℕ) → IsText p (q ∷ qs)
    text_before [] = tt
    text_before (b ∷ p) = tt

    by : (store_text_read n p ≡ Err fault)
        ⊎ ((found : Option Counts) × (store_text_read n p ≡ Ok found) × (StoreGone n p (q ∷ qs) found ≡ Err fault))
        → (n + 1 ≤ 65537 → store_read (n + 1) (q ∷ qs) ≡ Err fault → StoreWrong (n + 1) (q ∷ qs) fault) → StoreWrong n (p ∷ q ∷ qs) fault
    by (inl e) go = here_store n p (q ∷ qs) fault
        (inr (goes_on p q qs, measured_wrong n p _ fault _ e (λ h. store_words_wrong n p (q ∷ qs) fault h)))
    by (inr (found, ok, e)) go =
        let m = measured_right n p _ found ok in
        found_wrong n p q qs found fault m.size (store_by n p found m.is) e (go (let h = m.number in omega (arith, h)))

-- ---- the whole

pub script_wrong : (bytes : List ℕ) (fault : ScriptFault) → script_read bytes ≡ Err fault
    → ((67108864 < length bytes) × (fault ≡ too_large limits.Script)) ⊎ IsFaultAt bytes fault
script_wrong bytes fault is = elim (cases_Bool (nat_lt 67108864 (length bytes))) [
  | inl large ↦ inl (ltb-true 67108864 (length bytes) large, sym (fault_same Plan (too_large limits.Script) fault (rw large at is)))
  | inr small ↦
      let some = parts_some 10 bytes in
      let m = store_wrong_at 1 some.0 some.1 fault (omega arith) (ap (λ (ps : List (List ℕ)). store_read 1 ps) (sym some.2) ∙ (rw small at is)) in
      let at : 1 + length m.before ≡ length m.before + 1 = omega arith in
      inr (record {
        size = ltb-false 67108864 (length bytes) small;
        before = m.before;
        text = m.text;
        others = m.others;
        whole = some.2 ∙ m.whole;
        short = m.short;
        fault_is = from_one m.before m.text m.others m.fault_is;
      })
]
  where
    from_one : (before : List (List ℕ)) (text : List ℕ) (others : List (List ℕ)) → IsBehind 1 before text others fault
        → IsFaultBehind before text others fault
    from_one before text others is' =
        let at : 1 + length before ≡ length before + 1 = omega arith in
        by at is'
      where
        by : 1 + length before ≡ length before + 1 → IsBehind 1 before text others fault → IsFaultBehind before text others fault
        by at (inl (none, x)) = inl (
          none,
          subst (λ (k : ℕ). IsEarlyFault k text others fault) at x,
        )
        by at (inr (counts, ls, told, are, may, x)) = inr (
          counts,
          ls,
          told,
          are,
          may,
          subst (λ (k : ℕ). IsLateFault counts (seen_of [] ls) k text others fault) at x,
        )
