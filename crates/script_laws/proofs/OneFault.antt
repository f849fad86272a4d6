-- A first fault is the one that reading gives: so a script has one at most.
use Rattle.std.proofs.Common.{◌≡◌, ◌≢◌, ℕ, ◌+◌, ◌<◌, ◌≤◌, true, false, List, [], ◌∷◌, ◌++◌, length, map, filter, refl, sym, ap, subst, ◌∙◌}
use Rattle.std.proofs.Common.{arith, inl, inr, ◌⊎◌, Option, Some, None, Result, Ok, Err}
use Rattle.std.specs.List.{AllByRecursion}
use Rattle.std.proofs.lemmas.Bool.{cases_Bool, cases_lt, lt-ltb, le-ltb}
use Rattle.script_words.specs.declared.limits.Limit.{Limit}
use Rattle.script_words.specs.declared.limits.Limit.TheVariants as limits
use Rattle.script_words.specs.Splitting.{parts}
use Rattle.script_words.proofs.Parts.{parts_some}
use Rattle.tect_ids.specs.declared.ids.Counts.{Counts}
use Rattle.tect_ids.specs.declared.script.Line.{Line}
use Rattle.tect_ids.specs.declared.script.Line.TheVariants as lines
use Rattle.tect_ids.specs.declared.script.Plan.{Plan}
use Rattle.script_forms.specs.declared.faults.ScriptFault.{ScriptFault}
use Rattle.script_forms.specs.declared.faults.ScriptFault.TheVariants as faults
use Rattle.script_forms.specs.Form.{Outcome, Wrong, Large, read, ended}
use Rattle.script_forms.specs.LineText.{line_text}
use Rattle.script_forms.specs.Grammar.{store_form}
use Rattle.script_forms.specs.LineForms.{AreCounts}
use Rattle.script_forms.specs.Clients.{Seen, seen_after}
use Rattle.script_forms.specs.Reading.{line_read, at_line, measured, is_comment, text_read, store_text_read, go_on}
use Rattle.script_forms.specs.Reading.{ended_by, add_line, seen_behind, lines_read, behind_store, plan_of, store_read, script_read, too_large}
use Rattle.script_forms.specs.Spelling.{is_told, AreLines, MayStand, seen_of, Spells}
use Rattle.script_forms.specs.FirstWrong.{IsWrongLine}
use Rattle.script_forms.specs.FirstWrong.{IsLargeLine}
use Rattle.script_forms.specs.FirstFault.{IsTextFault, IsStoreFault, IsMeasuredFault, IsFaultBehind, IsFaultAt, IsFirstFault}
use Rattle.script_forms.specs.FirstFault.{IsEnd, IsEarlyFault, IsLateFault}
use Rattle.script_laws.proofs.LineSteps.{IsLine as IsText, lines_step, store_step}
use Rattle.script_laws.proofs.ScriptLaws.{right_same, faulty_right, IsTold, text_told, measures}
use Rattle.script_laws.proofs.PlanLaws.{IsStore, store_told, script_complete, list_cons, list_none, list_some}
use Rattle.script_laws.proofs.FaultLaws.{IsBehind, fault_same, right_faulty}
use Rattle.script_laws.proofs.OneLine.{wrong_read, large_read}

-- ---- one text

go_err : {A B : Type 0} (r : Result A ScriptFault) (go : A → Result B ScriptFault) (fault : ScriptFault) → r ≡ Err fault
    → go_on r go ≡ Err fault
go_err (Ok x) go fault e = right_faulty x fault e
go_err {A} (Err other) go fault e = ap (λ (f : ScriptFault). Err f) (fault_same A other fault e)

go_ok : {A B : Type 0} (r : Result A ScriptFault) (go : A → Result B ScriptFault) (x : A) → r ≡ Ok x → go_on r go ≡ go x
go_ok (Ok y) go x e = ap go (right_same y x e)
go_ok (Err other) go x e = faulty_right other x e

measured_many : {A : Type 0} (n : ℕ) (text : List ℕ) (more : Result A ScriptFault) → 65536 < n
    → measured n text more ≡ Err (too_large limits.Lines)
measured_many n text more many = rw (lt-ltb 65536 n many) refl

measured_long : {A : Type 0} (n : ℕ) (text : List ℕ) (more : Result A ScriptFault) → n ≤ 65536 → 70000 < length text
    → measured n text more ≡ Err (too_large limits.Line)
measured_long n text more few long = rw (le-ltb 65536 n few, lt-ltb 70000 (length text) long) refl

-- a script has 65,536 lines at most
too_many : (n : ℕ) (text : List ℕ) (fault : ScriptFault) (words : Type 0) → 65536 < n → IsMeasuredFault n text fault words
    → fault ≡ too_large limits.Lines
too_many n text fault words many (inl (more, e)) = e
too_many n text fault words many (inr (inl (few, long, e))) = absurd (omega (arith, many, few))
too_many n text fault words many (inr (inr (few, short, w))) = absurd (omega (arith, many, few))

-- a text stands there
is_text : (text : List ℕ) (others : List (List ℕ)) → (¬ IsEnd text others) → IsText text others
is_text [] [] stands = stands (refl, refl)
is_text [] (t ∷ others) stands = tt
is_text (b ∷ text) others stands = tt

is_text_before : (t : List ℕ) (before : List (List ℕ)) (text : List ℕ) (others : List (List ℕ)) → IsText t (before ++ text ∷ others)
is_text_before [] [] text others = tt
is_text_before [] (b ∷ before) text others = tt
is_text_before (x ∷ t) before text others = tt

ended_more : {A : Type 0} (n : ℕ) (t : List ℕ) (before : List (List ℕ)) (text : List ℕ) (others : List (List ℕ)) (more : Result A ScriptFault)
    → ended_by n t (before ++ text ∷ others) more ≡ more
ended_more n t [] text others more = refl
ended_more n t (b ∷ before) text others more = refl

ended_none : {A : Type 0} (n : ℕ) (text : List ℕ) (others : List (List ℕ)) (more : Result A ScriptFault) (fault : ScriptFault) → others ≡ []
    → fault ≡ faults.Bad n (length text + 1) → ended_by n text others more ≡ Err fault
ended_none n text [] more fault none is = ap (λ (f : ScriptFault). Err f) (sym is)
ended_none n text (t ∷ others) more fault none is = list_some t others none

text_of : (counts : Counts) (seen : Seen) (text : List ℕ) → (is_comment text ≡ true)
    ⊎ ((line : Line) × MayStand counts seen line × (text ≡ line_text line)) → (read : Option Line) × IsTold counts seen text read
text_of counts seen text (inl hit) = (None, hit)
text_of counts seen text (inr (line, may, is)) = elim (cases_Bool (is_comment text)) [
  | inl hit ↦ (None, hit)
  | inr miss ↦ (Some line, (miss, may, is))
]

-- ---- the lines behind the store line

abbrev Gone : Counts → Seen → ℕ → List ℕ → List (List ℕ) → Option Line → Result (List Line × Seen) ScriptFault
Gone counts seen n p more read = ended_by n p more (add_line read (lines_read counts (seen_behind seen read) (n + 1) more))

module _ (counts : Counts) (are : AreCounts counts) where
  text_bad : (seen : Seen) (n : ℕ) (text : List ℕ) (fault : ScriptFault) → n ≤ 65536 → length text ≤ 70000 → is_comment text ≡ false
      → at_line n text (line_read counts seen (parts 32 text)) ≡ Err fault → text_read counts seen n text ≡ Err fault
  text_bad seen n text fault few short miss is = measures n text _ few short ∙ rw (miss, is) refl

  text_fault : (seen : Seen) (n : ℕ) (text : List ℕ) (others : List (List ℕ)) (fault : ScriptFault)
      → IsLateFault counts seen n text others fault → lines_read counts seen n (text ∷ others) ≡ Err fault
  text_fault seen n text others fault (stands, is) = lines_step counts seen n text others (is_text text others stands) ∙ by is
    where
      words_of : (rest : List (List ℕ)) → IsWrongLine counts seen (parts 32 text) rest → line_read counts seen (parts 32 text) ≡ Wrong rest
      words_of rest w =
          let some = parts_some 32 text in
          ap (λ (ws : List (List ℕ)). line_read counts seen ws) some.2
          ∙ wrong_read counts are seen some.0 some.1 rest (subst (λ (ws : List (List ℕ)). IsWrongLine counts seen ws rest) some.2 w)

      large_of : (limit : Limit) (rest : List (List ℕ)) → IsLargeLine counts seen (parts 32 text) limit rest
          → (r : List (List ℕ)) × (line_read counts seen (parts 32 text) ≡ Large limit r)
      large_of limit rest w =
          let some = parts_some 32 text in
          let l = large_read counts are seen some.0 some.1 limit rest
          (subst (λ (ws : List (List ℕ)). IsLargeLine counts seen ws limit rest) some.2 w) in
          (l.0, ap (λ (ws : List (List ℕ)). line_read counts seen ws) some.2 ∙ l.1)

      go : Option Line → Result (List Line × Seen) ScriptFault
      go found = Gone counts seen n text others found

      by : IsMeasuredFault n text fault (IsTextFault counts seen n text others fault)
          → go_on (text_read counts seen n text) (λ read. Gone counts seen n text others read) ≡ Err fault
      by (inl (many, e)) = go_err (text_read counts seen n text) go fault
          (measured_many n text _ many ∙ ap (λ (f : ScriptFault). Err f) (sym e))
      by (inr (inl (few, long, e))) = go_err (text_read counts seen n text) go fault
          (measured_long n text _ few long ∙ ap (λ (f : ScriptFault). Err f) (sym e))
      by (inr (inr (few, short, inl (told, none, e)))) =
          let t = text_of counts seen text told in
          go_ok (text_read counts seen n text) go t.0 (text_told counts are seen n text t.0 few short t.1)
          ∙ ended_none n text others _ fault none e
      by (inr (inr (few, short, inr (inl (miss, (rest, wrong, e)))))) = go_err (text_read counts seen n text) go fault
          (text_bad seen n text fault few short miss (ap (λ (o : Outcome Line). at_line n text o) (words_of rest wrong)
          ∙ ap (λ (f : ScriptFault). Err f) (sym e)))
      by (inr (inr (few, short, inr (inr (miss, (limit, rest, large, e)))))) = go_err (text_read counts seen n text) go fault
          (let l = large_of limit rest large in
          text_bad seen n text fault few short miss (ap (λ (o : Outcome Line). at_line n text o) l.1
          ∙ ap (λ (f : ScriptFault). Err f) (sym e)))

  add_err : (read : Option Line) (r : Result (List Line × Seen) ScriptFault) (fault : ScriptFault) → r ≡ Err fault
      → add_line read r ≡ Err fault
  add_err None r fault e = e
  add_err (Some line) (Ok out) fault e = right_faulty out fault e
  add_err (Some line) (Err other) fault e = ap (λ (f : ScriptFault). Err f) (fault_same (List Line × Seen) other fault e)

  step_over : (seen : Seen) (n : ℕ) (t : List ℕ) (before : List (List ℕ)) (text : List ℕ) (others : List (List ℕ)) (read : Option Line)
      (fault : ScriptFault) → text_read counts seen n t ≡ Ok read
      → lines_read counts (seen_behind seen read) (n + 1) (before ++ text ∷ others) ≡ Err fault
      → lines_read counts seen n (t ∷ before ++ text ∷ others) ≡ Err fault
  step_over seen n t before text others read fault ok inner =
      lines_step counts seen n t (before ++ text ∷ others) (is_text_before t before text others)
      ∙ go_ok (text_read counts seen n t) (λ read. Gone counts seen n t (before ++ text ∷ others) read) read ok
      ∙ ended_more n t before text others _ ∙ add_err read _ fault inner

  lines_fault : (seen : Seen) (n : ℕ) (before : List (List ℕ)) (ls : List Line) (text : List ℕ) (others : List (List ℕ))
      (fault : ScriptFault) → AllByRecursion (λ (text : List ℕ). length text ≤ 70000) before
      → filter is_told before ≡ map line_text ls → AreLines counts seen ls
      → IsLateFault counts (seen_of seen ls) (n + length before) text others fault
      → lines_read counts seen n (before ++ text ∷ others) ≡ Err fault
  lines_fault seen n [] [] text others fault short told may late =
      let at : n + 0 ≡ n = omega arith in
      text_fault seen n text others fault (subst (λ (k : ℕ). IsLateFault counts seen k text others fault) at late)
  lines_fault seen n [] (l ∷ ls) text others fault short told may late = list_none _ _ told
  lines_fault seen n (t ∷ before) ls text others fault short told may late = elim (cases_lt 65536 n) [
    | inl many ↦
        let lines_many : 65536 < n + length (t ∷ before) = omega (arith, many) in
        lines_step counts seen n t (before ++ text ∷ others) (is_text_before t before text others)
        ∙ go_err (text_read counts seen n t) (λ read. Gone counts seen n t (before ++ text ∷ others) read) fault
        (measured_many n t _ many ∙ ap (λ (f : ScriptFault). Err f) (sym (too_many _ text fault _ lines_many late.1)))
    | inr few ↦ elim (cases_Bool (is_comment t)) [
      | inl hit ↦ step_over seen n t before text others None fault (text_told counts are seen n t None few short.0 hit)
          (lines_fault seen (n + 1) before ls text others fault short.1 (rw hit at told) may (later ls late))
      | inr miss ↦ told_line ls few miss (rw miss at told) may late
          (λ ls' seen' told' may' late'. lines_fault seen' (n + 1) before ls' text others fault short.1 told' may' late')
    ]
  ]
    where
      later : (ls : List Line) → IsLateFault counts (seen_of seen ls) (n + length (t ∷ before)) text others fault
          → IsLateFault counts (seen_of seen ls) (n + 1 + length before) text others fault
      later ls late =
          let at : n + length (t ∷ before) ≡ n + 1 + length before = omega arith in
          subst (λ (k : ℕ). IsLateFault counts (seen_of seen ls) k text others fault) at late

      told_line : (ls : List Line) → n ≤ 65536 → is_comment t ≡ false → t ∷ filter is_told before ≡ map line_text ls
          → AreLines counts seen ls → IsLateFault counts (seen_of seen ls) (n + length (t ∷ before)) text others fault
          → ((vs : List Line) (after : Seen) → filter is_told before ≡ map line_text vs → AreLines counts after vs
          → IsLateFault counts (seen_of after vs) (n + 1 + length before) text others fault
          → lines_read counts after (n + 1) (before ++ text ∷ others) ≡ Err fault)
          → lines_read counts seen n (t ∷ before ++ text ∷ others) ≡ Err fault
      told_line [] few miss told may late go = list_some _ _ told
      told_line (l ∷ ls) few miss told may late go =
          let same = list_cons t (line_text l) (filter is_told before) (map line_text ls) told in
          step_over seen n t before text others (Some l) fault (text_told counts are seen n t (Some l) few short.0 (miss, may.0, same.0))
          (go ls (seen_after seen l) same.1 may.1 (later (l ∷ ls) late))

-- ---- the store line

abbrev Found : ℕ → List ℕ → List (List ℕ) → Option Counts → Result Plan ScriptFault
Found n p more found = ended_by n p more
    (behind_store found (store_read (n + 1) more) (λ counts. plan_of counts (lines_read counts [] (n + 1) more)))

store_of : (text : List ℕ) → (is_comment text ≡ true)
    ⊎ ((counts : Counts) × AreCounts counts × (text ≡ line_text (lines.Store counts))) → (found : Option Counts) × IsStore text found
store_of text (inl hit) = (None, hit)
store_of text (inr (counts, are, is)) = elim (cases_Bool (is_comment text)) [
  | inl hit ↦ (None, hit)
  | inr miss ↦ (Some counts, (miss, are, is))
]

store_bad : (n : ℕ) (text : List ℕ) (fault : ScriptFault) → n ≤ 65536 → length text ≤ 70000 → is_comment text ≡ false
    → at_line n text (ended (read true store_form (parts 32 text))) ≡ Err fault → store_text_read n text ≡ Err fault
store_bad n text fault few short miss is = measures n text _ few short ∙ rw (miss, is) refl

early_fault : (n : ℕ) (text : List ℕ) (others : List (List ℕ)) (fault : ScriptFault) → IsEarlyFault n text others fault
    → store_read n (text ∷ others) ≡ Err fault
early_fault n text others fault (inl (end, few, e)) =
    ap (λ (t : List ℕ). store_read n (t ∷ others)) end.0 ∙ ap (λ (ts : List (List ℕ)). store_read n ([] ∷ ts)) end.1
    ∙ ap (λ (f : ScriptFault). Err f) (sym e)
early_fault n text others fault (inr (stands, is)) = store_step n text others (is_text text others stands) ∙ by is
  where
    go : (found : Option Counts) → Result Plan ScriptFault
    go found = Found n text others found

    by : IsMeasuredFault n text fault (IsStoreFault n text others fault)
        → go_on (store_text_read n text) (λ found. Found n text others found) ≡ Err fault
    by (inl (many, e)) = go_err (store_text_read n text) go fault (measured_many n text _ many ∙ ap (λ (f : ScriptFault). Err f) (sym e))
    by (inr (inl (few, long, e))) = go_err (store_text_read n text) go fault
        (measured_long n text _ few long ∙ ap (λ (f : ScriptFault). Err f) (sym e))
    by (inr (inr (few, short, inl (told, none, e)))) =
        let t = store_of text told in
        go_ok (store_text_read n text) go t.0 (store_told n text t.0 few short t.1) ∙ ended_none n text others _ fault none e
    by (inr (inr (few, short, inr (inl (miss, (rest, wrong, e)))))) = go_err (store_text_read n text) go fault
        (store_bad n text fault few short miss (ap (λ (o : Outcome Counts). at_line n text o) wrong
        ∙ ap (λ (f : ScriptFault). Err f) (sym e)))
    by (inr (inr (few, short, inr (inr (miss, (limit, rest, large, e)))))) = go_err (store_text_read n text) go fault
        (store_bad n text fault few short miss (ap (λ (o : Outcome Counts). at_line n text o) large
        ∙ ap (λ (f : ScriptFault). Err f) (sym e)))

plan_err : (counts : Counts) (r : Result (List Line × Seen) ScriptFault) (fault : ScriptFault) → r ≡ Err fault → plan_of counts r ≡ Err fault
plan_err counts (Ok out) fault e = right_faulty out fault e
plan_err counts (Err other) fault e = ap (λ (f : ScriptFault). Err f) (fault_same (List Line × Seen) other fault e)

store_over : (n : ℕ) (t : List ℕ) (before : List (List ℕ)) (text : List ℕ) (others : List (List ℕ)) (found : Option Counts)
    (fault : ScriptFault) → store_text_read n t ≡ Ok found
    → behind_store found (store_read (n + 1) (before ++ text ∷ others))
    (λ counts. plan_of counts (lines_read counts [] (n + 1) (before ++ text ∷ others))) ≡ Err fault
    → store_read n (t ∷ before ++ text ∷ others) ≡ Err fault
store_over n t before text others found fault ok inner =
    store_step n t (before ++ text ∷ others) (is_text_before t before text others)
    ∙ go_ok (store_text_read n t) (λ found. Found n t (before ++ text ∷ others) found) found ok ∙ ended_more n t before text others _ ∙ inner

-- behind more lines than a script may have, the fault is that there are too many
many_behind : (n : ℕ) (t : List ℕ) (before : List (List ℕ)) (text : List ℕ) (others : List (List ℕ)) (fault : ScriptFault) → 65536 < n
    → IsBehind n (t ∷ before) text others fault → fault ≡ too_large limits.Lines
many_behind n t before text others fault many (inl (none, inl (end, few, e))) = absurd (omega (arith, many, few))
many_behind n t before text others fault many (inl (none, inr (stands, is))) =
    too_many _ text fault _ (omega (arith, many)) is
many_behind n t before text others fault many (inr (counts, ls, told, are, may, late)) =
    too_many _ text fault _ (omega (arith, many)) late.1

store_fault : (n : ℕ) (before : List (List ℕ)) (text : List ℕ) (others : List (List ℕ)) (fault : ScriptFault)
    → AllByRecursion (λ (text : List ℕ). length text ≤ 70000) before → IsBehind n before text others fault
    → store_read n (before ++ text ∷ others) ≡ Err fault
store_fault n [] text others fault short (inl (none, early)) =
    let at : n + 0 ≡ n = omega arith in
    early_fault n text others fault (subst (λ (k : ℕ). IsEarlyFault k text others fault) at early)
store_fault n [] text others fault short (inr (counts, ls, told, are, may, late)) = list_none _ _ told
store_fault n (t ∷ before) text others fault short is = elim (cases_lt 65536 n) [
  | inl many ↦ store_step n t (before ++ text ∷ others) (is_text_before t before text others)
      ∙ go_err (store_text_read n t) (λ found. Found n t (before ++ text ∷ others) found) fault
      (measured_many n t _ many ∙ ap (λ (f : ScriptFault). Err f) (sym (many_behind n t before text others fault many is)))
  | inr few ↦ elim (cases_Bool (is_comment t)) [
    | inl hit ↦ store_over n t before text others None fault (store_told n t None few short.0 hit)
        (store_fault (n + 1) before text others fault short.1 (behind_comment hit is))
    | inr miss ↦ found_line few miss is
  ]
]
  where
    at : n + length (t ∷ before) ≡ n + 1 + length before
    at = omega arith

    behind_comment : is_comment t ≡ true → IsBehind n (t ∷ before) text others fault → IsBehind (n + 1) before text others fault
    behind_comment hit (inl (none, early)) = inl (rw hit at none, subst (λ (k : ℕ). IsEarlyFault k text others fault) at early)
    behind_comment hit (inr (counts, ls, told, are, may, late)) = inr (
      counts,
      ls,
      rw hit at told,
      are,
      may,
      subst (λ (k : ℕ). IsLateFault counts (seen_of [] ls) k text others fault) at late,
    )

    found_line : n ≤ 65536 → is_comment t ≡ false → IsBehind n (t ∷ before) text others fault
        → store_read n (t ∷ before ++ text ∷ others) ≡ Err fault
    found_line few miss (inl (none, early)) = list_some _ _ (rw miss at none)
    found_line few miss (inr (counts, ls, told, are, may, late)) =
        let same = list_cons t (line_text (lines.Store counts)) (filter is_told before) (map line_text ls) (rw miss at told) in
        store_over n t before text others (Some counts) fault (store_told n t (Some counts) few short.0 (miss, are, same.0))
        (plan_err counts _ fault (lines_fault counts are [] (n + 1) before ls text others fault short.1 same.1 may
        (subst (λ (k : ℕ). IsLateFault counts (seen_of [] ls) k text others fault) at late)))

-- ---- the whole

fault_read : (bytes : List ℕ) (fault : ScriptFault) → ((67108864 < length bytes) × (fault ≡ too_large limits.Script)) ⊎ IsFaultAt bytes fault
    → script_read bytes ≡ Err fault
fault_read bytes fault (inl (large, e)) =
    let is : script_read bytes ≡ Err (too_large limits.Script) = rw (lt-ltb 67108864 (length bytes) large) refl in
    is ∙ ap (λ (f : ScriptFault). Err f) (sym e)
fault_read bytes fault (inr f) =
    rw (le-ltb 67108864 (length bytes) f.size)
    (ap (λ (ps : List (List ℕ)). store_read 1 ps) f.whole ∙ store_fault 1 f.before f.text f.others fault f.short (from_one f.fault_is))
  where
    from_one : IsFaultBehind f.before f.text f.others fault → IsBehind 1 f.before f.text f.others fault
    from_one (inl (none, early)) =
        let at : length f.before + 1 ≡ 1 + length f.before = omega arith in
        inl (none, subst (λ (k : ℕ). IsEarlyFault k f.text f.others fault) at early)
    from_one (inr (counts, ls, told, are, may, late)) =
        let at : length f.before + 1 ≡ 1 + length f.before = omega arith in
        inr (counts, ls, told, are, may, subst (λ (k : ℕ). IsLateFault counts (seen_of [] ls) k f.text f.others fault) at late)

-- a first fault is what reading gives
pub first_read : (bytes : List ℕ) (fault : ScriptFault) → fault ≢ faults.NoMemory → IsFirstFault bytes fault
    → script_read bytes ≡ Err fault
first_read bytes faults.NoMemory some is = absurd (some refl)
first_read bytes (faults.Bad line column) some is = fault_read bytes (faults.Bad line column) is
first_read bytes (faults.TooLarge what limit) some is = fault_read bytes (faults.TooLarge what limit) is

pub one_first_fault : (bytes : List ℕ) (one other : ScriptFault) → one ≢ faults.NoMemory → other ≢ faults.NoMemory
    → IsFirstFault bytes one → IsFirstFault bytes other → one ≡ other
one_first_fault bytes one other some more is also =
    fault_same Plan one other (sym (first_read bytes one some is) ∙ first_read bytes other more also)

-- what spells a plan has none
pub spelled_faultless : (bytes : List ℕ) (plan : Plan) (fault : ScriptFault) → fault ≢ faults.NoMemory → Spells bytes plan
    → IsFirstFault bytes fault → ⊥
spelled_faultless bytes plan fault some spells is = faulty_right fault plan (sym (first_read bytes fault some is) ∙ script_complete bytes plan spells)
