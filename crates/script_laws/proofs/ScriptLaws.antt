-- What is read is spelled, and what is spelled is read.
use Rattle.std.proofs.Common.{◌≡◌, ℕ, ◌+◌, ◌-◌, ◌≤◌, true, false, List, [], ◌∷◌, ◌++◌, length, map, filter, refl, sym, ap, subst, ◌∙◌}
use Rattle.std.proofs.Common.{arith, inl, inr, Option, Some, None, Result, Ok, Err, nat_lt}
use Rattle.std.specs.Prelude.{if◌then◌else◌}
use Rattle.std.specs.List.{AllByRecursion}
use Rattle.std.proofs.lemmas.Bool.{cases_Bool, ltb-false, le-ltb}
use Rattle.script_words.specs.declared.limits.Fit.{Fit}
use Rattle.script_words.specs.declared.limits.Fit.TheVariants.{Fits, Over, Unfit}
use Rattle.script_words.specs.declared.limits.Limit.TheVariants as limits
use Rattle.script_words.specs.Splitting.{parts}
use Rattle.script_words.specs.WordForm.{is_client_name}
use Rattle.tect_ids.specs.declared.ids.Counts.{Counts}
use Rattle.tect_ids.specs.declared.script.Act.{Act}
use Rattle.tect_ids.specs.declared.script.Line.{Line}
use Rattle.tect_ids.specs.declared.script.Line.TheVariants as lines
use Rattle.script_forms.specs.declared.faults.ScriptFault.{ScriptFault}
use Rattle.script_forms.specs.declared.verbs.WorldVerb.{WorldVerb}
use Rattle.script_forms.specs.declared.verbs.WorldVerb.TheVariants as worlds
use Rattle.script_forms.specs.Form.{Outcome, Got, Wrong, Large, read, ended, passes}
use Rattle.script_forms.specs.Served.{serves_world}
use Rattle.script_forms.specs.Verbs.{world_word, served_world}
use Rattle.script_forms.specs.LineText.{spaced, act_words, line_words, line_text}
use Rattle.script_forms.specs.Grammar.{act_form, world_behind, line_form}
use Rattle.script_forms.specs.LineForms.{IsLine, line_limit, act_limit, AreCounts}
use Rattle.script_forms.specs.Clients.{Seen, client_number, is_one_too_many}
use Rattle.script_forms.specs.Reading.{out_of_state, of_client, client_read, world_read, line_read, at_line, measured, is_comment}
use Rattle.script_forms.specs.Reading.{some_line, text_read, go_on, add_line, seen_behind, lines_read, too_large}
use Rattle.script_forms.specs.Spelling.{IsInOrder, MayStand, AreLines, seen_of, is_told}
use Rattle.script_laws.proofs.FormLaws.{got_same, got_wrong, got_large, fits_pass}
use Rattle.script_laws.proofs.VerbLaws.{world_spelled, world_read_word, world_no_client}
use Rattle.script_laws.proofs.ActLaws.{act_sound, act_complete}
use Rattle.script_laws.proofs.GrammarLaws.{IsNumbered, world_sound, world_first, world_plain, IsPlain, line_complete}
use Rattle.script_laws.proofs.Visible.{parts_spaced, spaced_parts, line_visible}
use Rattle.script_laws.proofs.LineSteps.{IsLine as IsText, lines_step}

abbrev pub right : {A : Type 0} → A → Result A ScriptFault
right x = Ok x

abbrev pub faulty : (A : Type 0) → ScriptFault → Result A ScriptFault
faulty A fault = Err fault

pub right_same : {A : Type 0} (x y : A) → right x ≡ Ok y → x ≡ y
right_same x y e = cc

pub faulty_right : {A P : Type 0} (fault : ScriptFault) (y : A) → faulty A fault ≡ Ok y → P
faulty_right fault y e = absurd cc

-- a form that was read to the line's end
pub ended_got : {A : Type 0} (o : Outcome A) (value : A) (ws : List (List ℕ)) → ended o ≡ Got value ws → (o ≡ Got value []) × (ws ≡ [])
ended_got (Got a []) value ws is = (let same = got_same a value [] ws is in ap (λ v. Got v []) same.0, sym (got_same a value [] ws is).1)
ended_got (Got a (w ∷ rest)) value ws is = got_wrong value ws (w ∷ rest) (sym is)
ended_got (Wrong rest) value ws is = got_wrong value ws rest (sym is)
ended_got (Large limit rest) value ws is = got_large value limit ws rest (sym is)

pub true_within : (k : Fit) → passes true k → k ≡ Fits
true_within Fits p = refl
true_within (Over limit) p = absurd p
true_within Unfit p = absurd p

-- ---- one line

pub record LineRight (counts : Counts) (seen : Seen) (ws : List (List ℕ)) (line : Line) : Type 0 where
  pub words : line_words line ≡ ws
  pub stands : MayStand counts seen line

of_client_got : (client : List ℕ) (actor : ℕ) (o : Outcome Act) (line : Line) (rest : List (List ℕ))
    → of_client client actor o ≡ Got line rest → (act : Act) × (o ≡ Got act rest) × (lines.Client client actor act ≡ line)
of_client_got client actor (Got act ws) line rest is =
    let same = got_same (lines.Client client actor act) line ws rest is in
    (act, ap (λ (v : List (List ℕ)). Got act v) same.1, same.0)
of_client_got client actor (Wrong ws) line rest is = got_wrong line rest ws (sym is)
of_client_got client actor (Large limit ws) line rest is = got_large line limit rest ws (sym is)

pub append_nil : (xs : List (List ℕ)) → xs ++ [] ≡ xs
append_nil [] = refl
append_nil (x ∷ xs) = ap (λ (ys : List (List ℕ)). x ∷ ys) (append_nil xs)

client_right : (counts : Counts) → AreCounts counts → (seen : Seen) (client : List ℕ) → is_client_name client ≡ true
    → (words : List (List ℕ)) (line : Line) (rest : List (List ℕ)) → client_read counts seen client words ≡ Got line rest
    → LineRight counts seen (client ∷ words) line
client_right counts are seen client named words line rest is = elim (cases_Bool (out_of_state seen client words)) [
  | inl out ↦ got_wrong line rest (client ∷ words) (sym (rw out at is))
  | inr fits ↦ elim (cases_Bool (is_one_too_many seen client)) [
    | inl many ↦ got_large line limits.Clients rest (client ∷ words) (sym (rw (fits, many) at is))
    | inr few ↦
        let m = of_client_got client (client_number seen client) (ended (read true (act_form counts) words)) line rest
        (rw (fits, few) at is) in
        let act = m.0 in
        let e = ended_got (read true (act_form counts) words) act rest m.1 in
        let a = act_sound true counts are words act [] e.0 in
        let words_are : act_words act ≡ words = sym (append_nil (act_words act)) ∙ a.words_are in
        subst (λ (l : Line). LineRight counts seen (client ∷ words) l) m.2 (record {
          words = ap (λ (ws : List (List ℕ)). client ∷ ws) words_are;
          stands = record {
            form = (named, a.form);
            within = true_within (act_limit act) a.within;
            in_order = (ap (λ (ws : List (List ℕ)). out_of_state seen client ws) words_are ∙ fits, few, refl);
          };
        })
  ]
]

plain_order : (seen : Seen) (line : Line) → IsPlain line → IsInOrder seen line
plain_order seen (lines.Client client actor act) p = absurd p
plain_order seen (lines.Store counts) p = tt
plain_order seen lines.Sweep p = tt
plain_order seen (lines.Lose disk) p = tt
plain_order seen lines.Dump p = tt

world_right : (counts : Counts) → AreCounts counts → (seen : Seen) (first : List ℕ) (o : Option WorldVerb) → served_world first ≡ o
    → (words : List (List ℕ)) (line : Line) (rest : List (List ℕ)) → world_read counts o first words ≡ Got line rest
    → LineRight counts seen (first ∷ words) line
world_right counts are seen first None none words line rest is = got_wrong line rest (first ∷ words) (sym is)
world_right counts are seen first (Some verb) some words line rest is =
    let s = world_spelled first verb some in
    let e = ended_got (read true (world_behind counts verb) words) line rest is in
    let w = world_sound true counts are (λ name. client_number seen name) verb s.1 words line [] e.0 in
    let words_are : line_words line ≡ first
    ∷ words = sym (append_nil (line_words line)) ∙ w.words ∙ ap (λ (f : List ℕ). f ∷ words) (sym s.0) in
    record {
      words = words_are;
      stands = record {
        form = w.form;
        within = true_within (line_limit line) w.within;
        in_order = plain_order seen line (world_plain counts verb words line [] e.0);
      };
    }

pub line_right : (counts : Counts) → AreCounts counts → (seen : Seen) (ws : List (List ℕ)) (line : Line) (rest : List (List ℕ))
    → line_read counts seen ws ≡ Got line rest → LineRight counts seen ws line
line_right counts are seen [] line rest is = got_wrong line rest [] (sym is)
line_right counts are seen (first ∷ words) line rest is = elim (cases_Bool (is_client_name first)) [
  | inl hit ↦ client_right counts are seen first hit words line rest (rw hit at is)
  | inr miss ↦ world_right counts are seen first (served_world first) refl words line rest (rw miss at is)
]

world_line_read : (counts : Counts) (seen : Seen) (verb : WorldVerb) → serves_world verb ≡ true → (ws : List (List ℕ)) (line : Line)
    → read true (world_behind counts verb) ws ≡ Got line [] → line_read counts seen (world_word verb ∷ ws) ≡ Got line []
world_line_read counts seen verb served ws line is = rw (world_no_client verb, world_read_word verb served, is) refl

world_line : (counts : Counts) → AreCounts counts → (seen : Seen) (verb : WorldVerb) → serves_world verb ≡ true
    → (ws : List (List ℕ)) (line : Line) → IsLine counts line → line_limit line ≡ Fits → IsPlain line → line_words line ≡ world_word verb
    ∷ ws → line_read counts seen (line_words line) ≡ Got line []
world_line counts are seen verb served ws line is within plain words =
    let number = λ (name : List ℕ). client_number seen name in
    let all = line_complete true counts are number line is (fits_pass true (line_limit line) within) (plain_number number line plain) [] in
    let from : read true (world_behind counts verb) ws ≡ Got line [] =
    sym (world_first true counts number verb served ws) ∙ ap (λ (vs : List (List ℕ)). read true (line_form counts number) vs)
    (sym (append_nil (line_words line) ∙ words)) ∙ all in
    ap (λ (vs : List (List ℕ)). line_read counts seen vs) words ∙ world_line_read counts seen verb served ws line from
  where
    plain_number : (number : List ℕ → ℕ) (line : Line) → IsPlain line → IsNumbered number line
    plain_number number (lines.Client client actor act) p = absurd p
    plain_number number (lines.Store counts) p = tt
    plain_number number lines.Sweep p = tt
    plain_number number (lines.Lose disk) p = tt
    plain_number number lines.Dump p = tt

client_line : (counts : Counts) (seen : Seen) (client : List ℕ) (act : Act) → is_client_name client ≡ true
    → out_of_state seen client (act_words act) ≡ false → is_one_too_many seen client ≡ false
    → read true (act_form counts) (act_words act) ≡ Got act [] →
    line_read counts seen (client ∷ act_words act) ≡ Got (lines.Client client (client_number seen client) act) []
client_line counts seen client act named fits few is = rw (named, fits, few, is) refl

-- a line that may stand is read
pub line_stands : (counts : Counts) → AreCounts counts → (seen : Seen) (line : Line) → MayStand counts seen line
    → line_read counts seen (line_words line) ≡ Got line []
line_stands counts are seen (lines.Store other) may = absurd may.form
line_stands counts are seen (lines.Client client actor act) may =
    let is = act_complete true counts are act may.form.1 (fits_pass true (act_limit act) may.within) [] in
    client_line counts seen client act may.form.0 may.in_order.0 may.in_order.1
    (ap (λ (vs : List (List ℕ)). read true (act_form counts) vs) (sym (append_nil (act_words act))) ∙ is)
    ∙ ap (λ (n : ℕ). Got (lines.Client client n act) []) (sym may.in_order.2)
line_stands counts are seen lines.Sweep may = world_line counts are seen worlds.Sweep may.form _ lines.Sweep may.form refl tt refl
line_stands counts are seen (lines.Lose disk) may = world_line counts are seen worlds.Lose may.form.0 _ (lines.Lose disk) may.form refl tt
    refl
line_stands counts are seen lines.Dump may = world_line counts are seen worlds.Dump may.form [] lines.Dump may.form refl tt refl

-- ---- one text

pub record Measures {A : Type 0} (n : ℕ) (line : List ℕ) (more : Result A ScriptFault) (value : A) : Type 0 where
  pub number : n ≤ 65536
  pub size : length line ≤ 70000
  pub is : more ≡ Ok value

pub measured_right : {A : Type 0} (n : ℕ) (line : List ℕ) (more : Result A ScriptFault) (value : A) → measured n line more ≡ Ok value
    → Measures n line more value
measured_right n line more value is = elim (cases_Bool (nat_lt 65536 n)) [
  | inl many ↦ faulty_right (too_large limits.Lines) value (rw many at is)
  | inr few ↦ elim (cases_Bool (nat_lt 70000 (length line))) [
    | inl long ↦ faulty_right (too_large limits.Line) value (rw (few, long) at is)
    | inr short ↦ record { number = ltb-false 65536 n few; size = ltb-false 70000 (length line) short; is = rw (few, short) at is }
  ]
]

pub measures : {A : Type 0} (n : ℕ) (line : List ℕ) (more : Result A ScriptFault) → n ≤ 65536 → length line ≤ 70000
    → measured n line more ≡ more
measures n line more few short = rw (le-ltb 65536 n few, le-ltb 70000 (length line) short) refl

pub at_line_right : {A : Type 0} (n : ℕ) (line : List ℕ) (o : Outcome A) (value : A) → at_line n line o ≡ Ok value → (rest : List (List ℕ))
    × (o ≡ Got value rest)
at_line_right n line (Got a ws) value is = (ws, ap (λ v. Got v ws) (right_same a value is))
at_line_right n line (Wrong ws) value is = faulty_right _ value is
at_line_right n line (Large limit ws) value is = faulty_right _ value is

abbrev pub IsTold : Counts → Seen → List ℕ → Option Line → Type 0
IsTold counts seen text None = is_comment text ≡ true
IsTold counts seen text (Some line) = (is_comment text ≡ false) × MayStand counts seen line × (text ≡ line_text line)

some_line_right : (r : Result Line ScriptFault) (read : Option Line) → some_line r ≡ Ok read → (line : Line) × (r ≡ Ok line)
    × (Some line ≡ read)
some_line_right (Ok line) read is = (line, refl, right_same (Some line) read is)
some_line_right (Err fault) read is = faulty_right fault read is

pub told_by : (counts : Counts) → AreCounts counts → (seen : Seen) (n : ℕ) (text : List ℕ) (read : Option Line)
    → (if is_comment text then Ok None else some_line (at_line n text (line_read counts seen (parts 32 text)))) ≡ Ok read
    → IsTold counts seen text read
told_by counts are seen n text read is = elim (cases_Bool (is_comment text)) [
  | inl hit ↦ subst (λ (r : Option Line). IsTold counts seen text r) (right_same None read (rw hit at is)) hit
  | inr miss ↦
      let l = some_line_right (at_line n text (line_read counts seen (parts 32 text))) read (rw miss at is) in
      let got = at_line_right n text (line_read counts seen (parts 32 text)) l.0 l.1 in
      let r = line_right counts are seen (parts 32 text) l.0 got.0 got.1 in
      subst (λ (o : Option Line). IsTold counts seen text o) l.2
      (miss, r.stands, sym (ap (λ (ws : List (List ℕ)). spaced ws) r.words ∙ spaced_parts text))
]

pub text_told : (counts : Counts) → AreCounts counts → (seen : Seen) (n : ℕ) (text : List ℕ) (read : Option Line) → n ≤ 65536
    → length text ≤ 70000 → IsTold counts seen text read → text_read counts seen n text ≡ Ok read
text_told counts are seen n text None few short told = measures n text _ few short ∙ rw told refl
text_told counts are seen n text (Some line) few short told =
    let words : parts 32 text ≡ line_words line = ap (λ (t : List ℕ). parts 32 t) told.2 ∙ line_parts counts are line told.1.form in
    let is : line_read counts seen (parts 32 text) ≡ Got line [] = ap (λ (ws : List (List ℕ)). line_read counts seen ws) words ∙ line_stands
    counts are seen line told.1 in
    measures n text _ few short ∙ rw (told.0, is) refl
  where
    some_words : (line : Line) → (w : List ℕ) × (ws : List (List ℕ)) × (line_words line ≡ w ∷ ws)
    some_words (lines.Store counts) = (_, _, refl)
    some_words (lines.Client client actor act) = (client, act_words act, refl)
    some_words lines.Sweep = (_, _, refl)
    some_words (lines.Lose disk) = (_, _, refl)
    some_words lines.Dump = (_, _, refl)

    line_parts : (counts : Counts) → AreCounts counts → (line : Line) → IsLine counts line → parts 32 (line_text line) ≡ line_words line
    line_parts counts are line is =
        let some = some_words line in
        rw some.2 (parts_spaced some.0 some.1 (rw some.2 at (line_visible counts are line is)))

-- ---- all texts

pub go_on_right : {A B : Type 0} (r : Result A ScriptFault) (go : A → Result B ScriptFault) (value : B) → go_on r go ≡ Ok value → (x : A)
    × (r ≡ Ok x) × (go x ≡ Ok value)
go_on_right (Ok x) go value is = (x, refl, is)
go_on_right (Err fault) go value is = faulty_right fault value is

pub record LinesRight (counts : Counts) (seen : Seen) (n : ℕ) (ps : List (List ℕ)) (ls : List Line) (after : Seen) : Type 0 where
  pub texts : List (List ℕ)
  pub whole : ps ≡ texts ++ [] ∷ []
  pub few : length texts ≤ 65537 - n
  pub short : AllByRecursion (λ (text : List ℕ). length text ≤ 70000) texts
  pub told : filter is_told texts ≡ map line_text ls
  pub are : AreLines counts seen ls
  pub after_is : after ≡ seen_of seen ls

abbrev pub outcome : List Line → Seen → List Line × Seen
outcome ls seen = (ls, seen)

add_right : (counts : Counts) (seen : Seen) (n : ℕ) (text : List ℕ) (more : List (List ℕ)) (read : Option Line)
    (r : Result (List Line × Seen) ScriptFault) (ls : List Line) (after : Seen) → n ≤ 65536 → length text ≤ 70000
    → IsTold counts seen text read → add_line read r ≡ Ok (outcome ls after) →
    ((ls : List Line) → r ≡ Ok (outcome ls after) → LinesRight counts (seen_behind seen read) (n + 1) more ls after)
    → LinesRight counts seen n (text ∷ more) ls after
add_right counts seen n text more None r ls after small short told is inner =
    let m = inner ls is in
    let few = m.few in
    record {
      texts = text ∷ m.texts;
      whole = ap (λ (ps : List (List ℕ)). text ∷ ps) m.whole;
      few = omega arith;
      short = (short, m.short);
      told = rw told m.told;
      are = m.are;
      after_is = m.after_is;
    }
add_right counts seen n text more (Some line) (Ok out) ls after small short told is inner =
    let same = right_same (outcome (line ∷ out.0) out.1) (outcome ls after) is in
    let m = inner out.0 (ap (λ (s : Seen). Ok (outcome out.0 s)) (ap (λ (o : List Line × Seen). o.1) same)) in
    let few = m.few in
    subst (λ (vs : List Line). LinesRight counts seen n (text ∷ more) vs after) (ap (λ (o : List Line × Seen). o.0) same) (record {
      texts = text ∷ m.texts;
      whole = ap (λ (ps : List (List ℕ)). text ∷ ps) m.whole;
      few = omega arith;
      short = (short, m.short);
      told = rw told.0 (ap (λ (t : List ℕ). t ∷ filter is_told m.texts) told.2 ∙ ap (λ (ts : List (List ℕ)). line_text line ∷ ts) m.told);
      are = (told.1, m.are);
      after_is = m.after_is;
    })
add_right counts seen n text more (Some line) (Err fault) ls after small short told is inner = faulty_right fault (outcome ls after) is

pub lines_right : (counts : Counts) → AreCounts counts
    → (seen : Seen) (n : ℕ) (p : List ℕ) (ps : List (List ℕ)) (ls : List Line) (after : Seen)
    → lines_read counts seen n (p ∷ ps) ≡ Ok (outcome ls after) → LinesRight counts seen n (p ∷ ps) ls after
lines_right counts are seen n [] [] ls after is =
    let same = right_same (outcome [] seen) (outcome ls after) is in
    subst (λ (vs : List Line). LinesRight counts seen n ([] ∷ []) vs after) (ap (λ (o : List Line × Seen). o.0) same)
    (record {
      texts = [];
      whole = refl;
      few = omega arith;
      short = tt;
      told = refl;
      are = tt;
      after_is = sym (ap (λ (o : List Line × Seen). o.1) same);
    })
lines_right counts are seen n (b ∷ line) [] ls after is =
    let g = go_on_right (text_read counts seen n (b ∷ line)) _ (outcome ls after) is in
    faulty_right _ (outcome ls after) g.2
lines_right counts are seen n p (q ∷ qs) ls after is =
    let g = go_on_right (text_read counts seen n p) (λ read. add_line read (lines_read counts (seen_behind seen read) (n + 1) (q ∷ qs)))
    (outcome ls after) (sym (lines_step counts seen n p (q ∷ qs) (text_before p)) ∙ is) in
    let m = measured_right n p _ g.0 g.1 in
    add_right counts seen n p (q ∷ qs) g.0 (lines_read counts (seen_behind seen g.0) (n + 1) (q ∷ qs)) ls after m.number m.size
    (told_by counts are seen n p g.0 m.is) g.2
    (λ vs inner. lines_right counts are (seen_behind seen g.0) (n + 1) q qs vs after inner)
  where
    text_before : (p : List ℕ) → IsText p (q ∷ qs)
    text_before [] = tt
    text_before (b ∷ p) = tt
