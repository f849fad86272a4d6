-- The answers of the parts that ended, when one more ends and at the end.
use Rattle.std.proofs.Common.{◌≡◌, ℕ, suc, ◌+◌, List, [], ◌∷◌, ◌++◌, length, map, refl, sym, ap, subst, ◌∙◌, arith}
use Rattle.std.specs.List.{AllByRecursion, flat_map}
use Rattle.tect_ids.specs.declared.script.ReportLine.{ReportLine}
use Rattle.race_runs.specs.Stories.{Part, Story}
use Rattle.race_runs.specs.Gathered.{answers_now, part_of, rest_of}
use Rattle.race_runs.proofs.Growing.{dumped}
use Rattle.race_ends.specs.declared.ended.EndedPart.{EndedPart}
use Rattle.race_ends.specs.EndedParts.{HaveEnded, first_answers, later_parts}
use Rattle.race_ends.specs.HaveRun.{clocks_of, HaveAnswers}

-- ---- one more part

rest : Story → Story
rest s = record s { ended = later_parts s.ended }

one_less : (ps : List Part) (n : ℕ) → length ps ≡ suc n → length (later_parts ps) ≡ n
one_less [] n e = absurd (omega arith)
one_less (p ∷ ps) n e = omega arith

lengths_later : (n : ℕ) (ss : List Story) → AllByRecursion (λ s. length s.ended ≡ suc n) ss
    → AllByRecursion (λ s. length s.ended ≡ n) (map rest ss)
unfolding rest
lengths_later n [] l = tt
lengths_later n (s ∷ ss) l = (one_less s.ended n l.0, lengths_later n ss l.1)

no_parts : (ps : List Part) → length ps ≡ 0 → ps ≡ []
no_parts [] e = refl
no_parts (p ∷ ps) e = absurd (omega arith)

firsts_are : (ss : List Story) → AllByRecursion (λ s. length s.ended ≡ 0) ss
    → flat_map first_answers (map (λ s. s.ended) (map dumped ss)) ≡ flat_map (λ s. s.last.answers) ss
firsts_are [] l = refl
firsts_are (s ∷ ss) l =
    ap (λ (e : List Part). first_answers (e ++ s.last ∷ []) ++ flat_map first_answers (map (λ (u : Story). u.ended) (map dumped ss)))
    (no_parts s.ended l.0)
    ∙ ap (λ x. (s.last).answers ++ x) (firsts_are ss l.1)

first_stays : (ps : List Part) (p : Part) (n : ℕ) → length ps ≡ suc n → first_answers (ps ++ p ∷ []) ≡ first_answers ps
first_stays [] p n e = absurd (omega arith)
first_stays (q ∷ qs) p n e = refl

firsts_stay : (n : ℕ) (ss : List Story) → AllByRecursion (λ s. length s.ended ≡ suc n) ss
    → flat_map first_answers (map (λ s. s.ended) (map dumped ss)) ≡ flat_map first_answers (map (λ s. s.ended) ss)
firsts_stay n [] l = refl
firsts_stay n (s ∷ ss) l =
    ap (λ x. x ++ flat_map first_answers (map (λ (u : Story). u.ended) (map dumped ss))) (first_stays s.ended s.last n l.0)
    ∙ ap (λ x. first_answers s.ended ++ x) (firsts_stay n ss l.1)

later_stays : (ps : List Part) (p : Part) (n : ℕ) → length ps ≡ suc n → later_parts (ps ++ p ∷ []) ≡ later_parts ps ++ p ∷ []
later_stays [] p n e = absurd (omega arith)
later_stays (q ∷ qs) p n e = refl

laters_stay : (n : ℕ) (ss : List Story) → AllByRecursion (λ s. length s.ended ≡ suc n) ss
    → map later_parts (map (λ s. s.ended) (map dumped ss)) ≡ map (λ s. s.ended) (map dumped (map rest ss))
unfolding rest
laters_stay n [] l = refl
laters_stay n (s ∷ ss) l =
    ap (λ x. x ∷ map later_parts (map (λ (u : Story). u.ended) (map dumped ss))) (later_stays s.ended s.last n l.0)
    ∙ ap (λ x. (later_parts s.ended ++ s.last ∷ []) ∷ x) (laters_stay n ss l.1)

rests_are : (ss : List Story) → map later_parts (map (λ s. s.ended) ss) ≡ map (λ s. s.ended) (map rest ss)
unfolding rest
rests_are [] = refl
rests_are (s ∷ ss) = ap (λ x. later_parts s.ended ∷ x) (rests_are ss)

lasts_stay : (ss : List Story) → flat_map (λ s. s.last.answers) (map rest ss) ≡ flat_map (λ s. s.last.answers) ss
unfolding rest
lasts_stay [] = refl
lasts_stay (s ∷ ss) = ap (λ x. (s.last).answers ++ x) (lasts_stay ss)

pub ended_on : (es : List EndedPart) (e : EndedPart) (ss : List Story) → AllByRecursion (λ s. length s.ended ≡ length es) ss
    → HaveEnded es (map (λ s. s.ended) ss) → e.answers.items ≡ flat_map (λ s. s.last.answers) ss
    → HaveEnded (es ++ e ∷ []) (map (λ s. s.ended) (map dumped ss))
ended_on [] e ss l h f = (f ∙ sym (firsts_are ss l), tt)
ended_on (x ∷ xs) e ss l h f = (
  h.0 ∙ sym (firsts_stay (length xs) ss l),
  subst (HaveEnded (xs ++ e ∷ [])) (sym (laters_stay (length xs) ss l))
      (ended_on xs e (map rest ss) (lengths_later (length xs) ss l) (subst (HaveEnded xs) (rests_are ss) h.1) (f ∙ sym (lasts_stay ss))),
)

pub clocks-append : (es : List EndedPart) (e : EndedPart) → clocks_of (es ++ e ∷ []) ≡ clocks_of es ++ e.clock ∷ []
clocks-append [] e = refl
clocks-append (x ∷ xs) e = ap (λ l. x.clock ∷ l) (clocks-append xs e)

pub length_clocks : (es : List EndedPart) → length (clocks_of es) ≡ length es
length_clocks [] = refl
length_clocks (x ∷ xs) = ap suc (length_clocks xs)

-- ---- the last part

later_is : (ps : List Part) → later_parts ps ≡ elim ps [ [] ↦ [] | p ∷ qs ↦ qs ]
later_is [] = refl
later_is (p ∷ ps) = refl

rests_of : (ss : List Story) → map later_parts (map (λ s. s.ended) ss) ≡ map (λ s. s.ended) (map rest_of ss)
rests_of [] = refl
rests_of (s ∷ ss) = ap (λ e. e ∷ map later_parts (map (λ (u : Story). u.ended) ss)) (later_is s.ended) ∙ ap (λ l. (rest_of s).ended ∷ l)
    (rests_of ss)

lasts_of : (ss : List Story) → flat_map (λ s. s.last.answers) (map rest_of ss) ≡ flat_map (λ s. s.last.answers) ss
lasts_of [] = refl
lasts_of (s ∷ ss) = ap (λ x. (s.last).answers ++ x) (lasts_of ss)

rest_length : (ps : List Part) (n : ℕ) → length ps ≡ suc n → length (later_parts ps) ≡ n
rest_length [] n e = absurd (omega arith)
rest_length (p ∷ ps) n e = omega arith

rest_lengths : (n : ℕ) (ss : List Story) → AllByRecursion (λ s. length s.ended ≡ suc n) ss
    → AllByRecursion (λ s. length s.ended ≡ n) (map rest_of ss)
rest_lengths n [] l = tt
rest_lengths n (s ∷ ss) l = (ap (λ (e : List Part). length e) (sym (later_is s.ended)) ∙ rest_length s.ended n l.0, rest_lengths n ss l.1)

first_is : (ps : List Part) (last : Part) (n : ℕ) → length ps ≡ suc n
    → first_answers ps ≡ (let p : Part = elim ps [ [] ↦ last | p ∷ qs ↦ p ] in p.answers)
first_is [] last n e = absurd (omega arith)
first_is (p ∷ ps) last n e = refl

firsts_of : (n : ℕ) (ss : List Story) → AllByRecursion (λ s. length s.ended ≡ suc n) ss
    → flat_map first_answers (map (λ s. s.ended) ss) ≡ answers_now ss
firsts_of n [] l = refl
firsts_of n (s ∷ ss) l = ap (λ x. x ++ flat_map first_answers (map (λ (u : Story). u.ended) ss)) (first_is s.ended s.last n l.0) ∙ ap
    (λ x. (part_of s).answers ++ x) (firsts_of n ss l.1)

pub have_answers : (es : List EndedPart) (last : List ReportLine) (ss : List Story) → AllByRecursion (λ s. length s.ended ≡ length es) ss
    → HaveEnded es (map (λ s. s.ended) ss) → last ≡ flat_map (λ s. s.last.answers) ss → HaveAnswers es last ss
have_answers [] last ss l h f = f
have_answers (x ∷ xs) last ss l h f = (
  h.0 ∙ firsts_of (length xs) ss l,
  have_answers xs last (map rest_of ss) (rest_lengths (length xs) ss l) (subst (HaveEnded xs) (rests_of ss) h.1) (f ∙ sym (lasts_of ss)),
)
