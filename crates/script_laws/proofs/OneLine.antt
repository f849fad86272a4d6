-- A line's first wrong word, or its first that is too large, is the one that reading gives.
use Rattle.std.proofs.Common.{◌≡◌, ℕ, true, false, List, [], ◌∷◌, ◌++◌, refl, sym, ap, subst, ◌∙◌}
use Rattle.std.proofs.Common.{append_assoc, inl, inr, ◌⊎◌}
use Rattle.script_words.specs.declared.limits.Limit.{Limit}
use Rattle.script_words.specs.declared.limits.Limit.TheVariants as limits
use Rattle.script_words.specs.declared.limits.Fit.TheVariants.{Fits}
use Rattle.script_words.specs.WordForm.{is_client_name}
use Rattle.tect_ids.specs.declared.ids.Counts.{Counts}
use Rattle.tect_ids.specs.declared.script.Line.{Line}
use Rattle.tect_ids.specs.declared.script.Line.TheVariants as lines
use Rattle.script_forms.specs.Form.{Outcome, Got, Wrong, Large, read}
use Rattle.script_forms.specs.LineText.{line_words}
use Rattle.script_forms.specs.Grammar.{line_form}
use Rattle.script_forms.specs.LineForms.{IsLine, line_limit, AreCounts}
use Rattle.script_forms.specs.Clients.{Seen, is_one_too_many}
use Rattle.script_forms.specs.Reading.{out_of_state, line_read}
use Rattle.script_forms.specs.FirstWrong.{Begins, BeginsForm, IsDead, IsWrongWords, PassesLimit, IsLargeWords, IsInState, IsWrongLine}
use Rattle.script_forms.specs.FirstWrong.{IsLargeLine}
use Rattle.script_laws.proofs.FormLaws.{fits_pass}
use Rattle.script_laws.proofs.GrammarLaws.{line_complete}
use Rattle.script_laws.proofs.ScriptLaws.{line_right, append_nil}
use Rattle.script_laws.proofs.PlanLaws.{list_cons, list_none}
use Rattle.script_laws.proofs.WrongLaws.{with_number, numbered, number_form, number_words, line_wrong, line_large}
use Rattle.script_laws.proofs.ExactLaws.{one_limit, exact_read, line_exact}

-- ---- two fronts of one list of words

-- they are the same, or one of them goes on behind the other
abbrev TwoFronts : List (List ℕ) → List (List ℕ) → List (List ℕ) → List (List ℕ) → Type 0
TwoFronts xs ys cs ds = ((xs ≡ ys) × (cs ≡ ds))
    ⊎ (((v : List ℕ) × (more : List (List ℕ)) × (ys ≡ xs ++ v ∷ more) × (cs ≡ v ∷ more ++ ds))
    ⊎ ((v : List ℕ) × (more : List (List ℕ)) × (xs ≡ ys ++ v ∷ more) × (ds ≡ v ∷ more ++ cs)))

two_more : (x : List ℕ) (xs ys cs ds : List (List ℕ)) → TwoFronts xs ys cs ds → TwoFronts (x ∷ xs) (x ∷ ys) cs ds
two_more x xs ys cs ds (inl same) = inl (ap (λ (vs : List (List ℕ)). x ∷ vs) same.0, same.1)
two_more x xs ys cs ds (inr (inl w)) = inr (inl (w.0, w.1, ap (λ (vs : List (List ℕ)). x ∷ vs) w.2, w.3))
two_more x xs ys cs ds (inr (inr w)) = inr (inr (w.0, w.1, ap (λ (vs : List (List ℕ)). x ∷ vs) w.2, w.3))

two_fronts : (xs ys cs ds : List (List ℕ)) → xs ++ cs ≡ ys ++ ds → TwoFronts xs ys cs ds
two_fronts [] [] cs ds e = inl (refl, e)
two_fronts [] (y ∷ ys) cs ds e = inr (inl (y, ys, refl, e))
two_fronts (x ∷ xs) [] cs ds e = inr (inr (x, xs, refl, sym e))
two_fronts (x ∷ xs) (y ∷ ys) cs ds e =
    let same = list_cons x y (xs ++ cs) (ys ++ ds) e in
    subst (λ (v : List ℕ). TwoFronts (x ∷ xs) (v ∷ ys) cs ds) same.0 (two_more x xs ys cs ds (two_fronts xs ys cs ds same.1))

-- ---- the first wrong word, or the first that is too large, is one

module _ (counts : Counts) (are : AreCounts counts) where
  -- a front of what a line begins with
  shorter : (front : List (List ℕ)) (v : List ℕ) (more : List (List ℕ)) → BeginsForm counts (front ++ v ∷ more)
      → BeginsForm counts (front ++ v ∷ [])
  shorter front v more b = record {
    line = b.line;
    more = more ++ b.more;
    form = b.form;
    text = b.text ∙ append_assoc front (v ∷ more) b.more ∙ sym (append_assoc front (v ∷ []) (more ++ b.more));
  }

  as_form : (front : List (List ℕ)) → Begins counts front → BeginsForm counts front
  as_form front b = record { line = b.line; more = b.more; form = b.form; text = b.text }

  number_limit : (line : Line) → line_limit (with_number (λ _. 0) line) ≡ line_limit line
  number_limit (lines.Client client actor act) = refl
  number_limit (lines.Store other) = refl
  number_limit lines.Sweep = refl
  number_limit (lines.Lose disk) = refl
  number_limit lines.Dump = refl

  -- a line within the limits has no word that passes a limit
  no_over : (front : List (List ℕ)) (w : List ℕ) (more : List (List ℕ)) (limit : Limit) → Begins counts (front ++ w ∷ more)
      → PassesLimit w limit → ⊥
  no_over front w more limit b p =
      let line = with_number (λ _. 0) b.line in
      let is = line_complete true counts are (λ _. 0) line (number_form counts (λ _. 0) b.line b.form)
      (fits_pass true (line_limit line) (number_limit b.line ∙ b.within)) (numbered (λ _. 0) b.line) [] in
      let text : line_words line ++ [] ≡ front ++ w ∷ (more ++ b.more) = append_nil (line_words line) ∙ number_words (λ _. 0) b.line ∙ b.text
      ∙ append_assoc front (w ∷ more) b.more in
      exact_read (line_form counts (λ _. 0)) front w (more ++ b.more) line limit (line_exact counts are (λ _. 0))
      (ap (λ (ws : List (List ℕ)). read true (line_form counts (λ _. 0)) ws) (sym text) ∙ is) p

  not_dead : (front rest : List (List ℕ)) (v : List ℕ) (more : List (List ℕ)) → rest ≡ v ∷ more → IsDead counts front rest
      → BeginsForm counts (front ++ v ∷ []) → ⊥
  not_dead front [] v more e dead b = list_none v more e
  not_dead front (w ∷ others) v more e dead b =
      let same = list_cons w v others more e in
      dead (subst (λ (x : List ℕ). BeginsForm counts (front ++ x ∷ [])) (sym same.0) b)

  one_wrong : (ws r s : List (List ℕ)) → IsWrongWords counts ws r → IsWrongWords counts ws s → r ≡ s
  one_wrong ws r s a b = elim (two_fronts a.front b.front r s (sym a.split ∙ b.split)) [
    | inl same ↦ same.1
    | inr e ↦ elim e [
      | inl w ↦ absurd (not_dead a.front r w.0 (w.1 ++ s) w.3 a.dead
          (shorter a.front w.0 w.1 (subst (BeginsForm counts) w.2 (as_form b.front b.begins))))
      | inr w ↦ absurd (not_dead b.front s w.0 (w.1 ++ r) w.3 b.dead
          (shorter b.front w.0 w.1 (subst (BeginsForm counts) w.2 (as_form a.front a.begins))))
    ]
  ]

  wrong_or_large : (ws r s : List (List ℕ)) (limit : Limit) → IsWrongWords counts ws r → IsLargeWords counts ws limit s → ⊥
  wrong_or_large ws r s limit a b = elim (two_fronts a.front b.front r s (sym a.split ∙ b.split)) [
    | inl same ↦ not_dead a.front r b.w b.others (same.1 ∙ b.rest_is) a.dead
        (subst (λ (f : List (List ℕ)). BeginsForm counts (f ++ b.w ∷ [])) (sym same.0) b.form)
    | inr e ↦ elim e [
      | inl w ↦ not_dead a.front r w.0 (w.1 ++ s) w.3 a.dead
          (shorter a.front w.0 (w.1 ++ b.w ∷ []) (subst (BeginsForm counts)
          (ap (λ (f : List (List ℕ)). f ++ b.w ∷ []) w.2 ∙ append_assoc a.front (w.0 ∷ w.1) (b.w ∷ [])) b.form))
      | inr w ↦
          let same = list_cons b.w w.0 b.others (w.1 ++ r) (sym b.rest_is ∙ w.3) in
          no_over b.front b.w w.1 limit
          (subst (λ (v : List ℕ). Begins counts (b.front ++ v ∷ w.1)) (sym same.0) (subst (Begins counts) w.2 a.begins)) b.over
    ]
  ]

  one_large : (ws r s : List (List ℕ)) (k l : Limit) → IsLargeWords counts ws k r → IsLargeWords counts ws l s → k ≡ l
  one_large ws r s k l a b = elim (two_fronts a.front b.front r s (sym a.split ∙ b.split)) [
    | inl same ↦
        let heads = list_cons a.w b.w a.others b.others (sym a.rest_is ∙ same.1 ∙ b.rest_is) in
        one_limit b.w k l (subst (λ (v : List ℕ). PassesLimit v k) heads.0 a.over) b.over
    | inr e ↦ elim e [
      | inl w ↦ absurd (behind a.front b.front a.w a.others w.0 w.1 s k r a.rest_is w.3 w.2 b.begins a.over)
      | inr w ↦ absurd (behind b.front a.front b.w b.others w.0 w.1 r l s b.rest_is w.3 w.2 a.begins b.over)
    ]
  ]
    where
      behind : (front long : List (List ℕ)) (x : List ℕ) (xs : List (List ℕ)) (v : List ℕ) (more rest : List (List ℕ)) (limit : Limit)
          (all : List (List ℕ)) → all ≡ x ∷ xs → all ≡ v ∷ more ++ rest → long ≡ front ++ v ∷ more → Begins counts long
          → PassesLimit x limit → ⊥
      behind front long x xs v more rest limit all is e goes b p =
          let same = list_cons x v xs (more ++ rest) (sym is ∙ e) in
          no_over front x more limit
          (subst (λ (y : List ℕ). Begins counts (front ++ y ∷ more)) (sym same.0) (subst (Begins counts) goes b)) p

  -- a line that stands has no wrong word, and none that is too large
  right_no_wrong : (ws rest : List (List ℕ)) (line : Line) → IsLine counts line → line_words line ≡ ws → IsWrongWords counts ws rest → ⊥
  right_no_wrong ws rest line form words a = by rest a.split a.dead
    where
      by : (r : List (List ℕ)) → ws ≡ a.front ++ r → IsDead counts a.front r → ⊥
      by [] split dead = dead (record { line = line; form = form; text = words ∙ split ∙ append_nil a.front })
      by (v ∷ others) split dead = dead (record {
        line = line;
        more = others;
        form = form;
        text = words ∙ split ∙ sym (append_assoc a.front (v ∷ []) others);
      })

  right_no_large : (ws rest : List (List ℕ)) (line : Line) (limit : Limit) → IsLine counts line → line_limit line ≡ Fits
      → line_words line ≡ ws → IsLargeWords counts ws limit rest → ⊥
  right_no_large ws rest line limit form within words a =
      no_over a.front a.w a.others limit (record {
        line = line;
        more = [];
        form = form;
        within = within;
        text = words ∙ a.split ∙ ap (λ (r : List (List ℕ)). a.front ++ r) a.rest_is ∙ sym (append_nil (a.front ++ a.w ∷ a.others));
      }) a.over

  -- ---- one line

  in_state_out : {P : Type 0} (seen : Seen) (first : List ℕ) (words : List (List ℕ)) → IsInState seen (first ∷ words)
      → is_client_name first ≡ true → out_of_state seen first words ≡ true → P
  in_state_out seen first words in_state named out = absurd (let e : false ≡ true = sym (in_state named).0 ∙ out in cc)

  in_state_many : {P : Type 0} (seen : Seen) (first : List ℕ) (words : List (List ℕ)) → IsInState seen (first ∷ words)
      → is_client_name first ≡ true → is_one_too_many seen first ≡ true → P
  in_state_many seen first words in_state named many = absurd (let e : false ≡ true = sym (in_state named).1 ∙ many in cc)

  pub wrong_read : (seen : Seen) (first : List ℕ) (words rest : List (List ℕ)) → IsWrongLine counts seen (first ∷ words) rest
      → line_read counts seen (first ∷ words) ≡ Wrong rest
  wrong_read seen first words rest (inl (out, is)) =
      let e : line_read counts seen (first ∷ words) ≡ Wrong (first ∷ words) = rw (out.0, out.1) refl in
      e ∙ ap (λ (r : List (List ℕ)). Wrong r) (sym is)
  wrong_read seen first words rest (inr (in_state, wrong)) = by (line_read counts seen (first ∷ words)) refl
    where
      by : (o : Outcome Line) → line_read counts seen (first ∷ words) ≡ o → o ≡ Wrong rest
      by (Got line r) e =
          let right = line_right counts are seen (first ∷ words) line r e in
          absurd (right_no_wrong (first ∷ words) rest line right.stands.form right.words wrong)
      by (Wrong r) e = elim (line_wrong counts are seen first words r e) [
        | inl (out, is) ↦ in_state_out seen first words in_state out.0 out.1
        | inr (state, other) ↦ ap (λ (v : List (List ℕ)). Wrong v) (one_wrong (first ∷ words) r rest other wrong)
      ]
      by (Large limit r) e = elim (line_large counts are seen first words limit r e) [
        | inl (many, is) ↦ in_state_many seen first words in_state many.0 many.2
        | inr (state, large) ↦ absurd (wrong_or_large (first ∷ words) rest r limit wrong large)
      ]

  pub large_read : (seen : Seen) (first : List ℕ) (words : List (List ℕ)) (limit : Limit) (rest : List (List ℕ))
      → IsLargeLine counts seen (first ∷ words) limit rest → (r : List (List ℕ)) × (line_read counts seen (first ∷ words) ≡ Large limit r)
  large_read seen first words limit rest (inl (many, is)) =
      let e : line_read counts seen (first ∷ words) ≡ Large limits.Clients (first ∷ words) = rw (many.0, many.1, many.2) refl in
      (first ∷ words, e ∙ ap (λ (l : Limit). Large l (first ∷ words)) (sym is))
  large_read seen first words limit rest (inr (in_state, large)) = by (line_read counts seen (first ∷ words)) refl
    where
      by : (o : Outcome Line) → line_read counts seen (first ∷ words) ≡ o → (r : List (List ℕ)) × (o ≡ Large limit r)
      by (Got line r) e =
          let right = line_right counts are seen (first ∷ words) line r e in
          absurd (right_no_large (first ∷ words) rest line limit right.stands.form right.stands.within right.words large)
      by (Wrong r) e = elim (line_wrong counts are seen first words r e) [
        | inl (out, is) ↦ in_state_out seen first words in_state out.0 out.1
        | inr (state, wrong) ↦ absurd (wrong_or_large (first ∷ words) r rest limit wrong large)
      ]
      by (Large other r) e = elim (line_large counts are seen first words other r e) [
        | inl (many, is) ↦ in_state_many seen first words in_state many.0 many.2
        | inr (state, also) ↦ (r, ap (λ (l : Limit). Large l r) (one_large (first ∷ words) r rest other limit also large))
      ]
