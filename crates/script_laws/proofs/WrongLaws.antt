-- The place that reading a line gives is that of its first wrong word, or of its first word that is too large.
use Rattle.std.proofs.Common.{◌≡◌, ℕ, true, false, List, [], ◌∷◌, ◌++◌, refl, sym, ap, subst, ◌∙◌, append_assoc, inl, inr, Option, Some}
use Rattle.std.proofs.Common.{None}
use Rattle.std.proofs.lemmas.Bool.{cases_Bool}
use Rattle.script_words.specs.declared.limits.Limit.{Limit}
use Rattle.script_words.specs.declared.limits.Limit.TheVariants as limits
use Rattle.script_words.specs.declared.limits.Fit.TheVariants.{Unfit}
use Rattle.script_words.specs.WordForm.{is_client_name}
use Rattle.tect_ids.specs.declared.ids.Counts.{Counts}
use Rattle.tect_ids.specs.declared.script.Act.{Act}
use Rattle.tect_ids.specs.declared.script.Line.{Line}
use Rattle.tect_ids.specs.declared.script.Line.TheVariants as lines
use Rattle.script_forms.specs.declared.verbs.WorldVerb.{WorldVerb}
use Rattle.script_forms.specs.Form.{Outcome, Got, Wrong, Large, read, ended}
use Rattle.script_forms.specs.Verbs.{served_world}
use Rattle.script_forms.specs.LineText.{line_words}
use Rattle.script_forms.specs.Grammar.{act_form, line_form, first_fit}
use Rattle.script_forms.specs.LineForms.{IsLine, line_limit, AreCounts}
use Rattle.script_forms.specs.Clients.{Seen, client_number, is_one_too_many}
use Rattle.script_forms.specs.Reading.{out_of_state, of_client, world_read, line_read}
use Rattle.script_forms.specs.FirstWrong.{Begins, IsDead, IsWrongWords, PassesLimit, IsLargeWords, IsInState, IsWrongLine, IsLargeLine}
use Rattle.script_forms.proofs.FormReads.{map_outcome, read-map}
use Rattle.script_laws.proofs.FormLaws.{got, got_wrong, got_large, wrong_same, wrong_large, large_same, taken, first_wrong, first_large}
use Rattle.script_laws.proofs.FormLaws.{IsDeadEnd}
use Rattle.script_laws.proofs.VerbLaws.{world_spelled}
use Rattle.script_laws.proofs.GrammarLaws.{IsNumbered, loose_limit, line_sound, line_complete, line_alive, client_first, world_first}
use Rattle.script_laws.proofs.HonestLaws.{line_honest, honest_large}
use Rattle.script_laws.proofs.ScriptLaws.{append_nil, true_within}

-- ---- the same line with the client's own number

abbrev pub with_number : (List ℕ → ℕ) → Line → Line
with_number number (lines.Client client actor act) = lines.Client client (number client) act
with_number number line = line

pub numbered : (number : List ℕ → ℕ) (line : Line) → IsNumbered number (with_number number line)
numbered number (lines.Client client actor act) = refl
numbered number (lines.Store counts) = tt
numbered number lines.Sweep = tt
numbered number (lines.Lose disk) = tt
numbered number lines.Dump = tt

pub number_form : (counts : Counts) (number : List ℕ → ℕ) (line : Line) → IsLine counts line → IsLine counts (with_number number line)
number_form counts number (lines.Client client actor act) is = is
number_form counts number (lines.Store other) is = is
number_form counts number lines.Sweep is = is
number_form counts number (lines.Lose disk) is = is
number_form counts number lines.Dump is = is

pub number_words : (number : List ℕ → ℕ) (line : Line) → line_words (with_number number line) ≡ line_words line
number_words number (lines.Client client actor act) = refl
number_words number (lines.Store counts) = refl
number_words number lines.Sweep = refl
number_words number (lines.Lose disk) = refl
number_words number lines.Dump = refl

module _ (counts : Counts) (are : AreCounts counts) (number : List ℕ → ℕ) where
  -- a line of the form is read where limits do not count
  form_read : (line : Line) → IsLine counts line → (ws : List (List ℕ)) → line_words line ≡ ws
      → read false (line_form counts number) ws ≡ Got (with_number number line) []
  form_read line is ws text =
      ap (λ (vs : List (List ℕ)). read false (line_form counts number) vs)
      (sym (append_nil (line_words (with_number number line)) ∙ number_words number line ∙ text))
      ∙ line_complete false counts are number (with_number number line) (number_form counts number line is)
      (loose_limit counts (with_number number line) (number_form counts number line is)) (numbered number line) []

  begins_of : (front more : List (List ℕ)) (line : Line) → read true (line_form counts number) (front ++ more) ≡ Got line []
      → Begins counts front
  begins_of front more line is =
      let s = line_sound true counts are number (front ++ more) line [] is in
      record {
        line = line;
        more = more;
        form = s.form;
        within = true_within (line_limit line) s.within;
        text = sym (append_nil (line_words line)) ∙ s.words;
      }

  dead_of : (front rest : List (List ℕ)) → IsDeadEnd (line_form counts number) front rest → IsDead counts front rest
  dead_of front [] dead = λ whole. got_wrong (with_number number whole.line) [] []
      (sym (form_read whole.line whole.form front whole.text) ∙ dead false)
  dead_of front (w ∷ others) dead = λ b.
      got_wrong (with_number number b.line) [] (w ∷ b.more)
      (sym (form_read b.line b.form (front ++ w ∷ b.more) (b.text ∙ append_assoc front (w ∷ []) b.more)) ∙ dead false b.more)

  wrong_of : (ws rest : List (List ℕ)) → read true (line_form counts number) ws ≡ Wrong rest → IsWrongWords counts ws rest
  wrong_of ws rest is =
      let f = first_wrong (line_form counts number) ws rest (line_alive true counts are number) is in
      record { front = f.front; split = f.split; begins = begins_of f.front f.more f.value f.begins; dead = dead_of f.front rest f.dead }

  -- a word behind a whole line
  extra_of : (ws : List (List ℕ)) (line : Line) (w : List ℕ) (others : List (List ℕ))
      → read true (line_form counts number) ws ≡ Got line (w ∷ others) → IsWrongWords counts ws (w ∷ others)
  extra_of ws line w others is =
      let t = taken (line_form counts number) ws line (w ∷ others) is in
      record {
        front = t.front;
        split = t.split;
        begins = begins_of t.front [] line (t.again true []);
        dead = λ b. none_more w b.more (with_number number b.line) line
            (sym (form_read b.line b.form (t.front ++ w ∷ b.more) (b.text ∙ append_assoc t.front (w ∷ []) b.more)) ∙ t.again false
            (w ∷ b.more));
      }
    where
      none_more : (w : List ℕ) (more : List (List ℕ)) (a b : Line) → got Line a [] ≡ Got b (w ∷ more) → ⊥
      none_more w more a b e = cc

  ended_wrong : (ws rest : List (List ℕ)) (o : Outcome Line) → read true (line_form counts number) ws ≡ o → ended o ≡ Wrong rest
      → IsWrongWords counts ws rest
  ended_wrong ws rest (Got line []) e is = got_wrong line [] rest is
  ended_wrong ws rest (Got line (w ∷ others)) e is = subst (λ (r : List (List ℕ)). IsWrongWords counts ws r)
      (wrong_same (w ∷ others) rest is) (extra_of ws line w others e)
  ended_wrong ws rest (Wrong others) e is = subst (λ (r : List (List ℕ)). IsWrongWords counts ws r) (wrong_same others rest is)
      (wrong_of ws others e)
  ended_wrong ws rest (Large limit others) e is = absurd cc

  large_of : (ws : List (List ℕ)) (limit : Limit) (rest : List (List ℕ)) → read true (line_form counts number) ws ≡ Large limit rest
      → IsLargeWords counts ws limit rest
  large_of ws limit rest is =
      let f = first_large (line_form counts number) ws limit rest (line_alive true counts are number) (line_alive false counts are number)
      is in
      let h = honest_large (line_form counts number) ws limit rest (line_honest counts number) is in
      let s = line_sound false counts are number (f.front ++ f.w ∷ f.more_large) f.value_large [] f.goes_on in
      record {
        front = f.front;
        w = f.w;
        others = f.others;
        split = f.split ∙ ap (λ (r : List (List ℕ)). f.front ++ r) (sym f.rest_is);
        rest_is = f.rest_is;
        begins = begins_of f.front f.more f.value f.begins;
        form = record {
          line = f.value_large;
          more = f.more_large;
          form = s.form;
          text = sym (append_nil (line_words f.value_large)) ∙ s.words ∙ sym (append_assoc f.front (f.w ∷ []) f.more_large);
        };
        over = subst (λ (v : List ℕ). PassesLimit v limit) (first_same h.0 f.w h.1 f.others (sym h.2 ∙ f.rest_is)) h.3;
      }
    where
      first_same : (a b : List ℕ) (xs ys : List (List ℕ)) → a ∷ xs ≡ b ∷ ys → a ≡ b
      first_same a b xs ys e = cc

  ended_large : (ws : List (List ℕ)) (limit : Limit) (rest : List (List ℕ)) (o : Outcome Line) → read true (line_form counts number) ws ≡ o
      → ended o ≡ Large limit rest → IsLargeWords counts ws limit rest
  ended_large ws limit rest (Got line []) e is = got_large line limit [] rest is
  ended_large ws limit rest (Got line (w ∷ others)) e is = wrong_large limit (w ∷ others) rest is
  ended_large ws limit rest (Wrong others) e is = wrong_large limit others rest is
  ended_large ws limit rest (Large other others) e is =
      large_of ws limit rest (e ∙ is)

-- ---- with the clients' states

of_client_ended : (client : List ℕ) (actor : ℕ) (o : Outcome Act)
    → of_client client actor (ended o) ≡ ended (map_outcome (λ act. lines.Client client actor act) o)
of_client_ended client actor (Got act []) = refl
of_client_ended client actor (Got act (w ∷ others)) = refl
of_client_ended client actor (Wrong ws) = refl
of_client_ended client actor (Large limit ws) = refl

-- a client in order is read by the form of lines
client_as_form : (counts : Counts) (seen : Seen) (client : List ℕ) (words : List (List ℕ)) → is_client_name client ≡ true
    → out_of_state seen client words ≡ false → is_one_too_many seen client ≡ false →
    line_read counts seen (client ∷ words) ≡ ended (read true (line_form counts (λ name. client_number seen name)) (client ∷ words))
client_as_form counts seen client words named fits few =
    let first = client_first true counts (λ name. client_number seen name) client named words in
    let e : line_read counts seen (client ∷ words) ≡ of_client client (client_number seen client)
    (ended (read true (act_form counts) words)) = rw (named, fits, few) refl in
    e ∙ of_client_ended client (client_number seen client) (read true (act_form counts) words)
    ∙ ap (λ (o : Outcome Line). ended o)
    (sym (read-map (λ act. lines.Client client (client_number seen client) act) true (act_form counts) words) ∙ sym first)

world_as_form : (counts : Counts) (seen : Seen) (first : List ℕ) (words : List (List ℕ)) (o : Option WorldVerb)
    → is_client_name first ≡ false → served_world first ≡ o →
    world_read counts o first words ≡ ended (read true (line_form counts (λ name. client_number seen name)) (first ∷ words))
world_as_form counts seen first words None miss none =
    let fit : first_fit first ≡ Unfit = rw (miss, none) refl in
    sym (ap (λ (o : Outcome Line). ended o) (unfit_read fit))
  where
    unfit_read : first_fit first ≡ Unfit
        → read true (line_form counts (λ name. client_number seen name)) (first ∷ words) ≡ Wrong (first ∷ words)
    unfit_read fit = rw fit refl
world_as_form counts seen first words (Some verb) miss some =
    let s = world_spelled first verb some in
    ap (λ (o : Outcome Line). ended o)
    (sym (ap (λ (f : List ℕ). read true (line_form counts (λ name. client_number seen name)) (f ∷ words)) s.0 ∙ world_first true counts
    (λ name. client_number seen name) verb s.1 words))

as_form : (counts : Counts) (seen : Seen) (first : List ℕ) (words : List (List ℕ)) → IsInState seen (first ∷ words)
    → line_read counts seen (first ∷ words) ≡ ended (read true (line_form counts (λ name. client_number seen name)) (first ∷ words))
as_form counts seen first words in_state = elim (cases_Bool (is_client_name first)) [
  | inl hit ↦ (let order = in_state hit in client_as_form counts seen first words hit order.0 order.1)
  | inr miss ↦ (let e : line_read counts seen (first ∷ words) ≡ world_read counts (served_world first) first words = rw miss refl
      in e ∙ world_as_form counts seen first words (served_world first) miss refl)
]

no_client : (seen : Seen) (first : List ℕ) (words : List (List ℕ)) → is_client_name first ≡ false → IsInState seen (first ∷ words)
no_client seen first words miss = λ hit. absurd (let h : false ≡ true = sym miss ∙ hit in cc)

pub line_wrong : (counts : Counts) → AreCounts counts → (seen : Seen) (first : List ℕ) (words rest : List (List ℕ))
    → line_read counts seen (first ∷ words) ≡ Wrong rest → IsWrongLine counts seen (first ∷ words) rest
line_wrong counts are seen first words rest is = elim (cases_Bool (is_client_name first)) [
  | inr miss ↦ inr (no_client seen first words miss, by_form (no_client seen first words miss))
  | inl hit ↦ elim (cases_Bool (out_of_state seen first words)) [
    | inl out ↦ inl ((hit, out), sym (wrong_same (first ∷ words) rest (rw (hit, out) at is)))
    | inr fits ↦ elim (cases_Bool (is_one_too_many seen first)) [
      | inl many ↦ wrong_large limits.Clients rest (first ∷ words) (sym (rw (hit, fits, many) at is))
      | inr few ↦ inr ((λ named. (fits, few)), by_form (λ named. (fits, few)))
    ]
  ]
]
  where
    by_form : IsInState seen (first ∷ words) → IsWrongWords counts (first ∷ words) rest
    by_form in_state = ended_wrong counts are (λ name. client_number seen name) (first ∷ words) rest
        (read true (line_form counts (λ name. client_number seen name)) (first ∷ words)) refl
        (sym (as_form counts seen first words in_state) ∙ is)

pub line_large : (counts : Counts) → AreCounts counts
    → (seen : Seen) (first : List ℕ) (words : List (List ℕ)) (limit : Limit) (rest : List (List ℕ))
    → line_read counts seen (first ∷ words) ≡ Large limit rest → IsLargeLine counts seen (first ∷ words) limit rest
line_large counts are seen first words limit rest is = elim (cases_Bool (is_client_name first)) [
  | inr miss ↦ inr (no_client seen first words miss, by_form (no_client seen first words miss))
  | inl hit ↦ elim (cases_Bool (out_of_state seen first words)) [
    | inl out ↦ wrong_large limit (first ∷ words) rest (rw (hit, out) at is)
    | inr fits ↦ elim (cases_Bool (is_one_too_many seen first)) [
      | inl many ↦ inl ((hit, fits, many), sym (large_same limits.Clients limit (first ∷ words) rest (rw (hit, fits, many) at is)).0)
      | inr few ↦ inr ((λ named. (fits, few)), by_form (λ named. (fits, few)))
    ]
  ]
]
  where
    by_form : IsInState seen (first ∷ words) → IsLargeWords counts (first ∷ words) limit rest
    by_form in_state = ended_large counts are (λ name. client_number seen name) (first ∷ words) limit rest
        (read true (line_form counts (λ name. client_number seen name)) (first ∷ words)) refl
        (sym (as_form counts seen first words in_state) ∙ is)
