-- No word of a line within the limits passes a limit.
use Rattle.std.proofs.Common.{◌≡◌, ℕ, ◌-◌, ◌<◌, ◌≤◌, ◌^◌, Bool, true, false, ◌&&◌, ◌||◌, not, nat_lt, nat_le, List, [], ◌∷◌, ◌++◌, length, refl, sym, ap, subst, ◌∙◌}
use Rattle.std.proofs.Common.{arith, inl, inr, is_some, eqb}
use Rattle.std.specs.Prelude.{codes, unwrap_or, if◌then◌else◌}
use Rattle.std.specs.List.{list_all}
use Rattle.std.specs.Str.{bytes_eq}
use Rattle.std.proofs.lemmas.Bool.{cases_Bool, leb-true, eqb-true, le-leb, lt-ltb}
use Rattle.std.specs.Fmt.{decimal}
use Rattle.std.proofs.lemmas.Fmt.{length-decimal-le}
use Rattle.std.proofs.lemmas.Slice.Eq.{bytes_eq-Decides}
use Rattle.script_words.specs.declared.limits.Limit.{Limit}
use Rattle.script_words.specs.declared.limits.Limit.TheVariants as limits
use Rattle.script_words.specs.declared.limits.Fit.{Fit}
use Rattle.script_words.specs.declared.limits.Fit.TheVariants.{Fits, Over, Unfit}
use Rattle.script_words.specs.WordForm.{is_path_form, path_names, path_fit, folder_text, sibling_fit, is_hex_digit, are_hex_pairs, hex_fit}
use Rattle.script_words.specs.WordForm.{is_digit, is_numeral, number_of, number_fit, is_letter, is_client_name, layer_of}
use Rattle.script_words.specs.WordForm.{are_name_forms}
use Rattle.script_words.proofs.Apart.{both}
use Rattle.tect_ids.specs.declared.ids.Counts.{Counts}
use Rattle.tect_ids.specs.declared.script.Act.TheVariants.{Do, Begin}
use Rattle.tect_ids.specs.declared.script.Line.{Line}
use Rattle.tect_ids.specs.declared.script.Line.TheVariants as lines
use Rattle.script_forms.specs.declared.verbs.PathVerb.TheVariants as paths
use Rattle.script_forms.specs.declared.verbs.Verb.{Verb}
use Rattle.script_forms.specs.declared.verbs.Verb.TheVariants.{OnPath, Rename, Move, Append, Sweep, Repair}
use Rattle.script_forms.specs.declared.verbs.ActWord.{ActWord}
use Rattle.script_forms.specs.declared.verbs.ActWord.TheVariants as words
use Rattle.script_forms.specs.declared.verbs.WorldVerb.{WorldVerb}
use Rattle.script_forms.specs.declared.verbs.WorldVerb.TheVariants as worlds
use Rattle.script_forms.specs.Form.{Form, done, word, Got, by_fit, read, and_then}
use Rattle.script_forms.specs.Verbs.{verb_word, world_word, served_verb, act_word_of, served_world}
use Rattle.script_forms.specs.Grammar.{fits_if, the_layer, places_of, command_form, the_verb, any_command, act_behind, the_act_word}
use Rattle.script_forms.specs.Grammar.{act_form, world_behind, client_form, behind_first, line_form}
use Rattle.script_forms.specs.LineForms.{AreCounts}
use Rattle.script_forms.specs.FirstWrong.{PassesLimit}
use Rattle.script_laws.proofs.FormLaws.{got, got_same, got_wrong, got_large, fits_pass}
use Rattle.script_laws.proofs.WordLaws.{number_word, number_text, if_passes}
use Rattle.script_laws.proofs.VerbLaws.{some_is, served_spelled, act_word_text, act_word_spelled, world_spelled}
use Rattle.script_laws.proofs.CommandLaws.{places_are}
use Rattle.script_laws.proofs.HonestLaws.{fits_over, over_same}

-- ---- words that pass no limit

-- short, and no path
abbrev is_plain : List ℕ → Bool
is_plain w = nat_le (length w) 65536 && not (is_path_form w)

true_not : (b : Bool) → not b ≡ true → b ≡ true → ⊥
true_not true n is = let e : false ≡ true = n in cc
true_not false n is = let e : false ≡ true = is in cc

plain_passes : (w : List ℕ) (limit : Limit) → is_plain w ≡ true → PassesLimit w limit → ⊥
plain_passes w limit plain (inl p) = true_not (is_path_form w) (both (nat_le (length w) 65536) (not (is_path_form w)) plain).1 p.0
plain_passes w limit plain (inr p) =
    let short = leb-true (length w) 65536 (both (nat_le (length w) 65536) (not (is_path_form w)) plain).0 in
    let long = p.1 in
    absurd (omega (arith, short, long))

-- a path begins with a slash
slash_first : (b : ℕ) (bs : List ℕ) → is_path_form (b ∷ bs) ≡ true → b ≡ 47
slash_first b bs is = eqb-true b 47 (both (eqb b 47) (are_name_forms (path_names (b ∷ bs))) is).0

-- a word that is short and does not begin with a slash
short_plain : (b : ℕ) (bs : List ℕ) → length (b ∷ bs) ≤ 65536 → (b ≡ 47 → ⊥) → is_plain (b ∷ bs) ≡ true
short_plain b bs short other = by (is_path_form (b ∷ bs)) refl
  where
    by : (p : Bool) → is_path_form (b ∷ bs) ≡ p → is_plain (b ∷ bs) ≡ true
    by true is = absurd (other (slash_first b bs is))
    by false is = rw (le-leb (length (b ∷ bs)) 65536 short, is) refl

pub hex_no_path : (w : List ℕ) → are_hex_pairs w ≡ true → is_path_form w ≡ true → ⊥
hex_no_path [] hex path = let e : false ≡ true = path in cc
hex_no_path (high ∷ []) hex path = let e : false ≡ true = hex in cc
hex_no_path (high ∷ low ∷ more) hex path =
    let slash = slash_first high (low ∷ more) path in
    let digit = (both (is_hex_digit high) (is_hex_digit low) (both (is_hex_digit high && is_hex_digit low) (are_hex_pairs more) hex).0).0 in
    let e : is_hex_digit 47 ≡ true = subst (λ (b : ℕ). is_hex_digit b ≡ true) slash digit in
    let f : false ≡ true = e in
    cc

-- the limit that a word passes is one
pub one_limit : (w : List ℕ) (k l : Limit) → PassesLimit w k → PassesLimit w l → k ≡ l
one_limit w k l (inl p) (inl q) = over_same k l (sym p.1 ∙ q.1)
one_limit w k l (inl p) (inr q) = absurd (hex_no_path w q.0 p.0)
one_limit w k l (inr p) (inl q) = absurd (hex_no_path w p.0 q.0)
one_limit w k l (inr p) (inr q) = p.2 ∙ sym q.2

-- ---- kinds of words

abbrev pub IsExactFit : (List ℕ → Fit) → Type 0
IsExactFit fit = (w : List ℕ) (limit : Limit) → fit w ≡ Fits → PassesLimit w limit → ⊥

no_fit : {P : Type 0} (k : Fit) → k ≡ Unfit → k ≡ Fits → P
no_fit Fits a b = absurd cc
no_fit (Over limit) a b = absurd cc
no_fit Unfit a b = absurd cc

path_exact : IsExactFit path_fit
path_exact w limit fits (inl p) = fits_over (path_fit w) limit fits (rw p.0 p.1)
path_exact w limit fits (inr p) = elim (cases_Bool (is_path_form w)) [
  | inl hit ↦ hex_no_path w p.0 hit
  | inr miss ↦ no_fit (path_fit w) (rw miss refl) fits
]

sibling_exact : (other : List ℕ) → IsExactFit (sibling_fit other)
sibling_exact other w limit fits p = elim (cases_Bool (bytes_eq (folder_text w) (folder_text other))) [
  | inl hit ↦ path_exact w limit (let e : sibling_fit other w ≡ path_fit w = rw hit refl in sym e ∙ fits) p
  | inr miss ↦ no_fit (sibling_fit other w) (rw miss refl) fits
]

hex_exact : IsExactFit hex_fit
hex_exact w limit fits p = elim (cases_Bool (nat_lt 0 (length w) && are_hex_pairs w)) [
  | inl hit ↦ by hit p
  | inr miss ↦ no_fit (hex_fit w) (rw miss refl) fits
]
  where
    by : (nat_lt 0 (length w) && are_hex_pairs w) ≡ true → PassesLimit w limit → ⊥
    by hit (inl q) = hex_no_path w (both (nat_lt 0 (length w)) (are_hex_pairs w) hit).1 q.0
    by hit (inr q) = fits_over (hex_fit w) limits.Block fits (let long = lt-ltb 65536 (length w) q.1 in rw (hit, long) refl)

-- a numeral begins with a digit
numeral_plain : (w : List ℕ) → is_numeral w ≡ true → length w ≤ 65536 → is_plain w ≡ true
numeral_plain [] numeral short = refl
numeral_plain (b ∷ bs) numeral short =
    let digits = (both (nat_lt 0 (length (b ∷ bs)) && list_all is_digit (b ∷ bs)) _ numeral).0 in
    let digit : is_digit b ≡ true = (both (is_digit b) (list_all is_digit bs)
    (both (nat_lt 0 (length (b ∷ bs))) (list_all is_digit (b ∷ bs)) digits).1).0 in
    short_plain b bs short (λ slash. let e : is_digit 47 ≡ true = subst (λ (c : ℕ). is_digit c ≡ true) slash digit in
    let f : false ≡ true = e in cc)

number_exact : (low high : ℕ) → high < 2 ^ 64 → IsExactFit (number_fit low high)
number_exact low high small w limit fits p =
    let n = number_word true low high w (fits_pass true (number_fit low high w) fits) in
    let to = n.to in
    let less : number_of w < 2 ^ 64 = omega (arith, to, small) in
    let few : number_of w < 10 ^ 20 = omega (arith, less) in
    let size : length w ≡ length (decimal (number_of w)) = ap (λ (v : List ℕ). length v) (sym (number_text low high w small n)) in
    let short = length-decimal-le 20 (number_of w) (omega arith) few less in
    plain_passes w limit (numeral_plain w n.numeral (omega (arith, size, short))) p

if_exact : (b : Bool) (w : List ℕ) (limit : Limit) → (b ≡ true → is_plain w ≡ true) → fits_if b ≡ Fits → PassesLimit w limit → ⊥
if_exact b w limit plain fits p = plain_passes w limit (plain (if_passes true b (fits_pass true (fits_if b) fits))) p

-- ---- words that stand for themselves

verb_plain : (v : Verb) → is_plain (verb_word v) ≡ true
verb_plain (OnPath paths.Look) = refl
verb_plain (OnPath paths.List) = refl
verb_plain (OnPath paths.Create) = refl
verb_plain (OnPath paths.Mkdir) = refl
verb_plain (OnPath paths.Delete) = refl
verb_plain (OnPath paths.Rmdir) = refl
verb_plain (OnPath paths.Drop) = refl
verb_plain (OnPath paths.Seal) = refl
verb_plain (OnPath paths.Open) = refl
verb_plain (OnPath paths.Blocks) = refl
verb_plain (OnPath paths.Read) = refl
verb_plain Rename = refl
verb_plain Move = refl
verb_plain Append = refl
verb_plain Sweep = refl
verb_plain Repair = refl

act_plain : (a : ActWord) → is_plain (act_word_text a) ≡ true
act_plain (words.Do verb) = verb_plain verb
act_plain words.Begin = refl
act_plain words.Step = refl
act_plain words.Run = refl
act_plain words.Stop = refl

world_plain_word : (v : WorldVerb) → is_plain (world_word v) ≡ true
world_plain_word worlds.Sweep = refl
world_plain_word worlds.Lose = refl
world_plain_word worlds.Dump = refl

plain_by : (w text : List ℕ) → w ≡ text → is_plain text ≡ true → is_plain w ≡ true
plain_by w text is plain = ap (λ (v : List ℕ). is_plain v) is ∙ plain

served_plain : (w : List ℕ) → is_some (served_verb w) ≡ true → is_plain w ≡ true
served_plain w some =
    let v = unwrap_or (served_verb w) (OnPath paths.Look) in
    plain_by w (verb_word v) (served_spelled w v (some_is (served_verb w) (OnPath paths.Look) some)).0 (verb_plain v)

act_word_plain : (w : List ℕ) → is_some (act_word_of w) ≡ true → is_plain w ≡ true
act_word_plain w some =
    let a = unwrap_or (act_word_of w) words.Run in
    plain_by w (act_word_text a) (act_word_spelled w a (some_is (act_word_of w) words.Run some)).0 (act_plain a)

client_plain : (w : List ℕ) → is_client_name w ≡ true → is_plain w ≡ true
client_plain [] is = refl
client_plain (b ∷ bs) is =
    let a = (both ((nat_le (length (b ∷ bs)) 16 && is_letter b) && list_all (λ c. is_letter c || is_digit c) (b ∷ bs)) _ is).0 in
    let c = both (nat_le (length (b ∷ bs)) 16) (is_letter b) (both (nat_le (length (b ∷ bs)) 16 && is_letter b) _ a).0 in
    let short = leb-true (length (b ∷ bs)) 16 c.0 in
    short_plain b bs (omega (arith, short))
    (λ slash. let e : is_letter 47 ≡ true = subst (λ (d : ℕ). is_letter d ≡ true) slash c.1 in let f : false ≡ true = e in cc)

first_plain : (w : List ℕ) → (if is_client_name w then true else is_some (served_world w)) ≡ true → is_plain w ≡ true
first_plain w is = elim (cases_Bool (is_client_name w)) [
  | inl hit ↦ client_plain w hit
  | inr miss ↦
      let v = unwrap_or (served_world w) worlds.Dump in
      plain_by w (world_word v) (world_spelled w v (some_is (served_world w) worlds.Dump (rw miss at is))).0 (world_plain_word v)
]

layer_plain : (w : List ℕ) → is_some (layer_of w) ≡ true → is_plain w ≡ true
layer_plain w is = elim (cases_Bool (bytes_eq w (codes "name"))) [
  | inl a ↦ plain_by w (codes "name") ((bytes_eq-Decides w (codes "name")).0 a) refl
  | inr na ↦ elim (cases_Bool (bytes_eq w (codes "file"))) [
    | inl b ↦ plain_by w (codes "file") ((bytes_eq-Decides w (codes "file")).0 b) refl
    | inr nb ↦ elim (cases_Bool (bytes_eq w (codes "block"))) [
      | inl c ↦ plain_by w (codes "block") ((bytes_eq-Decides w (codes "block")).0 c) refl
      | inr nc ↦ elim (cases_Bool (bytes_eq w (codes "disk"))) [
        | inl d ↦ plain_by w (codes "disk") ((bytes_eq-Decides w (codes "disk")).0 d) refl
        | inr nd ↦ absurd (let e : false ≡ true = rw (na, nb, nc, nd) at is in cc)
      ]
    ]
  ]
]

-- ---- forms of which no word that fits passes a limit

abbrev pub IsExact : {A : Type 0} → Form A → Type 0
IsExact (done value) = Unit {0}
IsExact (word fit next) = IsExactFit fit × ((w : List ℕ) → IsExact (next w))

exact_by : {A : Type 0} (fit : List ℕ → Fit) (next : List ℕ → Form A) (w : List ℕ) (ws : List (List ℕ)) (value : A) (k : Fit) → fit w ≡ k
    → by_fit true k (w ∷ ws) (read true (next w) ws) ≡ Got value [] → (fit w ≡ Fits) × (read true (next w) ws ≡ Got value [])
exact_by fit next w ws value Fits e is = (e, is)
exact_by fit next w ws value (Over limit) e is = got_large value limit [] (w ∷ ws) (sym is)
exact_by fit next w ws value Unfit e is = got_wrong value [] (w ∷ ws) (sym is)

front_some : {A : Type 0} (a b : A) (front : List (List ℕ)) (w : List ℕ) (more : List (List ℕ)) → got A a (front ++ w ∷ more) ≡ Got b []
    → ⊥
front_some a b [] w more is = list_none (got_same a b (w ∷ more) [] is).1
  where
    list_none : w ∷ more ≡ [] → ⊥
    list_none e = cc
front_some a b (x ∷ front) w more is = list_none (got_same a b (x ∷ front ++ w ∷ more) [] is).1
  where
    list_none : x ∷ front ++ w ∷ more ≡ [] → ⊥
    list_none e = cc

pub exact_read : {A : Type 0} (f : Form A) (front : List (List ℕ)) (w : List ℕ) (more : List (List ℕ)) (value : A) (limit : Limit)
    → IsExact f → read true f (front ++ w ∷ more) ≡ Got value [] → PassesLimit w limit → ⊥
exact_read (done a) front w more value limit exact is p = front_some a value front w more is
exact_read (word fit next) [] w more value limit exact is p = exact.0 w limit (exact_by fit next w more value (fit w) refl is).0 p
exact_read (word fit next) (x ∷ front) w more value limit exact is p =
    exact_read (next x) front w more value limit (exact.1 x) (exact_by fit next x (front ++ w ∷ more) value (fit x) refl is).1 p

exact_then : {A B : Type 0} (f : Form A) (go : A → Form B) → IsExact f → ((a : A) → IsExact (go a)) → IsExact (and_then f go)
exact_then (done a) go exact each = each a
exact_then (word fit next) go exact each = (exact.0, λ w. exact_then (next w) go (exact.1 w) each)

-- ---- the grammar

module _ (counts : Counts) (are : AreCounts counts) where
  command_exact : (verb : Verb) → IsExact (command_form counts verb)
  command_exact (OnPath verb) = (path_exact, λ w. tt)
  command_exact Rename = (path_exact, λ w. (sibling_exact w, λ v. tt))
  command_exact Move = (path_exact, λ w. (path_exact, λ v. tt))
  command_exact Append = (path_exact, λ w. (hex_exact, λ v. tt))
  command_exact Sweep = (
    λ w limit fits p. if_exact (is_some (layer_of w)) w limit (layer_plain w) fits p,
    λ w. (number_exact 0 (places_of counts (the_layer w) - 1) (let h = (places_are counts are (the_layer w)).1 in omega (arith, h)), λ v. tt),
  )
  command_exact Repair = (
    number_exact 0 (counts.disks - 1) (let h = are.disks.1 in omega (arith, h)),
    λ w. (number_exact 0 (counts.blocks - 1) (let h = are.blocks.1 in omega (arith, h)), λ v. tt),
  )

  any_exact : IsExact (any_command counts)
  any_exact = (λ w limit fits p. if_exact (is_some (served_verb w)) w limit (served_plain w) fits p, λ w. command_exact (the_verb w))

  act_behind_exact : (a : ActWord) → IsExact (act_behind counts a)
  act_behind_exact (words.Do verb) = exact_then (command_form counts verb) (λ command. done (Do command)) (command_exact verb) (λ command. tt)
  act_behind_exact words.Begin = exact_then (any_command counts) (λ command. done (Begin command)) any_exact (λ command. tt)
  act_behind_exact words.Step = (number_exact 1 65535 (omega arith), λ w. tt)
  act_behind_exact words.Run = tt
  act_behind_exact words.Stop = tt

  act_exact : IsExact (act_form counts)
  act_exact = (
    λ w limit fits p. if_exact (is_some (act_word_of w)) w limit (act_word_plain w) fits p,
    λ w. act_behind_exact (the_act_word w),
  )

  world_exact : (verb : WorldVerb) → IsExact (world_behind counts verb)
  world_exact worlds.Sweep = (
    λ w limit fits p. if_exact (bytes_eq w (codes "all")) w limit
        (λ is. plain_by w (codes "all") ((bytes_eq-Decides w (codes "all")).0 is) refl) fits p,
    λ w. tt,
  )
  world_exact worlds.Lose = (number_exact 0 (counts.disks - 1) (let h = are.disks.1 in omega (arith, h)), λ w. tt)
  world_exact worlds.Dump = tt

  behind_exact : (number : List ℕ → ℕ) (w : List ℕ) → IsExact (behind_first counts number w)
  behind_exact number w = elim (cases_Bool (is_client_name w)) [
    | inl hit ↦ (let e : behind_first counts number w ≡ client_form counts w (number w) = rw hit refl in
        subst (λ (f : Form Line). IsExact f) (sym e)
        (exact_then (act_form counts) (λ act. done (lines.Client w (number w) act)) act_exact (λ act. tt)))
    | inr miss ↦ (let e : behind_first counts number w ≡ world_behind counts (unwrap_or (served_world w) worlds.Dump) = rw miss refl in
        subst (λ (f : Form Line). IsExact f) (sym e) (world_exact (unwrap_or (served_world w) worlds.Dump)))
  ]

  pub line_exact : (number : List ℕ → ℕ) → IsExact (line_form counts number)
  line_exact number = (λ w limit fits p. if_exact _ w limit (first_plain w) fits p, λ w. behind_exact number w)
