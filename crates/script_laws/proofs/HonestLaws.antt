-- A word that is over a limit passes that very limit.
use Rattle.std.proofs.Common.{◌≡◌, ℕ, ◌-◌, Bool, true, false, ◌&&◌, nat_lt, nat_le, List, [], ◌∷◌, length, refl, sym, ap, subst, ◌∙◌, inl}
use Rattle.std.proofs.Common.{inr, is_some}
use Rattle.std.specs.Prelude.{codes, unwrap_or}
use Rattle.std.specs.Str.{bytes_eq}
use Rattle.std.proofs.lemmas.Bool.{cases_Bool, ltb-true}
use Rattle.script_words.specs.declared.limits.Limit.{Limit}
use Rattle.script_words.specs.declared.limits.Limit.TheVariants as limits
use Rattle.script_words.specs.declared.limits.Fit.{Fit}
use Rattle.script_words.specs.declared.limits.Fit.TheVariants.{Fits, Over, Unfit}
use Rattle.script_words.specs.WordForm.{is_path_form, path_fit, folder_text, sibling_fit, are_hex_pairs, hex_fit, is_numeral, number_of}
use Rattle.script_words.specs.WordForm.{number_fit, is_client_name}
use Rattle.script_words.proofs.Apart.{both}
use Rattle.tect_ids.specs.declared.ids.Counts.{Counts}
use Rattle.tect_ids.specs.declared.script.Act.TheVariants.{Do, Begin}
use Rattle.tect_ids.specs.declared.script.Line.{Line}
use Rattle.tect_ids.specs.declared.script.Line.TheVariants as lines
use Rattle.script_forms.specs.declared.verbs.Verb.{Verb}
use Rattle.script_forms.specs.declared.verbs.Verb.TheVariants.{OnPath, Rename, Move, Append, Sweep, Repair}
use Rattle.script_forms.specs.declared.verbs.ActWord.{ActWord}
use Rattle.script_forms.specs.declared.verbs.ActWord.TheVariants as words
use Rattle.script_forms.specs.declared.verbs.WorldVerb.{WorldVerb}
use Rattle.script_forms.specs.declared.verbs.WorldVerb.TheVariants as worlds
use Rattle.script_forms.specs.Form.{Form, done, word, Large, by_fit, read, and_then}
use Rattle.script_forms.specs.Verbs.{served_verb, act_word_of, served_world}
use Rattle.script_forms.specs.Grammar.{fits_if, the_layer, places_of, command_form, the_verb, any_command, act_behind, the_act_word}
use Rattle.script_forms.specs.Grammar.{act_form, world_behind, client_form, behind_first, line_form}
use Rattle.script_forms.specs.FirstWrong.{PassesLimit}
use Rattle.script_laws.proofs.FormLaws.{got_large, large_same, wrong_large}

abbrev pub IsHonest : {A : Type 0} → Form A → Type 0
IsHonest (done value) = Unit {0}
IsHonest (word fit next) = ((w : List ℕ) (limit : Limit) → fit w ≡ Over limit → PassesLimit w limit) × ((w : List ℕ) → IsHonest (next w))

honest_by : {A : Type 0} (fit : List ℕ → Fit) (next : List ℕ → Form A) (w : List ℕ) (ws : List (List ℕ)) (limit : Limit)
    (rest : List (List ℕ)) (k : Fit) → fit w ≡ k → ((v : List ℕ) (l : Limit) → fit v ≡ Over l → PassesLimit v l)
    → by_fit true k (w ∷ ws) (read true (next w) ws) ≡ Large limit rest →
    (read true (next w) ws ≡ Large limit rest → (v : List ℕ) × (others : List (List ℕ)) × (rest ≡ v ∷ others) × PassesLimit v limit)
    → (v : List ℕ) × (others : List (List ℕ)) × (rest ≡ v ∷ others) × PassesLimit v limit
honest_by fit next w ws limit rest Fits e honest is more = more is
honest_by fit next w ws limit rest (Over over) e honest is more =
    let same = large_same over limit (w ∷ ws) rest is in
    (w, ws, sym same.1, honest w limit (e ∙ ap (λ (l : Limit). Over l) same.0))
honest_by fit next w ws limit rest Unfit e honest is more = wrong_large limit (w ∷ ws) rest is

pub honest_large : {A : Type 0} (f : Form A) (ws : List (List ℕ)) (limit : Limit) (rest : List (List ℕ)) → IsHonest f
    → read true f ws ≡ Large limit rest → (v : List ℕ) × (others : List (List ℕ)) × (rest ≡ v ∷ others) × PassesLimit v limit
honest_large (done value) ws limit rest honest is = got_large value limit ws rest is
honest_large (word fit next) [] limit rest honest is = wrong_large limit [] rest is
honest_large (word fit next) (w ∷ ws) limit rest honest is = honest_by fit next w ws limit rest (fit w) refl honest.0 is
    (λ h. honest_large (next w) ws limit rest (honest.1 w) h)

honest_then : {A B : Type 0} (f : Form A) (go : A → Form B) → IsHonest f → ((a : A) → IsHonest (go a)) → IsHonest (and_then f go)
honest_then (done a) go honest each = each a
honest_then (word fit next) go honest each = (honest.0, λ w. honest_then (next w) go (honest.1 w) each)

-- ---- kinds of words

pub unfit_over : {P : Type 0} (k : Fit) (limit : Limit) → k ≡ Unfit → k ≡ Over limit → P
unfit_over Fits limit a b = absurd cc
unfit_over (Over other) limit a b = absurd cc
unfit_over Unfit limit a b = absurd cc

pub fits_over : {P : Type 0} (k : Fit) (limit : Limit) → k ≡ Fits → k ≡ Over limit → P
fits_over Fits limit a b = absurd cc
fits_over (Over other) limit a b = absurd cc
fits_over Unfit limit a b = absurd cc

path_over : (w : List ℕ) (limit : Limit) → path_fit w ≡ Over limit → PassesLimit w limit
path_over w limit is = elim (cases_Bool (is_path_form w)) [
  | inl hit ↦ inl (hit, rw hit at is)
  | inr miss ↦ unfit_over (path_fit w) limit (rw miss refl) is
]

sibling_over : (other w : List ℕ) (limit : Limit) → sibling_fit other w ≡ Over limit → PassesLimit w limit
sibling_over other w limit is = elim (cases_Bool (bytes_eq (folder_text w) (folder_text other))) [
  | inl hit ↦ path_over w limit (let e : sibling_fit other w ≡ path_fit w = rw hit refl in sym e ∙ is)
  | inr miss ↦ unfit_over (sibling_fit other w) limit (rw miss refl) is
]

pub over_same : (k l : Limit) → Over k ≡ Over l → k ≡ l
over_same k l e = cc

hex_over : (w : List ℕ) (limit : Limit) → hex_fit w ≡ Over limit → PassesLimit w limit
hex_over w limit is = elim (cases_Bool (nat_lt 0 (length w) && are_hex_pairs w)) [
  | inl hit ↦ elim (cases_Bool (nat_lt 65536 (length w))) [
    | inl long ↦ inr (
      (both (nat_lt 0 (length w)) (are_hex_pairs w) hit).1,
      ltb-true 65536 (length w) long,
      sym
          (over_same limits.Block limit (rw (hit, long) at is)),
    )
    | inr short ↦ fits_over (hex_fit w) limit (rw (hit, short) refl) is
  ]
  | inr miss ↦ unfit_over (hex_fit w) limit (rw miss refl) is
]

number_over : (low high : ℕ) (w : List ℕ) (limit : Limit) → number_fit low high w ≡ Over limit → PassesLimit w limit
number_over low high w limit is = elim (cases_Bool (is_numeral w && (nat_le low (number_of w) && nat_le (number_of w) high))) [
  | inl hit ↦ fits_over (number_fit low high w) limit (rw hit refl) is
  | inr miss ↦ unfit_over (number_fit low high w) limit (rw miss refl) is
]

if_over : (b : Bool) (w : List ℕ) (limit : Limit) → fits_if b ≡ Over limit → PassesLimit w limit
if_over true w limit is = fits_over Fits limit refl is
if_over false w limit is = unfit_over Unfit limit refl is

-- ---- the grammar

command_honest : (counts : Counts) (verb : Verb) → IsHonest (command_form counts verb)
command_honest counts (OnPath verb) = (path_over, λ w. tt)
command_honest counts Rename = (path_over, λ w. (sibling_over w, λ v. tt))
command_honest counts Move = (path_over, λ w. (path_over, λ v. tt))
command_honest counts Append = (path_over, λ w. (hex_over, λ v. tt))
command_honest counts Sweep = ((λ w limit is. if_over _ w limit is), λ w. (number_over 0 (places_of counts (the_layer w) - 1), λ v. tt))
command_honest counts Repair = (number_over 0 (counts.disks - 1), λ w. (number_over 0 (counts.blocks - 1), λ v. tt))

any_honest : (counts : Counts) → IsHonest (any_command counts)
any_honest counts = ((λ w limit is. if_over (is_some (served_verb w)) w limit is), λ w. command_honest counts (the_verb w))

act_behind_honest : (counts : Counts) (a : ActWord) → IsHonest (act_behind counts a)
act_behind_honest counts (words.Do verb) = honest_then (command_form counts verb) (λ command. done (Do command))
    (command_honest counts verb) (λ command. tt)
act_behind_honest counts words.Begin = honest_then (any_command counts) (λ command. done (Begin command)) (any_honest counts)
    (λ command. tt)
act_behind_honest counts words.Step = (number_over 1 65535, λ w. tt)
act_behind_honest counts words.Run = tt
act_behind_honest counts words.Stop = tt

act_honest : (counts : Counts) → IsHonest (act_form counts)
act_honest counts = ((λ w limit is. if_over (is_some (act_word_of w)) w limit is), λ w. act_behind_honest counts (the_act_word w))

world_honest : (counts : Counts) (verb : WorldVerb) → IsHonest (world_behind counts verb)
world_honest counts worlds.Sweep = ((λ w limit is. if_over (bytes_eq w (codes "all")) w limit is), λ w. tt)
world_honest counts worlds.Lose = (number_over 0 (counts.disks - 1), λ w. tt)
world_honest counts worlds.Dump = tt

behind_honest : (counts : Counts) (number : List ℕ → ℕ) (w : List ℕ) → IsHonest (behind_first counts number w)
behind_honest counts number w = elim (cases_Bool (is_client_name w)) [
  | inl hit ↦ (let e : behind_first counts number w ≡ client_form counts w (number w) = rw hit refl in
      subst (λ (f : Form Line). IsHonest f) (sym e)
      (honest_then (act_form counts) (λ act. done (lines.Client w (number w) act)) (act_honest counts) (λ act. tt)))
  | inr miss ↦ (let e : behind_first counts number w ≡ world_behind counts (unwrap_or (served_world w) worlds.Dump) = rw miss refl in
      subst (λ (f : Form Line). IsHonest f) (sym e) (world_honest counts (unwrap_or (served_world w) worlds.Dump)))
]

pub line_honest : (counts : Counts) (number : List ℕ → ℕ) → IsHonest (line_form counts number)
line_honest counts number = ((λ w limit is. if_over _ w limit is), λ w. behind_honest counts number w)
