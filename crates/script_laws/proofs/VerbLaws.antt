-- The words that begin commands, acts and world lines.
use Rattle.std.proofs.Common.{◌≡◌, ℕ, true, false, Bool, List, [], ◌∷◌, Option, Some, None, is_some, refl, sym, ap, subst, ◌∙◌, inl, inr}
use Rattle.std.specs.Prelude.{codes, unwrap_or, if◌then◌else◌}
use Rattle.std.specs.Str.{bytes_eq}
use Rattle.std.proofs.lemmas.Bool.{cases_Bool, false≢true}
use Rattle.std.proofs.lemmas.Slice.Eq.{bytes_eq-Decides}
use Rattle.script_words.specs.WordForm.{is_client_name}
use Rattle.script_forms.specs.declared.verbs.PathVerb.TheVariants as paths
use Rattle.script_forms.specs.declared.verbs.Verb.{Verb}
use Rattle.script_forms.specs.declared.verbs.Verb.TheVariants.{OnPath, Rename, Move, Append, Sweep, Repair}
use Rattle.script_forms.specs.declared.verbs.ActWord.{ActWord}
use Rattle.script_forms.specs.declared.verbs.ActWord.TheVariants as acts
use Rattle.script_forms.specs.declared.verbs.WorldVerb.{WorldVerb}
use Rattle.script_forms.specs.declared.verbs.WorldVerb.TheVariants as worlds
use Rattle.script_forms.specs.Served.{verb_row, world_row, all_verbs, all_worlds, serves, serves_world}
use Rattle.script_forms.specs.Verbs.{verb_word, served_among, rows_of, served_verb, as_act, act_word_of, world_word, served_world}

abbrev pub some : (A : Type 0) → A → Option A
some A x = Some x

some_same : {A : Type 0} (x y : A) → some A x ≡ Some y → x ≡ y
some_same x y e = cc

pub none_some : {A P : Type 0} (y : A) → None ≡ some A y → P
none_some y e = absurd cc

pub some_is : {A : Type 0} (o : Option A) (d : A) → is_some o ≡ true → o ≡ Some (unwrap_or o d)
some_is None d is = absurd (false≢true is)
some_is (Some x) d is = refl

pub pick_case : {X P : Type 0} (w text : List ℕ) (x v : X) (rest : Option X) → (if bytes_eq w text then Some x else rest) ≡ Some v
    → (w ≡ text → x ≡ v → P) → (rest ≡ Some v → P) → P
pick_case w text x v rest is here later = elim (cases_Bool (bytes_eq w text)) [
  | inl hit ↦ here ((bytes_eq-Decides w text).0 hit) (some_same x v (rw hit at is))
  | inr miss ↦ later (rw miss at is)
]

-- ---- tables

module _ {X : Type 0} (table : X → List ℕ × Bool) where
  row_spelled : (w : List ℕ) (x v : X) → w ≡ (table x).0 → (if (table x).1 then Some x else None) ≡ Some v → (w ≡ (table v).0)
      × ((table v).1 ≡ true)
  row_spelled w x v word is = elim (cases_Bool (table x).1) [
    | inl served ↦
        let same : x ≡ v = some_same x v (rw served at is) in
        (word ∙ ap (λ y. (table y).0) same, sym (ap (λ y. (table y).1) same) ∙ served)
    | inr unserved ↦ none_some v (rw unserved at is)
  ]

  -- what the table answers has the word that was asked, and is served
  among_spelled : (xs : List X) (w : List ℕ) (v : X) → served_among (rows_of table xs) w ≡ Some v → (w ≡ (table v).0) × ((table v).1 ≡ true)
  among_spelled [] w v is = none_some v is
  among_spelled (x ∷ xs) w v is = elim (cases_Bool (bytes_eq w (table x).0)) [
    | inl hit ↦ row_spelled w x v ((bytes_eq-Decides w (table x).0).0 hit) (rw hit at is)
    | inr miss ↦ among_spelled xs w v (rw miss at is)
  ]

  served_row : (v : X) → (table v).1 ≡ true → (if (table v).1 then some X v else None) ≡ Some v
  served_row v is = rw is refl

-- ---- commands

-- a served word is that of its command
pub served_spelled : (w : List ℕ) (v : Verb) → served_verb w ≡ Some v → (w ≡ verb_word v) × (serves v ≡ true)
served_spelled w v is = among_spelled verb_row all_verbs w v is

-- the word of a served command is read
pub served_read : (v : Verb) → serves v ≡ true → served_verb (verb_word v) ≡ Some v
served_read (OnPath paths.Look) is = served_row verb_row (OnPath paths.Look) is
served_read (OnPath paths.List) is = served_row verb_row (OnPath paths.List) is
served_read (OnPath paths.Create) is = served_row verb_row (OnPath paths.Create) is
served_read (OnPath paths.Mkdir) is = served_row verb_row (OnPath paths.Mkdir) is
served_read (OnPath paths.Delete) is = served_row verb_row (OnPath paths.Delete) is
served_read (OnPath paths.Rmdir) is = served_row verb_row (OnPath paths.Rmdir) is
served_read (OnPath paths.Drop) is = served_row verb_row (OnPath paths.Drop) is
served_read (OnPath paths.Seal) is = served_row verb_row (OnPath paths.Seal) is
served_read (OnPath paths.Open) is = served_row verb_row (OnPath paths.Open) is
served_read (OnPath paths.Blocks) is = served_row verb_row (OnPath paths.Blocks) is
served_read (OnPath paths.Read) is = served_row verb_row (OnPath paths.Read) is
served_read Rename is = served_row verb_row Rename is
served_read Move is = served_row verb_row Move is
served_read Append is = served_row verb_row Append is
served_read Sweep is = served_row verb_row Sweep is
served_read Repair is = served_row verb_row Repair is

-- ---- acts

abbrev pub act_word_text : ActWord → List ℕ
act_word_text (acts.Do verb) = verb_word verb
act_word_text acts.Begin = codes "begin"
act_word_text acts.Step = codes "step"
act_word_text acts.Run = codes "run"
act_word_text acts.Stop = codes "stop"

abbrev pub IsKnown : ActWord → Type 0
IsKnown (acts.Do verb) = serves verb ≡ true
IsKnown act = Unit {0}

act_done : (w : List ℕ) (a : ActWord) (o : Option Verb) → served_verb w ≡ o → as_act o ≡ Some a → (w ≡ act_word_text a) × IsKnown a
act_done w a None is e = none_some a e
act_done w a (Some v) is e =
    let s = served_spelled w v is in
    subst (λ (b : ActWord). (w ≡ act_word_text b) × IsKnown b) (some_same (acts.Do v) a e) (s.0, s.1)

plain : (w : List ℕ) (b a : ActWord) → w ≡ act_word_text b → IsKnown b → b ≡ a → (w ≡ act_word_text a) × IsKnown a
plain w b a is known same = subst (λ (d : ActWord). (w ≡ act_word_text d) × IsKnown d) same (is, known)

pub act_word_spelled : (w : List ℕ) (a : ActWord) → act_word_of w ≡ Some a → (w ≡ act_word_text a) × IsKnown a
act_word_spelled w a is =
    pick_case w (codes "begin") acts.Begin a _ is (λ e s. plain w acts.Begin a e tt s) (λ is.
    pick_case w (codes "step") acts.Step a _ is (λ e s. plain w acts.Step a e tt s) (λ is.
    pick_case w (codes "run") acts.Run a _ is (λ e s. plain w acts.Run a e tt s) (λ is.
    pick_case w (codes "stop") acts.Stop a _ is (λ e s. plain w acts.Stop a e tt s) (λ is. act_done w a (served_verb w) refl is))))

act_read_done : (v : Verb) → serves v ≡ true → as_act (if serves v then some Verb v else None) ≡ Some (acts.Do v)
act_read_done v is = rw is refl

pub act_word_read : (a : ActWord) → IsKnown a → act_word_of (act_word_text a) ≡ Some a
act_word_read (acts.Do (OnPath paths.Look)) is = act_read_done (OnPath paths.Look) is
act_word_read (acts.Do (OnPath paths.List)) is = act_read_done (OnPath paths.List) is
act_word_read (acts.Do (OnPath paths.Create)) is = act_read_done (OnPath paths.Create) is
act_word_read (acts.Do (OnPath paths.Mkdir)) is = act_read_done (OnPath paths.Mkdir) is
act_word_read (acts.Do (OnPath paths.Delete)) is = act_read_done (OnPath paths.Delete) is
act_word_read (acts.Do (OnPath paths.Rmdir)) is = act_read_done (OnPath paths.Rmdir) is
act_word_read (acts.Do (OnPath paths.Drop)) is = act_read_done (OnPath paths.Drop) is
act_word_read (acts.Do (OnPath paths.Seal)) is = act_read_done (OnPath paths.Seal) is
act_word_read (acts.Do (OnPath paths.Open)) is = act_read_done (OnPath paths.Open) is
act_word_read (acts.Do (OnPath paths.Blocks)) is = act_read_done (OnPath paths.Blocks) is
act_word_read (acts.Do (OnPath paths.Read)) is = act_read_done (OnPath paths.Read) is
act_word_read (acts.Do Rename) is = act_read_done Rename is
act_word_read (acts.Do Move) is = act_read_done Move is
act_word_read (acts.Do Append) is = act_read_done Append is
act_word_read (acts.Do Sweep) is = act_read_done Sweep is
act_word_read (acts.Do Repair) is = act_read_done Repair is
act_word_read acts.Begin is = refl
act_word_read acts.Step is = refl
act_word_read acts.Run is = refl
act_word_read acts.Stop is = refl

-- ---- world lines

pub world_spelled : (w : List ℕ) (v : WorldVerb) → served_world w ≡ Some v → (w ≡ world_word v) × (serves_world v ≡ true)
world_spelled w v is = among_spelled world_row all_worlds w v is

pub world_read_word : (v : WorldVerb) → serves_world v ≡ true → served_world (world_word v) ≡ Some v
world_read_word worlds.Sweep is = served_row world_row worlds.Sweep is
world_read_word worlds.Lose is = served_row world_row worlds.Lose is
world_read_word worlds.Dump is = served_row world_row worlds.Dump is

pub world_no_client : (v : WorldVerb) → is_client_name (world_word v) ≡ false
world_no_client worlds.Sweep = refl
world_no_client worlds.Lose = refl
world_no_client worlds.Dump = refl
