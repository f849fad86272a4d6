-- What clients do: what is read is spelled, and what is spelled is read.
use Rattle.std.proofs.Common.{◌≡◌, ℕ, Bool, true, List, ◌∷◌, ◌++◌, refl, sym, ap, subst, ◌∙◌, arith, Option, is_some}
use Rattle.std.specs.Prelude.{codes, unwrap_or}
use Rattle.std.specs.Fmt.{decimal}
use Rattle.script_words.specs.declared.limits.Fit.TheVariants.{Fits}
use Rattle.script_words.specs.WordForm.{number_of, number_fit}
use Rattle.script_words.proofs.NumberWords.{number_of_text}
use Rattle.tect_ids.specs.declared.ids.Counts.{Counts}
use Rattle.tect_ids.specs.declared.command.Command.{Command}
use Rattle.tect_ids.specs.declared.script.Act.{Act}
use Rattle.tect_ids.specs.declared.script.Act.TheVariants.{Do, Begin, Step, Run, Stop}
use Rattle.script_forms.specs.declared.verbs.Verb.{Verb}
use Rattle.script_forms.specs.declared.verbs.Verb.TheVariants.{OnPath}
use Rattle.script_forms.specs.declared.verbs.PathVerb.TheVariants as paths
use Rattle.script_forms.specs.declared.verbs.ActWord.{ActWord}
use Rattle.script_forms.specs.declared.verbs.ActWord.TheVariants as words
use Rattle.script_forms.specs.Form.{Form, done, word, Outcome, Got, Wrong, Large, read, and_then, passes, IsAlive}
use Rattle.script_forms.specs.Served.{serves}
use Rattle.script_forms.specs.Verbs.{verb_word, served_verb, act_word_of}
use Rattle.script_forms.specs.LineText.{command_words, act_words}
use Rattle.script_forms.specs.Grammar.{fits_if, command_form, verb_fit, the_verb, any_command, act_behind, act_fit, the_act_word, act_form}
use Rattle.script_forms.specs.LineForms.{IsCommand, IsAct, command_limit, act_limit, AreCounts}
use Rattle.script_forms.proofs.FormReads.{map_outcome, read-map}
use Rattle.script_laws.proofs.FormLaws.{got_same, got_wrong, got_large, one_word, pass_word, fits_pass}
use Rattle.script_laws.proofs.WordLaws.{if_passes, number_word, number_text, number_fit_of_text}
use Rattle.script_laws.proofs.VerbLaws.{some_is, act_word_text, IsKnown, act_word_spelled, act_word_read, served_spelled, served_read}
use Rattle.script_laws.proofs.CommandLaws.{command_sound, command_complete, command_alive}

-- a value that was mapped
pub record Mapped {A B : Type 0} (g : A → B) (o : Outcome A) (value : B) (rest : List (List ℕ)) : Type 0 where
  pub from : A
  pub was : o ≡ Got from rest
  pub is : g from ≡ value

pub mapped : {A B : Type 0} (g : A → B) (o : Outcome A) (value : B) (rest : List (List ℕ)) → map_outcome g o ≡ Got value rest
    → Mapped g o value rest
mapped g (Got a ws) value rest is =
    let same = got_same (g a) value ws rest is in
    record { from = a; was = ap (λ (v : List (List ℕ)). Got a v) same.1; is = same.0 }
mapped g (Wrong ws) value rest is = got_wrong value rest ws (sym is)
mapped g (Large limit ws) value rest is = got_large value limit rest ws (sym is)

pub mapped_form : {A B : Type 0} (limited : Bool) (g : A → B) (f : Form A) (ws : List (List ℕ)) (value : B) (rest : List (List ℕ))
    → read limited (and_then f (λ a. done (g a))) ws ≡ Got value rest → Mapped g (read limited f ws) value rest
mapped_form limited g f ws value rest is = mapped g (read limited f ws) value rest (sym (read-map g limited f ws) ∙ is)

pub form_mapped : {A B : Type 0} (limited : Bool) (g : A → B) (f : Form A) (ws rest : List (List ℕ)) (a : A)
    → read limited f ws ≡ Got a rest → read limited (and_then f (λ a. done (g a))) ws ≡ Got (g a) rest
form_mapped limited g f ws rest a is = read-map g limited f ws ∙ ap (λ o. map_outcome g o) is

pub alive_then : {A B : Type 0} (limited : Bool) (f : Form A) (go : A → Form B) → IsAlive limited f → ((a : A) → IsAlive limited (go a))
    → IsAlive limited (and_then f go)
alive_then limited (done a) go alive each = each a
alive_then limited (word fit next) go alive each = (alive.0, λ w p. alive_then limited (next w) go (alive.1 w p) each)

-- ---- what is read is spelled

pub record ActSpelled (limited : Bool) (counts : Counts) (ws : List (List ℕ)) (rest : List (List ℕ)) (act : Act) : Type 0 where
  pub words_are : act_words act ++ rest ≡ ws
  pub form : IsAct counts act
  pub within : passes limited (act_limit act)

any_sound : (limited : Bool) (counts : Counts) → AreCounts counts → (ws : List (List ℕ)) (command : Command) (rest : List (List ℕ))
    → read limited (any_command counts) ws ≡ Got command rest →
    (command_words command ++ rest ≡ ws) × IsCommand counts command × passes limited (command_limit command)
any_sound limited counts are ws command rest is =
    let o = one_word limited verb_fit (λ w. command_form counts (the_verb w)) ws command rest is in
    let s = served_spelled o.w (the_verb o.w)
    (some_is (served_verb o.w) (OnPath paths.Look) (if_passes limited (is_some (served_verb o.w)) o.passed)) in
    let c = command_sound limited counts are (the_verb o.w) s.1 o.others command rest o.reads in
    (c.words ∙ ap (λ (w : List ℕ). w ∷ o.others) (sym s.0) ∙ sym o.split, c.form, c.within)

act_behind_sound : (limited : Bool) (counts : Counts) → AreCounts counts → (a : ActWord) → IsKnown a
    → (ws : List (List ℕ)) (act : Act) (rest : List (List ℕ)) → read limited (act_behind counts a) ws ≡ Got act rest
    → ActSpelled limited counts (act_word_text a ∷ ws) rest act
act_behind_sound limited counts are (words.Do verb) known ws act rest is =
    let m = mapped_form limited (λ command. Do command) (command_form counts verb) ws act rest is in
    let c = command_sound limited counts are verb known ws m.from rest m.was in
    subst (λ (a : Act). ActSpelled limited counts (verb_word verb ∷ ws) rest a) m.is
    (record { words_are = c.words; form = c.form; within = c.within })
act_behind_sound limited counts are words.Begin known ws act rest is =
    let m = mapped_form limited (λ command. Begin command) (any_command counts) ws act rest is in
    let c = any_sound limited counts are ws m.from rest m.was in
    subst (λ (a : Act). ActSpelled limited counts (codes "begin" ∷ ws) rest a) m.is
    (record { words_are = ap (λ (vs : List (List ℕ)). codes "begin" ∷ vs) c.0; form = c.1; within = c.2 })
act_behind_sound limited counts are words.Step known ws act rest is =
    let o = one_word limited (number_fit 1 65535) (λ n. done (Step (number_of n))) ws act rest is in
    let same = got_same (Step (number_of o.w)) act o.others rest o.reads in
    let n = number_word limited 1 65535 o.w o.passed in
    subst (λ (a : Act). ActSpelled limited counts (codes "step" ∷ ws) rest a) same.0 (record {
      words_are = ap (λ (t : List ℕ). codes "step" ∷ t ∷ rest) (number_text 1 65535 o.w (omega arith) n) ∙ ap
          (λ (r : List (List ℕ)). codes "step" ∷ o.w ∷ r) (sym same.1) ∙ ap (λ (r : List (List ℕ)). codes "step" ∷ r) (sym o.split);
      form = (n.from, n.to);
      within = fits_pass limited Fits refl;
    })
act_behind_sound limited counts are words.Run known ws act rest is =
    let same = got_same Run act ws rest is in
    subst (λ (a : Act). ActSpelled limited counts (codes "run" ∷ ws) rest a) same.0
    (record { words_are = ap (λ (r : List (List ℕ)). codes "run" ∷ r) (sym same.1); form = tt; within = fits_pass limited Fits refl })
act_behind_sound limited counts are words.Stop known ws act rest is =
    let same = got_same Stop act ws rest is in
    subst (λ (a : Act). ActSpelled limited counts (codes "stop" ∷ ws) rest a) same.0
    (record { words_are = ap (λ (r : List (List ℕ)). codes "stop" ∷ r) (sym same.1); form = tt; within = fits_pass limited Fits refl })

pub act_sound : (limited : Bool) (counts : Counts) → AreCounts counts → (ws : List (List ℕ)) (act : Act) (rest : List (List ℕ))
    → read limited (act_form counts) ws ≡ Got act rest → ActSpelled limited counts ws rest act
act_sound limited counts are ws act rest is =
    let o = one_word limited act_fit (λ w. act_behind counts (the_act_word w)) ws act rest is in
    let s = act_word_spelled o.w (the_act_word o.w)
    (some_is (act_word_of o.w) words.Run (if_passes limited (is_some (act_word_of o.w)) o.passed)) in
    let e : act_word_text (the_act_word o.w) ∷ o.others ≡ ws = ap (λ (w : List ℕ). w ∷ o.others) (sym s.0) ∙ sym o.split in
    subst (λ (vs : List (List ℕ)). ActSpelled limited counts vs rest act) e
    (act_behind_sound limited counts are (the_act_word o.w) s.1 o.others act rest o.reads)

-- ---- what is spelled is read

act_fit_read : (a : ActWord) → IsKnown a → act_fit (act_word_text a) ≡ Fits
act_fit_read a known = ap (λ (o : Option ActWord). fits_if (is_some o)) (act_word_read a known)

act_word_back : (a : ActWord) → IsKnown a → the_act_word (act_word_text a) ≡ a
act_word_back a known = ap (λ (o : Option ActWord). unwrap_or o words.Run) (act_word_read a known)

behind_word : (limited : Bool) (counts : Counts) (a : ActWord) → IsKnown a → (ws : List (List ℕ))
    → read limited (act_form counts) (act_word_text a ∷ ws) ≡ read limited (act_behind counts a) ws
behind_word limited counts a known ws =
    pass_word limited act_fit (λ w. act_behind counts (the_act_word w)) (act_word_text a) ws (fits_pass limited _ (act_fit_read a known))
    ∙ ap (λ (b : ActWord). read limited (act_behind counts b) ws) (act_word_back a known)

any_read : (limited : Bool) (counts : Counts) (verb : Verb) → serves verb ≡ true → (ws : List (List ℕ))
    → read limited (any_command counts) (verb_word verb ∷ ws) ≡ read limited (command_form counts verb) ws
any_read limited counts verb served ws =
    let read_verb = served_read verb served in
    pass_word limited verb_fit (λ w. command_form counts (the_verb w)) (verb_word verb) ws
    (fits_pass limited _ (ap (λ (o : Option Verb). fits_if (is_some o)) read_verb))
    ∙ ap (λ (v : Verb). read limited (command_form counts v) ws) (ap (λ (o : Option Verb). unwrap_or o (OnPath paths.Look)) read_verb)

pub act_complete : (limited : Bool) (counts : Counts) → AreCounts counts → (act : Act) → IsAct counts act → passes limited (act_limit act)
    → (rest : List (List ℕ)) → read limited (act_form counts) (act_words act ++ rest) ≡ Got act rest
act_complete limited counts are (Do command) is p rest =
    let c = command_complete limited counts are command is p in
    ap (λ (ws : List (List ℕ)). read limited (act_form counts) (ws ++ rest)) c.words
    ∙ behind_word limited counts (words.Do c.verb) c.served (c.args ++ rest)
    ∙ form_mapped limited (λ command. Do command) (command_form counts c.verb) (c.args ++ rest) rest command (c.reads rest)
act_complete limited counts are (Begin command) is p rest =
    let c = command_complete limited counts are command is p in
    behind_word limited counts words.Begin tt (command_words command ++ rest)
    ∙ form_mapped limited (λ command. Begin command) (any_command counts) (command_words command ++ rest) rest command
    (ap (λ (ws : List (List ℕ)). read limited (any_command counts) (ws ++ rest)) c.words ∙ any_read limited counts c.verb c.served
    (c.args ++ rest) ∙ c.reads rest)
act_complete limited counts are (Step count) is p rest =
    let low = is.0 in
    let high = is.1 in
    behind_word limited counts words.Step tt (decimal count ∷ rest)
    ∙ pass_word limited (number_fit 1 65535) (λ n. done (Step (number_of n))) (decimal count) rest
    (fits_pass limited _ (number_fit_of_text 1 65535 count (omega arith) is.0 is.1))
    ∙ ap (λ (n : ℕ). Got (Step n) rest) (number_of_text count (omega arith))
act_complete limited counts are Run is p rest = behind_word limited counts words.Run tt rest
act_complete limited counts are Stop is p rest = behind_word limited counts words.Stop tt rest

-- ---- each form is filled by some words

any_alive : (limited : Bool) (counts : Counts) → AreCounts counts → IsAlive limited (any_command counts)
any_alive limited counts are = ((codes "look", fits_pass limited Fits refl), λ w p. command_alive limited counts are (the_verb w))

act_behind_alive : (limited : Bool) (counts : Counts) → AreCounts counts → (a : ActWord) → IsAlive limited (act_behind counts a)
act_behind_alive limited counts are (words.Do verb) = alive_then limited (command_form counts verb) (λ command. done (Do command))
    (command_alive limited counts are verb) (λ command. tt)
act_behind_alive limited counts are words.Begin = alive_then limited (any_command counts) (λ command. done (Begin command))
    (any_alive limited counts are) (λ command. tt)
act_behind_alive limited counts are words.Step = ((codes "1", fits_pass limited Fits refl), λ w p. tt)
act_behind_alive limited counts are words.Run = tt
act_behind_alive limited counts are words.Stop = tt

pub act_alive : (limited : Bool) (counts : Counts) → AreCounts counts → IsAlive limited (act_form counts)
act_alive limited counts are = ((codes "run", fits_pass limited Fits refl), λ w p. act_behind_alive limited counts are (the_act_word w))
