-- Commands: what is read is spelled, and what is spelled is read.
use Rattle.std.proofs.Common.{◌≡◌, ℕ, ◌+◌, ◌-◌, ◌<◌, ◌≤◌, ◌^◌, Bool, true, false, List, [], ◌∷◌, ◌++◌, length, refl, sym, ap, subst, ◌∙◌}
use Rattle.std.proofs.Common.{arith, inl, inr, Option, Some, is_some, nat_le, nat_lt}
use Rattle.std.specs.Prelude.{codes, unwrap_or}
use Rattle.std.specs.Fmt.{decimal}
use Rattle.std.proofs.lemmas.Bool.{cases_Bool}
use Rattle.script_words.specs.declared.limits.Fit.{Fit}
use Rattle.script_words.specs.declared.limits.Fit.TheVariants.{Fits, Over, Unfit}
use Rattle.script_words.specs.WordText.{path_text, hex_text, layer_word}
use Rattle.script_words.specs.WordForm.{path_names, path_fit, folder_text, sibling_fit, hex_bytes, hex_fit, number_of, number_fit, layer_of}
use Rattle.script_words.specs.WordForm.{names_fit}
use Rattle.script_words.proofs.PathWords.{names_of_text}
use Rattle.script_words.proofs.HexWords.{bytes_of_text}
use Rattle.script_words.proofs.NumberWords.{number_of_text}
use Rattle.tect_ids.specs.declared.ids.Counts.{Counts}
use Rattle.tect_ids.specs.declared.ids.Layer.{Layer}
use Rattle.tect_ids.specs.declared.ids.Layer.TheVariants.{Names, Files, Blocks, Disks}
use Rattle.tect_ids.specs.declared.command.Command.{Command}
use Rattle.tect_ids.specs.declared.command.Command.TheVariants as commands
use Rattle.script_forms.specs.declared.verbs.PathVerb.{PathVerb}
use Rattle.script_forms.specs.declared.verbs.PathVerb.TheVariants as paths
use Rattle.script_forms.specs.declared.verbs.Verb.{Verb}
use Rattle.script_forms.specs.declared.verbs.Verb.TheVariants.{OnPath, Rename, Move, Append, Sweep, Repair}
use Rattle.script_forms.specs.Form.{done, word, Got, read, passes, IsAlive}
use Rattle.script_forms.specs.Served.{serves}
use Rattle.script_forms.specs.Verbs.{path_verb_word, verb_word, path_command}
use Rattle.script_forms.specs.LineText.{command_words}
use Rattle.script_forms.specs.Grammar.{places_of, the_disk, the_layer, layer_fit, fits_if, command_form}
use Rattle.script_forms.specs.LineForms.{IsPath, IsOnPath, IsCommand, path_limit, block_limit, first_limit, command_limit, AreCounts}
use Rattle.script_laws.proofs.FormLaws.{got_same, one_word, pass_word, fits_pass}
use Rattle.script_laws.proofs.WordLaws.{passes_same, if_passes, path_word, path_fit_of_text, sibling_word, sibling_fit_of, hex_word}
use Rattle.script_laws.proofs.WordLaws.{hex_fit_of_text, number_word, number_text, number_fit_of_text}
use Rattle.script_laws.proofs.VerbLaws.{some_is, pick_case, none_some}

-- ---- the commands of one path

pub on_path_form : (counts : Counts) (verb : PathVerb) (path : List (List ℕ)) → IsOnPath verb path
    → IsCommand counts (path_command verb path)
on_path_form counts paths.Look path is = is
on_path_form counts paths.List path is = is
on_path_form counts paths.Create path is = is
on_path_form counts paths.Mkdir path is = is
on_path_form counts paths.Delete path is = is
on_path_form counts paths.Rmdir path is = is
on_path_form counts paths.Drop path is = is
on_path_form counts paths.Seal path is = is
on_path_form counts paths.Open path is = is
on_path_form counts paths.Blocks path is = is
on_path_form counts paths.Read path is = is

pub on_path_words : (verb : PathVerb) (path : List (List ℕ)) → command_words (path_command verb path) ≡ path_verb_word verb ∷ path_text path
    ∷ []
on_path_words paths.Look path = refl
on_path_words paths.List path = refl
on_path_words paths.Create path = refl
on_path_words paths.Mkdir path = refl
on_path_words paths.Delete path = refl
on_path_words paths.Rmdir path = refl
on_path_words paths.Drop path = refl
on_path_words paths.Seal path = refl
on_path_words paths.Open path = refl
on_path_words paths.Blocks path = refl
on_path_words paths.Read path = refl

pub on_path_limit : (verb : PathVerb) (path : List (List ℕ)) → path_limit path ≡ command_limit (path_command verb path)
on_path_limit paths.Look path = refl
on_path_limit paths.List path = refl
on_path_limit paths.Create path = refl
on_path_limit paths.Mkdir path = refl
on_path_limit paths.Delete path = refl
on_path_limit paths.Rmdir path = refl
on_path_limit paths.Drop path = refl
on_path_limit paths.Seal path = refl
on_path_limit paths.Open path = refl
on_path_limit paths.Blocks path = refl
on_path_limit paths.Read path = refl

-- ---- what is read is spelled

pub record CommandSpelled (limited : Bool) (counts : Counts) (verb : Verb) (ws : List (List ℕ)) (rest : List (List ℕ)) (command : Command)
    : Type 0 where
  pub words : command_words command ++ rest ≡ verb_word verb ∷ ws
  pub form : IsCommand counts command
  pub within : passes limited (command_limit command)

pub one_spelled : (w text : List ℕ) (ws others rest : List (List ℕ)) → ws ≡ w ∷ others → text ≡ w → others ≡ rest → text ∷ rest ≡ ws
one_spelled w text ws others rest split is same = ap (λ (t : List ℕ). t ∷ rest) is ∙ ap (λ (r : List (List ℕ)). w ∷ r) (sym same) ∙ sym
    split

two_spelled : (v w first second : List ℕ) (ws us others rest : List (List ℕ)) → ws ≡ v ∷ us → first ≡ v → us ≡ w ∷ others → second ≡ w
    → others ≡ rest → first ∷ second ∷ rest ≡ ws
two_spelled v w first second ws us others rest split is split' is' same = one_spelled v first ws us (second ∷ rest) split is
    (sym (one_spelled w second us others rest split' is' same))

pub both_pass : (limited : Bool) (a b : Fit) → passes limited a → passes limited b → passes limited (first_limit a b)
both_pass limited Fits b p q = q
both_pass true (Over limit) b p q = absurd p
both_pass false (Over limit) b p q = tt
both_pass limited Unfit b p q = absurd p

pub places_are : (counts : Counts) → AreCounts counts → (layer : Layer) → (1 ≤ places_of counts layer) × (places_of counts layer ≤ 64)
places_are counts are Names = are.names
places_are counts are Files = are.files
places_are counts are Blocks = are.blocks
places_are counts are Disks = are.disks

layer_spelled : (w : List ℕ) (layer : Layer) → layer_of w ≡ Some layer → layer_word layer ≡ w
layer_spelled w layer is =
    pick_case w (codes "name") Names layer _ is (λ e s. sym (e ∙ ap layer_word s)) (λ is.
    pick_case w (codes "file") Files layer _ is (λ e s. sym (e ∙ ap layer_word s)) (λ is.
    pick_case w (codes "block") Blocks layer _ is (λ e s. sym (e ∙ ap layer_word s)) (λ is.
    pick_case w (codes "disk") Disks layer _ is (λ e s. sym (e ∙ ap layer_word s)) (λ is. none_some layer is))))

pub index_word : (limited : Bool) (count : ℕ) (w : List ℕ) → (1 ≤ count) × (count ≤ 64) → passes limited (number_fit 0 (count - 1) w)
    → (decimal (number_of w) ≡ w) × (number_of w < count)
index_word limited count w bound p =
    let n = number_word limited 0 (count - 1) w p in
    let to = n.to in
    let low = bound.0 in
    let high = bound.1 in
    (number_text 0 (count - 1) w (omega arith) n, omega arith)

pub command_sound : (limited : Bool) (counts : Counts) → AreCounts counts → (verb : Verb) → serves verb ≡ true
    → (ws : List (List ℕ)) (command : Command) (rest : List (List ℕ)) → read limited (command_form counts verb) ws ≡ Got command rest
    → CommandSpelled limited counts verb ws rest command
command_sound limited counts are (OnPath verb) served ws command rest is =
    let o = one_word limited path_fit (λ p. done (path_command verb (path_names p))) ws command rest is in
    let same = got_same (path_command verb (path_names o.w)) command o.others rest o.reads in
    let p = path_word limited o.w o.passed in
    subst (λ (c : Command). CommandSpelled limited counts (OnPath verb) ws rest c) same.0 (record {
      words = ap (λ (cw : List (List ℕ)). cw ++ rest) (on_path_words verb (path_names o.w)) ∙ ap
          (λ (r : List (List ℕ)). path_verb_word verb ∷ r)
          (one_spelled o.w (path_text (path_names o.w)) ws o.others rest o.split p.text same.1);
      form = on_path_form counts verb (path_names o.w) (served, p.form);
      within = passes_same limited _ _ (on_path_limit verb (path_names o.w)) p.within;
    })
command_sound limited counts are Rename served ws command rest is =
    let o = one_word limited path_fit (λ p. word (sibling_fit p) (λ q. done (commands.Rename (path_names p) (path_names q)))) ws command
    rest is in
    let u = one_word limited (sibling_fit o.w) (λ q. done (commands.Rename (path_names o.w) (path_names q))) o.others command rest o.reads
    in
    let same = got_same (commands.Rename (path_names o.w) (path_names u.w)) command u.others rest u.reads in
    let s = sibling_word limited o.w u.w u.passed in
    let p = path_word limited o.w o.passed in
    let q = path_word limited u.w s.1 in
    subst (λ (c : Command). CommandSpelled limited counts Rename ws rest c) same.0 (record {
      words = ap (λ (r : List (List ℕ)). codes "rename" ∷ r)
          (two_spelled o.w u.w (path_text (path_names o.w)) (path_text (path_names u.w)) ws o.others u.others rest o.split p.text u.split
          q.text same.1);
      form = (served, p.form, q.form, ap folder_text q.text ∙ s.0 ∙ sym (ap folder_text p.text));
      within = both_pass limited (path_limit (path_names o.w)) (path_limit (path_names u.w)) p.within q.within;
    })
command_sound limited counts are Move served ws command rest is =
    let o = one_word limited path_fit (λ p. word path_fit (λ q. done (commands.Move (path_names p) (path_names q)))) ws command rest is in
    let u = one_word limited path_fit (λ q. done (commands.Move (path_names o.w) (path_names q))) o.others command rest o.reads in
    let same = got_same (commands.Move (path_names o.w) (path_names u.w)) command u.others rest u.reads in
    let p = path_word limited o.w o.passed in
    let q = path_word limited u.w u.passed in
    subst (λ (c : Command). CommandSpelled limited counts Move ws rest c) same.0 (record {
      words = ap (λ (r : List (List ℕ)). codes "move" ∷ r)
          (two_spelled o.w u.w (path_text (path_names o.w)) (path_text (path_names u.w)) ws o.others u.others rest o.split p.text u.split
          q.text same.1);
      form = (served, p.form, q.form);
      within = both_pass limited (path_limit (path_names o.w)) (path_limit (path_names u.w)) p.within q.within;
    })
command_sound limited counts are Append served ws command rest is =
    let o = one_word limited path_fit (λ p. word hex_fit (λ h. done (commands.Append (path_names p) (hex_bytes h)))) ws command rest is in
    let u = one_word limited hex_fit (λ h. done (commands.Append (path_names o.w) (hex_bytes h))) o.others command rest o.reads in
    let same = got_same (commands.Append (path_names o.w) (hex_bytes u.w)) command u.others rest u.reads in
    let p = path_word limited o.w o.passed in
    let h = hex_word limited u.w u.passed in
    subst (λ (c : Command). CommandSpelled limited counts Append ws rest c) same.0 (record {
      words = ap (λ (r : List (List ℕ)). codes "append" ∷ r)
          (two_spelled o.w u.w (path_text (path_names o.w)) (hex_text (hex_bytes u.w)) ws o.others u.others rest o.split p.text u.split
          h.text same.1);
      form = (served, p.form, h.some, h.small);
      within = both_pass limited (path_limit (path_names o.w)) (block_limit (hex_bytes u.w)) p.within h.within;
    })
command_sound limited counts are Sweep served ws command rest is =
    let o = one_word limited layer_fit
    (λ l. word (number_fit 0 (places_of counts (the_layer l) - 1)) (λ i. done (commands.Sweep (the_layer l) (number_of i)))) ws command
    rest is in
    let u = one_word limited (number_fit 0 (places_of counts (the_layer o.w) - 1))
    (λ i. done (commands.Sweep (the_layer o.w) (number_of i))) o.others command rest o.reads in
    let same = got_same (commands.Sweep (the_layer o.w) (number_of u.w)) command u.others rest u.reads in
    let layer = layer_spelled o.w (the_layer o.w) (some_is (layer_of o.w) Names (if_passes limited (is_some (layer_of o.w)) o.passed)) in
    let i = index_word limited (places_of counts (the_layer o.w)) u.w (places_are counts are (the_layer o.w)) u.passed in
    subst (λ (c : Command). CommandSpelled limited counts Sweep ws rest c) same.0 (record {
      words = ap (λ (r : List (List ℕ)). codes "sweep" ∷ r)
          (two_spelled o.w u.w (layer_word (the_layer o.w)) (decimal (number_of u.w)) ws o.others u.others rest o.split layer u.split i.0
          same.1);
      form = (served, i.1);
      within = fits_pass limited Fits refl;
    })
command_sound limited counts are Repair served ws command rest is =
    let o = one_word limited (number_fit 0 (counts.disks - 1))
    (λ d. word (number_fit 0 (counts.blocks - 1)) (λ i. done (commands.Repair (the_disk (number_of d)) (number_of i)))) ws command rest
    is in
    let u = one_word limited (number_fit 0 (counts.blocks - 1)) (λ i. done (commands.Repair (the_disk (number_of o.w)) (number_of i)))
    o.others command rest o.reads in
    let same = got_same (commands.Repair (the_disk (number_of o.w)) (number_of u.w)) command u.others rest u.reads in
    let d = index_word limited counts.disks o.w are.disks o.passed in
    let i = index_word limited counts.blocks u.w are.blocks u.passed in
    subst (λ (c : Command). CommandSpelled limited counts Repair ws rest c) same.0 (record {
      words = ap (λ (r : List (List ℕ)). codes "repair" ∷ r)
          (two_spelled o.w u.w (decimal (number_of o.w)) (decimal (number_of u.w)) ws o.others u.others rest o.split d.0 u.split i.0
          same.1);
      form = (served, d.1, i.1);
      within = fits_pass limited Fits refl;
    })

-- ---- what is spelled is read

pub record CommandRead (limited : Bool) (counts : Counts) (command : Command) : Type 0 where
  pub verb : Verb
  pub served : serves verb ≡ true
  pub args : List (List ℕ)
  pub words : command_words command ≡ verb_word verb ∷ args
  pub reads : (rest : List (List ℕ)) → read limited (command_form counts verb) (args ++ rest) ≡ Got command rest

pub names_pass : (before : ℕ) (names : List (List ℕ)) → passes false (names_fit before names)
names_pass before [] = tt
names_pass before (name ∷ names) = elim (cases_Bool (nat_le 256 before)) [
  | inl hit ↦ rw hit tt
  | inr miss ↦ elim (cases_Bool (nat_lt 255 (length name))) [
    | inl long ↦ rw (miss, long) tt
    | inr short ↦ rw (miss, short) (names_pass (before + 1) names)
  ]
]

pub block_passes : (bytes : List ℕ) → passes false (block_limit bytes)
block_passes bytes = elim (cases_Bool (nat_lt 32768 (length bytes))) [ inl hit ↦ rw hit tt | inr miss ↦ rw miss tt ]

two_pass : (limited : Bool) (a b : Fit) → passes false b → passes limited (first_limit a b) → passes limited a × passes limited b
two_pass limited Fits b loose p = (tt, p)
two_pass true (Over limit) b loose p = absurd p
two_pass false (Over limit) b loose p = (tt, loose)
two_pass limited Unfit b loose p = absurd p

path_passes : (limited : Bool) (path : List (List ℕ)) → IsPath path → passes limited (path_limit path)
    → passes limited (path_fit (path_text path))
path_passes limited path is p = passes_same limited (path_limit path) (path_fit (path_text path)) (sym (path_fit_of_text path is)) p

on_path_read : (limited : Bool) (counts : Counts) (verb : PathVerb) (path : List (List ℕ)) → IsOnPath verb path
    → passes limited (path_limit path) → CommandRead limited counts (path_command verb path)
on_path_read limited counts verb path is p = record {
  verb = OnPath verb;
  served = is.0;
  args = path_text path ∷ [];
  words = on_path_words verb path;
  reads = λ rest. pass_word limited path_fit (λ w. done (path_command verb (path_names w))) (path_text path) rest
      (path_passes limited path is.1 p)
      ∙ ap (λ (names : List (List ℕ)). Got (path_command verb names) rest) (names_of_text path is.1);
}

number_passes : (limited : Bool) (low high n : ℕ) → n < 2 ^ 64 → low ≤ n → n ≤ high → passes limited (number_fit low high (decimal n))
number_passes limited low high n small from to = fits_pass limited (number_fit low high (decimal n))
    (number_fit_of_text low high n small from to)

pub index_passes : (limited : Bool) (count n : ℕ) → (1 ≤ count) × (count ≤ 64) → n < count
    → passes limited (number_fit 0 (count - 1) (decimal n))
index_passes limited count n bound less =
    let low = bound.0 in
    let high = bound.1 in
    number_passes limited 0 (count - 1) n (omega arith) (omega arith) (omega arith)

layer_read : (layer : Layer) → layer_of (layer_word layer) ≡ Some layer
layer_read Names = refl
layer_read Files = refl
layer_read Blocks = refl
layer_read Disks = refl

sweep_read : (limited : Bool) (counts : Counts) → AreCounts counts → (layer : Layer) (index : ℕ)
    → IsCommand counts (commands.Sweep layer index) → CommandRead limited counts (commands.Sweep layer index)
sweep_read limited counts are layer index is =
    let high = (places_are counts are layer).1 in
    let less = is.1 in
    let of : the_layer (layer_word layer) ≡ layer = ap (λ (o : Option Layer). unwrap_or o Names) (layer_read layer) in
    let fit : layer_fit (layer_word layer) ≡ Fits = ap (λ (o : Option Layer). fits_if (is_some o)) (layer_read layer) in
    record {
      verb = Sweep;
      served = is.0;
      args = layer_word layer ∷ decimal index ∷ [];
      words = refl;
      reads = λ rest. pass_word limited layer_fit
          (λ l. word (number_fit 0 (places_of counts (the_layer l) - 1)) (λ i. done (commands.Sweep (the_layer l) (number_of i))))
          (layer_word layer) (decimal index ∷ rest) (fits_pass limited _ fit)
          ∙ ap (λ (l : Layer). read limited (word (number_fit 0 (places_of counts l - 1)) (λ i. done (commands.Sweep l (number_of i))))
          (decimal index ∷ rest)) of
          ∙ pass_word limited (number_fit 0 (places_of counts layer - 1)) (λ i. done (commands.Sweep layer (number_of i))) (decimal index)
          rest (index_passes limited (places_of counts layer) index (places_are counts are layer) is.1)
          ∙ ap (λ (n : ℕ). Got (commands.Sweep layer n) rest) (number_of_text index (omega arith));
    }

pub command_complete : (limited : Bool) (counts : Counts) → AreCounts counts → (command : Command) → IsCommand counts command
    → passes limited (command_limit command) → CommandRead limited counts command
command_complete limited counts are (commands.Look path) is p = on_path_read limited counts paths.Look path is p
command_complete limited counts are (commands.List path) is p = on_path_read limited counts paths.List path is p
command_complete limited counts are (commands.Create path) is p = on_path_read limited counts paths.Create path is p
command_complete limited counts are (commands.Mkdir path) is p = on_path_read limited counts paths.Mkdir path is p
command_complete limited counts are (commands.Delete path) is p = on_path_read limited counts paths.Delete path is p
command_complete limited counts are (commands.Rmdir path) is p = on_path_read limited counts paths.Rmdir path is p
command_complete limited counts are (commands.Drop path) is p = on_path_read limited counts paths.Drop path is p
command_complete limited counts are (commands.Seal path) is p = on_path_read limited counts paths.Seal path is p
command_complete limited counts are (commands.Open path) is p = on_path_read limited counts paths.Open path is p
command_complete limited counts are (commands.Blocks path) is p = on_path_read limited counts paths.Blocks path is p
command_complete limited counts are (commands.Read path) is p = on_path_read limited counts paths.Read path is p
command_complete limited counts are (commands.Rename from to) is p =
    let both = two_pass limited (path_limit from) (path_limit to) (names_pass 0 to) p in
    let sibling = passes_same limited _ _ (sym (sibling_fit_of (path_text from) (path_text to) is.3)) (path_passes limited to is.2 both.1)
    in
    record {
      verb = Rename;
      served = is.0;
      args = path_text from ∷ path_text to ∷ [];
      words = refl;
      reads = λ rest. pass_word limited path_fit (λ p. word (sibling_fit p) (λ q. done (commands.Rename (path_names p) (path_names q))))
          (path_text from) (path_text to ∷ rest) (path_passes limited from is.1 both.0)
          ∙ pass_word limited (sibling_fit (path_text from)) (λ q. done (commands.Rename (path_names (path_text from)) (path_names q)))
          (path_text to) rest sibling
          ∙ ap (λ (names : List (List ℕ)). Got (commands.Rename names (path_names (path_text to))) rest) (names_of_text from is.1)
          ∙ ap (λ (names : List (List ℕ)). Got (commands.Rename from names) rest) (names_of_text to is.2);
    }
command_complete limited counts are (commands.Move from to) is p =
    let both = two_pass limited (path_limit from) (path_limit to) (names_pass 0 to) p in
    record {
      verb = Move;
      served = is.0;
      args = path_text from ∷ path_text to ∷ [];
      words = refl;
      reads = λ rest. pass_word limited path_fit (λ p. word path_fit (λ q. done (commands.Move (path_names p) (path_names q))))
          (path_text from) (path_text to ∷ rest) (path_passes limited from is.1 both.0)
          ∙ pass_word limited path_fit (λ q. done (commands.Move (path_names (path_text from)) (path_names q))) (path_text to) rest
          (path_passes limited to is.2 both.1)
          ∙ ap (λ (names : List (List ℕ)). Got (commands.Move names (path_names (path_text to))) rest) (names_of_text from is.1)
          ∙ ap (λ (names : List (List ℕ)). Got (commands.Move from names) rest) (names_of_text to is.2);
    }
command_complete limited counts are (commands.Append path bytes) is p =
    let both = two_pass limited (path_limit path) (block_limit bytes) (block_passes bytes) p in
    let hex = passes_same limited _ _ (sym (hex_fit_of_text bytes is.2 is.3)) both.1 in
    record {
      verb = Append;
      served = is.0;
      args = path_text path ∷ hex_text bytes ∷ [];
      words = refl;
      reads = λ rest. pass_word limited path_fit (λ p. word hex_fit (λ h. done (commands.Append (path_names p) (hex_bytes h))))
          (path_text path) (hex_text bytes ∷ rest) (path_passes limited path is.1 both.0)
          ∙ pass_word limited hex_fit (λ h. done (commands.Append (path_names (path_text path)) (hex_bytes h))) (hex_text bytes) rest hex
          ∙ ap (λ (names : List (List ℕ)). Got (commands.Append names (hex_bytes (hex_text bytes))) rest) (names_of_text path is.1)
          ∙ ap (λ (bs : List ℕ). Got (commands.Append path bs) rest) (bytes_of_text bytes is.3).1;
    }
command_complete limited counts are (commands.Sweep layer index) is p = sweep_read limited counts are layer index is
command_complete limited counts are (commands.Repair disk index) is p =
    let low = are.disks.1 in
    let high = are.blocks.1 in
    let d = is.1 in
    let i = is.2 in
    record {
      verb = Repair;
      served = is.0;
      args = decimal disk.0 ∷ decimal index ∷ [];
      words = refl;
      reads = λ rest. pass_word limited (number_fit 0 (counts.disks - 1))
          (λ d. word (number_fit 0 (counts.blocks - 1)) (λ i. done (commands.Repair (the_disk (number_of d)) (number_of i))))
          (decimal disk.0) (decimal index ∷ rest) (index_passes limited counts.disks disk.0 are.disks is.1)
          ∙ pass_word limited (number_fit 0 (counts.blocks - 1))
          (λ i. done (commands.Repair (the_disk (number_of (decimal disk.0))) (number_of i))) (decimal index) rest
          (index_passes limited counts.blocks index are.blocks is.2)
          ∙ ap (λ (n : ℕ). Got (commands.Repair (the_disk n) (number_of (decimal index))) rest) (number_of_text disk.0 (omega arith))
          ∙ ap (λ (n : ℕ). Got (commands.Repair disk n) rest) (number_of_text index (omega arith));
    }
command_complete limited counts are commands.SweepAll is p = absurd is
command_complete limited counts are (commands.Lose disk) is p = absurd is

-- ---- every form of a command is filled by some words

pub command_alive : (limited : Bool) (counts : Counts) → AreCounts counts → (verb : Verb) → IsAlive limited (command_form counts verb)
command_alive limited counts are (OnPath verb) = ((47 ∷ [], fits_pass limited Fits refl), λ w p. tt)
command_alive limited counts are Rename =
    ((47 ∷ [], fits_pass limited Fits refl), λ w p. ((w, passes_same limited _ _ (sym (sibling_fit_of w w refl)) p), λ v q. tt))
command_alive limited counts are Move = ((47 ∷ [], fits_pass limited Fits refl), λ w p. ((47 ∷ [], fits_pass limited Fits refl), λ v q. tt))
command_alive limited counts are Append =
    ((47 ∷ [], fits_pass limited Fits refl), λ w p. ((codes "00", fits_pass limited Fits refl), λ v q. tt))
command_alive limited counts are Sweep = (
  (codes "name", fits_pass limited Fits refl),
  λ w
      p. (
        (
          decimal 0,
          index_passes limited (places_of counts (the_layer w)) 0 (places_are counts are (the_layer w))
              (let low = (places_are counts are (the_layer w)).0 in omega arith),
        ),
        λ v q. tt,
      ),
)
command_alive limited counts are Repair = (
  (decimal 0, index_passes limited counts.disks 0 are.disks (let low = are.disks.0 in omega arith)),
  λ w
      p. ((decimal 0, index_passes limited counts.blocks 0 are.blocks (let low = are.blocks.0 in omega arith)), λ v q. tt),
)
