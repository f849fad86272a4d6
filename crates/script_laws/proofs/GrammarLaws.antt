-- Whole lines: what is read is spelled, and what is spelled is read.
use Rattle.std.proofs.Common.{◌≡◌, ℕ, ◌-◌, ◌<◌, ◌≤◌, ◌^◌, Bool, true, false, List, ◌∷◌, ◌++◌, refl, sym, ap, subst, ◌∙◌, arith, inl, inr}
use Rattle.std.proofs.Common.{is_some, nat_le, ◌&&◌}
use Rattle.std.specs.Prelude.{codes, unwrap_or}
use Rattle.std.specs.Str.{bytes_eq}
use Rattle.std.specs.Fmt.{decimal}
use Rattle.std.proofs.lemmas.Bool.{cases_Bool, leb-true, le-leb}
use Rattle.std.proofs.lemmas.Slice.Eq.{bytes_eq-Decides}
use Rattle.script_words.specs.declared.limits.Fit.TheVariants.{Fits, Over}
use Rattle.script_words.specs.declared.limits.Limit.{Limit}
use Rattle.script_words.specs.declared.limits.Limit.TheVariants as limits
use Rattle.script_words.specs.WordForm.{is_client_name, is_numeral, number_of, number_fit, count_fit}
use Rattle.script_words.proofs.Apart.{both}
use Rattle.script_words.proofs.NumberWords.{number_of_text, number_spelled, number_text_form}
use Rattle.tect_ids.specs.declared.ids.Counts.{Counts}
use Rattle.tect_ids.specs.declared.command.Command.{Command}
use Rattle.tect_ids.specs.declared.command.Command.TheVariants as commands
use Rattle.tect_ids.specs.declared.script.Act.{Act}
use Rattle.tect_ids.specs.declared.script.Act.TheVariants as acts
use Rattle.tect_ids.specs.declared.script.Line.{Line}
use Rattle.tect_ids.specs.declared.script.Line.TheVariants as lines
use Rattle.script_forms.specs.declared.verbs.WorldVerb.{WorldVerb}
use Rattle.script_forms.specs.declared.verbs.WorldVerb.TheVariants as worlds
use Rattle.script_forms.specs.Form.{Form, done, word, Got, read, passes, IsAlive}
use Rattle.script_forms.specs.Served.{serves_world}
use Rattle.script_forms.specs.Verbs.{world_word, served_world}
use Rattle.script_forms.specs.LineText.{act_words, counts_words, line_words}
use Rattle.script_forms.specs.Grammar.{text_fit, the_disk, the_counts, act_form, world_behind, shards_fit, counts_form, store_form}
use Rattle.script_forms.specs.Grammar.{first_fit, client_form, behind_first, line_form}
use Rattle.script_forms.specs.LineForms.{IsLine, path_limit, block_limit, command_limit, act_limit, line_limit, AreCounts}
use Rattle.script_laws.proofs.FormLaws.{got_same, one_word, pass_word, fits_pass}
use Rattle.script_laws.proofs.WordLaws.{unfit_stops, passes_same, if_passes, passes_if}
use Rattle.script_laws.proofs.VerbLaws.{some_is, world_spelled, world_read_word, world_no_client}
use Rattle.script_laws.proofs.CommandLaws.{one_spelled, index_word, index_passes, both_pass, names_pass, block_passes}
use Rattle.script_laws.proofs.ActLaws.{mapped_form, form_mapped, alive_then, act_sound, act_complete, act_alive}

-- the client of a line has the number that the function gives its name
abbrev pub IsNumbered : (List ℕ → ℕ) → Line → Type 0
IsNumbered number (lines.Client client actor act) = actor ≡ number client
IsNumbered number line = Unit {0}

pub record LineSpelled (limited : Bool) (counts : Counts) (number : List ℕ → ℕ) (ws : List (List ℕ)) (rest : List (List ℕ)) (line : Line)
    : Type 0 where
  pub words : line_words line ++ rest ≡ ws
  pub form : IsLine counts line
  pub within : passes limited (line_limit line)
  pub numbered : IsNumbered number line

text_passes : (limited : Bool) (text w : List ℕ) → passes limited (text_fit text w) → w ≡ text
text_passes limited text w p = (bytes_eq-Decides w text).0 (if_passes limited (bytes_eq w text) p)

passes_text : (limited : Bool) (text : List ℕ) → passes limited (text_fit text text)
passes_text limited text = passes_if limited (bytes_eq text text) ((bytes_eq-Decides text text).1 refl)

-- ---- world lines

pub world_sound : (limited : Bool) (counts : Counts) → AreCounts counts → (number : List ℕ → ℕ) (verb : WorldVerb)
    → serves_world verb ≡ true → (ws : List (List ℕ)) (line : Line) (rest : List (List ℕ))
    → read limited (world_behind counts verb) ws ≡ Got line rest → LineSpelled limited counts number (world_word verb ∷ ws) rest line
world_sound limited counts are number worlds.Sweep served ws line rest is =
    let o = one_word limited (text_fit (codes "all")) (λ w. done lines.Sweep) ws line rest is in
    let same = got_same lines.Sweep line o.others rest o.reads in
    subst (λ (l : Line). LineSpelled limited counts number (codes "sweep" ∷ ws) rest l) same.0 (record {
      words = ap (λ (r : List (List ℕ)). codes "sweep" ∷ codes "all" ∷ r) (sym same.1) ∙ ap (λ (w : List ℕ). codes "sweep" ∷ w ∷ o.others)
          (sym (text_passes limited (codes "all") o.w o.passed)) ∙ ap (λ (r : List (List ℕ)). codes "sweep" ∷ r) (sym o.split);
      form = served;
      within = fits_pass limited Fits refl;
      numbered = tt;
    })
world_sound limited counts are number worlds.Lose served ws line rest is =
    let o = one_word limited (number_fit 0 (counts.disks - 1)) (λ d. done (lines.Lose (the_disk (number_of d)))) ws line rest is in
    let same = got_same (lines.Lose (the_disk (number_of o.w))) line o.others rest o.reads in
    let d = index_word limited counts.disks o.w are.disks o.passed in
    subst (λ (l : Line). LineSpelled limited counts number (codes "lose" ∷ ws) rest l) same.0 (record {
      words = ap (λ (t : List ℕ). codes "lose" ∷ t ∷ rest) d.0 ∙ ap (λ (r : List (List ℕ)). codes "lose" ∷ o.w ∷ r) (sym same.1) ∙ ap
          (λ (r : List (List ℕ)). codes "lose" ∷ r) (sym o.split);
      form = (served, d.1);
      within = fits_pass limited Fits refl;
      numbered = tt;
    })
world_sound limited counts are number worlds.Dump served ws line rest is =
    let same = got_same lines.Dump line ws rest is in
    subst (λ (l : Line). LineSpelled limited counts number (codes "dump" ∷ ws) rest l) same.0
    (record {
      words = ap (λ (r : List (List ℕ)). codes "dump" ∷ r) (sym same.1);
      form = served;
      within = fits_pass limited Fits refl;
      numbered = tt;
    })

-- a line of no client
abbrev pub IsPlain : Line → Type 0
IsPlain (lines.Client client actor act) = ⊥
IsPlain line = Unit {0}

pub world_plain : (counts : Counts) (verb : WorldVerb) (ws : List (List ℕ)) (line : Line) (rest : List (List ℕ))
    → read true (world_behind counts verb) ws ≡ Got line rest → IsPlain line
world_plain counts worlds.Sweep ws line rest is =
    let o = one_word true (text_fit (codes "all")) (λ w. done lines.Sweep) ws line rest is in
    subst (λ (l : Line). IsPlain l) (got_same lines.Sweep line o.others rest o.reads).0 tt
world_plain counts worlds.Lose ws line rest is =
    let o = one_word true (number_fit 0 (counts.disks - 1)) (λ d. done (lines.Lose (the_disk (number_of d)))) ws line rest is in
    subst (λ (l : Line). IsPlain l) (got_same (lines.Lose (the_disk (number_of o.w))) line o.others rest o.reads).0 tt
world_plain counts worlds.Dump ws line rest is = subst (λ (l : Line). IsPlain l) (got_same lines.Dump line ws rest is).0 tt

world_alive : (limited : Bool) (counts : Counts) → AreCounts counts → (verb : WorldVerb) → IsAlive limited (world_behind counts verb)
world_alive limited counts are worlds.Sweep = ((codes "all", passes_text limited (codes "all")), λ w p. tt)
world_alive limited counts are worlds.Lose =
    ((decimal 0, index_passes limited counts.disks 0 are.disks (let low = are.disks.0 in omega arith)), λ w p. tt)
world_alive limited counts are worlds.Dump = tt

-- ---- lines behind the store line

client_sound : (limited : Bool) (counts : Counts) → AreCounts counts → (number : List ℕ → ℕ) (client : List ℕ)
    → is_client_name client ≡ true → (ws : List (List ℕ)) (line : Line) (rest : List (List ℕ))
    → read limited (client_form counts client (number client)) ws ≡ Got line rest
    → LineSpelled limited counts number (client ∷ ws) rest line
client_sound limited counts are number client named ws line rest is =
    let m = mapped_form limited (λ act. lines.Client client (number client) act) (act_form counts) ws line rest is in
    let a = act_sound limited counts are ws m.from rest m.was in
    subst (λ (l : Line). LineSpelled limited counts number (client ∷ ws) rest l) m.is (record {
      words = ap (λ (r : List (List ℕ)). client ∷ r) a.words_are;
      form = (named, a.form);
      within = a.within;
      numbered = refl;
    })

first_world : (limited : Bool) (w : List ℕ) → is_client_name w ≡ false → passes limited (first_fit w) → is_some (served_world w) ≡ true
first_world limited w miss p = if_passes limited (is_some (served_world w)) (passes_same limited (first_fit w) _ (rw miss refl) p)

behind_sound : (limited : Bool) (counts : Counts) → AreCounts counts → (number : List ℕ → ℕ) (w : List ℕ) → passes limited (first_fit w)
    → (ws : List (List ℕ)) (line : Line) (rest : List (List ℕ)) → read limited (behind_first counts number w) ws ≡ Got line rest
    → LineSpelled limited counts number (w ∷ ws) rest line
behind_sound limited counts are number w p ws line rest is = elim (cases_Bool (is_client_name w)) [
  | inl hit ↦ client_sound limited counts are number w hit ws line rest (rw hit at is)
  | inr miss ↦
      let verb = unwrap_or (served_world w) worlds.Dump in
      let s = world_spelled w verb (some_is (served_world w) worlds.Dump (first_world limited w miss p)) in
      subst (λ (v : List ℕ). LineSpelled limited counts number (v ∷ ws) rest line) (sym s.0)
      (world_sound limited counts are number verb s.1 ws line rest (rw miss at is))
]

pub line_sound : (limited : Bool) (counts : Counts) → AreCounts counts
    → (number : List ℕ → ℕ) (ws : List (List ℕ)) (line : Line) (rest : List (List ℕ))
    → read limited (line_form counts number) ws ≡ Got line rest → LineSpelled limited counts number ws rest line
line_sound limited counts are number ws line rest is =
    let o = one_word limited first_fit (λ w. behind_first counts number w) ws line rest is in
    subst (λ (vs : List (List ℕ)). LineSpelled limited counts number vs rest line) (sym o.split)
    (behind_sound limited counts are number o.w o.passed o.others line rest o.reads)

pub client_first : (limited : Bool) (counts : Counts) (number : List ℕ → ℕ) (w : List ℕ) → is_client_name w ≡ true → (ws : List (List ℕ))
    → read limited (line_form counts number) (w ∷ ws) ≡ read limited (client_form counts w (number w)) ws
client_first limited counts number w named ws =
    pass_word limited first_fit (λ w. behind_first counts number w) w ws (fits_pass limited (first_fit w) (rw named refl))
    ∙ (let e : behind_first counts number w ≡ client_form counts w (number w) = rw named refl
    in ap (λ (f : Form Line). read limited f ws) e)

pub world_first : (limited : Bool) (counts : Counts) (number : List ℕ → ℕ) (verb : WorldVerb) → serves_world verb ≡ true
    → (ws : List (List ℕ)) → read limited (line_form counts number) (world_word verb ∷ ws) ≡ read limited (world_behind counts verb) ws
world_first limited counts number verb served ws =
    let w = world_word verb in
    let some = world_read_word verb served in
    let fit : first_fit w ≡ Fits = rw (world_no_client verb, some) refl in
    let next : behind_first counts number w ≡ world_behind counts verb = rw (world_no_client verb, some) refl in
    pass_word limited first_fit (λ v. behind_first counts number v) w ws (fits_pass limited (first_fit w) fit) ∙ ap
    (λ (f : Form Line). read limited f ws) next

pub line_complete : (limited : Bool) (counts : Counts) → AreCounts counts → (number : List ℕ → ℕ) (line : Line) → IsLine counts line
    → passes limited (line_limit line) → IsNumbered number line → (rest : List (List ℕ))
    → read limited (line_form counts number) (line_words line ++ rest) ≡ Got line rest
line_complete limited counts are number (lines.Store other) is p numbered rest = absurd is
line_complete limited counts are number (lines.Client client actor act) is p numbered rest =
    client_first limited counts number client is.0 (act_words act ++ rest)
    ∙ form_mapped limited (λ act. lines.Client client (number client) act) (act_form counts) (act_words act ++ rest) rest act
    (act_complete limited counts are act is.1 p rest)
    ∙ ap (λ (n : ℕ). Got (lines.Client client n act) rest) (sym numbered)
line_complete limited counts are number lines.Sweep is p numbered rest =
    world_first limited counts number worlds.Sweep is (codes "all" ∷ rest) ∙ pass_word limited (text_fit (codes "all"))
    (λ w. done lines.Sweep) (codes "all") rest (passes_text limited (codes "all"))
line_complete limited counts are number (lines.Lose disk) is p numbered rest =
    let low = are.disks.1 in
    let less = is.1 in
    world_first limited counts number worlds.Lose is.0 (decimal disk.0 ∷ rest)
    ∙ pass_word limited (number_fit 0 (counts.disks - 1)) (λ d. done (lines.Lose (the_disk (number_of d)))) (decimal disk.0) rest
    (index_passes limited counts.disks disk.0 are.disks is.1)
    ∙ ap (λ (n : ℕ). Got (lines.Lose (the_disk n)) rest) (number_of_text disk.0 (omega arith))
line_complete limited counts are number lines.Dump is p numbered rest = world_first limited counts number worlds.Dump is rest

client_alive : (limited : Bool) (counts : Counts) → AreCounts counts → (client : List ℕ) (actor : ℕ)
    → IsAlive limited (client_form counts client actor)
client_alive limited counts are client actor = alive_then limited (act_form counts) (λ act. done (lines.Client client actor act))
    (act_alive limited counts are) (λ act. tt)

behind_alive : (limited : Bool) (counts : Counts) → AreCounts counts → (number : List ℕ → ℕ) (w : List ℕ)
    → IsAlive limited (behind_first counts number w)
behind_alive limited counts are number w = elim (cases_Bool (is_client_name w)) [
  | inl hit ↦ (let e : behind_first counts number w ≡ client_form counts w (number w) = rw hit refl
      in subst (λ (f : Form Line). IsAlive limited f) (sym e) (client_alive limited counts are w (number w)))
  | inr miss ↦ (let e : behind_first counts number w ≡ world_behind counts (unwrap_or (served_world w) worlds.Dump) = rw miss refl
      in subst (λ (f : Form Line). IsAlive limited f) (sym e) (world_alive limited counts are (unwrap_or (served_world w) worlds.Dump)))
]

pub line_alive : (limited : Bool) (counts : Counts) → AreCounts counts → (number : List ℕ → ℕ) → IsAlive limited (line_form counts number)
line_alive limited counts are number = ((codes "a", fits_pass limited Fits refl), λ w p. behind_alive limited counts are number w)

-- a line of the form passes where limits do not count
loose_command : (counts : Counts) (command : Command) → passes false (command_limit command)
loose_command counts (commands.Look path) = names_pass 0 path
loose_command counts (commands.List path) = names_pass 0 path
loose_command counts (commands.Create path) = names_pass 0 path
loose_command counts (commands.Mkdir path) = names_pass 0 path
loose_command counts (commands.Delete path) = names_pass 0 path
loose_command counts (commands.Rename from to) = both_pass false (path_limit from) (path_limit to) (names_pass 0 from) (names_pass 0 to)
loose_command counts (commands.Move from to) = both_pass false (path_limit from) (path_limit to) (names_pass 0 from) (names_pass 0 to)
loose_command counts (commands.Rmdir path) = names_pass 0 path
loose_command counts (commands.Drop path) = names_pass 0 path
loose_command counts (commands.Seal path) = names_pass 0 path
loose_command counts (commands.Open path) = names_pass 0 path
loose_command counts (commands.Append path bytes) = both_pass false (path_limit path) (block_limit bytes) (names_pass 0 path)
    (block_passes bytes)
loose_command counts (commands.Blocks path) = names_pass 0 path
loose_command counts (commands.Read path) = names_pass 0 path
loose_command counts (commands.Sweep layer index) = tt
loose_command counts (commands.Repair disk index) = tt
loose_command counts commands.SweepAll = tt
loose_command counts (commands.Lose disk) = tt

loose_act : (counts : Counts) (act : Act) → passes false (act_limit act)
loose_act counts (acts.Do command) = loose_command counts command
loose_act counts (acts.Begin command) = loose_command counts command
loose_act counts (acts.Step count) = tt
loose_act counts acts.Run = tt
loose_act counts acts.Stop = tt

pub loose_limit : (counts : Counts) (line : Line) → IsLine counts line → passes false (line_limit line)
loose_limit counts (lines.Store other) is = tt
loose_limit counts (lines.Client client actor act) is = loose_act counts act
loose_limit counts lines.Sweep is = tt
loose_limit counts (lines.Lose disk) is = tt
loose_limit counts lines.Dump is = tt

-- ---- the store line

pub record CountWord (limited : Bool) (most : ℕ) (w : List ℕ) : Type 0 where
  pub numeral : is_numeral w ≡ true
  pub some : 1 ≤ number_of w

count_word : (limited : Bool) (limit : Limit) (most : ℕ) (w : List ℕ) → passes limited (count_fit limit most w) → CountWord limited most w
count_word limited limit most w p = elim (cases_Bool (is_numeral w && nat_le 1 (number_of w))) [
  | inl hit ↦ let a = both (is_numeral w) (nat_le 1 (number_of w)) hit in record { numeral = a.0; some = leb-true 1 (number_of w) a.1 }
  | inr miss ↦ unfit_stops limited (count_fit limit most w) (rw miss refl) p
]

count_within : (limit : Limit) (most : ℕ) (w : List ℕ) → passes true (count_fit limit most w) → number_of w ≤ most
count_within limit most w p = elim (cases_Bool (is_numeral w && nat_le 1 (number_of w))) [
  | inl hit ↦ elim (cases_Bool (nat_le (number_of w) most)) [
    | inl few ↦ leb-true (number_of w) most few
    | inr many ↦ absurd (passes_same true (count_fit limit most w) (Over limit) (rw (hit, many) refl) p)
  ]
  | inr miss ↦ unfit_stops true (count_fit limit most w) (rw miss refl) p
]

-- a count within its limit
counted : (limit : Limit) (most : ℕ) (w : List ℕ) → most ≤ 64 → passes true (count_fit limit most w) → (decimal (number_of w) ≡ w)
    × ((1 ≤ number_of w) × (number_of w ≤ most))
counted limit most w small p =
    let c = count_word true limit most w p in
    let within = count_within limit most w p in
    (number_spelled w c.numeral (omega arith), (c.some, within))

count_passes : (limited : Bool) (limit : Limit) (most n : ℕ) → most ≤ 64 → (1 ≤ n) × (n ≤ most)
    → passes limited (count_fit limit most (decimal n))
count_passes limited limit most n small bound =
    let low = bound.0 in
    let high = bound.1 in
    let less : n < 2 ^ 64 = omega arith in
    fits_pass limited (count_fit limit most (decimal n))
    (rw (number_of_text n less, number_text_form n less, le-leb 1 n bound.0, le-leb n most bound.1) refl)

pub store_alive : (limited : Bool) → IsAlive limited store_form
store_alive limited = (
  (codes "store", passes_text limited (codes "store")),
  λ w p. (
    (codes "1", fits_pass limited Fits refl),
    λ a p. (
      (codes "1", fits_pass limited Fits refl),
      λ b p. (
        (codes "1", fits_pass limited Fits refl),
        λ c p.
            ((codes "1", fits_pass limited Fits refl), λ d p. ((codes "1", fits_pass limited Fits refl), λ e p. tt)),
      ),
    ),
  ),
)

abbrev pub store_words : Counts → List (List ℕ)
store_words counts = codes "store" ∷ counts_words counts

pub record StoreSpelled (ws rest : List (List ℕ)) (counts : Counts) : Type 0 where
  pub words : store_words counts ++ rest ≡ ws
  pub form : AreCounts counts

pub store_sound : (ws : List (List ℕ)) (counts : Counts) (rest : List (List ℕ)) → read true store_form ws ≡ Got counts rest
    → StoreSpelled ws rest counts
store_sound ws counts rest is =
    let s = one_word true (text_fit (codes "store")) (λ w. counts_form) ws counts rest is in
    let n = one_word true shards_fit
    (λ n. word shards_fit
    (λ f. word shards_fit
    (λ b. word (count_fit limits.Disks 64)
    (λ d. word (count_fit limits.Copies 5)
    (λ c. done (the_counts (number_of n) (number_of f) (number_of b) (number_of d) (number_of c))))))) s.others counts rest s.reads in
    let f = one_word true shards_fit
    (λ f. word shards_fit
    (λ b. word (count_fit limits.Disks 64)
    (λ d. word (count_fit limits.Copies 5)
    (λ c. done (the_counts (number_of n.w) (number_of f) (number_of b) (number_of d) (number_of c)))))) n.others counts rest n.reads in
    let b = one_word true shards_fit
    (λ b. word (count_fit limits.Disks 64)
    (λ d. word (count_fit limits.Copies 5)
    (λ c. done (the_counts (number_of n.w) (number_of f.w) (number_of b) (number_of d) (number_of c))))) f.others counts rest f.reads in
    let d = one_word true (count_fit limits.Disks 64)
    (λ d. word (count_fit limits.Copies 5)
    (λ c. done (the_counts (number_of n.w) (number_of f.w) (number_of b.w) (number_of d) (number_of c)))) b.others counts rest b.reads
    in
    let c = one_word true (count_fit limits.Copies 5)
    (λ c. done (the_counts (number_of n.w) (number_of f.w) (number_of b.w) (number_of d.w) (number_of c))) d.others counts rest d.reads
    in
    let same = got_same (the_counts (number_of n.w) (number_of f.w) (number_of b.w) (number_of d.w) (number_of c.w)) counts c.others rest
    c.reads in
    let kn = counted limits.Shards 64 n.w (omega arith) n.passed in
    let kf = counted limits.Shards 64 f.w (omega arith) f.passed in
    let kb = counted limits.Shards 64 b.w (omega arith) b.passed in
    let kd = counted limits.Disks 64 d.w (omega arith) d.passed in
    let kc = counted limits.Copies 5 c.w (omega arith) c.passed in
    let from_c = one_spelled c.w (decimal (number_of c.w)) d.others c.others rest c.split kc.0 same.1 in
    let from_d = one_spelled d.w (decimal (number_of d.w)) b.others d.others _ d.split kd.0 (sym from_c) in
    let from_b = one_spelled b.w (decimal (number_of b.w)) f.others b.others _ b.split kb.0 (sym from_d) in
    let from_f = one_spelled f.w (decimal (number_of f.w)) n.others f.others _ f.split kf.0 (sym from_b) in
    let from_n = one_spelled n.w (decimal (number_of n.w)) s.others n.others _ n.split kn.0 (sym from_f) in
    let from_s = one_spelled s.w (codes "store") ws s.others _ s.split (sym (text_passes true (codes "store") s.w s.passed)) (sym from_n) in
    subst (λ (k : Counts). StoreSpelled ws rest k) same.0 (record {
      words = from_s;
      form = record { names = kn.1; files = kf.1; blocks = kb.1; disks = kd.1; copies = kc.1 };
    })

pub store_complete : (limited : Bool) (counts : Counts) → AreCounts counts → (rest : List (List ℕ))
    → read limited store_form (store_words counts ++ rest) ≡ Got counts rest
store_complete limited counts are rest =
    let n = are.names in
    let f = are.files in
    let b = are.blocks in
    let d = are.disks in
    let c = are.copies in
    let n1 = n.1 in
    let f1 = f.1 in
    let b1 = b.1 in
    let d1 = d.1 in
    let c1 = c.1 in
    let last : read limited
    (done (the_counts (number_of (decimal counts.names)) (number_of (decimal counts.files)) (number_of (decimal counts.blocks))
    (number_of (decimal counts.disks)) (number_of (decimal counts.copies)))) rest ≡ Got counts rest
    = rw (
      number_of_text counts.names (omega arith),
      number_of_text counts.files (omega arith),
      number_of_text counts.blocks (omega arith),
      number_of_text counts.disks (omega arith),
      number_of_text counts.copies (omega arith),
    ) refl in
    pass_word limited (text_fit (codes "store")) (λ w. counts_form) (codes "store") (counts_words counts ++ rest)
    (passes_text limited (codes "store"))
    ∙ pass_word limited shards_fit
    (λ x. word shards_fit
    (λ f. word shards_fit
    (λ b. word (count_fit limits.Disks 64)
    (λ d. word (count_fit limits.Copies 5)
    (λ c. done (the_counts (number_of x) (number_of f) (number_of b) (number_of d) (number_of c))))))) (decimal counts.names)
    (decimal counts.files ∷ decimal counts.blocks ∷ decimal counts.disks ∷ decimal counts.copies ∷ rest)
    (count_passes limited limits.Shards 64 counts.names (omega arith) n)
    ∙ pass_word limited shards_fit
    (λ x. word shards_fit
    (λ b. word (count_fit limits.Disks 64)
    (λ d. word (count_fit limits.Copies 5)
    (λ c. done (the_counts (number_of (decimal counts.names)) (number_of x) (number_of b) (number_of d) (number_of c))))))
    (decimal counts.files) (decimal counts.blocks ∷ decimal counts.disks ∷ decimal counts.copies ∷ rest)
    (count_passes limited limits.Shards 64 counts.files (omega arith) f)
    ∙ pass_word limited shards_fit
    (λ x. word (count_fit limits.Disks 64)
    (λ d. word (count_fit limits.Copies 5)
    (λ c. done (the_counts (number_of (decimal counts.names)) (number_of (decimal counts.files)) (number_of x) (number_of d)
    (number_of c))))) (decimal counts.blocks) (decimal counts.disks ∷ decimal counts.copies ∷ rest)
    (count_passes limited limits.Shards 64 counts.blocks (omega arith) b)
    ∙ pass_word limited (count_fit limits.Disks 64)
    (λ x. word (count_fit limits.Copies 5)
    (λ c. done (the_counts (number_of (decimal counts.names)) (number_of (decimal counts.files)) (number_of (decimal counts.blocks))
    (number_of x) (number_of c)))) (decimal counts.disks) (decimal counts.copies ∷ rest)
    (count_passes limited limits.Disks 64 counts.disks (omega arith) d)
    ∙ pass_word limited (count_fit limits.Copies 5)
    (λ x. done (the_counts (number_of (decimal counts.names)) (number_of (decimal counts.files)) (number_of (decimal counts.blocks))
    (number_of (decimal counts.disks)) (number_of x))) (decimal counts.copies) rest
    (count_passes limited limits.Copies 5 counts.copies (omega arith) c)
    ∙ last
