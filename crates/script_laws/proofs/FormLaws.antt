-- What reading by a form comes to, for any form.
use Rattle.std.proofs.Common.{◌≡◌, ℕ, Bool, true, false, List, [], ◌∷◌, ◌++◌, refl, sym, ap, subst, ◌∙◌}
use Rattle.script_words.specs.declared.limits.Limit.{Limit}
use Rattle.script_words.specs.declared.limits.Fit.{Fit}
use Rattle.script_words.specs.declared.limits.Fit.TheVariants.{Fits, Over, Unfit}
use Rattle.script_forms.specs.Form.{Form, done, word, Outcome, Got, Wrong, Large, by_fit, read, passes, IsAlive}

abbrev pub got : (A : Type 0) → A → List (List ℕ) → Outcome A
got A a ws = Got a ws

abbrev pub wrong : (A : Type 0) → List (List ℕ) → Outcome A
wrong A ws = Wrong ws

abbrev large : (A : Type 0) → Limit → List (List ℕ) → Outcome A
large A l ws = Large l ws

pub got_same : {A : Type 0} (a b : A) (v w : List (List ℕ)) → got A a v ≡ Got b w → (a ≡ b) × (v ≡ w)
got_same a b v w e = (cc, cc)

pub wrong_same : {A : Type 0} (v w : List (List ℕ)) → wrong A v ≡ Wrong w → v ≡ w
wrong_same v w e = cc

pub large_same : {A : Type 0} (k l : Limit) (v w : List (List ℕ)) → large A k v ≡ Large l w → (k ≡ l) × (v ≡ w)
large_same k l v w e = (cc, cc)

pub got_wrong : {A B : Type 0} (a : A) (v w : List (List ℕ)) → got A a v ≡ Wrong w → B
got_wrong a v w e = absurd cc

pub got_large : {A B : Type 0} (a : A) (l : Limit) (v w : List (List ℕ)) → got A a v ≡ Large l w → B
got_large a l v w e = absurd cc

pub wrong_large : {A B : Type 0} (l : Limit) (v w : List (List ℕ)) → wrong A v ≡ Large l w → B
wrong_large l v w e = absurd cc

-- a word that fits is passed, whether limits count or not
read_on : {A : Type 0} (limited : Bool) (fit : List ℕ → Fit) (next : List ℕ → Form A) (w : List ℕ) (ws : List (List ℕ)) → fit w ≡ Fits
    → read limited (word fit next) (w ∷ ws) ≡ read limited (next w) ws
read_on limited fit next w ws is = rw is refl

-- the words that a value took, whatever stands behind them
pub record Taken {A : Type 0} (f : Form A) (ws : List (List ℕ)) (value : A) (rest : List (List ℕ)) : Type 0 where
  pub front : List (List ℕ)
  pub split : ws ≡ front ++ rest
  pub again : (limited : Bool) (more : List (List ℕ)) → read limited f (front ++ more) ≡ Got value more

taken_by : {A : Type 0} (fit : List ℕ → Fit) (next : List ℕ → Form A) (w : List ℕ) (ws : List (List ℕ)) (value : A) (rest : List (List ℕ))
    (k : Fit) → fit w ≡ k → by_fit true k (w ∷ ws) (read true (next w) ws) ≡ Got value rest
    → (read true (next w) ws ≡ Got value rest → Taken (next w) ws value rest) → Taken (word fit next) (w ∷ ws) value rest
taken_by fit next w ws value rest Fits e is more =
    let t = more is in
    record {
      front = w ∷ t.front;
      split = ap (λ (vs : List (List ℕ)). w ∷ vs) t.split;
      again = λ limited behind. read_on limited fit next w (t.front ++ behind) e ∙ t.again limited behind;
    }
taken_by fit next w ws value rest (Over limit) e is more = got_large value limit rest (w ∷ ws) (sym is)
taken_by fit next w ws value rest Unfit e is more = got_wrong value rest (w ∷ ws) (sym is)

pub taken : {A : Type 0} (f : Form A) (ws : List (List ℕ)) (value : A) (rest : List (List ℕ)) → read true f ws ≡ Got value rest
    → Taken f ws value rest
taken (done a) ws value rest is =
    let same = got_same a value ws rest is in
    record { front = []; split = same.1; again = λ limited more. ap (λ v. Got v more) same.0 }
taken (word fit next) [] value rest is = got_wrong value rest [] (sym is)
taken (word fit next) (w ∷ ws) value rest is = taken_by fit next w ws value rest (fit w) refl is (λ h. taken (next w) ws value rest h)

-- ---- a form that some words fill

by_passing : {A : Type 0} (limited : Bool) (k : Fit) (ws : List (List ℕ)) (o : Outcome A) → passes limited k → by_fit limited k ws o ≡ o
by_passing limited Fits ws o p = refl
by_passing true (Over limit) ws o p = absurd p
by_passing false (Over limit) ws o p = refl
by_passing limited Unfit ws o p = absurd p

pub record Filled {A : Type 0} (limited : Bool) (f : Form A) : Type 0 where
  pub words : List (List ℕ)
  pub value : A
  pub reads : read limited f words ≡ Got value []

pub filled : {A : Type 0} (limited : Bool) (f : Form A) → IsAlive limited f → Filled limited f
filled limited (done value) alive = record { words = []; value = value; reads = refl }
filled limited (word fit next) alive =
    let w = alive.0.0 in
    let more = filled limited (next w) (alive.1 w alive.0.1) in
    record {
      words = w ∷ more.words;
      value = more.value;
      reads = by_passing limited (fit w) (w ∷ more.words) (read limited (next w) more.words) alive.0.1 ∙ more.reads;
    }

-- ---- the first wrong word

-- no words that begin so are read, whether limits count or not
abbrev pub IsDeadEnd : {A : Type 0} → Form A → List (List ℕ) → List (List ℕ) → Type 0
IsDeadEnd f front [] = (limited : Bool) → read limited f front ≡ Wrong []
IsDeadEnd f front (w ∷ others) = (limited : Bool) (more : List (List ℕ)) → read limited f (front ++ w ∷ more) ≡ Wrong (w ∷ more)

pub record FirstWrong {A : Type 0} (f : Form A) (ws rest : List (List ℕ)) : Type 0 where
  pub front : List (List ℕ)
  pub split : ws ≡ front ++ rest
  pub more : List (List ℕ)
  pub value : A
  pub begins : read true f (front ++ more) ≡ Got value []
  pub dead : IsDeadEnd f front rest

dead_on : {A : Type 0} (fit : List ℕ → Fit) (next : List ℕ → Form A) (v : List ℕ) (front rest : List (List ℕ)) → fit v ≡ Fits
    → IsDeadEnd (next v) front rest → IsDeadEnd (word fit next) (v ∷ front) rest
dead_on fit next v front [] e dead = λ limited. read_on limited fit next v front e ∙ dead limited
dead_on fit next v front (w ∷ others) e dead = λ limited more. read_on limited fit next v (front ++ w ∷ more) e ∙ dead limited more

unfit_dead : {A : Type 0} (fit : List ℕ → Fit) (next : List ℕ → Form A) (w : List ℕ) (limited : Bool) (more : List (List ℕ)) → fit w ≡ Unfit
    → read limited (word fit next) (w ∷ more) ≡ Wrong (w ∷ more)
unfit_dead fit next w limited more is = rw is refl

pub fits_pass : (limited : Bool) (k : Fit) → k ≡ Fits → passes limited k
fits_pass limited Fits is = tt
fits_pass limited (Over limit) is = absurd cc
fits_pass limited Unfit is = absurd cc

first_by : {A : Type 0} (fit : List ℕ → Fit) (next : List ℕ → Form A) (w : List ℕ) (ws rest : List (List ℕ)) (k : Fit) → fit w ≡ k
    → Filled true (word fit next) → by_fit true k (w ∷ ws) (read true (next w) ws) ≡ Wrong rest
    → (fit w ≡ Fits → read true (next w) ws ≡ Wrong rest → FirstWrong (next w) ws rest) → FirstWrong (word fit next) (w ∷ ws) rest
first_by fit next w ws rest Fits e some is more =
    let f = more e is in
    record {
      front = w ∷ f.front;
      split = ap (λ (vs : List (List ℕ)). w ∷ vs) f.split;
      more = f.more;
      value = f.value;
      begins = read_on true fit next w (f.front ++ f.more) e ∙ f.begins;
      dead = dead_on fit next w f.front rest e f.dead;
    }
first_by fit next w ws rest (Over limit) e some is more = wrong_large limit rest (w ∷ ws) (sym is)
first_by fit next w ws rest Unfit e some is more =
    subst (λ (vs : List (List ℕ)). FirstWrong (word fit next) (w ∷ ws) vs) (wrong_same (w ∷ ws) rest is)
    (record {
      front = [];
      split = refl;
      more = some.words;
      value = some.value;
      begins = some.reads;
      dead = λ limited behind. unfit_dead fit next w limited behind e;
    })

pub first_wrong : {A : Type 0} (f : Form A) (ws rest : List (List ℕ)) → IsAlive true f → read true f ws ≡ Wrong rest → FirstWrong f ws rest
first_wrong (done value) ws rest alive is = got_wrong value ws rest is
first_wrong (word fit next) [] rest alive is =
    let some = filled true (word fit next) alive in
    subst (λ (vs : List (List ℕ)). FirstWrong (word fit next) [] vs) (wrong_same [] rest is)
    (record { front = []; split = refl; more = some.words; value = some.value; begins = some.reads; dead = λ limited. refl })
first_wrong (word fit next) (w ∷ ws) rest alive is =
    first_by fit next w ws rest (fit w) refl (filled true (word fit next) alive) is
    (λ e h. first_wrong (next w) ws rest (alive.1 w (fits_pass true (fit w) e)) h)

-- ---- the first word that is too large

pub record FirstLarge {A : Type 0} (f : Form A) (ws : List (List ℕ)) (limit : Limit) (rest : List (List ℕ)) : Type 0 where
  pub front : List (List ℕ)
  pub w : List ℕ
  pub others : List (List ℕ)
  pub split : ws ≡ front ++ w ∷ others
  pub rest_is : rest ≡ w ∷ others
  -- words within the limits begin so, up to that word
  pub more : List (List ℕ)
  pub value : A
  pub begins : read true f (front ++ more) ≡ Got value []
  -- with that word too, but for limits
  pub more_large : List (List ℕ)
  pub value_large : A
  pub goes_on : read false f (front ++ w ∷ more_large) ≡ Got value_large []
  -- whatever stands behind it, this word is over the limit
  pub over : (behind : List (List ℕ)) → read true f (front ++ w ∷ behind) ≡ Large limit (w ∷ behind)

over_large : {A : Type 0} (fit : List ℕ → Fit) (next : List ℕ → Form A) (w : List ℕ) (limit : Limit) (more : List (List ℕ))
    → fit w ≡ Over limit → read true (word fit next) (w ∷ more) ≡ Large limit (w ∷ more)
over_large fit next w limit more is = rw is refl

over_on : {A : Type 0} (fit : List ℕ → Fit) (next : List ℕ → Form A) (w : List ℕ) (limit : Limit) (more : List (List ℕ))
    → fit w ≡ Over limit → read false (word fit next) (w ∷ more) ≡ read false (next w) more
over_on fit next w limit more is = rw is refl

pub over_passes : (limit : Limit) (k : Fit) → k ≡ Over limit → passes false k
over_passes limit Fits is = tt
over_passes limit (Over other) is = tt
over_passes limit Unfit is = absurd cc

large_by : {A : Type 0} (fit : List ℕ → Fit) (next : List ℕ → Form A) (w : List ℕ) (ws : List (List ℕ)) (limit : Limit)
    (rest : List (List ℕ)) (k : Fit) → fit w ≡ k → Filled true (word fit next) → IsAlive false (word fit next) →
    by_fit true k (w ∷ ws) (read true (next w) ws) ≡ Large limit rest
    → (fit w ≡ Fits → read true (next w) ws ≡ Large limit rest → FirstLarge (next w) ws limit rest)
    → FirstLarge (word fit next) (w ∷ ws) limit rest
large_by fit next w ws limit rest Fits e some loose is more =
    let f = more e is in
    record {
      front = w ∷ f.front;
      w = f.w;
      others = f.others;
      split = ap (λ (vs : List (List ℕ)). w ∷ vs) f.split;
      rest_is = f.rest_is;
      more = f.more;
      value = f.value;
      begins = read_on true fit next w (f.front ++ f.more) e ∙ f.begins;
      more_large = f.more_large;
      value_large = f.value_large;
      goes_on = read_on false fit next w (f.front ++ f.w ∷ f.more_large) e ∙ f.goes_on;
      over = λ behind. read_on true fit next w (f.front ++ f.w ∷ behind) e ∙ f.over behind;
    }
large_by fit next w ws limit rest (Over over) e some loose is more =
    let same = large_same over limit (w ∷ ws) rest is in
    let e' : fit w ≡ Over limit = e ∙ ap (λ (l : Limit). Over l) same.0 in
    let behind = filled false (next w) (loose.1 w (over_passes limit (fit w) e')) in
    record {
      front = [];
      w = w;
      others = ws;
      split = refl;
      rest_is = sym same.1;
      more = some.words;
      value = some.value;
      begins = some.reads;
      more_large = behind.words;
      value_large = behind.value;
      goes_on = over_on fit next w limit behind.words e' ∙ behind.reads;
      over = λ vs. over_large fit next w limit vs e';
    }
large_by fit next w ws limit rest Unfit e some loose is more = wrong_large limit (w ∷ ws) rest is

pub first_large : {A : Type 0} (f : Form A) (ws : List (List ℕ)) (limit : Limit) (rest : List (List ℕ)) → IsAlive true f → IsAlive false f
    → read true f ws ≡ Large limit rest → FirstLarge f ws limit rest
first_large (done value) ws limit rest alive loose is = got_large value limit ws rest is
first_large (word fit next) [] limit rest alive loose is = wrong_large limit [] rest is
first_large (word fit next) (w ∷ ws) limit rest alive loose is =
    large_by fit next w ws limit rest (fit w) refl (filled true (word fit next) alive) loose is
    (λ e h. first_large (next w) ws limit rest (alive.1 w (fits_pass true (fit w) e)) (loose.1 w (fits_pass false (fit w) e)) h)

-- ---- one word

pub record TakesOne {A : Type 0} (limited : Bool) (fit : List ℕ → Fit) (next : List ℕ → Form A) (ws : List (List ℕ)) (value : A)
    (rest : List (List ℕ)) : Type 0 where
  pub w : List ℕ
  pub others : List (List ℕ)
  pub split : ws ≡ w ∷ others
  pub passed : passes limited (fit w)
  pub reads : read limited (next w) others ≡ Got value rest

one_by : {A : Type 0} (limited : Bool) (fit : List ℕ → Fit) (next : List ℕ → Form A) (w : List ℕ) (ws : List (List ℕ)) (value : A)
    (rest : List (List ℕ)) (k : Fit) → fit w ≡ k → by_fit limited k (w ∷ ws) (read limited (next w) ws) ≡ Got value rest
    → TakesOne limited fit next (w ∷ ws) value rest
one_by limited fit next w ws value rest Fits e is = record
    { w = w; others = ws; split = refl; passed = fits_pass limited (fit w) e; reads = is }
one_by true fit next w ws value rest (Over limit) e is = got_large value limit rest (w ∷ ws) (sym is)
one_by false fit next w ws value rest (Over limit) e is = record
    { w = w; others = ws; split = refl; passed = over_passes limit (fit w) e; reads = is }
one_by limited fit next w ws value rest Unfit e is = got_wrong value rest (w ∷ ws) (sym is)

pub one_word : {A : Type 0} (limited : Bool) (fit : List ℕ → Fit) (next : List ℕ → Form A) (ws : List (List ℕ)) (value : A)
    (rest : List (List ℕ)) → read limited (word fit next) ws ≡ Got value rest → TakesOne limited fit next ws value rest
one_word limited fit next [] value rest is = got_wrong value rest [] (sym is)
one_word limited fit next (w ∷ ws) value rest is = one_by limited fit next w ws value rest (fit w) refl is

pub pass_word : {A : Type 0} (limited : Bool) (fit : List ℕ → Fit) (next : List ℕ → Form A) (w : List ℕ) (ws : List (List ℕ))
    → passes limited (fit w) → read limited (word fit next) (w ∷ ws) ≡ read limited (next w) ws
pass_word limited fit next w ws p = by_passing limited (fit w) (w ∷ ws) (read limited (next w) ws) p
