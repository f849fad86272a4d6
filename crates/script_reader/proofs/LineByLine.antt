-- Reading line after line.
use Rattle.std.proofs.Common.{◌≡◌, ℕ, ◌+◌, ◌≤◌, subst, true, false, List, [], ◌∷◌, ◌++◌, Option, Some, None, Result, Ok, Err, length, refl}
use Rattle.std.proofs.Common.{sym, ap, ◌∙◌, append_assoc, arith}
use Rattle.std.proofs.lemmas.List.{append-nil}
use Rattle.std.specs.Borrow.{Bor}
use Rattle.std.proofs.lemmas.Bool.{le-ltb}
use Rattle.std.specs.Map.{keys_of}
use Rattle.script_words.specs.Splitting.{parts, parts_behind, length_behind, IsFirstPart}
use Rattle.script_words.proofs.Parts.{parts_some}
use Rattle.tect_ids.specs.declared.ids.Counts.{Counts}
use Rattle.tect_ids.specs.declared.script.Line.{Line}
use Rattle.tect_ids.specs.declared.script.Plan.{Plan}
use Rattle.script_forms.specs.declared.faults.ScriptFault.{ScriptFault}
use Rattle.script_forms.specs.declared.faults.ScriptFault.TheVariants as faults
use Rattle.script_forms.specs.Clients.{Seen}
use Rattle.script_forms.specs.Reading.{add_line, go_on, ended_by, text_read, store_text_read, seen_behind, lines_read, plan_of, the_plan}
use Rattle.script_forms.specs.Reading.{behind_store, store_read, script_read}
use Rattle.script_reader.specs.GivesPlan.{GivesRead, EndsLine, ends_script}
use Rattle.script_laws.proofs.LineSteps.{IsLine, lines_step, store_step}

-- the lines that were read before, and what is still read
abbrev pub front : List Line → Result (List Line × Seen) ScriptFault → Result (List Line × Seen) ScriptFault
front before (Ok read) = Ok (before ++ read.0, read.1)
front before (Err fault) = Err fault

pub front_add : (before : List Line) (line : Line) (read : Result (List Line × Seen) ScriptFault)
    → front before (add_line (Some line) read) ≡ front (before ++ line ∷ []) read
front_add before line (Ok read) = ap (λ (ls : List Line). Ok (ls, read.1)) (sym (append_assoc before (line ∷ []) read.0))
front_add before line (Err fault) = refl

abbrev pub failed : (A : Type 0) → ScriptFault → Result A ScriptFault
failed A fault = Err fault

abbrev done : {A : Type 0} (E : Type 0) → A → Result A E
done E x = Ok x

gives_same : {A B : Type 0} (fault : ScriptFault) (x : Result A ScriptFault) (y : Result B ScriptFault) → GivesRead (failed A fault) x
    → (x ≡ Err fault → y ≡ Err fault) → GivesRead (failed B fault) y
gives_same faults.NoMemory x y gives go = tt
gives_same (faults.Bad line column) x y gives go = go gives
gives_same (faults.TooLarge what limit) x y gives go = go gives

module _ (counts : Counts) (whole : Result (List Line × Seen) ScriptFault) (before : List Line) (seen : Seen) (n : ℕ) (line : List ℕ)
    (more : List (List ℕ))
    (all : whole ≡ front before (lines_read counts seen n (line ∷ more))) (is_line : IsLine line more) where
  stepped : whole ≡ front before
      (go_on (text_read counts seen n line)
      (λ read. ended_by n line more (add_line read (lines_read counts (seen_behind seen read) (n + 1) more))))
  stepped = all ∙ ap (λ r. front before r) (lines_step counts seen n line more is_line)

  -- the line is wrong
  pub text_wrong : (fault : ScriptFault) → GivesRead (failed (Option Line) fault) (text_read counts seen n line)
      → GivesRead (failed Plan fault) (plan_of counts whole)
  text_wrong fault gives = gives_same fault (text_read counts seen n line) (plan_of counts whole) gives
      (λ is. ap (λ r. plan_of counts r) stepped ∙ rw is refl)

  -- its line feed is missing
  pub feed_missing : (read : Option Line) → text_read counts seen n line ≡ Ok read → more ≡ []
      → plan_of counts whole ≡ Err (faults.Bad n (length line + 1))
  feed_missing read is none = ap (λ r. plan_of counts r) stepped ∙ rw (is, none) refl

  -- it is right
  pub text_right : (read : Option Line) (part : List ℕ) (others : List (List ℕ)) → text_read counts seen n line ≡ Ok read → more ≡ part
      ∷ others →
      whole ≡ front before (add_line read (lines_read counts (seen_behind seen read) (n + 1) more))
  text_right read part others is some = stepped ∙ rw (is, some) refl

pub lines_end : (counts : Counts) (whole : Result (List Line × Seen) ScriptFault) (before : List Line) (seen : Seen) (n : ℕ) →
    whole ≡ front before (lines_read counts seen n ([] ∷ [])) → plan_of counts whole ≡ Ok (the_plan counts (keys_of seen) before)
lines_end counts whole before seen n all = ap (λ r. plan_of counts r) all ∙ ap (λ (ls : List Line). Ok (the_plan counts (keys_of seen) ls))
    (append-nil before)

module _ (whole : Result Plan ScriptFault) (n : ℕ) (line : List ℕ) (more : List (List ℕ)) (all : whole ≡ store_read n (line ∷ more))
    (is_line : IsLine line more) where
  pub store_wrong : (fault : ScriptFault) → GivesRead (failed (Option Counts) fault) (store_text_read n line)
      → GivesRead (failed Plan fault) whole
  store_wrong fault gives = gives_same fault (store_text_read n line) whole gives (λ is. all ∙ store_step n line more is_line ∙ rw is refl)

  pub store_feed_missing : (read : Option Counts) → store_text_read n line ≡ Ok read → more ≡ []
      → whole ≡ Err (faults.Bad n (length line + 1))
  store_feed_missing read is none = all ∙ store_step n line more is_line ∙ rw (is, none) refl

  pub store_right : (read : Option Counts) (part : List ℕ) (others : List (List ℕ)) → store_text_read n line ≡ Ok read → more ≡ part
      ∷ others →
      whole ≡ behind_store read (store_read (n + 1) more) (λ counts. plan_of counts (lines_read counts [] (n + 1) more))
  store_right read part others is some = all ∙ store_step n line more is_line ∙ rw (is, some) refl

-- ---- by what the code finds behind a line

pub is_line : (line : List ℕ) (more : Option (Bor (List ℕ))) → ends_script line more ≡ false → IsLine line (parts_behind 10 more)
is_line [] None miss = absurd (let h : true ≡ false = miss in cc)
is_line (b ∷ line) None miss = tt
is_line [] (Some rest) miss = let some = parts_some 10 rest.now in subst (λ (ps : List (List ℕ)). IsLine [] ps) (sym some.2) tt
is_line (b ∷ line) (Some rest) miss = tt

ok_same : (x y : Bor (List ℕ)) → done ScriptFault x ≡ Ok y → x ≡ y
ok_same x y e = cc

ends_some : (n : ℕ) (line : List ℕ) (more : Option (Bor (List ℕ))) (rest : Bor (List ℕ)) → EndsLine n line more (Ok rest) → more ≡ Some rest
ends_some n line (Some more) rest ends = ap (λ (m : Bor (List ℕ)). Some m) (sym (ok_same rest more ends))
ends_some n line None rest ends = absurd cc

ends_none : (n : ℕ) (line : List ℕ) (more : Option (Bor (List ℕ))) (fault : ScriptFault) → EndsLine n line more (Err fault) → (more ≡ None)
    × (fault ≡ faults.Bad n (length line + 1))
ends_none n line (Some more) fault ends = absurd cc
ends_none n line None fault ends = (refl, cc)

module _ (counts : Counts) (whole : Result (List Line × Seen) ScriptFault) (before : List Line) (seen : Seen) (n : ℕ) (line : List ℕ)
    (more : Option (Bor (List ℕ))) (read : Option Line)
    (all : whole ≡ front before (lines_read counts seen n (line ∷ parts_behind 10 more))) (not_last : ends_script line more ≡ false)
    (is : text_read counts seen n line ≡ Ok read) where
  pub feed_wrong : (fault : ScriptFault) → EndsLine n line more (Err fault) → GivesRead (failed Plan fault) (plan_of counts whole)
  feed_wrong fault ends =
      let none = ends_none n line more fault ends in
      let nothing : parts_behind 10 more ≡ [] = ap (λ (m : Option (Bor (List ℕ))). parts_behind 10 m) none.0 in
      subst (λ (f : ScriptFault). GivesRead (failed Plan f) (plan_of counts whole)) (sym none.1)
      (feed_missing counts whole before seen n line (parts_behind 10 more) all (is_line line more not_last) read is nothing)

module _ (counts : Counts) (whole : Result (List Line × Seen) ScriptFault) (before : List Line) (seen : Seen) (n : ℕ) (line : List ℕ)
    (more : Option (Bor (List ℕ))) (rest : Bor (List ℕ)) (read : Option Line)
    (all : whole ≡ front before (lines_read counts seen n (line ∷ parts_behind 10 more))) (not_last : ends_script line more ≡ false)
    (is : text_read counts seen n line ≡ Ok read) (ends : EndsLine n line more (Ok rest)) where
  next_lines : whole ≡ front before (add_line read (lines_read counts (seen_behind seen read) (n + 1) (parts 10 rest.now)))
  next_lines =
      let some = ends_some n line more rest ends in
      let first = parts_some 10 rest.now in
      let behind : parts_behind 10 more ≡ parts 10 rest.now = ap (λ (m : Option (Bor (List ℕ))). parts_behind 10 m) some in
      text_right counts whole before seen n line (parts_behind 10 more) all (is_line line more not_last) read first.0 first.1 is
      (behind ∙ first.2)
      ∙ ap (λ (ps : List (List ℕ)). front before (add_line read (lines_read counts (seen_behind seen read) (n + 1) ps))) behind

  pub pushed : (l : Line) (after : List Line) (seen_then : Seen) → read ≡ Some l → after ≡ before ++ l ∷ []
      → seen_then ≡ seen_behind seen read →
      whole ≡ front after (lines_read counts seen_then (n + 1) (parts 10 rest.now))
  pushed l after seen_then some after-is seen-is = rw (after-is, seen-is, some) ((rw some at next_lines) ∙ front_add before l _)

  pub skipped : (seen_then : Seen) → read ≡ None → seen_then ≡ seen_behind seen read
      → whole ≡ front before (lines_read counts seen_then (n + 1) (parts 10 rest.now))
  skipped seen_then none seen-is = rw (seen-is, none) (rw none at next_lines)

module _ (whole : Result Plan ScriptFault) (n : ℕ) (line : List ℕ) (more : Option (Bor (List ℕ))) (rest : Bor (List ℕ))
    (read : Option Counts)
    (all : whole ≡ store_read n (line ∷ parts_behind 10 more)) (not_last : ends_script line more ≡ false)
    (is : store_text_read n line ≡ Ok read) (ends : EndsLine n line more (Ok rest)) where
  pub next_store : whole ≡ behind_store read (store_read (n + 1) (parts 10 rest.now))
      (λ counts. plan_of counts (lines_read counts [] (n + 1) (parts 10 rest.now)))
  next_store =
      let some = ends_some n line more rest ends in
      let first = parts_some 10 rest.now in
      let behind : parts_behind 10 more ≡ parts 10 rest.now = ap (λ (m : Option (Bor (List ℕ))). parts_behind 10 m) some in
      store_right whole n line (parts_behind 10 more) all (is_line line more not_last) read first.0 first.1 is (behind ∙ first.2)
      ∙ ap (λ (ps : List (List ℕ)). behind_store read (store_read (n + 1) ps) (λ counts. plan_of counts (lines_read counts [] (n + 1) ps)))
      behind

pub script_small : (bytes : List ℕ) → length bytes ≤ 67108864 → script_read bytes ≡ store_read 1 (parts 10 bytes)
script_small bytes small = rw (le-ltb 67108864 (length bytes) small) refl

-- the bytes that are left
pub rest_smaller : (n : ℕ) (line : List ℕ) (more : Option (Bor (List ℕ))) (rest : Bor (List ℕ)) (bytes : List ℕ)
    → IsFirstPart 10 bytes line more → EndsLine n line more (Ok rest) → length rest.now + 1 ≤ length bytes
rest_smaller n line more rest bytes first ends =
    let some = ends_some n line more rest ends in
    let size : length bytes ≡ length line + length_behind (Some rest) = first.size ∙ ap
    (λ (m : Option (Bor (List ℕ))). length line + length_behind m) some in
    omega arith
