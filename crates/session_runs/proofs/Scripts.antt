-- the report of a run that follows a script of one client is the one that the tree alone gives
use Rattle.std.proofs.Common.{◌≡◌, ◌+◌, ℕ, eqb, true, Option, None, List, [], ◌∷◌, ◌++◌, refl, sym, ap, subst, ◌∙◌, arith}
use Rattle.std.specs.List.{AllByRecursion}
use Rattle.std.proofs.lemmas.List.{append-nil}
use Rattle.tect_ids.specs.declared.ids.Counts.{Counts}
use Rattle.tect_ids.specs.declared.ids.OpId.{OpId}
use Rattle.tect_ids.specs.declared.command.Command.{Command}
use Rattle.tect_ids.specs.declared.command.Command.TheVariants as commands
use Rattle.tect_ids.specs.declared.answer.Answer.{Answer}
use Rattle.tect_ids.specs.declared.script.Act.TheVariants as acts
use Rattle.tect_ids.specs.declared.script.ReportLine.TheVariants as lines
use Rattle.tect_ids.specs.Keys.{op_eq}
use Rattle.tect_ids.proofs.KeyTests.{op_eq_cases, num_eq_cases}
use Rattle.tect_ids.specs.Numbers.{root, object_number}
use Rattle.store_rules.specs.Names.{key_in}
use Rattle.program_forms.specs.Memories.{Memory}
use Rattle.tree_model.specs.Tree.{Tree, opening_tree}
use Rattle.world_runs.specs.declared.event.Event.{Event}
use Rattle.program_rules.specs.Served.{Program, begun, started, programs}
use Rattle.world_runs.specs.declared.event.Event.TheVariants.{Own, Dumped}
use Rattle.world_runs.specs.declared.event.Happening.TheVariants.{Began, NotBegun, Acted, Ended, Stopped, Failed}
use Rattle.world_runs.specs.Actors.{Actor, CanBegin, ended}
use Rattle.world_runs.specs.Moments.{WorldState, opening, after, after_all, RunFrom, IsWorldRun}
use Rattle.claim_words.specs.TreeSteps.{steps_after, tree_after}
use Rattle.world_runs.specs.Report.{transactions, lines_at, report, report_after, answer_line, client_name}
use Rattle.world_runs.specs.Follows.{Acts, IsEndOf, EndsAfter, BeginsAndEnds, DoesLine, Busy, none_busy, with_busy, FollowsFrom, Follows}
use Rattle.session_runs.specs.Session.{Played, played, played_line, IsPlayed, session_lines, session_script}
use Rattle.session_runs.specs.Session as session
use Rattle.session_runs.proofs.Tracked.{Tracks, opening_tracks, event_tracked, run_tracked}
use Rattle.telling_laws.proofs.Histories.{steps_after-append}
use Rattle.session_runs.proofs.Quiet.{Quiet, quiet_run}
use Rattle.script_runs.proofs.Histories.{run-front, run-rest, report-append, IsActed, act_is}
use Rattle.script_runs.proofs.Moves.{acts_move}
use Rattle.whole_runs.proofs.Actors.{after_all-append, changed_there}
use Rattle.whole_runs.proofs.OwnLines.{transactions-append}
use Rattle.session_runs.proofs.Standings.{ended_as}
use Rattle.session_runs.specs.Well.{NoneFails}
use Rattle.session_runs.proofs.Well.{none_fails-front, none_fails-rest, begin_is}
use Rattle.session_runs.proofs.Comes.{memory_of, StandsAt, Comes, Goes}
use Rattle.session_runs.proofs.Plays.{look_goes, create_goes}

-- ---- transactions alone

-- they make no line
acts_no_lines : (clients : List (List ℕ)) (before : List Event) (op : OpId) (n : ℕ) (es : List Event) → Acts op n es
    → report_after clients before es ≡ []
acts_no_lines clients before op n [] acts = refl
acts_no_lines clients before op n (e ∷ es) acts =
    let i : IsActed op e = act_is op e acts.0 in
    let none : lines_at clients before e ≡ [] = ap (λ (z : Event). lines_at clients before z) i.is in
    ap (λ l. l ++ report_after clients (before ++ e ∷ []) es) none ∙ acts_no_lines clients (before ++ e ∷ []) op (acts.1).0 es (acts.1).2

-- and they are so many
acts_count : (op : OpId) (n : ℕ) (es : List Event) → Acts op n es → transactions es op ≡ n
acts_count op n [] acts = sym acts
acts_count op n (e ∷ es) acts =
    let i : IsActed op e = act_is op e acts.0 in
    let itself : op_eq op op ≡ true = grind (arith, op_eq_cases op op) in
    let one : transactions (Own op (Acted i.req i.reply i.heard) ∷ []) op ≡ 1 = rw itself refl in
    let first : transactions (e ∷ []) op ≡ 1 = ap (λ (z : Event). transactions (z ∷ []) op) i.is ∙ one in
    let rest : transactions es op ≡ (acts.1).0 = acts_count op (acts.1).0 es (acts.1).2 in
    transactions-append (e ∷ []) es op ∙ omega (arith, first, rest, (acts.1).1)

-- ---- a command

-- as the tree plays it
command_goes : (m : WorldState Program) (t : Tree) (op : OpId) (c : Command) (own number : ℕ)
    → op ≡ record { actor = 1; number = number + 1 }
    → IsPlayed c → (counts : Counts) (k : Memory) → StandsAt m t op own (started counts k (begun c))
    → Goes m t op (played t own number c) (played t own number c).transactions
command_goes m t op (commands.Look (n ∷ [])) own number one is counts k st =
    subst (λ (o : OpId). Goes m t op (session.looked t o own (key_in root n)) 1) one (look_goes m t op own (key_in root n) st)
command_goes m t op (commands.Create (n ∷ [])) own number one is counts k st =
    subst (λ (o : OpId). Goes m t op (session.created t o own (key_in root n) record { 0 = object_number o.actor own })
    (session.created t o own (key_in root n) record { 0 = object_number o.actor own }).transactions) one
    (create_goes m t op own root n st)
command_goes m t op c own number one is counts k st = absurd is

-- between two commands: what stood in the history so far has no transaction of a later op
record Between (m : WorldState Program) (t : Tree) (before : List Event) (own number : ℕ) : Type 0 where
  tracks : Tracks m t
  quiet : Quiet m before
  memory : (m.actors 1).memory ≡ memory_of own
  count : (m.actors 1).number ≡ number

-- the events of a line
module _ (clients : List (List ℕ)) (m : WorldState Program) (t : Tree) (before : List Event) (own number : ℕ)
    (rests : Between m t before own number)
    (op : OpId) (c : Command) (one : op.actor ≡ 1) (is : IsPlayed c) (front : List Event) (n : ℕ) (a : Answer) (acts : Acts op n front)
    (run : RunFrom programs m (Own op (Began c) ∷ front ++ Own op (Ended a) ∷ [])) where
  -- what the tree plays
  abbrev p : Played
  p = played t own number c

  -- the command's events
  abbrev part : List Event
  part = Own op (Began c) ∷ front ++ Own op (Ended a) ∷ []

  -- the moment after it began
  abbrev mid : WorldState Program
  mid = after programs m (Own op (Began c))

  -- the history once it began
  abbrev begun_before : List Event
  begun_before = before ++ Own op (Began c) ∷ []

  can : CanBegin (m.actors op.actor) op
  can = ((run.0).0).0

  memory_now : (m.actors op.actor).memory ≡ memory_of own
  memory_now = rw one rests.memory

  number_now : op.number ≡ number + 1
  number_now = can.next ∙ rw one (ap (λ i. i + 1) rests.count)

  op_now : op ≡ record { actor = 1; number = number + 1 }
  op_now i = record { actor = one i; number = number_now i }

  same_actor : eqb op.actor op.actor ≡ true
  same_actor = grind (arith, num_eq_cases op.actor op.actor)

  stands : StandsAt mid t op own (started m.counts (m.actors op.actor).memory (begun c))
  stands = record {
    tracks = (event_tracked m t (Own op (Began c)) rests.tracks run.0).0;
    runs = rw same_actor refl;
    memory = rw same_actor memory_now;
  }

  comes : Comes mid t op front n a p p.transactions
  comes = command_goes mid t op c own number op_now is m.counts (m.actors op.actor).memory stands front n a acts run.1

  -- its line
  count_now : transactions (begun_before ++ front) op ≡ n
  count_now =
      let none : transactions before op ≡ 0 = rests.quiet op (omega (arith, can.next)) in
      let here : transactions front op ≡ n = acts_count op n front acts in
      let itself : op_eq op op ≡ true = grind (arith, op_eq_cases op op) in
      let began : transactions (Own op (Began c) ∷ []) op ≡ 0 = rw itself refl in
      transactions-append begun_before front op ∙ omega (arith, transactions-append before (Own op (Began c) ∷ []) op, none, here, began)

  line_now : answer_line clients (begun_before ++ front) op a ≡ played_line clients (number + 1) p
  line_now i = lines.Client (client_name clients (one i)) (number_now i) ((count_now ∙ comes.count) i) (comes.answer i)

  line : report_after clients before part ≡ played_line clients (number + 1) p ∷ []
  line = report-append clients begun_before front (Own op (Ended a) ∷ []) ∙ rw
      (acts_no_lines clients begun_before op n front acts, line_now) refl

  -- the moment after it
  tree_now : (h : List Event) → tree_after t (steps_after h part) ≡ p.tree
  tree_now h =
      let g : List Event = h ++ Own op (Began c) ∷ [] in
      ap (tree_after t) (steps_after-append g front (Own op (Ended a) ∷ []) ∙ append-nil (steps_after g front)) ∙ comes.tree g

  last : WorldState Program
  last = after_all programs mid front

  ends : after_all programs m part ≡ after programs last (Own op (Ended a))
  unfolding last
  ends = after_all-append programs mid front (Own op (Ended a) ∷ [])

  -- what the end makes of the actor
  after_end : (P : Actor Program → Type 0) → P (record (last.actors op.actor) { running = None })
      → P ((after programs last (Own op (Ended a))).actors op.actor)
  after_end P is = changed_there P last.actors op.actor (ended programs last.counts (last.actors op.actor) (last.actors op.actor).running)
      (subst (λ (z : Actor Program). P z) (sym (ended_as last.counts (last.actors op.actor))) is)

  memory_after : ((after_all programs m part).actors 1).memory ≡ memory_of p.serial
  unfolding last
  memory_after = ap (λ (z : WorldState Program). (z.actors 1).memory) ends ∙ subst
      (λ (i : ℕ). ((after programs last (Own op (Ended a))).actors i).memory ≡ memory_of p.serial) one
      (after_end (λ (z : Actor Program). z.memory ≡ memory_of p.serial) comes.memory)

  begun_number : (mid.actors op.actor).number ≡ number + 1
  begun_number = rw same_actor number_now

  count_after : ((after_all programs m part).actors 1).number ≡ number + 1
  unfolding last
  count_after = ap (λ (z : WorldState Program). (z.actors 1).number) ends ∙ subst
      (λ (i : ℕ). ((after programs last (Own op (Ended a))).actors i).number ≡ number + 1) one
      (after_end (λ (z : Actor Program). z.number ≡ number + 1) ((acts_move programs mid op n front acts).number ∙ begun_number))

  rests_after : Between (after_all programs m part) p.tree (before ++ part) p.serial (number + 1)
  rests_after = record {
    tracks = subst (λ (u : Tree). Tracks (after_all programs m part) u) (tree_now (rests.tracks).history)
        (run_tracked m t part rests.tracks run).0;
    quiet = quiet_run m t before part rests.tracks rests.quiet run;
    memory = memory_after;
    count = count_after;
  }

-- ---- a session

-- the lines of the commands are those of the tree, from each moment between two commands
abbrev LinesAgree : List (List ℕ) → List ℕ → List Command → Type 0
LinesAgree clients client cs =
    (m : WorldState Program) (t : Tree) (before es : List Event) (own number : ℕ) (busy : Busy) → Between m t before own number
    → busy 1 ≡ None
    → AllByRecursion IsPlayed cs
    → RunFrom programs m es → NoneFails es → FollowsFrom busy (session_script client cs) es
    → report_after clients before es ≡ session_lines clients t own number cs

module _ (clients : List (List ℕ)) (client : List ℕ) (c : Command) (cs : List Command)
    (others : LinesAgree clients client cs) (m : WorldState Program) (t : Tree) (before es : List Event) (own number : ℕ)
    (busy : Busy) (rests : Between m t before own number) (all : AllByRecursion IsPlayed (c ∷ cs)) (run : RunFrom programs m es)
    (none : NoneFails es) where
  -- the lines from here on are those of the tree
  abbrev Agrees : Type 0
  Agrees = report_after clients before es ≡ session_lines clients t own number (c ∷ cs)

  first_agrees : (op : OpId) (front rest : List Event) (n : ℕ) (a : Answer) (next : Option OpId) → op.actor ≡ 1 → Acts op n front
      → es ≡ (Own op (Began c) ∷ front ++ Own op (Ended a) ∷ []) ++ rest → next ≡ None
      → FollowsFrom (with_busy busy 1 next) (session_script client cs) rest → Agrees
  first_agrees op front rest n a next one acts parts free more =
      let part : List Event = Own op (Began c) ∷ front ++ Own op (Ended a) ∷ [] in
      let p : Played = played t own number c in
      let whole : RunFrom programs m (part ++ rest) = rw parts at run in
      let mine : RunFrom programs m part = run-front programs m part rest whole in
      let next_rests : Between (after_all programs m part) p.tree (before ++ part) p.serial (number + 1) =
      rests_after clients m t before own number rests op c one all.0 front n a acts mine in
      let tail : report_after clients (before ++ part) rest ≡ session_lines clients p.tree p.serial (number + 1) cs =
      others (after_all programs m part) p.tree (before ++ part) rest p.serial (number + 1) (with_busy busy 1 next) next_rests free all.1
      (run-rest programs m part rest whole) (none_fails-rest part rest (rw parts at none)) more in
      ap (report_after clients before) parts ∙ report-append clients before part rest ∙ rw
      (line clients m t before own number rests op c one all.0 front n a acts mine, tail) refl

  end_agrees : (op : OpId) (front rest : List Event) (n : ℕ) (end : Event) (next : Option OpId) → op.actor ≡ 1 → Acts op n front
      → IsEndOf op end → es ≡ (Own op (Began c) ∷ front ++ end ∷ []) ++ rest → next ≡ None
      → FollowsFrom (with_busy busy 1 next) (session_script client cs) rest → Agrees
  end_agrees op front rest n (Own o (Ended a)) next one acts is parts free more =
      first_agrees op front rest n a next one acts (rw is.0 at parts)
      free more
  end_agrees op front rest n (Own o (Failed a)) next one acts is parts free more =
      let fails : NoneFails (Own o (Failed a) ∷ []) = none_fails-rest (Own op (Began c) ∷ front) (Own o (Failed a) ∷ [])
      (none_fails-front (Own op (Began c) ∷ front ++ Own o (Failed a) ∷ []) rest (rw parts at none)) in
      absurd fails.0
  end_agrees op front rest n (Own o (Began d)) next one acts is parts free more = absurd is.1
  end_agrees op front rest n (Own o (NotBegun d)) next one acts is parts free more = absurd is.1
  end_agrees op front rest n (Own o (Acted q x h)) next one acts is parts free more = absurd is.1
  end_agrees op front rest n (Own o Stopped) next one acts is parts free more = absurd is.1
  end_agrees op front rest n Dumped next one acts is parts free more = absurd is

  line_agrees : (part rest : List Event) (next : Option OpId) → es ≡ part ++ rest → DoesLine 1 None (acts.Do c) part next
      → FollowsFrom (with_busy busy 1 next) (session_script client cs) rest → Agrees
  line_agrees part rest next parts d more =
      let b : BeginsAndEnds 1 c part = d.0 in
      let mine : NoneFails part = none_fails-front part rest (rw parts at none) in
      let fine : NoneFails (b.1 ∷ b.2) = rw b.4 at mine in
      let began : b.1 ≡ Own b.0 (Began c) = begin_is b.0 c b.1 b.5 fine.0 in
      let e : EndsAfter b.0 (b.6).0 b.2 = (b.6).1 in
      let whole : b.1 ∷ b.2 ≡ Own b.0 (Began c) ∷ e.0 ++ e.1 ∷ [] = λ i. began i ∷ (e.2) i in
      end_agrees b.0 e.0 rest (b.6).0 e.1 next b.3 e.3 e.4 (parts ∙ ap (λ l. l ++ rest) (b.4 ∙ whole)) d.1 more

lines_agree : (clients : List (List ℕ)) (client : List ℕ) (cs : List Command) → LinesAgree clients client cs
lines_agree clients client [] m t before es own number busy rests idle all run none follows = rw follows refl
lines_agree clients client (c ∷ cs) m t before es own number busy rests idle all run none follows =
    line_agrees clients client c cs (lines_agree clients client cs) m t before es own number busy rests all run none follows.0
    follows.1 follows.2 follows.3 (rw idle at follows.4) follows.5

opening_rests : (counts : Counts) → Between (opening counts) opening_tree [] 1 0
opening_rests counts = record { tracks = opening_tracks counts; quiet = λ op late. refl; memory = refl; count = refl }

pub session_reported : (counts : Counts) (clients : List (List ℕ)) (client : List ℕ) (cs : List Command) (history : List Event)
    → AllByRecursion IsPlayed cs
    → IsWorldRun programs counts history → NoneFails history → Follows (session_script client cs) history
    → report clients history ≡ session_lines clients opening_tree 1 0 cs
session_reported counts clients client cs history all run none follows =
    lines_agree clients client cs (opening counts) opening_tree [] history 1 0 none_busy (opening_rests counts) refl all run none
    follows
