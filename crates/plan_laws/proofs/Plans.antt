-- A plan that is read can be played, and has few clients.
use Rattle.std.proofs.Common.{◌≡◌, ◌≢◌, ℕ, ◌+◌, ◌<◌, ◌≤◌, Bool, true, false, not, if◌then◌else◌, List, [], ◌∷◌, length, refl, sym, ap}
use Rattle.std.proofs.Common.{subst, ◌∙◌, arith}
use Rattle.std.specs.Prelude.{filter, nat_le, nat_lt, is_none, unwrap_or}
use Rattle.std.specs.List.{AllByRecursion, position_or_len}
use Rattle.std.specs.Map.{lookup, keys_of}
use Rattle.std.proofs.lemmas.List.{length-map}
use Rattle.std.proofs.lemmas.List.Filters.{length-filter_both}
use Rattle.std.proofs.lemmas.Map.Entries.{length-keys_of}
use Rattle.indexmap.specs.IndexMap.{insert_entry}
use Rattle.tect_ids.specs.declared.ids.Counts.{Counts}
use Rattle.tect_ids.specs.declared.command.Command.{Command}
use Rattle.tect_ids.specs.declared.command.Command.TheVariants as commands
use Rattle.tect_ids.specs.declared.script.Act.{Act}
use Rattle.tect_ids.specs.declared.script.Act.TheVariants as acts
use Rattle.tect_ids.specs.declared.script.Line.{Line}
use Rattle.tect_ids.specs.declared.script.Line.TheVariants as lines
use Rattle.tect_ids.specs.declared.script.Plan.{Plan}
use Rattle.tect_ids.specs.Places.{HasPlaces}
use Rattle.tect_ids.proofs.KeyTests.{num_eq_cases}
use Rattle.script_forms.specs.declared.clients.ClientState.{ClientState as ReadState}
use Rattle.script_forms.specs.declared.clients.ClientState.TheVariants as states
use Rattle.script_forms.specs.LineText.{command_words, act_words, line_text}
use Rattle.script_forms.specs.LineForms.{IsCommand, IsAct, AreCounts}
use Rattle.script_forms.specs.Clients.{Seen, same_name, state_of, goes_on, takes_word, state_after, client_number, is_one_too_many}
use Rattle.script_forms.specs.Reading.{out_of_state}
use Rattle.script_forms.specs.Spelling.{AreLines, seen_of, is_told, plan_lines, Spells}
use Rattle.program_rules.specs.Served.{is_served, programs}
use Rattle.whole_runs.specs.ClientStates.{ClientState, Idle, Busy, Gone, TakesAct, state_left_at, ClientStates, all_idle, with_state}
use Rattle.whole_runs.specs.ClientStates.{FitStatesFrom}
use Rattle.whole_runs.specs.Playable.{IsBounded, IsWithin, IsPlayable}

-- ---- commands

serves : (counts : Counts) (c : Command) → IsCommand counts c → is_served c ≡ true
serves counts (commands.Look p) is = refl
serves counts (commands.List p) is = refl
serves counts (commands.Create p) is = refl
serves counts (commands.Mkdir p) is = refl
serves counts (commands.Delete p) is = refl
serves counts (commands.Rename p to) is = refl
serves counts (commands.Move p to) is = absurd (grind (arith, is.0))
serves counts (commands.Rmdir p) is = absurd (grind (arith, is.0))
serves counts (commands.Drop p) is = absurd (grind (arith, is.0))
serves counts (commands.Seal p) is = refl
serves counts (commands.Open p) is = refl
serves counts (commands.Append p bytes) is = refl
serves counts (commands.Blocks p) is = refl
serves counts (commands.Read p) is = refl
serves counts (commands.Sweep layer index) is = absurd (grind (arith, is.0))
serves counts (commands.Repair disk index) is = absurd (grind (arith, is.0))
serves counts commands.SweepAll is = absurd is
serves counts (commands.Lose disk) is = absurd is

bounded : (counts : Counts) (act : Act) → IsAct counts act → IsBounded act
bounded counts (acts.Do c) is = tt
bounded counts (acts.Begin c) is = tt
bounded counts (acts.Step n) is = is.0
bounded counts acts.Run is = tt
bounded counts acts.Stop is = tt

-- ---- the states of clients, by their numbers

abbrev turn_of : ReadState → ClientState
turn_of states.Idle = Idle
turn_of states.Busy = Busy
turn_of states.Gone = Gone

-- the turns of actors from a number on are the states of these clients, and idle behind them
abbrev Agree : ClientStates → ℕ → Seen → Type 0
Agree turns n [] = (a : ℕ) → n < a → turns a ≡ Idle
Agree turns n (e ∷ seen) = (turns (n + 1) ≡ turn_of e.1) × Agree turns (n + 1) seen

with_own : (turns : ClientStates) (a : ℕ) (t : ClientState) → with_state turns a t a ≡ t
with_own turns a t = grind (arith, num_eq_cases a a)

with_other : (turns : ClientStates) (a : ℕ) (t : ClientState) (b : ℕ) → b ≢ a → with_state turns a t b ≡ turns b
with_other turns a t b differs = grind (arith, num_eq_cases b a, differs)

agree_below : (turns : ClientStates) (a : ℕ) (t : ClientState) (n : ℕ) (seen : Seen) → a ≤ n → Agree turns n seen
    → Agree (with_state turns a t) n seen
agree_below turns a t n [] le agree = λ b lt. with_other turns a t b (λ e. omega (arith, e, le, lt)) ∙ agree b lt
agree_below turns a t n (e ∷ seen) le agree =
    (with_other turns a t (n + 1) (λ h. omega (arith, h, le)) ∙ agree.0, agree_below turns a t (n + 1) seen (omega (arith, le)) agree.1)

module _ (eq : List ℕ → List ℕ → Bool) (name : List ℕ) where
  abbrev place : Seen → ℕ
  place seen = position_or_len (eq name) (keys_of seen)

  agree_at : (turns : ClientStates) (n : ℕ) (seen : Seen) → Agree turns n seen
      → turns (n + (place seen + 1)) ≡ turn_of (unwrap_or (lookup (eq name) seen) states.Idle)
  agree_at turns n [] agree = agree (n + 1) (omega arith)
  agree_at turns n (e ∷ seen) agree = by (agree_at turns (n + 1) seen agree.1) (eq name e.0) refl
    where
      by : turns (n + 1 + (place seen + 1)) ≡ turn_of (unwrap_or (lookup (eq name) seen) states.Idle) → (b : Bool) → eq name e.0 ≡ b
          → turns (n + (place (e ∷ seen) + 1)) ≡ turn_of (unwrap_or (lookup (eq name) (e ∷ seen)) states.Idle)
      by others true h = rw h agree.0
      by others false h = rw h (ap turns (omega arith) ∙ others)

  agree_set : (turns : ClientStates) (n : ℕ) (seen : Seen) (st : ReadState) → Agree turns n seen
      → Agree (with_state turns (n + (place seen + 1)) (turn_of st)) n (insert_entry eq seen name st)
  agree_set turns n [] st agree = (
    with_own turns (n + 1) (turn_of st),
    λ a lt. with_other turns (n + 1) (turn_of st) a (λ e. omega (arith, e, lt)) ∙ agree a
        (omega (arith, lt)),
  )
  agree_set turns n (e ∷ seen) st agree = by (agree_set turns (n + 1) seen st agree.1) (eq name e.0) refl
    where
      by : Agree (with_state turns (n + 1 + (place seen + 1)) (turn_of st)) (n + 1) (insert_entry eq seen name st) → (b : Bool)
          → eq name e.0 ≡ b → Agree (with_state turns (n + (place (e ∷ seen) + 1)) (turn_of st)) n (insert_entry eq (e ∷ seen) name st)
      by others true h = rw h
          (with_own turns (n + 1) (turn_of st), agree_below turns (n + 1) (turn_of st) (n + 1) seen (omega arith) agree.1)
      by others false h =
          let behind : n + 1 + (place seen + 1) ≡ n + (1 + place seen + 1) = omega arith in
          rw h (
            with_other turns (n + (1 + place seen + 1)) (turn_of st) (n + 1) (λ e. omega (arith, e)) ∙ agree.0,
            subst (λ (a : ℕ). Agree (with_state turns a (turn_of st)) (n + 1) (insert_entry eq seen name st)) behind others,
          )

  place_le : (seen : Seen) → place seen ≤ length seen
  place_le [] = omega arith
  place_le (e ∷ seen) = by (place_le seen) (eq name e.0) refl
    where
      by : place seen ≤ length seen → (b : Bool) → eq name e.0 ≡ b → place (e ∷ seen) ≤ length (e ∷ seen)
      by others true h = rw h (omega arith)
      by others false h = rw h (omega (arith, others))

  -- a client that is seen has its place among them, and stays there
  place_found : (seen : Seen) (st : ReadState) → is_none (lookup (eq name) seen) ≡ false → (place seen < length seen)
      × (length (insert_entry eq seen name st) ≡ length seen)
  place_found [] st some = absurd (grind (arith, some))
  place_found (e ∷ seen) st some = by (place_found seen st) (eq name e.0) refl
    where
      by : (is_none (lookup (eq name) seen) ≡ false → (place seen < length seen) × (length (insert_entry eq seen name st) ≡ length seen))
          → (b : Bool) → eq name e.0 ≡ b → (place (e ∷ seen) < length (e ∷ seen))
          × (length (insert_entry eq (e ∷ seen) name st) ≡ length (e ∷ seen))
      by others true h = rw h (omega arith, refl)
      by others false h =
          let rest = others (rw h at some) in
          rw h (omega (arith, rest.0), omega (arith, rest.1))

  grows : (seen : Seen) (st : ReadState) → (place seen < length (insert_entry eq seen name st))
      × (length seen ≤ length (insert_entry eq seen name st)) × (length (insert_entry eq seen name st) ≤ length seen + 1)
  grows [] st = (omega arith, omega arith, omega arith)
  grows (e ∷ seen) st = by (grows seen st) (eq name e.0) refl
    where
      by : (place seen < length (insert_entry eq seen name st)) × (length seen ≤ length (insert_entry eq seen name st))
          × (length (insert_entry eq seen name st) ≤ length seen + 1) → (b : Bool) → eq name e.0 ≡ b
          → (place (e ∷ seen) < length (insert_entry eq (e ∷ seen) name st))
          × (length (e ∷ seen) ≤ length (insert_entry eq (e ∷ seen) name st))
          × (length (insert_entry eq (e ∷ seen) name st) ≤ length (e ∷ seen) + 1)
      by rest true h = rw h (omega arith, omega arith, omega arith)
      by rest false h =
          rw h (omega (arith, rest.0), omega (arith, rest.1), omega (arith, rest.2))

-- one more of 64 clients
few_more : (seen : Seen) (name : List ℕ) (st : ReadState) → length seen ≤ 64 → is_one_too_many seen name ≡ false
    → (client_number seen name ≤ 64) × (length (insert_entry same_name seen name st) ≤ 64)
few_more seen name st few room = by (is_none (lookup (same_name name) seen)) refl
  where
    by : (b : Bool) → is_none (lookup (same_name name) seen) ≡ b → (client_number seen name ≤ 64)
        × (length (insert_entry same_name seen name st) ≤ 64)
    by true h =
        let less : length seen < 64 = room_left (nat_le 64 (length seen)) refl h in
        (omega (arith, less, place_le same_name name seen), omega (arith, less, (grows same_name name seen st).2))
      where
        room_left : (d : Bool) → nat_le 64 (length seen) ≡ d → is_none (lookup (same_name name) seen) ≡ true → length seen < 64
        room_left true e h = absurd (grind (arith, room, e, h))
        room_left false e h = grind (arith, e)
    by false h =
        let found = place_found same_name name seen st h in
        (omega (arith, few, found.0), omega (arith, few, found.1))

-- ---- the words of acts

abbrev IsPlain : List (List ℕ) → Type 0
IsPlain words = (w : List ℕ) × (ws : List (List ℕ)) × (words ≡ w ∷ ws) × (goes_on w ≡ false)

plain : (c : Command) → IsPlain (command_words c)
plain (commands.Look p) = (_, _, refl, refl)
plain (commands.List p) = (_, _, refl, refl)
plain (commands.Create p) = (_, _, refl, refl)
plain (commands.Mkdir p) = (_, _, refl, refl)
plain (commands.Delete p) = (_, _, refl, refl)
plain (commands.Rename p to) = (_, _, refl, refl)
plain (commands.Move p to) = (_, _, refl, refl)
plain (commands.Rmdir p) = (_, _, refl, refl)
plain (commands.Drop p) = (_, _, refl, refl)
plain (commands.Seal p) = (_, _, refl, refl)
plain (commands.Open p) = (_, _, refl, refl)
plain (commands.Append p bytes) = (_, _, refl, refl)
plain (commands.Blocks p) = (_, _, refl, refl)
plain (commands.Read p) = (_, _, refl, refl)
plain (commands.Sweep layer index) = (_, _, refl, refl)
plain (commands.Repair disk index) = (_, _, refl, refl)
plain commands.SweepAll = (_, _, refl, refl)
plain (commands.Lose disk) = (_, _, refl, refl)

begins_now : (st : ReadState) (w : List ℕ) → goes_on w ≡ false → not (takes_word st w) ≡ false → turn_of st ≡ Idle
begins_now states.Idle w is takes = refl
begins_now states.Busy w is takes = absurd (grind (arith, is, takes))
begins_now states.Gone w is takes = absurd (grind (arith, takes))

goes_now : (st : ReadState) (w : List ℕ) → goes_on w ≡ true → not (takes_word st w) ≡ false → turn_of st ≡ Busy
goes_now states.Idle w is takes = absurd (grind (arith, is, takes))
goes_now states.Busy w is takes = refl
goes_now states.Gone w is takes = absurd (grind (arith, takes))

takes : (counts : Counts) (seen : Seen) (client : List ℕ) (act : Act) → IsAct counts act → out_of_state seen client (act_words act) ≡ false
    → TakesAct programs (turn_of (state_of seen client)) act
takes counts seen client (acts.Do c) is within =
    let p = plain c in
    let idle : turn_of (state_of seen client) ≡ Idle = begins_now (state_of seen client) p.0 p.3
    (sym (ap (out_of_state seen client) p.2) ∙ within) in
    subst (λ (t : ClientState). TakesAct programs t (acts.Do c)) (sym idle) (serves counts c is)
takes counts seen client (acts.Begin c) is within =
    let idle : turn_of (state_of seen client) ≡ Idle = begins_now (state_of seen client) _ refl within in
    subst (λ (t : ClientState). TakesAct programs t (acts.Begin c)) (sym idle) (serves counts c is)
takes counts seen client (acts.Step n) is within =
    let busy : turn_of (state_of seen client) ≡ Busy = goes_now (state_of seen client) _ refl within in
    subst (λ (t : ClientState). TakesAct programs t (acts.Step n)) (sym busy) tt
takes counts seen client acts.Run is within =
    let busy : turn_of (state_of seen client) ≡ Busy = goes_now (state_of seen client) _ refl within in
    subst (λ (t : ClientState). TakesAct programs t acts.Run) (sym busy) tt
takes counts seen client acts.Stop is within =
    let busy : turn_of (state_of seen client) ≡ Busy = goes_now (state_of seen client) _ refl within in
    subst (λ (t : ClientState). TakesAct programs t acts.Stop) (sym busy) tt

same_turn : (act : Act) → turn_of (state_after act) ≡ state_left_at act
same_turn (acts.Do c) = refl
same_turn (acts.Begin c) = refl
same_turn (acts.Step n) = refl
same_turn acts.Run = refl
same_turn acts.Stop = refl

-- ---- the lines

in_turn_from : (counts : Counts) (turns : ClientStates) (seen : Seen) (ls : List Line) → Agree turns 0 seen → length seen ≤ 64
    → AreLines counts seen ls → FitStatesFrom programs turns ls
in_turn_from counts turns seen [] agree few are = tt
in_turn_from counts turns seen (lines.Client client actor act ∷ ls) agree few are =
    let o = (are.0).in_order in
    let here : 0 + (place same_name client seen + 1) ≡ actor = omega (arith, o.2) in
    let more = few_more seen client (state_after act) few o.1 in
    let turn : turns actor ≡ turn_of (state_of seen client) = ap turns (sym here) ∙ agree_at same_name client turns 0 seen agree in
    let next : Agree (with_state turns actor (state_left_at act)) 0 (insert_entry same_name seen client (state_after act)) =
    subst (λ (t : ClientState). Agree (with_state turns actor t) 0 (insert_entry same_name seen client (state_after act))) (same_turn act)
    (subst (λ (a : ℕ). Agree (with_state turns a (turn_of (state_after act))) 0 (insert_entry same_name seen client (state_after act))) here
    (agree_set same_name client turns 0 seen (state_after act) agree)) in (
      omega (arith, o.2),
      omega (arith, o.2, more.0),
      subst (λ (t : ClientState). TakesAct programs t act) (sym turn) (takes counts seen client act ((are.0).form).1 o.0),
      in_turn_from counts (with_state turns actor (state_left_at act)) (insert_entry same_name seen client (state_after act)) ls next more.1
          are.1,
    )
in_turn_from counts turns seen (lines.Dump ∷ ls) agree few are = in_turn_from counts turns seen ls agree few are.1
in_turn_from counts turns seen (lines.Store other ∷ ls) agree few are = absurd (are.0).form
in_turn_from counts turns seen (lines.Sweep ∷ ls) agree few are = absurd (grind (arith, (are.0).form))
in_turn_from counts turns seen (lines.Lose disk ∷ ls) agree few are = absurd (grind (arith, ((are.0).form).0))

seen_grows : (seen : Seen) (ls : List Line) → length seen ≤ length (seen_of seen ls)
seen_grows seen [] = omega arith
seen_grows seen (lines.Client client actor act ∷ ls) =
    omega (arith, (grows same_name client seen (state_after act)).1, seen_grows (insert_entry same_name seen client (state_after act)) ls)
seen_grows seen (lines.Dump ∷ ls) = seen_grows seen ls
seen_grows seen (lines.Store other ∷ ls) = seen_grows seen ls
seen_grows seen (lines.Sweep ∷ ls) = seen_grows seen ls
seen_grows seen (lines.Lose disk ∷ ls) = seen_grows seen ls

within_from : (counts : Counts) (seen : Seen) (k : ℕ) (ls : List Line) → AreLines counts seen ls → length (seen_of seen ls) ≤ k
    → AllByRecursion (IsWithin k) ls
within_from counts seen k [] are le = tt
within_from counts seen k (lines.Client client actor act ∷ ls) are le =
    let after : Seen = insert_entry same_name seen client (state_after act) in (
      (
        omega (arith, (are.0).in_order.2, (grows same_name client seen (state_after act)).0, seen_grows after ls, le),
        bounded counts act ((are.0).form).1,
      ),
      within_from counts after k ls are.1 le,
    )
within_from counts seen k (lines.Dump ∷ ls) are le = (tt, within_from counts seen k ls are.1 le)
within_from counts seen k (lines.Store other ∷ ls) are le = (tt, within_from counts seen k ls are.1 le)
within_from counts seen k (lines.Sweep ∷ ls) are le = (tt, within_from counts seen k ls are.1 le)
within_from counts seen k (lines.Lose disk ∷ ls) are le = (tt, within_from counts seen k ls are.1 le)

-- ---- the plan

has_places : (counts : Counts) → AreCounts counts → HasPlaces counts
has_places counts are = record { names = are.names; files = are.files; blocks = are.blocks; disks = are.disks }

filter_le : {X : Type 0} (p : X → Bool) (xs : List X) → length (filter p xs) ≤ length xs
filter_le p xs = omega (arith, length-filter_both p (λ x. not (p x)) (λ x. refl) xs)

pub spelled_playable : (bytes : List ℕ) (plan : Plan) → Spells bytes plan → IsPlayable programs plan
spelled_playable bytes plan s =
    let is = s.plan_is in
    let told : length (filter is_told s.texts) ≡ length (plan_lines plan) = ap length s.told ∙ length-map (plan_lines plan) line_text in
    record {
      places = has_places plan.counts is.counts;
      in_turn = in_turn_from plan.counts all_idle [] plan.lines (λ a lt. refl) (omega arith) is.lines;
      few = omega (arith, told, filter_le is_told s.texts, s.few);
      within = within_from plan.counts [] (length plan.clients) plan.lines is.lines
          (omega (arith, ap length is.clients, length-keys_of (seen_of [] plan.lines)));
    }

-- ---- clients

few_seen : (counts : Counts) (seen : Seen) (ls : List Line) → length seen ≤ 64 → AreLines counts seen ls → length (seen_of seen ls) ≤ 64
few_seen counts seen [] few are = few
few_seen counts seen (lines.Client client actor act ∷ ls) few are =
    few_seen counts (insert_entry same_name seen client (state_after act)) ls
    (few_more seen client (state_after act) few ((are.0).in_order).1).1 are.1
few_seen counts seen (lines.Dump ∷ ls) few are = few_seen counts seen ls few are.1
few_seen counts seen (lines.Store other ∷ ls) few are = few_seen counts seen ls few are.1
few_seen counts seen (lines.Sweep ∷ ls) few are = few_seen counts seen ls few are.1
few_seen counts seen (lines.Lose disk ∷ ls) few are = few_seen counts seen ls few are.1

pub few_clients : (bytes : List ℕ) (plan : Plan) → Spells bytes plan → length plan.clients ≤ 64
few_clients bytes plan s =
    let is = s.plan_is in
    omega (arith, ap length is.clients, length-keys_of (seen_of [] plan.lines), few_seen plan.counts [] plan.lines (omega arith) is.lines)
