-- what an actor's own events show is told by its own events alone
use Rattle.std.proofs.Common.{◌≡◌, inl, inr, ℕ, ◌+◌, Bool, true, false, if◌then◌else◌, List, [], ◌∷◌, ◌++◌, refl, sym, ap, ◌∙◌, subst}
use Rattle.std.proofs.Common.{append_assoc, eqb, ◌&&◌}
use Rattle.std.proofs.lemmas.List.{append-nil}
use Rattle.std.proofs.lemmas.List.Sums.{sum_by-append}
use Rattle.tect_ids.specs.declared.answer.Answer.{Answer}
use Rattle.tect_ids.specs.declared.ids.OpId.{OpId}
use Rattle.tect_ids.specs.declared.script.ReportLine.{ReportLine}
use Rattle.tect_ids.specs.declared.script.ReportLine.TheVariants as report_lines
use Rattle.tect_ids.specs.Keys.{op_eq}
use Rattle.tect_ids.proofs.KeyTests.{op_eq_cases}
use Rattle.world_runs.specs.declared.event.Event.{Event}
use Rattle.world_runs.specs.declared.event.Event.TheVariants.{Own, Dumped}
use Rattle.world_runs.specs.declared.event.Happening.TheVariants.{Began, NotBegun, Acted, Ended, Stopped, Failed}
use Rattle.world_runs.specs.Races.{is_own, own_lines}
use Rattle.world_runs.specs.Report.{answer_line, answer_lines, client_name, is_act, is_act_of, transactions}
use Rattle.world_runs.specs.Events.{own}
use Rattle.world_runs.proofs.Actors.{one_number, own-append, same_number}
use Rattle.whole_runs.proofs.Limits.{own_sum}

-- ---- transactions

abbrev act_count : OpId → Event → ℕ
act_count op e = if is_act_of op e then 1 else 0

pub transactions-append : (es fs : List Event) (op : OpId) → transactions (es ++ fs) op ≡ transactions es op + transactions fs op
transactions-append es fs op = sum_by-append (act_count op) es fs

same_actor : (op other : OpId) → eqb other.actor op.actor ≡ false → op_eq other op ≡ false
same_actor op other h = elim (op_eq_cases other op) [
  | inl is ↦ (let same : eqb other.actor op.actor ≡ true = ap (λ (o : OpId). eqb o.actor op.actor) is.1 ∙ same_number op.actor in cc)
  | inr is ↦ is.0
]

other_act : (op : OpId) (e : Event) → is_own op.actor e ≡ false → act_count op e ≡ 0
other_act op (Own other h) is = ap (λ b. if b && is_act h then 1 else 0) (same_actor op other is)
other_act op Dumped is = refl

-- an op's transactions are its actor's own
pub transactions_own : (es : List Event) (op : OpId) → transactions (own op.actor es) op ≡ transactions es op
transactions_own es op = own_sum op.actor (act_count op) (other_act op) es

-- ---- lines

line_own : (clients : List (List ℕ)) (before : List Event) (actor : ℕ) (op : OpId) (a : Answer) → eqb op.actor actor ≡ true
    → answer_line clients (own actor before) op a ≡ answer_line clients before op a
line_own clients before actor op a h =
    let is : op.actor ≡ actor = one_number op.actor actor h in
    let same : transactions (own actor before) op ≡ transactions before op = subst
    (λ (n : ℕ). transactions (own n before) op ≡ transactions before op) is (transactions_own before op) in
    ap (λ (n : ℕ). report_lines.Client (client_name clients op.actor) op.number n a) same

pub lines_own : (clients : List (List ℕ)) (before : List Event) (actor : ℕ) (e : Event) → is_own actor e ≡ true
    → answer_lines clients (own actor before) e ≡ answer_lines clients before e
lines_own clients before actor (Own op (Began c)) h = refl
lines_own clients before actor (Own op (NotBegun c)) h = refl
lines_own clients before actor (Own op (Acted q x heard)) h = refl
lines_own clients before actor (Own op (Ended a)) h = ap (λ l. l ∷ []) (line_own clients before actor op a h)
lines_own clients before actor (Own op Stopped) h = ap (λ l. l ∷ []) (line_own clients before actor op _ h)
lines_own clients before actor (Own op (Failed a)) h = ap (λ l. l ∷ []) (line_own clients before actor op a h)
lines_own clients before actor Dumped h = absurd cc

own_cases-shown : (clients : List (List ℕ)) (actor : ℕ) (before : List Event) (e : Event) (es : List Event) (b : Bool)
    → is_own actor e ≡ b
    → own_lines clients actor (own actor before ++ (if b then e ∷ [] else [])) (own actor es)
    ≡ own_lines clients actor (before ++ e ∷ []) es
    → own_lines clients actor (own actor before) (if b then e ∷ own actor es else own actor es)
    ≡ (if b then answer_lines clients before e else []) ++ own_lines clients actor (before ++ e ∷ []) es
own_cases-shown clients actor before e es true h rest =
    let here : (if is_own actor e then answer_lines clients (own actor before) e else []) ≡ answer_lines clients before e =
    ap (λ b. if b then answer_lines clients (own actor before) e else []) h ∙ lines_own clients before actor e h in
    ap (λ l. l ++ own_lines clients actor (own actor before ++ e ∷ []) (own actor es)) here ∙ ap
    (λ l. answer_lines clients before e ++ l) rest
own_cases-shown clients actor before e es false h rest = ap (λ b. own_lines clients actor b (own actor es))
    (sym (append-nil (own actor before))) ∙ rest

-- what an actor's own events show is told by its own events alone
pub own_lines_own : (clients : List (List ℕ)) (actor : ℕ) (before es : List Event)
    → own_lines clients actor (own actor before) (own actor es) ≡ own_lines clients actor before es
own_lines_own clients actor before [] = refl
own_lines_own clients actor before (e ∷ es) =
    let rest : own_lines clients actor (own actor (before ++ e ∷ [])) (own actor es) ≡ own_lines clients actor
    (before ++ e ∷ []) es = own_lines_own clients actor (before ++ e ∷ []) es in
    let more : own actor before ++ own actor (e ∷ []) ≡ own actor (before ++ e ∷ []) = sym (own-append actor before (e ∷ [])) in
    own_cases-shown clients actor before e es (is_own actor e) refl
    (ap (λ b. own_lines clients actor b (own actor es)) more ∙ rest)

pub own_lines-append : (clients : List (List ℕ)) (actor : ℕ) (before es fs : List Event)
    → own_lines clients actor before (es ++ fs)
    ≡ own_lines clients actor before es ++ own_lines clients actor (before ++ es) fs
own_lines-append clients actor before [] fs = ap (λ b. own_lines clients actor b fs) (sym (append-nil before))
own_lines-append clients actor before (e ∷ es) fs =
    let here : List ReportLine = if is_own actor e then answer_lines clients before e else [] in
    let rest = own_lines clients actor (before ++ e ∷ []) es in
    ap (λ l. here ++ l) (own_lines-append clients actor (before ++ e ∷ []) es fs)
    ∙ sym (append_assoc here rest (own_lines clients actor ((before ++ e ∷ []) ++ es) fs))
    ∙ ap (λ b. (here ++ rest) ++ own_lines clients actor b fs) (append_assoc before (e ∷ []) es)
