-- histories that grow: their runs and lines, and that their commands find memory
use Rattle.std.proofs.Common.{◌≡◌, ◌≤◌, arith, ℕ, List, [], ◌∷◌, ◌++◌, Option, Some, None, refl, sym, ap, ◌∙◌, append_assoc}
use Rattle.std.proofs.lemmas.List.{append-nil}
use Rattle.tect_ids.specs.declared.ids.Counts.{Counts}
use Rattle.tect_ids.specs.declared.ids.OpId.{OpId}
use Rattle.tect_ids.specs.declared.command.Command.{Command}
use Rattle.store_rules.specs.declared.any.AnyReq.{AnyReq}
use Rattle.store_rules.specs.declared.any.AnyReply.{AnyReply}
use Rattle.program_forms.specs.declared.heard.Heard.{Heard}
use Rattle.program_forms.specs.Kinds.{Programs}
use Rattle.world_runs.specs.declared.event.Event.{Event}
use Rattle.world_runs.specs.declared.event.Event.TheVariants.{Own, Dumped}
use Rattle.world_runs.specs.declared.event.Happening.{Happening}
use Rattle.world_runs.specs.declared.event.Happening.TheVariants.{Began, NotBegun, Acted, Ended, Stopped, Failed}
use Rattle.whole_runs.proofs.Actors.{changed}
use Rattle.world_runs.specs.Actors.{Actor, Running, OwnMay, own_after, went_on, ended}
use Rattle.world_runs.specs.Moments.{May, WorldState, after, after_all, RunFrom}
use Rattle.world_runs.specs.Follows.{IsActOf, IsEndOf, IsBeginOf, AllFindMemory}
use Rattle.world_runs.specs.Report.{report_after, lines_at}

module _ {S : Type 0} (P : Programs S) where
  pub run-front : (m : WorldState S) (es fs : List Event) → RunFrom P m (es ++ fs) → RunFrom P m es
  run-front m [] fs r = tt
  run-front m (e ∷ es) fs r = (r.0, run-front (after P m e) es fs r.1)

  pub run-rest : (m : WorldState S) (es fs : List Event) → RunFrom P m (es ++ fs) → RunFrom P (after_all P m es) fs
  run-rest m [] fs r = r
  run-rest m (e ∷ es) fs r = run-rest (after P m e) es fs r.1

  pub run-append : (m : WorldState S) (es fs : List Event) → RunFrom P m es → RunFrom P (after_all P m es) fs → RunFrom P m (es ++ fs)
  run-append m [] fs r q = q
  run-append m (e ∷ es) fs r q = (r.0, run-append (after P m e) es fs r.1 q)

pub report-append : (clients : List (List ℕ)) (before es fs : List Event)
    → report_after clients before (es ++ fs) ≡ report_after clients before es ++ report_after clients (before ++ es) fs
report-append clients before [] fs = ap (λ l. report_after clients l fs) (sym (append-nil before))
report-append clients before (e ∷ es) fs =
    ap (λ l. lines_at clients before e ++ l) (report-append clients (before ++ e ∷ []) es fs)
    ∙ sym (append_assoc (lines_at clients before e) (report_after clients (before ++ e ∷ []) es)
    (report_after clients ((before ++ e ∷ []) ++ es) fs))
    ∙ ap (λ l. report_after clients before (e ∷ es) ++ report_after clients l fs) (append_assoc before (e ∷ []) es)

-- ---- memory

pub find_memory-front : (es fs : List Event) → AllFindMemory (es ++ fs) → AllFindMemory es
find_memory-front [] fs all = tt
find_memory-front (e ∷ es) fs all = (all.0, find_memory-front es fs all.1)

pub find_memory-rest : (es fs : List Event) → AllFindMemory (es ++ fs) → AllFindMemory fs
find_memory-rest [] fs all = all
find_memory-rest (e ∷ es) fs all = find_memory-rest es fs all.1

pub find_memory-append : (es fs : List Event) → AllFindMemory es → AllFindMemory fs → AllFindMemory (es ++ fs)
find_memory-append [] fs all more = more
find_memory-append (e ∷ es) fs all more = (all.0, find_memory-append es fs all.1 more)

-- ---- what an event is

-- a transaction
pub record IsActed (op : OpId) (e : Event) : Type 0 where
  pub req : AnyReq
  pub reply : AnyReply
  pub heard : Heard
  pub is : e ≡ Own op (Acted req reply heard)

pub act_is : (op : OpId) (e : Event) → IsActOf op e → IsActed op e
act_is op (Own o (Acted q x h)) is = record { req = q; reply = x; heard = h; is = ap (λ (z : OpId). Own z (Acted q x h)) is.0 }
act_is op (Own o (Began c)) is = absurd is.1
act_is op (Own o (NotBegun c)) is = absurd is.1
act_is op (Own o (Ended a)) is = absurd is.1
act_is op (Own o Stopped) is = absurd is.1
act_is op (Own o (Failed a)) is = absurd is.1
act_is op Dumped is = absurd is

-- no transaction is an end, and neither is a begin
pub act_no_end : (op o : OpId) (e : Event) → IsActOf op e → IsEndOf o e → ⊥
act_no_end op o (Own u (Acted q x h)) act end = end.1
act_no_end op o (Own u (Began c)) act end = act.1
act_no_end op o (Own u (NotBegun c)) act end = act.1
act_no_end op o (Own u (Ended a)) act end = act.1
act_no_end op o (Own u Stopped) act end = act.1
act_no_end op o (Own u (Failed a)) act end = act.1
act_no_end op o Dumped act end = act

pub end_no_begin : (op o : OpId) (c : Command) (e : Event) → IsEndOf op e → IsBeginOf o c e → ⊥
end_no_begin op o c (Own u (Ended a)) end begins = begins.1
end_no_begin op o c (Own u (Failed a)) end begins = begins.1
end_no_begin op o c (Own u (Began d)) end begins = end.1
end_no_begin op o c (Own u (NotBegun d)) end begins = end.1
end_no_begin op o c (Own u (Acted q x h)) end begins = end.1
end_no_begin op o c (Own u Stopped) end begins = end.1
end_no_begin op o c Dumped end begins = end

-- an end is of one op
pub end_of_one : (op o : OpId) (e : Event) → IsEndOf op e → IsEndOf o e → o ≡ op
end_of_one op o (Own u h) one other = sym other.0 ∙ one.0
end_of_one op o Dumped one other = absurd one

-- ---- numbers

module _ {S : Type 0} (P : Programs S) where
  heard_number : (c : Counts) (s : Actor S) (o : Option (Running S)) (q : AnyReq) (x : AnyReply) (h : Heard)
      → (went_on P c s o q x h).number ≡ s.number
  heard_number c s None q x h = refl
  heard_number c s (Some r) q x h = refl

  ended_number : (c : Counts) (s : Actor S) (o : Option (Running S)) → (ended P c s o).number ≡ s.number
  ended_number c s None = refl
  ended_number c s (Some r) = refl

  own_grows : (c : Counts) (s : Actor S) (op : OpId) (h : Happening) → OwnMay P c s op h → s.number ≤ (own_after P c s op h).number
  own_grows c s op (Began k) may = omega (arith, (may.0).next)
  own_grows c s op (NotBegun k) may = omega (arith, (may.0).next)
  own_grows c s op (Acted q x h) may = rw (heard_number c s s.running q x h) (omega arith)
  own_grows c s op (Ended a) may = rw (ended_number c s s.running) (omega arith)
  own_grows c s op Stopped may = omega arith
  own_grows c s op (Failed a) may = rw (ended_number c s s.running) (omega arith)

  -- numbers never fall
  pub numbers_grow : (m : WorldState S) (e : Event) → May P m e → (a : ℕ) → (m.actors a).number ≤ ((after P m e).actors a).number
  numbers_grow m (Own op h) may a =
      changed (λ (s : Actor S). (m.actors a).number ≤ s.number) m.actors op.actor (own_after P m.counts (m.actors op.actor) op h) a
      (λ e. rw e (own_grows m.counts (m.actors op.actor) op h may.0)) (λ d. omega arith)
  numbers_grow m Dumped may a = omega arith
