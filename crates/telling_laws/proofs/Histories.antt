-- the tree's steps, the commands and the runs of histories that grow
use Rattle.std.proofs.Common.{◌≡◌, true, false, if◌then◌else◌, Option, Some, None, List, [], ◌∷◌, ◌++◌, refl, sym, ap, ◌∙◌, arith}
use Rattle.std.proofs.Common.{ℕ, append_assoc}
use Rattle.std.specs.FinMap.{empty}
use Rattle.std.proofs.lemmas.List.{append-nil}
use Rattle.tect_ids.specs.declared.ids.OpId.{OpId}
use Rattle.tect_ids.specs.Keys.{op_eq}
use Rattle.tect_ids.proofs.KeyTests.{op_eq_cases}
use Rattle.tree_model.specs.declared.step.TreeStep.{TreeStep}
use Rattle.tree_model.specs.declared.step.TreeReply.{TreeReply}
use Rattle.tree_model.specs.Tree.{Tree, tree_next}
use Rattle.program_forms.specs.Kinds.{Programs}
use Rattle.world_runs.specs.declared.event.Event.{Event}
use Rattle.world_runs.specs.declared.event.Event.TheVariants.{Own, Dumped}
use Rattle.world_runs.specs.declared.event.Happening.TheVariants.{Began, NotBegun, Acted, Ended, Stopped, Failed}
use Rattle.world_runs.specs.Moments.{WorldState, RunFrom, after, after_all}
use Rattle.program_forms.specs.Memories.{OpenedFiles, opened_by}
use Rattle.claim_words.specs.Commands.{content_in}
use Rattle.claim_words.specs.Opened.{learnt_by, opened_after, opened_in}
use Rattle.claim_words.specs.TreeSteps.{Told, told_as, told_of, steps_after, tree_steps, tree_step, says, tree_after, IsTreeRun}
use Rattle.claim_words.specs.Points.{of_op}
use Rattle.claim_words.specs.Headline.{begun_by, or_later, command_of}
use Rattle.telling_laws.specs.Telling.{is_of}

-- ---- the tree's steps

pub steps_after-append : (h es fs : List Event) → steps_after h (es ++ fs) ≡ steps_after h es ++ steps_after (h ++ es) fs
steps_after-append h [] fs = rw append-nil refl
steps_after-append h (e ∷ es) fs =
    ap (λ l. told_of h e ++ l) (steps_after-append (h ++ e ∷ []) es fs) ∙ sym
    (append_assoc (told_of h e) (steps_after (h ++ e ∷ []) es) (steps_after ((h ++ e ∷ []) ++ es) fs))
    ∙ ap (λ (l : List Event). (told_of h e ++ steps_after (h ++ e ∷ []) es) ++ steps_after l fs) (append_assoc h (e ∷ []) es)

pub steps_more : (h : List Event) (e : Event) → tree_steps (h ++ e ∷ []) ≡ tree_steps h ++ told_of h e
steps_more h e = steps_after-append [] h (e ∷ []) ∙ ap (λ l. tree_steps h ++ l) (append-nil (told_of h e))

pub tree_after-append : (t : Tree) (ss us : List Told) → tree_after t (ss ++ us) ≡ tree_after (tree_after t ss) us
tree_after-append t [] us = refl
tree_after-append t (s ∷ ss) us = tree_after-append (tree_next t s.op s.does s.says) ss us

pub tree_run-append : (t : Tree) (ss us : List Told) → IsTreeRun t ss → IsTreeRun (tree_after t ss) us → IsTreeRun t (ss ++ us)
tree_run-append t [] us r q = q
tree_run-append t (s ∷ ss) us r q = (r.0, tree_run-append (tree_next t s.op s.does s.says) ss us r.1 q)

pub tree_run-rest : (t : Tree) (ss us : List Told) → IsTreeRun t (ss ++ us) → IsTreeRun (tree_after t ss) us
tree_run-rest t [] us r = r
tree_run-rest t (s ∷ ss) us r = tree_run-rest (tree_next t s.op s.does s.says) ss us r.1

-- ---- the steps of one op

pub of_op-append : (op : OpId) (t u : List Told) → of_op op (t ++ u) ≡ of_op op t ++ of_op op u
of_op-append op [] u = refl
of_op-append op (s ∷ ss) u = elim (op_eq s.op op) as
    (λ b. (if b then s ∷ of_op op (ss ++ u) else of_op op (ss ++ u)) ≡ (if b then s ∷ of_op op ss else of_op op ss) ++ of_op op u) [
      | true ↦ ap (λ l. s ∷ l) (of_op-append op ss u)
      | false ↦ of_op-append op ss u
    ]

pub other_step : (op other : OpId) (o : Option TreeStep) (x : TreeReply) → op_eq other op ≡ false → of_op op (told_as other o x) ≡ []
other_step op other None x e = refl
other_step op other (Some s) x e = rw e refl

-- no step of an op is in another's event
pub others_told : (h : List Event) (op : OpId) (e : Event) → is_of op e ≡ false → of_op op (told_of h e) ≡ []
others_told h op (Own other (Acted q x how)) t = other_step op other (tree_step (content_in h) q x) (says x) t
others_told h op (Own other (Began c)) t = refl
others_told h op (Own other (NotBegun c)) t = refl
others_told h op (Own other (Ended a)) t = refl
others_told h op (Own other Stopped) t = refl
others_told h op (Own other (Failed a)) t = refl
others_told h op Dumped t = refl

-- so its steps are those before the event
pub others_steps : (h : List Event) (e : Event) (op : OpId) → is_of op e ≡ false
    → of_op op (tree_steps (h ++ e ∷ [])) ≡ of_op op (tree_steps h)
others_steps h e op t =
    ap (of_op op) (steps_more h e) ∙ of_op-append op (tree_steps h) (told_of h e)
    ∙ ap (λ (l : List Told). of_op op (tree_steps h) ++ l) (others_told h op e t) ∙ append-nil (of_op op (tree_steps h))

-- ---- the command of an op

pub others_begin : (op : OpId) (e : Event) → is_of op e ≡ false → begun_by e op ≡ None
others_begin op (Own other (Began c)) t = rw t refl
others_begin op (Own other (NotBegun c)) t = refl
others_begin op (Own other (Acted q x h)) t = refl
others_begin op (Own other (Ended a)) t = refl
others_begin op (Own other Stopped) t = refl
others_begin op (Own other (Failed a)) t = refl
others_begin op Dumped t = refl

pub command_more : (h : List Event) (e : Event) (op : OpId) → command_of (h ++ e ∷ []) op ≡ or_later (command_of h op) (begun_by e op)
command_more [] e op = elim (begun_by e op) as (λ o. or_later o None ≡ o) [ None ↦ refl | Some c ↦ refl ]
command_more (d ∷ ds) e op = elim (begun_by d op) as
    (λ o. or_later o (command_of (ds ++ e ∷ []) op) ≡ or_later (or_later o (command_of ds op)) (begun_by e op))
    [ None ↦ command_more ds e op | Some c ↦ refl ]

-- ---- what an actor opened

pub opened_after-append : (h es fs : List Event) (a : ℕ) (o : OpenedFiles)
    → opened_after h (es ++ fs) a o ≡ opened_after (h ++ es) fs a (opened_after h es a o)
opened_after-append h [] fs a o = rw append-nil refl
opened_after-append h (e ∷ es) fs a o =
    opened_after-append (h ++ e ∷ []) es fs a (opened_by (learnt_by h e a) o)
    ∙ ap (λ (l : List Event). opened_after l fs a (opened_after (h ++ e ∷ []) es a (opened_by (learnt_by h e a) o)))
    (append_assoc h (e ∷ []) es)

pub opened_more : (h : List Event) (e : Event) (a : ℕ) → opened_in (h ++ e ∷ []) a ≡ opened_by (learnt_by h e a) (opened_in h a)
opened_more h e a = opened_after-append [] h (e ∷ []) a empty

-- an op is itself
pub itself : (op : OpId) → op_eq op op ≡ true
itself op = grind (arith, op_eq_cases op op)

-- ---- the fronts of a run

pub run_front : {S : Type 0} (P : Programs S) (m : WorldState S) (es fs : List Event) → RunFrom P m (es ++ fs) → RunFrom P m es
run_front P m [] fs run = tt
run_front P m (e ∷ es) fs run = (run.0, run_front P (after P m e) es fs run.1)

pub run_rest : {S : Type 0} (P : Programs S) (m : WorldState S) (es fs : List Event) → RunFrom P m (es ++ fs)
    → RunFrom P (after_all P m es) fs
run_rest P m [] fs run = run
run_rest P m (e ∷ es) fs run = run_rest P (after P m e) es fs run.1
