-- an op that did not begin has no transaction
use Rattle.std.proofs.Common.{◌≡◌, ◌<◌, Bool, true, false, ◌&&◌, List, [], ◌∷◌, ◌++◌, refl, ◌∙◌, arith, append_assoc}
use Rattle.std.proofs.lemmas.List.{append-nil}
use Rattle.tect_ids.specs.declared.ids.OpId.{OpId}
use Rattle.tect_ids.specs.Keys.{op_eq}
use Rattle.tect_ids.proofs.KeyTests.{op_eq_cases}
use Rattle.tree_model.specs.Tree.{Tree}
use Rattle.world_runs.specs.declared.event.Event.{Event}
use Rattle.world_runs.specs.declared.event.Event.TheVariants.{Own, Dumped}
use Rattle.world_runs.specs.declared.event.Happening.TheVariants.{Began, NotBegun, Acted, Ended, Stopped, Failed}
use Rattle.program_rules.specs.Served.{Program, programs}
use Rattle.world_runs.specs.Moments.{WorldState, May, after, after_all, RunFrom}
use Rattle.claim_words.specs.TreeSteps.{told_of, tree_after}
use Rattle.world_runs.specs.Report.{is_act_of, transactions}
use Rattle.session_runs.proofs.Tracked.{Tracks, event_tracked, acts_last}
use Rattle.script_runs.proofs.Histories.{numbers_grow}
use Rattle.whole_runs.proofs.OwnLines.{transactions-append}

and_false : (b : Bool) → (b && false) ≡ false
and_false true = refl
and_false false = refl

-- an op of a number that its actor did not come to has no transaction
abbrev pub Quiet : WorldState Program → List Event → Type 0
Quiet m before = (op : OpId) → (m.actors op.actor).number < op.number → transactions before op ≡ 0

not_act : (m : WorldState Program) (t : Tree) (e : Event) → Tracks m t → May programs m e → (op : OpId)
    → (m.actors op.actor).number < op.number → is_act_of op e ≡ false
not_act m t (Own other (Acted q x h)) tracks may op late = differs (op_eq other op) refl
  where
    differs : (b : Bool) → op_eq other op ≡ b → (op_eq other op && true) ≡ false
    differs false e = rw e refl
    differs true e =
        let same : other ≡ op = grind (arith, op_eq_cases other op) in
        let last : other.number ≡ (m.actors other.actor).number = acts_last m t tracks other q may.0 in
        let now : op.number ≡ (m.actors op.actor).number = rw same at last in
        absurd (omega arith)
not_act m t (Own other (Began c)) tracks may op late = and_false (op_eq other op)
not_act m t (Own other (NotBegun c)) tracks may op late = and_false (op_eq other op)
not_act m t (Own other (Ended x)) tracks may op late = and_false (op_eq other op)
not_act m t (Own other Stopped) tracks may op late = and_false (op_eq other op)
not_act m t (Own other (Failed x)) tracks may op late = and_false (op_eq other op)
not_act m t Dumped tracks may op late = refl

pub quiet_more : (m : WorldState Program) (t : Tree) (before : List Event) (e : Event) → Tracks m t → Quiet m before → May programs m e
    → Quiet (after programs m e) (before ++ e ∷ [])
quiet_more m t before e tracks quiet may op late =
    let old : (m.actors op.actor).number < op.number = omega (arith, numbers_grow programs m e may op.actor) in
    let none : transactions (e ∷ []) op ≡ 0 = rw (not_act m t e tracks may op old) refl in
    transactions-append before (e ∷ []) op ∙ omega (arith, quiet op old, none)

pub quiet_run : (m : WorldState Program) (t : Tree) (before es : List Event) → Tracks m t → Quiet m before → RunFrom programs m es
    → Quiet (after_all programs m es) (before ++ es)
quiet_run m t before [] tracks quiet run = rw append-nil quiet
quiet_run m t before (e ∷ es) tracks quiet run =
    let more : Quiet (after_all programs (after programs m e) es) ((before ++ e ∷ []) ++ es) =
    quiet_run (after programs m e) (tree_after t (told_of tracks.history e)) (before ++ e ∷ []) es (event_tracked m t e tracks run.0).0
    (quiet_more m t before e tracks quiet run.0) run.1 in
    rw (append_assoc before (e ∷ []) es) at more
