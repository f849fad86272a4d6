use Rattle.std.proofs.Common.{◌≡◌, ◌&&◌, ◌||◌, List, Vec, [], ◌∷◌, ◌++◌, sym, ap, subst, ◌∙◌}
use Rattle.std.specs.declared.alloc.Global.{Global}
use Rattle.tect_race.specs.declared.workers.Worker.{Worker}
use Rattle.tect_race.proofs.Cutting.{IsCut, cut_in, cut_off}
use Rattle.tect_race.proofs.threads.into_batches.Goals as goal
use Rattle.tect_race.proofs.threads.into_batches.Goals.{In_ok-push-2, then-busy+then-has_busy+in_ok-push, else-busy}
use Rattle.tect_race.proofs.threads.into_batches.Goals.{else-busy-via-then-busy+else-has_busy, else-busy-via-else-busy, then-has_busy-2}
use Rattle.tect_race.proofs.threads.into_batches.Goals.{else-has_busy-2}

has_one : (g : _) (c : In_ok-push-2 g) → c.if-has_busy-2.has_busy ≡ (c.workers.has_busy || c.is_busy-busy.result)
has_one g c =
    elim c.if-has_busy-2.branch [
      | then-has_busy-2 w ↦ w.has_busy-is ∙ w.if-has_busy-2.true ∙ sym (ap (λ v. v || c.is_busy-busy.result) w.if-has_busy-2.true)
      | else-has_busy-2 w ↦ w.has_busy-is ∙ sym (ap (λ v. v || c.is_busy-busy.result) w.if-has_busy-2.false)
    ]

pub workers-preserved : goal.workers-preserved
workers-preserved g c =
    let was : IsCut c.args.worker_count c.args.part.now c.workers.yielded c.workers.batches.items c.workers.batch.items c.workers.has_busy =
    c.workers.invariant in
    subst (λ v. IsCut c.args.worker_count c.args.part.now (c.workers.yielded ++ c.in-Some.worker ∷ []) c.if-busy.batches.items
    c.push-in-workers.new.self.items v) (sym (has_one g c))
    (elim c.if-busy.branch [
      | then-busy+then-has_busy+in_ok-push w ↦
          subst (λ (l : List (Vec (Worker g.row.P.Denot) Global)). IsCut c.args.worker_count c.args.part.now
          (c.workers.yielded ++ c.in-Some.worker ∷ []) l
          c.push-in-workers.new.self.items (c.workers.has_busy || c.is_busy-busy.result))
          (sym (ap (λ (v : Vec (Vec (Worker g.row.P.Denot) Global) Global). v.items) w.batches-is ∙ w.in_ok-push.ensures.items))
          (cut_off c.args.worker_count c.args.part.now c.workers.yielded c.workers.batches.items c.workers.batch c.workers.has_busy was
          c.in-Some.worker c.push-in-workers.new.self.items c.is_busy-busy.result c.is_busy-busy.ensures
          (c.in_ok-push-2.ensures.items ∙ ap (λ (v : Vec (Worker g.row.P.Denot) Global). v.items ++ c.in-Some.worker ∷ []) w.batch-is ∙ ap
          (λ (l : List (Worker g.row.P.Denot)). l ++ c.in-Some.worker ∷ []) w.new-batch-then-has_busy.ensures.items)
          (ap (λ v. v && c.workers.has_busy) w.if-busy.true ∙ w.if-has_busy.true))
      | else-busy w ↦
          subst (λ (l : List (Vec (Worker g.row.P.Denot) Global)). IsCut c.args.worker_count c.args.part.now
          (c.workers.yielded ++ c.in-Some.worker ∷ []) l
          c.push-in-workers.new.self.items (c.workers.has_busy || c.is_busy-busy.result))
          (sym (ap (λ (v : Vec (Vec (Worker g.row.P.Denot) Global) Global). v.items) w.batches-is))
          (cut_in c.args.worker_count c.args.part.now c.workers.yielded c.workers.batches.items c.workers.batch c.workers.has_busy was
          c.in-Some.worker c.push-in-workers.new.self.items c.is_busy-busy.result c.is_busy-busy.ensures
          (c.in_ok-push-2.ensures.items ∙ ap (λ (v : Vec (Worker g.row.P.Denot) Global). v.items ++ c.in-Some.worker ∷ []) w.batch-is)
          (elim w.else-busy.branch [
            | else-busy-via-then-busy+else-has_busy x ↦ ap (λ v. v && c.workers.has_busy) x.if-busy.true ∙ x.if-has_busy.false
            | else-busy-via-else-busy x ↦ ap (λ v. v && c.workers.has_busy) x.if-busy.false
          ]))
    ])
