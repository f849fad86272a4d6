use Rattle.std.proofs.Common.{ℕ, sym, ◌∙◌}
use Rattle.std.specs.Prelude.{string_bytes}
use Rattle.tect_app.specs.Modes.{SpellsWorkers}
use Rattle.tect_app.proofs.Words.{same_text, three_words, if_some}
use Rattle.tect_app.proofs.mode.race_workers.Goals as goal

pub returns-in-len3-clause-some : goal.returns-in-len3-clause-some
returns-in-len3-clause-some c =
    if_some c.worker_count.result
    (λ (workers : ℕ) (spells : SpellsWorkers c.as_str-in-len3.result.now workers). record {
      words_are = three_words string_bytes c.args.words.now c.mode-item.result c.option-item.result c.workers-item.result _ _ _
          c.in-len3.len_at_least c.in-len3.len_below
          c.mode-item.is c.option-item.is c.workers-item.is
          (sym c.as_str.ensures.value ∙ same_text _ _ _ c.eq.ensures c.if-eq.true)
          (sym c.as_str-then-eq.ensures.value ∙ same_text _ _ _ c.eq-then-eq.ensures c.if-eq-2.true)
          (sym c.as_str-in-len3.ensures.value ∙ spells.0);
      some = spells.1;
      few = spells.2;
    })
    c.worker_count.ensures.some
