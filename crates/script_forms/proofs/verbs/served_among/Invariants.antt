use Rattle.std.proofs.Common.{◌≡◌, map, drop}
use Rattle.script_forms.specs.Verbs.{served_among as among}
use Rattle.script_forms.proofs.verbs.served_among.Given as goal

abbrev pub invariant-loop-text : goal.invariant-loop-text
invariant-loop-text g l =
    among (map (λ row. (row.0.now, row.1, row.2)) l.rows) l.word
    ≡ among (map (λ row. (row.0.now, row.1, row.2)) (drop l.text-index l.rows)) l.word
