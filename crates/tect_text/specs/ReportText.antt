-- The lines of a report, without their line feeds.
use Rattle.std.specs.Prelude.{ℕ, List, ◌++◌, codes}
use Rattle.std.specs.Fmt.{decimal}
use Rattle.tect_ids.specs.declared.answer.Answer.{Answer}
use Rattle.tect_ids.specs.declared.answer.Answer.TheVariants as answers
use Rattle.tect_ids.specs.declared.script.ReportLine.{ReportLine}
use Rattle.tect_ids.specs.declared.script.ReportLine.TheVariants as lines
use Rattle.tect_text.specs.AnswerText.{answer_text}
use Rattle.tect_text.specs.DumpText.{dump_text}

-- an answer behind the count of its transactions
abbrev pub counted_text : ℕ → Answer → List ℕ
counted_text steps answer = codes "house " ++ decimal steps ++ codes " " ++ answer_text answer

-- A world line's own answer stands alone. Another one, as for want of room or memory, stands behind its count.
abbrev pub house_text : ℕ → Answer → List ℕ
house_text steps (answers.SweptAll rounds dirs files blocks chunks) = answer_text (answers.SweptAll rounds dirs files blocks chunks)
house_text steps (answers.LostDisk disk) = answer_text (answers.LostDisk disk)
house_text steps answer = counted_text steps answer

abbrev pub report_text : ReportLine → List ℕ
report_text (lines.Client client op steps answer) = client ++ codes " " ++ decimal op ++ codes " " ++ decimal steps ++ codes " " ++
    answer_text answer
report_text (lines.House steps answer) = house_text steps answer
report_text (lines.Dump line) = dump_text line
