-- The lines of a report that are written one after another.
use Rattle.std.proofs.Common.{◌≡◌, ℕ, ◌+◌, ◌<◌, ◌≤◌, List, [], ◌∷◌, ◌++◌, Option, length, get_or, take, drop, sym, ap, ◌∙◌, arith}
use Rattle.std.proofs.lemmas.List.{take_all, take_more, take-append-drop, append-nil}
use Rattle.tect_ids.specs.declared.script.ReportLine.{ReportLine}
use Rattle.std.specs.Io.KnownBytes.{Appends}
use Rattle.tect_edge.specs.Prefixes.{AppendsProperPrefix}
use Rattle.replay_stories.specs.Output.{line_text, lines_text, end_text, AppendsPrefix}
use Rattle.replay_stories.proofs.Texts.{prefix_longer, prefix_less, prefix_then, lines-append}

-- a further line
pub line_more : (ls : List ReportLine) (i : ℕ) (l : ReportLine) → i < length ls → l ≡ get_or ls i l
    → lines_text (take (i + 1) ls) ≡ lines_text (take i ls) ++ line_text l
line_more ls i l lt at =
    ap lines_text (take_more ls i l lt ∙ ap (λ (d : ReportLine). take i ls ++ d ∷ []) (sym at))
    ∙ lines-append (take i ls) (l ∷ [])
    ∙ ap (λ (text : List ℕ). lines_text (take i ls) ++ text) (append-nil (line_text l))

-- the first lines come first
line_front : (ls : List ReportLine) (i : ℕ) → lines_text ls ≡ lines_text (take i ls) ++ lines_text (drop i ls)
line_front ls i = ap lines_text (sym (take-append-drop i ls)) ∙ lines-append (take i ls) (drop i ls)

-- a front of the first lines, and of the next, is one of the report
pub report_part : (ls : List ReportLine) (i : ℕ) (l : ReportLine) (old mid new : Option (List ℕ)) → i < length ls → l ≡ get_or ls i l
    → Appends old mid (lines_text (take i ls)) → AppendsPrefix mid new (line_text l)
    → AppendsProperPrefix old new (lines_text ls ++ end_text)
report_part ls i l old mid new lt at first part =
    prefix_less old new (lines_text ls) end_text
    (rw (line_front ls (i + 1)) (prefix_longer old new (lines_text (take (i + 1) ls)) (lines_text (drop (i + 1) ls))
    (rw (line_more ls i l lt at) (prefix_then old mid new (lines_text (take i ls)) (line_text l) first part))))
    (omega arith)

pub all_lines : (ls : List ReportLine) (i : ℕ) (old new : Option (List ℕ)) → length ls ≤ i
    → Appends old new (lines_text (take i ls)) → Appends old new (lines_text ls)
all_lines ls i old new le written = rw (take_all i ls le) at written
