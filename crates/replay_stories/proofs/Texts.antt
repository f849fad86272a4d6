-- Texts that are written one after another, and their fronts.
use Rattle.std.proofs.Common.{◌≡◌, ℕ, ◌+◌, ◌<◌, List, [], ◌∷◌, ◌++◌, Option, length, get_or, take, drop, map, length-append, refl, sym, ap}
use Rattle.std.proofs.Common.{◌∙◌, append_assoc, arith}
use Rattle.std.specs.Io.KnownBytes.{Appends}
use Rattle.std.proofs.KnownBytes.{Appends-trans, Appends-nil}
use Rattle.std.proofs.Math.Seq.{take-append-add}
use Rattle.std.proofs.lemmas.List.{take_all, take_more, take-append-le, take-append-drop, append-nil, map-append}
use Rattle.tect_ids.specs.declared.dump.DumpLine.{DumpLine}
use Rattle.tect_ids.specs.declared.script.ReportLine.{ReportLine}
use Rattle.tect_ids.specs.declared.script.ReportLine.TheVariants as lines
use Rattle.tect_text.specs.DumpText.{dump_text}
use Rattle.tect_edge.specs.Prefixes.{AppendsProperPrefix}
use Rattle.replay_stories.specs.Output.{line_text, lines_text, AppendsPrefix}

-- nothing is a front of any text
pub prefix_none : (old : Option (List ℕ)) (text : List ℕ) → AppendsPrefix old old text
prefix_none old text = (0, omega arith, Appends-nil old)

-- the whole is a front of itself
pub prefix_whole : (old new : Option (List ℕ)) (text : List ℕ) → Appends old new text → AppendsPrefix old new text
prefix_whole old new text appends = (length text, omega arith, rw (take_all (length text) text (omega arith)) appends)

pub prefix_proper : (old new : Option (List ℕ)) (text : List ℕ) → AppendsProperPrefix old new text → AppendsPrefix old new text
prefix_proper old new text (n, within, appends) = (n, omega (arith, within), appends)

-- a front of the next piece, behind what was written
pub prefix_then : (old mid new : Option (List ℕ)) (written piece : List ℕ) → Appends old mid written → AppendsPrefix mid new piece
    → AppendsPrefix old new (written ++ piece)
prefix_then old mid new written piece first (n, within, then) = (
  length written + n,
  omega (arith, length-append written piece),
  rw (take-append-add written piece n)
      (Appends-trans old mid new written (take n piece) first then),
)

-- a front of a text is one of a longer text
pub prefix_longer : (old new : Option (List ℕ)) (text more : List ℕ) → AppendsPrefix old new text → AppendsPrefix old new (text ++ more)
prefix_longer old new text more (n, within, appends) =
    (n, omega (arith, length-append text more), rw (take-append-le n text more within) appends)

-- and not the whole of it, where more comes
pub prefix_less : (old new : Option (List ℕ)) (text more : List ℕ) → AppendsPrefix old new text → 0 < length more
    → AppendsProperPrefix old new (text ++ more)
prefix_less old new text more (n, within, appends) some =
    (n, omega (arith, length-append text more), rw (take-append-le n text more within) appends)

-- a front of the last piece
pub proper_then : (old mid new : Option (List ℕ)) (written piece : List ℕ) → Appends old mid written → AppendsProperPrefix mid new piece
    → AppendsProperPrefix old new (written ++ piece)
proper_then old mid new written piece first (n, within, then) = (
  length written + n,
  omega (arith, length-append written piece),
  rw (take-append-add written piece n)
      (Appends-trans old mid new written (take n piece) first then),
)

pub lines-append : (xs ys : List ReportLine) → lines_text (xs ++ ys) ≡ lines_text xs ++ lines_text ys
lines-append [] ys = refl
lines-append (x ∷ xs) ys = ap (λ (text : List ℕ). line_text x ++ text) (lines-append xs ys) ∙ sym
    (append_assoc (line_text x) (lines_text xs) (lines_text ys))

-- ---- the lines of a dump

-- a further line
pub dump_more : (ls : List DumpLine) (i : ℕ) (l : DumpLine) → i < length ls → l ≡ get_or ls i l
    → lines_text (map lines.Dump (take (i + 1) ls)) ≡ lines_text (map lines.Dump (take i ls)) ++ (dump_text l ++ 10 ∷ [])
dump_more ls i l lt at =
    ap (λ (xs : List DumpLine). lines_text (map lines.Dump xs)) (take_more ls i l lt ∙ ap (λ (d : DumpLine). take i ls ++ d ∷ []) (sym at))
    ∙ ap lines_text (map-append lines.Dump (take i ls) (l ∷ []))
    ∙ lines-append (map lines.Dump (take i ls)) (lines.Dump l ∷ [])
    ∙ ap (λ (text : List ℕ). lines_text (map lines.Dump (take i ls)) ++ text) (append-nil (dump_text l ++ 10 ∷ []))

-- the first lines come first
dump_front : (ls : List DumpLine) (i : ℕ)
    → lines_text (map lines.Dump ls) ≡ lines_text (map lines.Dump (take i ls)) ++ lines_text (map lines.Dump (drop i ls))
dump_front ls i =
    ap (λ (xs : List DumpLine). lines_text (map lines.Dump xs)) (sym (take-append-drop i ls))
    ∙ ap lines_text (map-append lines.Dump (take i ls) (drop i ls))
    ∙ lines-append (map lines.Dump (take i ls)) (map lines.Dump (drop i ls))

-- a front of the first lines, and of the next, is one of the dump
pub dump_part : (ls : List DumpLine) (i : ℕ) (l : DumpLine) (old mid new : Option (List ℕ)) → i < length ls → l ≡ get_or ls i l
    → Appends old mid (lines_text (map lines.Dump (take i ls)))
    → AppendsPrefix mid new (dump_text l ++ 10 ∷ []) → AppendsPrefix old new (lines_text (map lines.Dump ls))
dump_part ls i l old mid new lt at first part =
    rw (dump_front ls (i + 1))
    (prefix_longer old new (lines_text (map lines.Dump (take (i + 1) ls))) (lines_text (map lines.Dump (drop (i + 1) ls)))
    (rw (dump_more ls i l lt at) (prefix_then old mid new (lines_text (map lines.Dump (take i ls))) (dump_text l ++ 10 ∷ []) first part)))
