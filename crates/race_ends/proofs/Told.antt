-- what is told of the stories is what is told of the parts and their dumps
use Rattle.std.proofs.Common.{◌≡◌, ℕ, ◌≤◌, List, [], ◌∷◌, ◌++◌, map, ap, ◌∙◌}
use Rattle.std.proofs.lemmas.List.Elements.{All-from_recursion}
use Rattle.tect_ids.specs.declared.script.ReportLine.{ReportLine}
use Rattle.tect_ids.specs.declared.script.ReportLine.TheVariants.{Dump}
use Rattle.store_rules.specs.Dumps.{store_dump}
use Rattle.entry_words.specs.declared.entry.Moment.{Moment}
use Rattle.entry_words.specs.Moments.{stamp_of}
use Rattle.race_runs.specs.Gathered.{answers_now, rest_of, store_at, told}
use Rattle.race_runs.specs.Stories.{Story}
use Rattle.race_runs.proofs.Stores.{ClocksRise}
use Rattle.race_ends.specs.declared.ended.EndedPart.{EndedPart}
use Rattle.race_ends.specs.HaveRun.{HaveAnswers, clocks_of}
use Rattle.race_ends.specs.Told.{DumpsRise, told_by}

pub told_is : (ended : List EndedPart) (last : List ReportLine) (ss : List Story) (ms : List Moment) → HaveAnswers ended last ss
    → told_by ended last ms ≡ told (clocks_of ended) ss ms
told_is [] last ss ms h = h
told_is (p ∷ ps) last ss ms h =
    ap (λ (ls : List ReportLine). (ls ++ map Dump (store_dump (store_at p.clock ms))) ++ told_by ps last ms) h.0
    ∙ ap (λ (ls : List ReportLine). (answers_now ss ++ map Dump (store_dump (store_at p.clock ms))) ++ ls)
    (told_is ps last (map rest_of ss) ms h.1)

pub dumps_rise : (ms : List Moment) (low : ℕ) (ended : List EndedPart) → ClocksRise ms low (clocks_of ended) → DumpsRise ms low ended
dumps_rise ms low [] h = tt
dumps_rise ms low (p ∷ ps) h = (All-from_recursion (λ m. stamp_of m ≤ low → stamp_of m ≤ p.clock) ms h.0, dumps_rise ms p.clock ps h.1)
