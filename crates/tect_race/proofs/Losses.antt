-- A client that is astray found another machine than the one that its place was started with.
use Rattle.std.proofs.Common.{◌≡◌, ℕ, ◌<◌, Result, Ok, Err, IfErr, IsOk, refl, sym, ap, subst, ◌∙◌}
use Rattle.tect_ids.specs.declared.ids.Counts.{Counts}
use Rattle.tect_ids.specs.Places.{HasPlaces, place_count}
use Rattle.store_rules.specs.declared.any.AnyReq.{AnyReq}
use Rattle.store_rules.specs.Places.{request_place}
use Rattle.store_shards.proofs.Asked.{asked_place}
use Rattle.entry_words.specs.declared.entry.Entry.{Entry}
use Rattle.entry_words.specs.declared.entry.Label.{Label}
use Rattle.entry_words.specs.declared.entry.Refused.{Refused}
use Rattle.entry_words.specs.Labels.{label_at}
use Rattle.place_locks.specs.Commits.{IsRefusalFor}
use Rattle.players.specs.declared.fault.RacerFault.{RacerFault}
use Rattle.players.specs.declared.fault.RacerFault.TheVariants as racer_faults
use Rattle.racers.specs.Lines.{IsFaultOf}
use Rattle.racers.specs.Steps.{FoundAstray}
use Rattle.race_ends.specs.declared.fault.RaceFault.{RaceFault}
use Rattle.race_ends.specs.declared.fault.RaceFault.TheVariants as faults
use Rattle.race_ends.specs.Faults.{IsLossOf}
use Rattle.tect_race.specs.Faults.{race_result}

-- what a commit at locked places says, by their counts
abbrev pub CommitsAt : {W : Type 0} → (counts_of : W → Counts) → W → W → ℕ → AnyReq → Result Entry Refused → Type 0
CommitsAt counts_of w v clock asked result = IfErr result (IsRefusalFor (label_at (counts_of w) (request_place (counts_of w) asked).0))

found_other : {W : Type 0} → (counts_of : W → Counts) (c : Counts) (want found : Label) → HasPlaces c
    → FoundAstray counts_of (CommitsAt counts_of) c want found → IsLossOf c (faults.Astray want found)
found_other counts_of c want found places (w, v, clock, asked, same, said) =
    let is : want ≡ label_at c (request_place c asked).0 = said.0 ∙ ap (λ (k : Counts). label_at k (request_place k asked).0) same in
    let at : want.place.0 ≡ (request_place c asked).0 = ap (λ (l : Label). l.place.0) is in
    (subst (λ n. n < place_count c) (sym at) (asked_place c asked places), is ∙ ap (label_at c) (sym at), said.1)

lost : {W : Type 0} → (counts_of : W → Counts) (c : Counts) (played : Result (Unit {0}) RacerFault) → HasPlaces c
    → IfErr played (IsFaultOf counts_of (CommitsAt counts_of) c) → IfErr (race_result played) (IsLossOf c)
lost counts_of c (Ok done) places f = tt
lost counts_of c (Err racer_faults.NoMemory) places f = tt
lost counts_of c (Err (racer_faults.Astray want found)) places f = found_other counts_of c want found places f

pub lost_racer : {W : Type 0}
    → (counts_of : W → Counts) (c : Counts) (played : Result (Unit {0}) RacerFault) (result : Result (Unit {0}) RaceFault) → HasPlaces c
    → result ≡ race_result played
    → IfErr played (IsFaultOf counts_of (CommitsAt counts_of) c) → IfErr result (IsLossOf c)
lost_racer counts_of c played result places is f = subst (λ (r : Result (Unit {0}) RaceFault). IfErr r (IsLossOf c)) (sym is)
    (lost counts_of c played places f)

came : (played : Result (Unit {0}) RacerFault) → IsOk (race_result played) → IsOk played
came (Ok done) h = refl
came (Err fault) h = absurd (cc)

pub played_too : (played : Result (Unit {0}) RacerFault) (result : Result (Unit {0}) RaceFault) → result ≡ race_result played → IsOk result
    → IsOk played
played_too played result is h = came played (subst IsOk is h)
