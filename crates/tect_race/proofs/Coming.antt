-- What is known of a race when a line is passed, when a dump ends a part, and when the script ends.
use Rattle.std.proofs.Common.{◌≡◌, ℕ, ◌+◌, ◌-◌, ◌<◌, ◌^◌, ◌≤◌, Some, List, [], ◌∷◌, ◌++◌, length, length-drop, take, drop, slice_get}
use Rattle.std.proofs.Common.{slice_range, get_or, refl, sym, ap, subst, ◌∙◌, arith, take-append-drop}
use Rattle.std.specs.List.{All, AllZip, flat_map}
use Rattle.std.proofs.lemmas.List.{take_all}
use Rattle.std.proofs.lemmas.List.Elements.{recursion_from_All}
use Rattle.std.proofs.lemmas.Option.{slice_get_within, get_or_from_slice_get}
use Rattle.tect_ids.specs.Places.{HasPlaces}
use Rattle.tect_ids.specs.declared.ids.Counts.{Counts}
use Rattle.tect_ids.specs.declared.script.Line.{Line}
use Rattle.tect_ids.specs.declared.script.Line.TheVariants as lines
use Rattle.tect_ids.specs.declared.script.ReportLine.{ReportLine}
use Rattle.program_forms.specs.Kinds.{Programs}
use Rattle.race_runs.specs.Gathered.{IsLineOf}
use Rattle.passes.specs.declared.pass.Pass.{Pass}
use Rattle.racers.specs.declared.racer.Racer.{Racer}
use Rattle.race_ends.specs.declared.ended.EndedPart.{EndedPart}
use Rattle.race_ends.specs.HaveRun.{HaveRun}
use Rattle.racer_stories.specs.Lines.{RacersRan}
use Rattle.racer_stories.specs.Closed.{AllClosed}
use Rattle.racer_stories.specs.Passes.{IsPassOf}
use Rattle.tect_race.specs.Progress.{Stood, HasCome}
use Rattle.racer_stories.specs.Ready.{AreRacers, IsOfClient}
use Rattle.tect_race.specs.declared.rounds.Progress.{Progress}
use Rattle.tect_race.proofs.Looping.{stood_on, run_ended}
use Rattle.list_laws.proofs.Parts.{lines_to, drop_more, all_more}

-- a line of the script is of a client, if it is no dump
of_client : (n : ℕ) (line : Line) → IsLineOf n line → (line ≡ lines.Dump → ⊥) → IsOfClient n line
of_client n (lines.Client client actor act) is no_dump = is
of_client n lines.Dump is no_dump = absurd (no_dump refl)
of_client n (lines.Store counts) is no_dump = absurd is
of_client n lines.Sweep is no_dump = absurd is
of_client n (lines.Lose disk) is no_dump = absurd is

module _ {S : Type 0} (P : Programs S) (counts : Counts) (names : List (List ℕ)) (ls : List Line) (p : Progress S) where
  -- a line that is no dump is the part's next
  pub come_past : (number : ℕ) (line : Line) → number < length ls → line ≡ get_or ls number line → (line ≡ lines.Dump → ⊥)
      → All (IsLineOf (length names)) ls → HasCome P counts names ls number p → HasCome P counts names ls (number + 1) p
  come_past number line within read no_dump asked come =
      let is : IsLineOf (length names) line = subst (IsLineOf (length names)) (sym read) (asked number line within) in
      record {
        low = (let l = come.low in omega arith);
        part = all_more (IsOfClient (length names)) ls p.start number line come.low within (sym read) come.part
            (of_client (length names) line is no_dump);
        stood = come.stood;
      }

  -- a dump ends the part before it
  pub come_on : (ts us : List (Racer S)) (dump : ℕ) (e : EndedPart) → slice_get ls dump ≡ Some lines.Dump → HasCome P counts names ls dump p
      → RacersRan P names (slice_range ls p.start dump) p.racers.items ts → AreRacers P counts (drop dump ls) ts
      → All (λ r. r.client.clock ≤ e.clock) ts → AllClosed P e.clock ts us → e.answers.items ≡ flat_map (λ r. r.answers.items) ts
      → Stood P counts names (take (dump + 1) ls) (drop (dump + 1) ls) e.clock us (p.ended.items ++ e ∷ [])
  come_on ts us dump e here come ran ready high closed told =
      let within : dump < length ls = slice_get_within ls dump lines.Dump here in
      let read = get_or_from_slice_get ls dump lines.Dump lines.Dump here in
      let left : drop dump ls ≡ lines.Dump
      ∷ drop (dump + 1) ls = drop_more dump ls lines.Dump within ∙ ap (λ x. x ∷ drop (dump + 1) ls) read in
      let own = recursion_from_All (IsOfClient (length names)) (slice_range ls p.start dump) come.part in
      let stood = stood_on P counts names (take p.start ls) (drop p.start ls) (slice_range ls p.start dump) p.clock p.racers.items ts us
      p.ended.items come.stood ran
      (drop (dump + 1) ls) e (subst (λ (l : List Line). AreRacers P counts l ts) left ready) own high closed told in
      subst (λ (l : List Line). Stood P counts names l (drop (dump + 1) ls) e.clock us (p.ended.items ++ e ∷ []))
      (sym (lines_to ls p.start dump lines.Dump come.low within read)) stood

  -- the script ends the last part
  pub come_to_end : (ts us : List (Racer S)) (ps : List Pass) (k : ℕ) (last : List ReportLine) → HasPlaces counts
      → All (IsLineOf (length names)) ls → HasCome P counts names ls (length ls) p
      → RacersRan P names (slice_range ls p.start (length ls)) p.racers.items ts
      → AreRacers P counts (drop (length ls) ls) ts → k < 2 ^ 63 → All (λ r. r.client.clock ≤ k) ts → AllClosed P k ts us
      → AllZip IsPassOf us ps → last ≡ flat_map (λ r. r.answers.items) ts → HaveRun P counts names ls ps p.ended.items last
  come_to_end ts us ps k last places asked come ran ready low high closed taken told =
      let part : List Line = slice_range ls p.start (length ls) in
      let all : part ≡ drop p.start ls = take_all (length ls - p.start) (drop p.start ls) (let d = length-drop p.start ls in omega arith) in
      let whole : take p.start ls ++ part ≡ ls = ap (λ l. take p.start ls ++ l) all ∙ take-append-drop p.start ls in
      let run = run_ended P counts names (take p.start ls) (drop p.start ls) part p.clock p.racers.items ts us p.ended.items come.stood ran
      (drop (length ls) ls) k ps last places (subst (All (IsLineOf (length names))) (sym whole) asked) ready
      (recursion_from_All (IsOfClient (length names)) part come.part) low high closed taken told in
      subst (λ (l : List Line). HaveRun P counts names l ps p.ended.items last) whole run
