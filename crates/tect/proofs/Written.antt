-- A report that was put whole is one that the writer holds, once the rest is written out.
use Rattle.std.proofs.Common.{◌≡◌, ◌≢◌, ℕ, Option, List, ◌⊎◌, inl, inr, sym, ◌∙◌}
use Rattle.std.proofs.KnownBytes.{Appends-kept}
use Rattle.std.proofs.lemmas.Option.{IfSome_then}
use Rattle.std.specs.Io.KnownBytes.{Keeps}
use Rattle.tect_ids.specs.declared.script.Plan.{Plan}
use Rattle.tect_app.specs.declared.mode.Mode.{Mode}
use Rattle.tect_app.specs.declared.mode.Mode.TheVariants as modes
use Rattle.tect_app.specs.declared.status.Status.{Status}
use Rattle.tect_app.specs.declared.status.Status.TheVariants as status
use Rattle.tect_app.specs.Headline.{InMode, IsReported, IsShown}

pub no_fault : (end : Status) → end ≡ status.Ok → end ≢ status.WriteFault
no_fault end ok fault = absurd cc

-- where the program ends well, so did its run
pub run_ok : (end run : Status) → (end ≡ run) ⊎ (end ≡ status.WriteFault) → end ≡ status.Ok → run ≡ status.Ok
run_ok end run (inl same) ok = sym same ∙ ok
run_ok end run (inr fault) ok = absurd (no_fault end ok fault)

shown_kept : (mode : Mode) (plan : Plan) (old put out : Option (List ℕ)) → Keeps put out → IsShown mode plan old put → IsShown mode plan old out
shown_kept modes.Replay plan old put out kept shown = record {
  history = shown.history;
  of_plan = shown.of_plan;
  written = Appends-kept old put out _ shown.written kept;
}
shown_kept (modes.Race workers) plan old put out kept shown = record {
  places = shown.places;
  passes = shown.passes;
  report = shown.report;
  raced = shown.raced;
  claim = shown.claim;
  written = Appends-kept old put out _ shown.written kept;
}

pub reported_kept : (words : List (List ℕ)) (left rest old put out : Option (List ℕ)) → Keeps put out
    → InMode words (λ mode. IsReported mode left rest old put) → InMode words (λ mode. IsReported mode left rest old out)
reported_kept words left rest old put out kept told = record {
  mode = told.mode;
  spelled = told.spelled;
  holds = record {
    read = told.holds.read;
    written = IfSome_then left told.holds.written (λ input shown. (shown.0, shown.1, shown_kept told.mode shown.0 old put out kept shown.2));
  };
}
