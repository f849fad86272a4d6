use Rattle.std.proofs.Common.{◌∙◌, ap, sym, List, ℕ, arith}
use Rattle.std.proofs.lemmas.Result.{err_from_is_err_and}
use Rattle.script_words.specs.Splitting.{parts, parts_behind}
use Rattle.script_forms.specs.Reading.{store_read}
use Rattle.script_reader.proofs.LineByLine.{is_line, store_wrong, next_store, script_small, rest_smaller}
use Rattle.script_reader.proofs.script.read_plan.Goals as goal

pub returns-in_err-counts : goal.returns-in_err-counts
returns-in_err-counts c =
    let line = c.first_part.result.0.now in
    let more = c.first_part.result.1 in
    let all = c.store.invariant.all ∙ ap (λ (ps : List (List ℕ)). store_read c.store.number ps) c.first_part.ensures.parts_are in
    let p = err_from_is_err_and c.from_residual.result c.from_residual.ensures.1 in
    rw (p.1, p.2, script_small c.args.bytes.now c.if-bytes-gt67108864.false)
    (store_wrong (store_read 1 (parts 10 c.args.bytes.now)) c.store.number line (parts_behind 10 more) all
    (is_line line more (sym c.is_end.ensures ∙ c.if-is_end.false)) c.in_err-counts.field-0.0 c.in_err-counts.ensures)

pub returns-in-Some : goal.returns-in-Some
returns-in-Some c =
    let line = c.first_part.result.0.now in
    let more = c.first_part.result.1 in
    let all = c.store.invariant.all ∙ ap (λ (ps : List (List ℕ)). store_read c.store.number ps) c.first_part.ensures.parts_are in
    let next = next_store (store_read 1 (parts 10 c.args.bytes.now)) c.store.number line more c.in_ok-rest.rest c.in_ok-counts.counts all
    (sym c.is_end.ensures ∙ c.if-is_end.false) c.in_ok-counts.ensures c.in_ok-rest.ensures in
    rw (script_small c.args.bytes.now c.if-bytes-gt67108864.false, next, c.in-Some.is) c.read_lines.ensures

pub store-preserved : goal.store-preserved
store-preserved c =
    let line = c.first_part.result.0.now in
    let more = c.first_part.result.1 in
    let all = c.store.invariant.all ∙ ap (λ (ps : List (List ℕ)). store_read c.store.number ps) c.first_part.ensures.parts_are in
    let next = next_store (store_read 1 (parts 10 c.args.bytes.now)) c.store.number line more c.in_ok-rest.rest c.in_ok-counts.counts all
    (sym c.is_end.ensures ∙ c.if-is_end.false) c.in_ok-counts.ensures c.in_ok-rest.ensures in
    record {
      all = rw c.in_default.is at next;
      size = omega (
        arith,
        rest_smaller c.store.number line more c.in_ok-rest.rest c.store.rest.now c.first_part.ensures
            c.in_ok-rest.ensures,
      );
    }
