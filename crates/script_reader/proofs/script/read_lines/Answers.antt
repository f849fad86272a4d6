use Rattle.std.proofs.Common.{[], ◌∙◌, ap, sym, List, ℕ, arith}
use Rattle.std.proofs.lemmas.Result.{err_from_is_err_and}
use Rattle.script_words.specs.Splitting.{parts, parts_behind}
use Rattle.script_forms.specs.Reading.{lines_read}
use Rattle.script_reader.proofs.LineByLine.{front, is_line, text_wrong, feed_wrong, pushed, skipped, rest_smaller}
use Rattle.script_reader.proofs.script.read_lines.Goals as goal

pub returns-in_err-read : goal.returns-in_err-read
returns-in_err-read c =
    let line = c.first_part.result.0.now in
    let more = c.first_part.result.1 in
    let whole = lines_read c.args.counts [] c.args.first (parts 10 c.args.bytes.now) in
    let all = c.lines.invariant.all ∙ ap
    (λ (ps : List (List ℕ)). front c.lines.lines.items (lines_read c.args.counts c.lines.clients.entries c.lines.number ps))
    c.first_part.ensures.parts_are in
    let p = err_from_is_err_and c.from_residual.result c.from_residual.ensures.1 in
    rw (p.1, p.2) (text_wrong c.args.counts whole c.lines.lines.items c.lines.clients.entries c.lines.number line (parts_behind 10 more) all
    (is_line line more (sym c.is_end.ensures ∙ c.if-is_end.false)) c.in_err-read.field-0.0 c.in_err-read.ensures.text)

pub returns-in_err-rest : goal.returns-in_err-rest
returns-in_err-rest c =
    let line = c.first_part.result.0.now in
    let more = c.first_part.result.1 in
    let whole = lines_read c.args.counts [] c.args.first (parts 10 c.args.bytes.now) in
    let all = c.lines.invariant.all ∙ ap
    (λ (ps : List (List ℕ)). front c.lines.lines.items (lines_read c.args.counts c.lines.clients.entries c.lines.number ps))
    c.first_part.ensures.parts_are in
    let p = err_from_is_err_and c.from_residual-in_err-rest.result c.from_residual-in_err-rest.ensures.1 in
    rw (p.1, p.2) (feed_wrong c.args.counts whole c.lines.lines.items c.lines.clients.entries c.lines.number line more c.in_ok-read.read
    all (sym c.is_end.ensures ∙ c.if-is_end.false) c.in_ok-read.ensures.text c.in_err-rest.field-0.0 c.in_err-rest.ensures)

pub lines-preserved-in_ok-add_line : goal.lines-preserved-in_ok-add_line
lines-preserved-in_ok-add_line c =
    let line = c.first_part.result.0.now in
    let more = c.first_part.result.1 in
    let whole = lines_read c.args.counts [] c.args.first (parts 10 c.args.bytes.now) in
    let all = c.lines.invariant.all ∙ ap
    (λ (ps : List (List ℕ)). front c.lines.lines.items (lines_read c.args.counts c.lines.clients.entries c.lines.number ps))
    c.first_part.ensures.parts_are in
    record {
      all = pushed c.args.counts whole c.lines.lines.items c.lines.clients.entries c.lines.number line more c.in_ok-rest.rest c.in_ok-read.read
          all (sym c.is_end.ensures ∙ c.if-is_end.false) c.in_ok-read.ensures.text c.in_ok-rest.ensures c.in-Some.line c.add_line.new.lines.items
          c.read_text.new.clients.entries c.in-Some.is c.in_ok-add_line.ensures c.in_ok-read.ensures.seen;
      few = c.in_ok-read.ensures.few;
      size = omega (
        arith,
        rest_smaller c.lines.number line more c.in_ok-rest.rest c.lines.rest.now c.first_part.ensures
            c.in_ok-rest.ensures,
      );
    }

pub lines-preserved : goal.lines-preserved
lines-preserved c =
    let line = c.first_part.result.0.now in
    let more = c.first_part.result.1 in
    let whole = lines_read c.args.counts [] c.args.first (parts 10 c.args.bytes.now) in
    let all = c.lines.invariant.all ∙ ap
    (λ (ps : List (List ℕ)). front c.lines.lines.items (lines_read c.args.counts c.lines.clients.entries c.lines.number ps))
    c.first_part.ensures.parts_are in
    record {
      all = skipped c.args.counts whole c.lines.lines.items c.lines.clients.entries c.lines.number line more c.in_ok-rest.rest c.in_ok-read.read
          all (sym c.is_end.ensures ∙ c.if-is_end.false) c.in_ok-read.ensures.text c.in_ok-rest.ensures c.read_text.new.clients.entries
          c.in_default.is c.in_ok-read.ensures.seen;
      few = c.in_ok-read.ensures.few;
      size = omega (
        arith,
        rest_smaller c.lines.number line more c.in_ok-rest.rest c.lines.rest.now c.first_part.ensures
            c.in_ok-rest.ensures,
      );
    }
