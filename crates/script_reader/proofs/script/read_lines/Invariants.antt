use Rattle.std.proofs.Common.{◌≡◌, ◌+◌, ◌≤◌, [], length}
use Rattle.script_words.specs.Splitting.{parts}
use Rattle.script_forms.specs.Reading.{lines_read}
use Rattle.script_reader.proofs.LineByLine.{front}
use Rattle.script_reader.proofs.script.read_lines.Given as goal

abbrev pub invariant-lines : goal.invariant-lines
invariant-lines l = record {
  all : lines_read l.counts [] l.first (parts 10 l.bytes) ≡ front l.lines.items
      (lines_read l.counts l.clients.entries l.number (parts 10 l.rest));
  few : length l.clients.entries ≤ 64;
  size : l.number + length l.rest ≤ l.first + length l.bytes;
}

abbrev pub decreases-lines : goal.decreases-lines
decreases-lines l = length l.rest
