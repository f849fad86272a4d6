use Rattle.std.proofs.Common.{◌≡◌, ◌+◌, ◌≤◌, length}
use Rattle.script_words.specs.Splitting.{parts}
use Rattle.script_forms.specs.Reading.{store_read}
use Rattle.script_reader.proofs.script.read_plan.Given as goal

abbrev pub invariant-store : goal.invariant-store
invariant-store l = record {
  all : store_read 1 (parts 10 l.bytes) ≡ store_read l.number (parts 10 l.rest);
  size : l.number + length l.rest ≤ 1 + length l.bytes;
}

abbrev pub decreases-store : goal.decreases-store
decreases-store l = length l.rest
