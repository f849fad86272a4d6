use Rattle.std.proofs.Common.{◌≡◌, ◌≤◌, ◌+◌, ◌*◌, ◌-◌, take, get_or, min, arith}
use Rattle.std.proofs.lemmas.List.{take_more}
use Rattle.script_words.proofs.Numerals.{number_more}
use Rattle.script_words.proofs.numbers.number.Goals as goal

pub loop-digit-preserved : goal.loop-digit-preserved
loop-digit-preserved c =
    let word = c.args.word.now in
    let i = c.loop-digit.digit-index in
    record {
      so_far = rw (take_more word i 0 c.loop-digit-test.true, number_more 0 (take i word) (get_or word i 0))
          (omega (arith, c.loop-digit.invariant.so_far, c.min-number.ensures, c.from.ensures));
      small = omega (arith, c.min-number.ensures);
    }
