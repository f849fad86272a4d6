use Rattle.std.proofs.Common.{refl}
use Rattle.std.proofs.Common.{arith}
use Rattle.script_words.specs.declared.limits.Limit.TheVariants.{Shards, Disks, Copies}
use Rattle.script_reader.proofs.FormReads.{count_number}
use Rattle.script_reader.proofs.acts.store.Goals as goal

pub returns : goal.returns
returns c =
    let n = count_number Shards 64 c.in_ok-names.names.now c.read_number.result (omega arith) c.in_ok-names.ensures.1
    c.read_number.ensures.numeral in
    let f = count_number Shards 64 c.in_ok-files.files.now c.read_number-2.result (omega arith) c.in_ok-files.ensures.1
    c.read_number-2.ensures.numeral in
    let b = count_number Shards 64 c.in_ok-blocks.blocks.now c.read_number-3.result (omega arith) c.in_ok-blocks.ensures.1
    c.read_number-3.ensures.numeral in
    let d = count_number Disks 64 c.in_ok-disks.disks.now c.read_number-4.result (omega arith) c.in_ok-disks.ensures.1
    c.read_number-4.ensures.numeral in
    let p = count_number Copies 5 c.in_ok-copies.copies.now c.read_number-5.result (omega arith) c.in_ok-copies.ensures.1
    c.read_number-5.ensures.numeral in
    rw (
      n,
      f,
      b,
      d,
      p,
      c.in_ok-take_text.ensures.0,
      c.in_ok-take_text.ensures.1,
      c.in_ok-names.ensures.0,
      c.in_ok-names.ensures.1,
      c.in_ok-files.ensures.0,
      c.in_ok-files.ensures.1,
      c.in_ok-blocks.ensures.0,
      c.in_ok-blocks.ensures.1,
      c.in_ok-disks.ensures.0,
      c.in_ok-disks.ensures.1,
      c.in_ok-copies.ensures.0,
      c.in_ok-copies.ensures.1,
    ) refl
