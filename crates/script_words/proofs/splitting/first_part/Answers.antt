use Rattle.std.proofs.Common.{◌≡◌, ◌+◌, ◌-◌, length, drop, refl, arith, length-drop}
use Rattle.std.proofs.lemmas.List.{take_all}
use Rattle.script_words.proofs.Parts.{part_none, part_some}
use Rattle.script_words.proofs.splitting.first_part.Goals as goal

pub returns-in-None : goal.returns-in-None
returns-in-None c = part_none c.args.separator c.args.bytes.now c.in-None.ensures

pub returns-in-Some : goal.returns-in-Some
returns-in-Some c =
    let bytes = c.args.bytes.now in
    let end = c.in-Some.end in
    part_some c.args.separator bytes _ _ end c.in-Some.ensures refl
    (take_all (length bytes - (end + 1)) (drop (end + 1) bytes) (omega (arith, length-drop (end + 1) bytes)))
