use Rattle.std.proofs.Common.{sym}
use Rattle.std.proofs.lemmas.Map.Text.{is_eq-slice_cmp}
use Rattle.tect_ids.proofs.name.NamePartialEq.eq.Goals as goal

pub returns : goal.returns
returns c = rw (c.eq.ensures, c.bytes.ensures.bytes, c.bytes-2.ensures.bytes) (sym (is_eq-slice_cmp c.args.self.now c.args.other.now))
