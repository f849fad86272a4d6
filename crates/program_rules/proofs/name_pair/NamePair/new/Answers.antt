use Rattle.std.proofs.Common.{◌≡◌, ◌∙◌, sym, ap, true, false}
use Rattle.tect_ids.specs.Keys.{name_eq}
use Rattle.program_rules.specs.NamePairs.{pair_of}
use Rattle.program_rules.proofs.name_pair.NamePair.new.Goals as goal

pub returns-then-eq : goal.returns-then-eq
unfolding name_eq
returns-then-eq c =
    let same : name_eq c.args.from c.args.to ≡ true = sym c.eq.ensures ∙ c.if-eq.true in
    sym (ap (pair_of c.args.from c.args.to) same)

pub invariant_of-result : goal.invariant_of-result
unfolding name_eq
invariant_of-result c = record { other = sym c.eq.ensures ∙ c.if-eq.false }

pub returns : goal.returns
unfolding name_eq
returns c =
    let other : name_eq c.args.from c.args.to ≡ false = sym c.eq.ensures ∙ c.if-eq.false in
    sym (ap (pair_of c.args.from c.args.to) other)
