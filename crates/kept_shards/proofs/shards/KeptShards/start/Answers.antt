use Rattle.std.proofs.Common.{◌≡◌, ℕ, subst, arith}
use Rattle.tect_ids.specs.Places.{place_count}
use Rattle.all_shards.proofs.AtPlaces.{AllAt, push_at}
use Rattle.kept_shards.proofs.Started.{IsNew, all_new, all_open, all_started}
use Rattle.kept_shards.proofs.shards.KeptShards.start.Goals as goal

pub loop-number-preserved : goal.loop-number-preserved
loop-number-preserved c =
    let is = c.in_ok-start.ensures in
    rw c.in_ok-push.ensures.items
    (push_at (IsNew c.args.counts) c.loop-number.number c.loop-number.kepts.items c.in_ok-start.field-0 c.loop-number.invariant
    (record { label = is.label; machine = is.state; history = is.history }))

pub invariant_of-result : goal.invariant_of-result
invariant_of-result c =
    let all : c.loop-number.number ≡ place_count c.args.counts =
    omega (arith, c.loop-number-test.false, c.loop-number.auto.number-end, c.place_count-number-end.ensures) in
    let new = subst (λ (n : ℕ). AllAt (IsNew c.args.counts) n c.loop-number.kepts.items) all c.loop-number.invariant in
    record {
      shards = (all_open c.args.counts c.requires c.loop-number.kepts.items new).1;
      started = all_started c.args.counts c.requires c.loop-number.kepts.items new;
    }

pub returns : goal.returns
returns c =
    let all : c.loop-number.number ≡ place_count c.args.counts =
    omega (arith, c.loop-number-test.false, c.loop-number.auto.number-end, c.place_count-number-end.ensures) in
    let new = subst (λ (n : ℕ). AllAt (IsNew c.args.counts) n c.loop-number.kepts.items) all c.loop-number.invariant in
    let store = (all_open c.args.counts c.requires c.loop-number.kepts.items new).0 in
    let none = all_new c.args.counts c.requires c.loop-number.kepts.items new in
    λ i. record { counts = c.args.counts; store = store i; entries = none i }
