use Rattle.std.proofs.Common.{◌≡◌, ◌==◌, ◌+◌, ℕ, sym, ap, ◌∙◌, subst, arith}
use Rattle.tect_ids.specs.declared.ids.Layer.{Layer}
use Rattle.tect_ids.specs.Places.{place_count, layer_at}
use Rattle.store_rules.specs.Alone.{opening_of}
use Rattle.all_shards.proofs.AtPlaces.{AllAt, push_at}
use Rattle.all_shards.proofs.Stepped.{IsOpening, opening_shards, opening_together}
use Rattle.all_shards.proofs.shards.Shards.start.Goals as goal

pub loop-number-preserved : goal.loop-number-preserved
loop-number-preserved c =
    let n = c.loop-number.number in
    let counts = c.args.counts in
    subst (AllAt (IsOpening counts) (n + 1)) (sym c.in_ok-push.ensures.items)
    (push_at (IsOpening counts) n c.loop-number.machines.items c.in_ok-opening.field-0 c.loop-number.invariant (record {
      state =
          c.in_ok-opening.ensures.state
          ∙ ap (λ (l : Layer). opening_of l (n == c.place_of-root.result.0)) c.layer_at-layer.ensures
          ∙ ap (λ (r : ℕ). opening_of (layer_at counts n) (n == r)) c.place_of-root.ensures.number;
      layer = c.in_ok-opening.ensures.layer ∙ c.layer_at-layer.ensures;
    }))

pub invariant_of-result : goal.invariant_of-result
invariant_of-result c =
    let all : c.loop-number.number ≡ place_count c.args.counts =
    omega (arith, c.loop-number-test.false, c.loop-number.auto.number-end, c.place_count-number-end.ensures) in
    opening_shards c.args.counts c.requires.places c.loop-number.machines.items
    (subst (λ (n : ℕ). AllAt (IsOpening c.args.counts) n c.loop-number.machines.items) all c.loop-number.invariant)

pub returns : goal.returns
returns c =
    let all : c.loop-number.number ≡ place_count c.args.counts =
    omega (arith, c.loop-number-test.false, c.loop-number.auto.number-end, c.place_count-number-end.ensures) in
    let whole = opening_together c.args.counts c.requires.places c.loop-number.machines.items
    (subst (λ (n : ℕ). AllAt (IsOpening c.args.counts) n c.loop-number.machines.items) all c.loop-number.invariant) in
    λ i. record { counts = c.args.counts; store = whole i }
