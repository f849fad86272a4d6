use Rattle.std.proofs.Common.{◌≡◌, suc, ◌+◌, length, slice_index_or, slice_set, sym, refl, ap, ◌∙◌, arith}
use Rattle.std.proofs.lemmas.Fn.{says_at}
use Rattle.map_words.specs.Pairs.{with_values}
use Rattle.sorted_vec.proofs.Changed.{keys, changed, changed_start, changed_next, changed_all, keys_set, rising_keys, all_seen}
use Rattle.sorted_vec.proofs.sorted.SortedVec.map_values.Goals as goal

pub loop-pair-init : goal.loop-pair-init
loop-pair-init g c = (c.requires, refl, λ f makes. changed_start f c.deref_mut-pair-items.result.now)

pub loop-pair-preserved : goal.loop-pair-preserved
loop-pair-preserved g c =
    let Pair = g.row.K.Denot × g.row.V.Denot in
    let items = c.loop-pair.pair-items in
    let i = c.loop-pair.pair-index in
    let pair = c.pair-item.result in
    let made = c.make.result in
    let next : suc i ≡ i + 1 = omega arith in
    let same_keys =
    ap (λ (x : Pair). keys (slice_set items i (x.0, made))) (sym c.pair-item.is) ∙ keys_set items i pair made c.pair-item.is
    ∙ c.loop-pair.invariant.1 in (
      c.loop-pair.invariant.0,
      same_keys,
      λ f makes.
          let returned = makes (slice_index_or items i pair).1 made (says_at _ c.make.ensures refl) in
          let before = c.loop-pair.invariant.2 f makes in
          ap (λ (x : Pair). slice_set items i (x.0, made)) (sym c.pair-item.is)
          ∙ ap (λ w. slice_set items i (pair.0, w)) (returned ∙ ap (λ (x : Pair). f x.1) (sym c.pair-item.is))
          ∙ ap (λ p. slice_set p i (pair.0, f pair.1)) before
          ∙ changed_next f i c.deref_mut-pair-items.result.now pair c.loop-pair-test.true
          (c.pair-item.is ∙ ap (λ p. slice_index_or p i pair) before)
          ∙ ap (λ n. changed f n c.deref_mut-pair-items.result.now) next,
    )

pub invariant_of-self : goal.invariant_of-self
invariant_of-self g c =
    let items = c.loop-pair.pair-items in
    let old = c.self.inside.items.items in
    let value = c.deref_mut-pair-items.ensures.value in
    let length_is : length old ≡ c.self.inside.items.len = grind (arith, c.self.inside.items.ok.0) in
    let seen = all_seen c.self.inside.items.len items old (c.loop-pair.auto.pair-items ∙ ap length value ∙ length_is) length_is in
    rw seen (rising_keys g.K.Ord.cmp old items (sym (c.loop-pair.invariant.1 ∙ ap keys value)) c.self.invariant)

pub returns-clause-values : goal.returns-clause-values
returns-clause-values g c f makes =
    let items = c.loop-pair.pair-items in
    let old = c.self.inside.items.items in
    let value = c.deref_mut-pair-items.ensures.value in
    let length_is : length old ≡ c.self.inside.items.len = grind (arith, c.self.inside.items.ok.0) in
    let seen = all_seen c.self.inside.items.len items old (c.loop-pair.auto.pair-items ∙ ap length value ∙ length_is) length_is in
    let all : c.loop-pair.pair-index ≡ length c.deref_mut-pair-items.result.now =
    omega (arith, c.loop-pair-test.false, c.loop-pair.auto.pair-index-end) in
    seen ∙ c.loop-pair.invariant.2 f makes ∙ ap (λ n. changed f n c.deref_mut-pair-items.result.now) all
    ∙ changed_all f c.deref_mut-pair-items.result.now ∙ ap (with_values f) (value ∙ c.self.view_is)
