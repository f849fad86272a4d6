use Rattle.std.proofs.Common.{◌≡◌, ◌↔◌, Err, IfOk, ap, set, sym, ◌∙◌, subst}
use Rattle.tect_ids.specs.declared.ids.Place.{Place}
use Rattle.store_rules.specs.declared.any.AnyReq.{AnyReq}
use Rattle.store_rules.specs.Places.{request_place}
use Rattle.entry_words.specs.declared.entry.Label.{Label}
use Rattle.entry_words.specs.declared.entry.Refused.TheVariants.{HistoryFull}
use Rattle.passes.specs.Commits.{IsFull}
use Rattle.kept_shards.specs.KeptStore.{KeptStore, IsDone}
use Rattle.kept_shards.proofs.Committed.{if_ok, keeps, label_is, layer_is, result_is, store_of}
use Rattle.kept_shards.proofs.shards.KeptShards.commit.Goals as goal

pub commit-requires : goal.commit-requires
commit-requires c =
    let w = c.self.inside in
    let at = c.place-place.ensures ∙ ap (request_place w.counts) (c.request.ensures ∙ sym c.into_request.ensures) in
    layer_is w.counts w.kepts.items c.self.invariant.shards c.self.invariant.started c.place-place.result c.into_request.result at
    c.index_mut-kept.result.now c.index_mut-kept.ensures.value

pub invariant_of-self : goal.invariant_of-self
invariant_of-self c =
    let w = c.self.inside in
    let at = c.place-place.ensures ∙ ap (request_place w.counts) (c.request.ensures ∙ sym c.into_request.ensures) in
    let kept =
    keeps w.counts w.kepts.items c.self.invariant.shards c.self.invariant.started c.place-place.result c.into_request.result at
    c.index_mut-kept.result.now c.index_mut-kept.ensures.value c.commit.new.self c.args.pass.now c.commit.new.pass c.commit.result
    c.commit.ensures.done c.commit.ensures.err in
    record { shards = kept.0; started = kept.1 }

pub returns-clause-done : goal.returns-clause-done
returns-clause-done c =
    let w = c.self.inside in
    let at = c.place-place.ensures ∙ ap (request_place w.counts) (c.request.ensures ∙ sym c.into_request.ensures) in
    let result = c.commit.result in
    let before = c.args.pass.now in
    let after = c.commit.new.pass in
    let later : KeptStore = store_of w.counts (set w.kepts.items c.place-place.result.0 c.commit.new.self) in
    let done =
    if_ok result
    (λ r d. result_is w.counts w.kepts.items c.self.invariant.shards c.self.invariant.started c.place-place.result c.into_request.result at
    c.index_mut-kept.result.now c.index_mut-kept.ensures.value c.commit.new.self before after r d)
    c.commit.ensures.done in
    subst (λ (v : KeptStore). IfOk result (IsDone v later before after c.args.asked)) c.self.view_is
    (subst (λ (q : AnyReq). IfOk result (IsDone (store_of w.counts w.kepts.items) later before after q)) c.into_request.ensures done)

pub returns-clause-full : goal.returns-clause-full
returns-clause-full c =
    let w = c.self.inside in
    let at = c.place-place.ensures ∙ ap (request_place w.counts) (c.request.ensures ∙ sym c.into_request.ensures) in
    let label =
    label_is w.counts w.kepts.items c.self.invariant.shards c.self.invariant.started c.place-place.result c.into_request.result at
    c.index_mut-kept.result.now c.index_mut-kept.ensures.value in
    subst (λ (o : Place). (c.commit.result ≡ Err (HistoryFull o)) ↔ IsFull c.args.pass.now)
    (ap (λ (l : Label). l.place) label ∙ at ∙ ap (request_place w.counts) c.into_request.ensures
    ∙ ap (λ (v : KeptStore). request_place v.counts c.args.asked) c.self.view_is)
    c.commit.ensures.full
