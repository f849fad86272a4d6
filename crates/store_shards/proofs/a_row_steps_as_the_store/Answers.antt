use Rattle.std.proofs.Common.{get_or, refl}
use Rattle.store_rules.specs.Alone.{no_store}
use Rattle.store_rules.specs.Places.{request_place}
use Rattle.store_rules.specs.Store.{store_step}
use Rattle.store_shards.proofs.Rows.{any_default, row_done, row_index, row_stays}
use Rattle.store_shards.proofs.a_row_steps_as_the_store.Goals as goal

pub returns : goal.returns
returns c counts row q is =
    let p = request_place counts q in
    let s = get_or row p.0 no_store in
    let read = any_default row p.0 no_store s (row_index counts row is q) in
    (row_stays counts row is q p refl s read (store_step s q) refl, row_done counts row is q p refl s read (store_step s q) refl)
