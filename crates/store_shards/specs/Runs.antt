-- Requests one after another, to the whole store and to its shards.
use Rattle.std.specs.Prelude.{List, [], ◌∷◌}
use Rattle.tect_ids.specs.declared.ids.Counts.{Counts}
use Rattle.store_rules.specs.declared.any.AnyReq.{AnyReq}
use Rattle.store_rules.specs.declared.any.AnyReply.{AnyReply}
use Rattle.store_rules.specs.Store.{Store, store_reply, store_step}
use Rattle.store_shards.specs.Shards.{Parts, parts_reply, parts_step}

-- the store after the requests
abbrev pub store_after : Store → List AnyReq → Store
store_after s [] = s
store_after s (q ∷ qs) = store_after (store_step s q) qs

-- the store's replies to them, in their order
abbrev pub store_replies : Store → List AnyReq → List AnyReply
store_replies s [] = []
store_replies s (q ∷ qs) = store_reply s q ∷ store_replies (store_step s q) qs

-- the shards after the requests, each done at the shard of its place
abbrev pub parts_after : Counts → Parts → List AnyReq → Parts
parts_after c parts [] = parts
parts_after c parts (q ∷ qs) = parts_after c (parts_step c parts q) qs

-- the replies of those shards, in the requests' order
abbrev pub parts_replies : Counts → Parts → List AnyReq → List AnyReply
parts_replies c parts [] = []
parts_replies c parts (q ∷ qs) = parts_reply c parts q ∷ parts_replies c (parts_step c parts q) qs
