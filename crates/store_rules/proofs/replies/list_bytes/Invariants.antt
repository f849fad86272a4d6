use Rattle.std.proofs.Common.{◌≡◌, ◌≤◌, ◌*◌, take}
use Rattle.std.specs.List.{sum_by}
use Rattle.store_rules.specs.ReplyBytes.{item_bytes}
use Rattle.store_rules.proofs.replies.list_bytes.Given as goal

abbrev pub invariant-loop-item : goal.invariant-loop-item
invariant-loop-item l = record { so_far : l.bytes ≡ sum_by item_bytes (take l.item-index l.items); few : l.bytes ≤ 287 * l.item-index }
