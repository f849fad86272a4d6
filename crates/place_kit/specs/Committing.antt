-- A transaction of a pass at a kept machine of any layer, read as one of the store in which the machine stands alone.
use Rattle.std.specs.Prelude.{◌≡◌, ◌+◌, ◌<◌, ◌^◌, [], ◌∷◌, ◌++◌}
use Rattle.store_rules.specs.declared.any.AnyReq.{AnyReq}
use Rattle.store_rules.specs.declared.any.AnyReply.{AnyReply}
use Rattle.store_rules.specs.ReplyBytes.{reply_bytes}
use Rattle.store_rules.specs.Store.{store_reply, store_step}
use Rattle.entry_words.specs.declared.entry.Entry.{Entry}
use Rattle.entry_words.specs.declared.entry.Moment.TheVariants.{Act}
use Rattle.program_forms.specs.declared.heard.Heard.TheVariants.{Whole}
use Rattle.passes.specs.declared.pass.Pass.{Pass}
use Rattle.passes.specs.Commits.{entry_of, next_stamp}
use Rattle.passes.specs.Commits as pass
use Rattle.place_kit.specs.declared.any.AnyKept.{AnyKept}
use Rattle.place_kit.specs.Kept.{label_of, history_of, base_of, machine_of, clock_of, spare_of}

-- The machine gave that reply to the request and did it, and its history grew by that entry: the pass's next one, stamped above
-- both clocks.
pub record AnyServed (old new : AnyKept) (before : Pass) (req : AnyReq) (reply : AnyReply) (entry : Entry) : Type 0 where
  pub label : label_of new ≡ label_of old
  pub base : base_of new ≡ base_of old
  pub answer : reply ≡ store_reply (machine_of old) req
  pub state : machine_of new ≡ store_step (machine_of old) req
  pub entry_is : entry ≡ entry_of (label_of old) (clock_of old) before req reply
  pub history : history_of new ≡ history_of old ++ entry ∷ []
  pub clock : clock_of new ≡ next_stamp (clock_of old) before
  pub early : clock_of new + 1 < 2 ^ 64
  pub spare : 0 < spare_of old → spare_of new + 1 ≡ spare_of old

-- The same, and the pass grew by the same entry, whose stamp is its clock. Its reply counts as heard whole.
pub record AnyCommitted (old new : AnyKept) (before now : Pass) (req : AnyReq) (reply : AnyReply) : Type 0 where
  pub served : AnyServed old new before req reply (entry_of (label_of old) (clock_of old) before req reply)
  pub actor : now.actor ≡ before.actor
  pub running : now.running ≡ before.running
  pub trail : now.moments.items ≡ before.moments.items ++ Act (entry_of (label_of old) (clock_of old) before req reply) Whole ∷ []
  pub clock : now.clock ≡ next_stamp (clock_of old) before
  pub steps : now.steps ≡ before.steps + 1
  pub bytes : now.bytes ≡ before.bytes + reply_bytes reply
  pub spare : 0 < pass.spare_of before → pass.spare_of now + 1 ≡ pass.spare_of before
