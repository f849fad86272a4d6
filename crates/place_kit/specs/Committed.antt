-- A transaction of a pass at a kept machine: what comes of the machine, and what of the pass.
use Rattle.std.specs.Prelude.{◌≡◌, ◌+◌, ◌<◌, ◌^◌, [], ◌∷◌, ◌++◌}
use Rattle.store_rules.specs.declared.any.AnyReq.{AnyReq}
use Rattle.store_rules.specs.declared.any.AnyReply.{AnyReply}
use Rattle.store_rules.specs.ReplyBytes.{reply_bytes}
use Rattle.entry_words.specs.declared.entry.Entry.{Entry}
use Rattle.entry_words.specs.declared.entry.Moment.TheVariants.{Act}
use Rattle.program_forms.specs.declared.heard.Heard.TheVariants.{Whole}
use Rattle.place_kit.specs.declared.kept.Kept.{Kept}
use Rattle.place_kit.specs.declared.machine.Machine.{Ghosts}
use Rattle.passes.specs.declared.pass.Pass.{Pass}
use Rattle.passes.specs.Commits.{entry_of, next_stamp, spare_of}

-- The machine gave that reply to the request and did it, and its history grew by that entry: the pass's next one, stamped above
-- both clocks.
pub record Served {X Y Z : Type 0} {g : Ghosts X Y Z} (old new : Kept X Y Z g) (pass : Pass) (req : AnyReq) (reply : AnyReply)
    (entry : Entry) : Type 0 where
  pub label : new.label ≡ old.label
  pub base : new.base.value ≡ old.base.value
  pub answer : reply ≡ g.answer old.machine req
  pub state : new.machine ≡ g.after old.machine req
  pub entry_is : entry ≡ entry_of old.label old.clock pass req reply
  pub history : new.history.items ≡ old.history.items ++ entry ∷ []
  pub clock : new.clock ≡ next_stamp old.clock pass
  pub early : new.clock + 1 < 2 ^ 64
  pub spare : 0 < old.history.spare → new.history.spare + 1 ≡ old.history.spare

-- The same, and the pass grew by the same entry, whose stamp is its clock. Its reply counts as heard whole.
pub record Committed {X Y Z : Type 0} {g : Ghosts X Y Z} (old new : Kept X Y Z g) (before now : Pass) (req : AnyReq) (reply : AnyReply)
    : Type 0 where
  pub served : Served old new before req reply (entry_of old.label old.clock before req reply)
  pub actor : now.actor ≡ before.actor
  pub running : now.running ≡ before.running
  pub trail : now.moments.items ≡ before.moments.items ++ Act (entry_of old.label old.clock before req reply) Whole ∷ []
  pub clock : now.clock ≡ next_stamp old.clock before
  pub steps : now.steps ≡ before.steps + 1
  pub bytes : now.bytes ≡ before.bytes + reply_bytes reply
  pub spare : 0 < spare_of before → spare_of now + 1 ≡ spare_of before
