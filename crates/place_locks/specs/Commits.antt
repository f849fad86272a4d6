-- What a commit at a place adds to a pass, and how it is refused.
use Rattle.std.specs.Prelude.{◌≡◌, ◌≢◌, ◌+◌, ◌<◌, ◌++◌, ◌∷◌, []}
use Rattle.tect_ids.specs.declared.ids.Place.{Place}
use Rattle.store_rules.specs.declared.any.AnyReq.{AnyReq}
use Rattle.store_rules.specs.declared.any.AnyReply.{AnyReply}
use Rattle.entry_words.specs.declared.entry.Label.{Label}
use Rattle.entry_words.specs.declared.entry.Moment.TheVariants.{Act}
use Rattle.program_forms.specs.declared.heard.Heard.TheVariants.{Whole}
use Rattle.entry_words.specs.declared.entry.Refused.{Refused}
use Rattle.entry_words.specs.declared.entry.Refused.TheVariants.{NoMemory, HistoryFull, Astray}
use Rattle.passes.specs.declared.pass.Pass.{Pass}
use Rattle.passes.specs.Commits.{op_number}
use Rattle.store_rules.specs.ReplyBytes.{reply_bytes}

-- the pass grew by the one entry of that request at that place, with that reply, which counts as heard whole; its stamp alone
-- is left open, and rises
pub record HasCommitted (before now : Pass) (place : Place) (req : AnyReq) (reply : AnyReply) : Type 0 where
  pub later : before.clock < now.clock
  pub moments : now.moments.items ≡ before.moments.items ++ Act (record {
    stamp = now.clock;
    place = place;
    actor = before.actor;
    number = op_number before.running;
    step = before.steps;
    req = req;
    reply = reply;
  }) Whole ∷ []
  pub steps : now.steps ≡ before.steps + 1
  pub bytes : now.bytes ≡ before.bytes + reply_bytes reply
  pub actor : now.actor ≡ before.actor
  pub running : now.running ≡ before.running

-- for want of memory, or as full at the place of the wanted machine, or since another machine was found
abbrev pub IsRefusalFor : Label → Refused → Type 0
IsRefusalFor wanted NoMemory = Unit {0}
IsRefusalFor wanted (HistoryFull place) = place ≡ wanted.place
IsRefusalFor wanted (Astray want found) = (want ≡ wanted) × (found ≢ want)

-- the same of a pass that is not full
abbrev pub IsMissOf : Label → Refused → Type 0
IsMissOf wanted NoMemory = Unit {0}
IsMissOf wanted (HistoryFull place) = ⊥
IsMissOf wanted (Astray want found) = (want ≡ wanted) × (found ≢ want)
