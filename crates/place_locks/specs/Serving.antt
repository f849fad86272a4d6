-- The entry that a commit at a place gives its pass.
use Rattle.std.specs.Prelude.{◌≡◌, ◌+◌, ◌<◌, ◌^◌}
use Rattle.tect_ids.specs.declared.ids.Place.{Place}
use Rattle.store_rules.specs.declared.any.AnyReq.{AnyReq}
use Rattle.store_rules.specs.declared.any.AnyReply.{AnyReply}
use Rattle.entry_words.specs.declared.entry.Entry.{Entry}
use Rattle.passes.specs.declared.pass.Pass.{Pass}
use Rattle.passes.specs.Commits.{op_number}

-- the next step of the pass's actor: that request at that place, with that reply; its stamp alone is left open, above the clock
pub record IsNext (pass : Pass) (place : Place) (req : AnyReq) (reply : AnyReply) (entry : Entry) : Type 0 where
  pub is : entry ≡ record {
    stamp = entry.stamp;
    place = place;
    actor = pass.actor;
    number = op_number pass.running;
    step = pass.steps;
    req = req;
    reply = reply;
  }
  pub later : pass.clock < entry.stamp
  pub early : entry.stamp + 1 < 2 ^ 64
