-- What a client's moments and events become by what it does.
use Rattle.std.specs.Prelude.{◌≡◌, ℕ, ◌⊎◌, true, List, [], Result, Err}
use Rattle.tect_ids.specs.declared.ids.Counts.{Counts}
use Rattle.store_rules.specs.declared.any.AnyReq.{AnyReq}
use Rattle.entry_words.specs.declared.entry.Entry.{Entry}
use Rattle.entry_words.specs.declared.entry.Label.{Label}
use Rattle.entry_words.specs.declared.entry.Moment.{Moment}
use Rattle.entry_words.specs.declared.entry.Refused.{Refused}
use Rattle.entry_words.specs.declared.entry.Refused.TheVariants.{Astray}
use Rattle.entry_words.specs.Moments.{rises}
use Rattle.world_runs.specs.declared.event.Event.{Event}
use Rattle.clients.specs.Lives.{ClientLife}
use Rattle.racers.specs.Lives.{grown}

-- The client noted these moments, each stamped above its clock, and had these events of refused ops; once an op of it is refused
-- it notes nothing more.
pub record Grows (old new : ClientLife) (news : List Moment) (more : List Event) : Type 0 where
  pub life : new ≡ grown old new.clock news more
  pub late : (news ≡ []) ⊎ (old.silent ≡ [])
  pub stamps : rises old.clock new.clock news ≡ true

-- where each layer has that many shards, a commit found another machine than the one that was looked for
abbrev pub FoundAstray : {W : Type 0} (counts_of : W → Counts) (done : W → W → ℕ → AnyReq → Result Entry Refused → Type 0) → Counts → Label
    → Label → Type 0
FoundAstray {W = W} counts_of done c want found =
    (w : W) × (v : W) × (clock : ℕ) × (req : AnyReq) × (counts_of w ≡ c) × done w v clock req (Err (Astray want found))
