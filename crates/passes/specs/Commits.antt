-- What a commit and a note add, and when a pass has no room for them.
use Rattle.std.specs.Prelude.{◌≡◌, ℕ, ◌+◌, ◌-◌, ◌<◌, ◌≤◌, ◌^◌, ◌⊎◌, length, max, Bool, true, false, Option, Some, None}
use Rattle.tect_ids.specs.declared.ids.OpId.{OpId}
use Rattle.tect_ids.specs.declared.ids.Place.{Place}
use Rattle.store_rules.specs.declared.any.AnyReq.{AnyReq}
use Rattle.store_rules.specs.declared.any.AnyReply.{AnyReply}
use Rattle.entry_words.specs.declared.entry.Entry.{Entry}
use Rattle.entry_words.specs.declared.entry.Label.{Label}
use Rattle.entry_words.specs.declared.entry.Note.{Note}
use Rattle.entry_words.specs.declared.entry.Note.TheVariants.{Began, Ended, Stopped}
use Rattle.entry_words.specs.declared.entry.Moment.{Moment}
use Rattle.entry_words.specs.declared.entry.Moment.TheVariants.{Local}
use Rattle.passes.specs.declared.pass.Pass.{Pass}
use Rattle.passes.specs.Passes.{aside}

-- its moments, and the one that is put aside
abbrev pub used : Pass → ℕ
used p = length p.moments.items + aside p.running

-- room that is sure, beside the room put aside
abbrev pub spare_of : Pass → ℕ
spare_of p = p.moments.spare - aside p.running

-- a commit would be refused as full: a pass has at most 65,536 moments, and takes no entry with 32 MiB of replies kept
abbrev pub IsFull : Pass → Type 0
IsFull p = (65536 ≤ used p) ⊎ ((33554432 ≤ p.bytes) ⊎ (2 ^ 63 ≤ p.clock))

-- the beginning of an op would be refused as full: it needs two moments
abbrev pub IsFullForBegin : Pass → Type 0
IsFullForBegin p = (65536 ≤ used p + 1) ⊎ (2 ^ 63 ≤ p.clock)

-- a commit would not be refused as full
pub record HasRoom (p : Pass) : Type 0 where
  pub few : used p < 65536
  pub light : p.bytes < 33554432
  pub early : p.clock < 2 ^ 63

-- where a pass itself is full
abbrev pub pass_place : Place
pass_place = record { 0 = 256 }

abbrev pub begins : Note → Bool
begins (Began op command) = true
begins (Ended op answer) = false
begins (Stopped op) = false

-- an op of the pass's actor begins while none is running; and what ends is the op that is running
abbrev pub MayNote : Pass → Note → Type 0
MayNote p (Began op command) = (p.running ≡ None) × (op.actor ≡ p.actor)
MayNote p (Ended op answer) = p.running ≡ Some op
MayNote p (Stopped op) = p.running ≡ Some op

-- the moment of a note
abbrev pub local_of : Pass → Note → Moment
local_of p note = Local (p.clock + 1) p.actor note

abbrev pub next_stamp : ℕ → Pass → ℕ
next_stamp clock p = max clock p.clock + 1

-- the number of the op that runs; ops are numbered from 1
abbrev pub op_number : Option OpId → ℕ
op_number None = 0
op_number (Some op) = op.number

-- the entry of a commit of the pass at a place whose clock is this
abbrev pub entry_of : Label → ℕ → Pass → AnyReq → AnyReply → Entry
entry_of label clock p req reply =
    record {
      stamp = next_stamp clock p;
      place = label.place;
      actor = p.actor;
      number = op_number p.running;
      step =
          p.steps;
      req = req;
      reply = reply;
    }
