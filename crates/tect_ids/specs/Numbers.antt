-- The root, and what an actor's op gives numbers to.
use Rattle.std.specs.Prelude.{ℕ, ◌+◌, ◌*◌, ◌^◌}
use Rattle.tect_ids.specs.declared.ids.DirId.{DirId}
use Rattle.tect_ids.specs.declared.ids.Hold.{Hold}
use Rattle.tect_ids.specs.declared.ids.OpId.{OpId}

abbrev pub root : DirId
root = record { 0 = 1 }

-- the number that an actor gives to the object that it makes with that serial
abbrev pub object_number : ℕ → ℕ → ℕ
object_number actor serial = actor * 2 ^ 32 + serial

-- the one hold of an op
abbrev pub own_hold : OpId → Hold
own_hold op = record { op = op; part = 0 }
