-- What contracts see of the sources and sinks in memory, and what one call makes of it.
use Rattle.std.specs.Prelude.{ℕ, List, take, drop, ◌++◌, Contains}
use Rattle.tect_edge.specs.Counts.{next_count}

-- the bytes left, how often `take` was called, the numbers of the calls that fail, and how many failed
pub record ScriptedSource : Type 0 where
  pub left : List ℕ
  pub calls : ℕ
  pub failing : List ℕ
  pub faults : ℕ

-- the number of the next call is listed
abbrev pub TakeFails : ScriptedSource → Type 0
TakeFails s = Contains s.failing (next_count s.calls)

-- after a call that gave n bytes
abbrev pub after_take : ScriptedSource → ℕ → ScriptedSource
after_take s n = record s { left = drop n s.left; calls = next_count s.calls }

-- after a call that failed
abbrev pub after_failed_take : ScriptedSource → ScriptedSource
after_failed_take s = record s { calls = next_count s.calls; faults = next_count s.faults }

-- the bytes left, and how often `take` was called
pub record PlainSource : Type 0 where
  pub left : List ℕ
  pub calls : ℕ

-- the bytes written, how often `put` was called, the numbers of the calls that fail, and how many failed
pub record ScriptedSink : Type 0 where
  pub written : List ℕ
  pub calls : ℕ
  pub failing : List ℕ
  pub faults : ℕ

-- the number of the next call is listed
abbrev pub PutFails : ScriptedSink → Type 0
PutFails s = Contains s.failing (next_count s.calls)

-- after a call that took the piece
abbrev pub after_put : ScriptedSink → List ℕ → ScriptedSink
after_put s piece = record s { written = s.written ++ piece; calls = next_count s.calls }

-- after a call that failed
abbrev pub after_failed_put : ScriptedSink → ScriptedSink
after_failed_put s = record s { calls = next_count s.calls; faults = next_count s.faults }

-- how many bytes are kept at most, and the first of those that were put
pub record BoundedSink : Type 0 where
  pub room : ℕ
  pub kept : List ℕ

-- what is kept after a further piece
abbrev pub after_bounded_put : BoundedSink → List ℕ → BoundedSink
after_bounded_put s piece = record s { kept = take s.room (s.kept ++ piece) }
