-- One history of the moments that were noted, of the events of refused ops, which no moment notes, and of dumps.
use Rattle.std.specs.Prelude.{ℕ, Bool, not, nat_le, List, [], ◌∷◌, ◌++◌, map, filter}
use Rattle.entry_words.specs.declared.entry.Moment.{Moment}
use Rattle.entry_words.specs.Moments.{stamp_of}
use Rattle.world_runs.specs.declared.event.Event.{Event}
use Rattle.world_runs.specs.declared.event.Event.TheVariants.{Dumped}
use Rattle.world_runs.specs.Refusals.{AreOfRefused}
use Rattle.world_runs.specs.Events.{events_of, own}

-- where a dump stands: behind the moments that are stamped up to this, and behind these events of refused ops
pub record Cut : Type 0 where
  pub stamp : ℕ
  pub silent : List Event

abbrev pub is_early : ℕ → Moment → Bool
is_early stamp m = nat_le (stamp_of m) stamp

abbrev pub is_late : ℕ → Moment → Bool
is_late stamp m = not (is_early stamp m)

-- the parts that end with a dump, and the last one, which has these events of refused ops at its end
abbrev pub woven : List Cut → List Event → List Moment → List Event
woven [] last ms = events_of ms ++ last
woven (c ∷ cs) last ms =
    (events_of (filter (is_early c.stamp) ms) ++ c.silent) ++ Dumped ∷ woven cs last (filter (is_late c.stamp) ms)

-- what is one actor's of a cut
abbrev pub own_cut : ℕ → Cut → Cut
own_cut actor c = record { stamp = c.stamp; silent = own actor c.silent }

abbrev pub own_cuts : ℕ → List Cut → List Cut
own_cuts actor = map (own_cut actor)

-- the silent events are of refused ops alone, whose refusal is one of them
abbrev pub AreSilentAfter : List Event → List Cut → List Event → Type 0
AreSilentAfter before [] last = AreOfRefused before last
AreSilentAfter before (c ∷ cs) last = AreOfRefused before c.silent × AreSilentAfter (before ++ c.silent) cs last

abbrev pub AreSilent : List Cut → List Event → Type 0
AreSilent cuts last = AreSilentAfter [] cuts last
