-- The actors as the world keeps them, numbered from 1.
use Rattle.std.specs.Prelude.{◌≡◌, ℕ, ◌+◌, ◌-◌, ◌<◌, ◌≤◌, Bool, is_some, eqb, if◌then◌else◌, max, List, [], length}
use Rattle.std.specs.Prelude.{slice_index_or, count_by}
use Rattle.tect_ids.specs.declared.ids.Counts.{Counts}
use Rattle.program_forms.specs.Kinds.{Programs}
use Rattle.world_runs.specs.declared.event.Event.{Event}
use Rattle.clients.specs.Lives.{ClientLife, IsLife, events_in, idle_life, state_in}

-- that many actors that did nothing
pub record AreIdle {S : Type 0} (P : Programs S) (c : Counts) (ls : List ClientLife) (count : ℕ) : Type 0 where
  pub number : length ls ≡ count
  pub each : (i : ℕ) → i < count → slice_index_or ls i (idle_life 0 c) ≡ idle_life (i + 1) c
  pub lives : (i : ℕ) → i < count → IsLife P (slice_index_or ls i (idle_life 0 c))

-- the actor with that number
abbrev pub client_at : Counts → List ClientLife → ℕ → ClientLife
client_at counts lives a = slice_index_or lives (a - 1) (idle_life 0 counts)

-- its own events
abbrev pub events_by : Counts → List ClientLife → ℕ → List Event
events_by counts lives a = if eqb a 0 then [] else events_in (client_at counts lives a)

-- the client with its clock at least at that number
abbrev pub raised : ClientLife → ℕ → ClientLife
raised life clock = record life { clock = max life.clock clock }

-- whether its command goes on, and of how many it does
abbrev pub is_going : {S : Type 0} → Programs S → ClientLife → Bool
is_going P l = is_some (state_in P l).running

abbrev pub going : {S : Type 0} → Programs S → List ClientLife → ℕ
going P lives = count_by (is_going P) lives

-- what is so of the client with that number, where no stamp is above that clock
pub record IsClientOf {S : Type 0} (P : Programs S) (c : Counts) (clock a : ℕ) (l : ClientLife) : Type 0 where
  pub actor : l.actor ≡ a
  pub counts : l.counts ≡ c
  pub life : IsLife P l
  pub early : l.clock ≤ clock
