-- What a pass is.
use Rattle.std.specs.Prelude.{◌≡◌, ℕ, ◌+◌, ◌<◌, ◌≤◌, ◌^◌, Bool, true, length, Option, Some, None, ◌==◌}
use Rattle.std.specs.Coded.{Coded-set, coded_bool, coded_ℕ, coded_option, le_prop}
use Rattle.tect_ids.specs.declared.ids.OpId.{OpId}
use Rattle.tect_ids.specs.Codes.{op_code}
use Rattle.entry_words.specs.declared.entry.Moment.{Moment}
use Rattle.passes.specs.Logged.{Logged}
use Rattle.entry_words.specs.Moments.{trail_of, rises, all_of_actor, steps_count, all_reply_bytes, running_in, all_notes_of, moments_cost}

-- the moment that is put aside for the end of a running op
abbrev pub aside : Option OpId → ℕ
aside None = 0
aside (Some op) = 1

-- the op that runs, if one does, is that actor's
abbrev pub is_run_by : ℕ → Option OpId → Bool
is_run_by actor None = true
is_run_by actor (Some op) = op.actor == actor

-- the moments are one actor's, and the numbers tell of them
pub record IsPass (actor clock steps bytes : ℕ) (running : Option OpId) (moments : Logged Moment) : Type 0 where
  pub own : all_of_actor actor moments.items ≡ true
  pub rising : rises 0 clock moments.items ≡ true
  pub counted : steps_count 0 steps (trail_of moments.items) ≡ true
  pub weighed : bytes ≡ all_reply_bytes (trail_of moments.items)
  pub going : running ≡ running_in None moments.items
  pub runs_own : is_run_by actor running ≡ true
  pub notes_own : all_notes_of actor moments.items ≡ true
  pub costs : length moments.items + aside running ≡ moments_cost moments.items
  pub few : length moments.items + aside running ≤ 65536
  pub room : aside running ≤ moments.spare
  pub early : clock + aside running < 2 ^ 64

Bool-set : IsSet Bool
Bool-set = Coded-set coded_bool

ℕ-set : IsSet ℕ
ℕ-set = Coded-set coded_ℕ

op-set : IsSet (Option OpId)
op-set = Coded-set (coded_option op_code)

pub IsPass-prop : (actor clock steps bytes : ℕ) (running : Option OpId) (moments : Logged Moment)
    → IsProp (IsPass actor clock steps bytes running moments)
IsPass-prop actor clock steps bytes running moments = Prim.hlevel (Bool-set, ℕ-set, op-set, le_prop)
