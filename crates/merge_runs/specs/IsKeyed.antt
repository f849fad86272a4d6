-- The numbers by which moments are sorted.
use Rattle.std.specs.Prelude.{◌≡◌, ℕ}
use Rattle.std.specs.Coded.{Coded-set, coded_ℕ}
use Rattle.entry_words.specs.declared.entry.Moment.{Moment}
use Rattle.entry_words.specs.Moments.{stamp_of, place_of_moment, actor_of}

-- these are the moment's stamp, place and actor
pub record IsKeyed (stamp place actor : ℕ) (moment : Moment) : Type 0 where
  pub stamped : stamp ≡ stamp_of moment
  pub placed : place ≡ place_of_moment moment
  pub acted : actor ≡ actor_of moment

ℕ-set : IsSet ℕ
ℕ-set = Coded-set coded_ℕ

pub IsKeyed-prop : (stamp place actor : ℕ) (moment : Moment) → IsProp (IsKeyed stamp place actor moment)
IsKeyed-prop stamp place actor moment = Prim.hlevel ℕ-set
