-- What a request keeps.
use Rattle.store_rules.specs.declared.any.AnyReq.{AnyReq}
use Rattle.store_rules.specs.Store.{store_reply}
use Rattle.store_pasts.specs.Ghosts.{World}
use Rattle.store_pasts.specs.Later.{Later}
use Rattle.store_pasts.specs.Requests.{touched_by, Taught}
use Rattle.store_world.specs.Sound.{Sound}

-- what a request has to keep, from w to v
pub record Kept (w v : World) (q : AnyReq) : Type 0 where
  pub sound : Sound v
  pub later : Later (touched_by q) w v
  pub taught : Taught v q (store_reply w.store q)
