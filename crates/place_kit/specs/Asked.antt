-- A request before its machine is at hand, read by what those of all layers have.
use Rattle.std.specs.Prelude.{◌≡◌, ℕ}
use Rattle.store_rules.specs.declared.any.AnyReq.{AnyReq}
use Rattle.store_rules.specs.declared.any.AnyReq.TheVariants as any
use Rattle.place_kit.specs.declared.any_prepared.AnyPrepared.{AnyPrepared}
use Rattle.place_kit.specs.declared.any_prepared.AnyPrepared.TheVariants.{Name, File, Block, Disk}

abbrev pub asked_in : AnyPrepared → AnyReq
asked_in (Name p) = any.Name p.req
asked_in (File p) = any.File p.req
asked_in (Block p) = any.Block p.req
asked_in (Disk p) = any.Disk p.req

-- its copy for the pass is the request
abbrev pub IsReady : AnyPrepared → Type 0
IsReady (Name p) = p.copy ≡ any.Name p.req
IsReady (File p) = p.copy ≡ any.File p.req
IsReady (Block p) = p.copy ≡ any.Block p.req
IsReady (Disk p) = p.copy ≡ any.Disk p.req

-- the sure room of the pass before
abbrev pub spare_before : AnyPrepared → ℕ
spare_before (Name p) = p.spare
spare_before (File p) = p.spare
spare_before (Block p) = p.spare
spare_before (Disk p) = p.spare
