use Rattle.std.proofs.Common.{◌≢◌, List, ◌∙◌, subst}
use Rattle.std.specs.List.{All}
use Rattle.tect_ids.specs.declared.ids.DiskId.{DiskId}
use Rattle.layers.proofs.ByDisk.{no_such_disk}
use Rattle.layers.proofs.Elsewhere.{none_added}
use Rattle.layers.proofs.lent.add_disk_lines.Goals as goal

pub returns-in_default : goal.returns-in_default
returns-in_default c =
    let same = c.deref.ensures.value ∙ c.in_ok-disks.ensures in
    let all = subst (λ (ds : List DiskId). All (λ d. d.0 ≢ c.args.number) ds) same c.in_default.ensures in
    none_added _ _ (no_such_disk c.args.disk.now c.args.number all)
