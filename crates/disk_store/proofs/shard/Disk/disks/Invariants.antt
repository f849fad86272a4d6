use Rattle.std.proofs.Common.{◌≡◌, map}
use Rattle.std.specs.List.{dedup}
use Rattle.tect_ids.specs.Keys.{disk_eq}
use Rattle.map_words.specs.Pairs.{pair_of}
use Rattle.disk_store.proofs.OnceEach.{last_disk}
use Rattle.disk_store.proofs.shard.Disk.disks.Given as goal

-- the disks of the chunks so far, each once, and the last of them
abbrev pub invariant-loop-chunk : goal.invariant-loop-chunk
invariant-loop-chunk l =
    let seen = map (λ e. e.0.disk) (map pair_of l.yielded) in
    record { kept : l.disks.items ≡ dedup disk_eq seen; last_seen : l.last ≡ last_disk seen }
