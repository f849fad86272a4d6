use Rattle.std.proofs.Common.{◌≡◌, List, [], ◌∷◌, ◌++◌, map, Some, rules, sym, ap, ◌∙◌, arith}
use Rattle.std.specs.List.{dedup}
use Rattle.std.specs.FinMap.{entries, entries_sorted}
use Rattle.std.proofs.lemmas.Iterator.Consumers.{YieldsList-end, YieldsList-from_first}
use Rattle.std.proofs.lemmas.List.{map-append}
use Rattle.tect_ids.specs.declared.ids.DiskId.{DiskId}
use Rattle.tect_ids.specs.declared.key.ChunkKey.{ChunkKey}
use Rattle.tect_ids.specs.Keys.{disk_eq}
use Rattle.map_words.specs.Pairs.{left, pair_of}
use Rattle.disk_store.proofs.OnceEach.{last_disk, last_disk-more, dedup-again, dedup-another, once_keys}
use Rattle.disk_store.proofs.shard.Disk.disks.Goals as goal

pub loop-chunk-preserved-then-ne : goal.loop-chunk-preserved-then-ne
loop-chunk-preserved-then-ne c =
    let seen : List DiskId = map (λ e. e.0.disk) (map pair_of c.loop-chunk.yielded) in
    let x : DiskId = c.in-Some.chunk.now.disk in
    let more : map (λ e. e.0.disk) (map pair_of (c.loop-chunk.yielded ++ (c.in-Some.chunk, c.in-Some._bytes) ∷ [])) ≡ seen ++ x ∷ [] =
    simp map-append in
    let other : last_disk seen ≡ Some x → ⊥ = λ is. grind (arith, is, c.loop-chunk.invariant.last_seen, c.ne.ensures, c.if-ne.true) in
    record {
      kept =
          c.in_ok-push.ensures.items
          ∙ ap (λ (ds : List DiskId). ds ++ x ∷ []) c.loop-chunk.invariant.kept
          ∙ sym (ap (dedup disk_eq) more ∙ dedup-another seen x other);
      last_seen = sym (ap last_disk more ∙ last_disk-more seen x);
    }

pub loop-chunk-preserved : goal.loop-chunk-preserved
loop-chunk-preserved c =
    let seen : List DiskId = map (λ e. e.0.disk) (map pair_of c.loop-chunk.yielded) in
    let x : DiskId = c.in-Some.chunk.now.disk in
    let more : map (λ e. e.0.disk) (map pair_of (c.loop-chunk.yielded ++ (c.in-Some.chunk, c.in-Some._bytes) ∷ [])) ≡ seen ++ x ∷ [] =
    simp map-append in
    let last : c.loop-chunk.last ≡ Some x = grind (arith, c.ne.ensures, c.if-ne.false) in
    record {
      kept =
          c.loop-chunk.invariant.kept
          ∙ sym (ap (dedup disk_eq) more ∙ dedup-again seen x (sym c.loop-chunk.invariant.last_seen ∙ last));
      last_seen = last ∙ sym (ap last_disk more ∙ last_disk-more seen x);
    }

pub returns : goal.returns
returns c =
    let began : left c.into_iter-chunk-iterator.result ≡ entries c.args.self.now = search rules in
    let all = YieldsList-end (YieldsList-from_first pair_of left (entries c.args.self.now) began) c.loop-chunk.yielded
    c.loop-chunk.chunk-iterator c.loop-chunk.yielded_by c.next.result c.next.new.self c.in-None.is c.next.ensures.steps in
    c.loop-chunk.invariant.kept
    ∙ ap (λ rows. dedup disk_eq (map (λ e. e.0.disk) rows)) all.0
    ∙ once_keys (entries c.args.self.now) (entries_sorted c.args.self.now)
