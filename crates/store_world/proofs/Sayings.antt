-- a command that begins, and may say bytes, keeps a world sound: what was said before stays
use Rattle.std.proofs.Common.{◌≡◌, ℕ, List, Option, Some, None, refl}
use Rattle.tect_ids.specs.declared.ids.OpId.{OpId}
use Rattle.store_pasts.specs.Ghosts.{World, Born, with_said}
use Rattle.store_pasts.specs.Contents.{born_content, born_length, bytes_length}
use Rattle.store_pasts.specs.Worlds.{saying}
use Rattle.store_pasts.proofs.Sayings.{said_stays}
use Rattle.store_world.specs.Sound.{Sound}

module _ (said : OpId → Option (List ℕ)) (op : OpId) (bytes : List ℕ) where
  content_stays : (o : Option Born) (was : List ℕ) → born_content said o ≡ Some was → born_content (with_said said op bytes) o ≡ Some was
  content_stays None was e = absurd (let k : None ≡ Some was = e in cc)
  content_stays (Some m) was e = said_stays said op bytes m.maker was e

  -- what has a length was said, so it is the same
  length_stays : (o : Option Born) → bytes_length (born_content said o) ≡ born_length o
      → bytes_length (born_content (with_said said op bytes) o) ≡ born_length o
  length_stays None e = e
  length_stays (Some m) e = at (said m.maker) refl
    where
      at : (o : Option (List ℕ)) → said m.maker ≡ o → bytes_length (with_said said op bytes m.maker) ≡ Some m.len
      at None is = absurd (let k : None ≡ Some m.len = (rw is at e) in cc)
      at (Some was) is = rw (said_stays said op bytes m.maker was is) (rw is at e)

pub saying_sound : (w : World) (op : OpId) (o : Option (List ℕ)) → Sound w → Sound (saying op o w)
saying_sound w op None s = s
saying_sound w op (Some bytes) s = record {
  entries = s.entries;
  holds = s.holds;
  nodes = s.nodes;
  tree = s.tree;
  rows = s.rows;
  blocks = record {
    shape = s.blocks.shape;
    rows = s.blocks.rows;
    version = s.blocks.version;
    length = λ b. length_stays w.ghost.said op bytes (w.ghost.born b) (s.blocks.length b);
    some = s.blocks.some;
    apart = s.blocks.apart;
    at_home = s.blocks.at_home;
    tagged_born = s.blocks.tagged_born;
  };
  chunks = record {
    at_home = s.chunks.at_home;
    content = λ c was e. content_stays w.ghost.said op bytes (w.ghost.born c.blk) was (s.chunks.content c was e);
    stored = s.chunks.stored;
  };
}
