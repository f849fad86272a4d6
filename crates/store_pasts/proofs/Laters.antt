-- what may have been done: nothing, one thing after another, and less
use Rattle.std.proofs.Common.{◌≡◌, ℕ, Option}
use Rattle.tect_ids.specs.declared.ids.FileId.{FileId}
use Rattle.tect_ids.specs.declared.ids.Hold.{Hold}
use Rattle.store_rules.specs.declared.file_rows.FileRow.{FileRow}
use Rattle.store_rules.specs.Disks.{Chunks}
use Rattle.store_pasts.specs.Ghosts.{World, RowGiven}
use Rattle.store_pasts.specs.Pasts.{BlocksPart}
use Rattle.store_pasts.specs.Later.{Touched, Later, LaterRows, LaterBlocks, LaterChunks, Within}

-- ---- nothing happens

pub rows_same : (by : Touched) (row : FileId → ℕ → Option FileRow) (given : Hold → Option RowGiven) → LaterRows by row row given given
rows_same by row given = record {
  row = λ f i r e. e;
  fresh = λ h o e. e;
  live = λ h g o e l. e;
  kept = λ h p e. e;
  spent = λ h e. e;
}

pub blocks_same : (by : Touched) (p : BlocksPart) → LaterBlocks by p p
blocks_same by p = record {
  born = λ b m e. e;
  unborn = λ b o e. e;
  tagged = λ t m e. e;
  untagged = λ t o e. e;
  said = λ op bytes e. e;
  unsaid = λ op o e. e;
  sealed = λ b n e. e;
  unsealed = λ b o e. e;
}

pub chunks_same : (by : Touched) (chunks : Chunks) → LaterChunks by chunks chunks
chunks_same by chunks = record { chunk = λ c bytes e. e; no_chunk = λ c o e. e }

pub later_same : (by : Touched) (w : World) → Later by w w
later_same by w = record {
  made = λ n e. e;
  unmade = λ n o e. e;
  named = λ n e. e;
  unnamed = λ n o e. e;
  fresh = λ h o e. e;
  live = λ h g o e l. e;
  kept = λ h p e. e;
  spent = λ h e. e;
  rows = rows_same by _ _;
  blocks = blocks_same by _;
  chunks = chunks_same by _;
}

-- rows that are the same one by one stay
pub rows_stay : (by : Touched) (row now : FileId → ℕ → Option FileRow) (given : Hold → Option RowGiven)
    → ((f : FileId) (i : ℕ) → now f i ≡ row f i) → LaterRows by row now given given
rows_stay by row now given same = record {
  row = λ f i r e. rw (same f i) e;
  fresh = λ h o e. e;
  live = λ h g o e l. e;
  kept = λ h p e. e;
  spent = λ h e. e;
}

-- ---- one thing happens after another

pub later_then : (by : Touched) (w v u : World) → Later by w v → Later by v u → Later by w u
later_then by w v u l k = record {
  made = λ n e. k.made n (l.made n e);
  unmade = λ n o e. k.unmade n o (l.unmade n o e);
  named = λ n e. k.named n (l.named n e);
  unnamed = λ n o e. k.unnamed n o (l.unnamed n o e);
  fresh = λ h o e. k.fresh h o (l.fresh h o e);
  live = λ h g o e p. k.live h g o (l.live h g o e p) p;
  kept = λ h p e. k.kept h p (l.kept h p e);
  spent = λ h e. k.spent h (l.spent h e);
  rows = record {
    row = λ f i r e. k.rows.row f i r (l.rows.row f i r e);
    fresh = λ h o e. k.rows.fresh h o (l.rows.fresh h o e);
    live = λ h g o e p. k.rows.live h g o (l.rows.live h g o e p) p;
    kept = λ h p e. k.rows.kept h p (l.rows.kept h p e);
    spent = λ h e. k.rows.spent h (l.rows.spent h e);
  };
  blocks = record {
    born = λ b m e. k.blocks.born b m (l.blocks.born b m e);
    unborn = λ b o e. k.blocks.unborn b o (l.blocks.unborn b o e);
    tagged = λ t m e. k.blocks.tagged t m (l.blocks.tagged t m e);
    untagged = λ t o e. k.blocks.untagged t o (l.blocks.untagged t o e);
    said = λ op bytes e. k.blocks.said op bytes (l.blocks.said op bytes e);
    unsaid = λ op o e. k.blocks.unsaid op o (l.blocks.unsaid op o e);
    sealed = λ b n e. k.blocks.sealed b n (l.blocks.sealed b n e);
    unsealed = λ b o e. k.blocks.unsealed b o (l.blocks.unsealed b o e);
  };
  chunks = record {
    chunk = λ c bytes e. k.chunks.chunk c bytes (l.chunks.chunk c bytes e);
    no_chunk = λ c o e. k.chunks.no_chunk c o (l.chunks.no_chunk c o e);
  };
}

-- ---- where more may be touched, less is said

pub weaken : (t u : Touched) (w v : World) → Within t u → Later t w v → Later u w v
weaken t u w v i l = record {
  made = l.made;
  unmade = λ n o. l.unmade n (i.made n o);
  named = l.named;
  unnamed = λ n o. l.unnamed n (i.named n o);
  fresh = λ h o. l.fresh h (i.hold h o);
  live = λ h g o. l.live h g (i.hold h o);
  kept = l.kept;
  spent = l.spent;
  rows = record {
    row = l.rows.row;
    fresh = λ h o. l.rows.fresh h (i.row_hold h o);
    live = λ h g o. l.rows.live h g (i.row_hold h o);
    kept = l.rows.kept;
    spent = l.rows.spent;
  };
  blocks = record {
    born = l.blocks.born;
    unborn = λ b o. l.blocks.unborn b (i.born b o);
    tagged = l.blocks.tagged;
    untagged = λ t o. l.blocks.untagged t (i.tag t o);
    said = l.blocks.said;
    unsaid = λ op o. l.blocks.unsaid op (i.said op o);
    sealed = l.blocks.sealed;
    unsealed = λ b o. l.blocks.unsealed b (i.sealed b o);
  };
  chunks = record { chunk = l.chunks.chunk; no_chunk = λ c o. l.chunks.no_chunk c (i.tag c.tag o) };
}
