-- requests of the tokens and rows of files
use Rattle.std.proofs.Common.{◌≡◌, ℕ, true, false, Option, Some, None, refl, sym, ◌∙◌, subst, arith, map}
use Rattle.std.specs.List.{slice_get}
use Rattle.std.specs.FinMap.{get}
use Rattle.std.proofs.lemmas.Option.{slice_get-map}
use Rattle.tect_ids.specs.declared.ids.BlkId.{BlkId}
use Rattle.tect_ids.specs.declared.ids.FileId.{FileId}
use Rattle.tect_ids.specs.declared.ids.Hold.{Hold}
use Rattle.tect_ids.specs.declared.ids.Node.{Node}
use Rattle.tect_ids.specs.declared.ids.Node.TheVariants.{Dir, File}
use Rattle.tect_ids.specs.declared.ids.OpId.{OpId}
use Rattle.tect_ids.specs.declared.values.RowPart.{RowPart}
use Rattle.store_rules.specs.declared.file_rows.FileRow.{FileRow}
use Rattle.store_rules.specs.declared.files.File.{File as AnyFile}
use Rattle.store_rules.specs.declared.files.FileReq.TheVariants as files
use Rattle.store_rules.specs.declared.any.AnyReq.TheVariants as any
use Rattle.store_rules.specs.Files.{row_part}
use Rattle.store_rules.specs.Store.{Store, store_changes, store_change, store_reply}
use Rattle.store_rules.specs.Views.{is_made, as_attached, as_block_list}
use Rattle.store_pasts.specs.Worlds.{World, RowLive, done}
use Rattle.store_pasts.specs.Contents.{sealed_length}
use Rattle.store_pasts.specs.Learned.{OpenedTaught, AttachTaught, RowsTaught, ListedTaught, part_in}
use Rattle.store_pasts.specs.Pasts.{row_at}
use Rattle.store_pasts.specs.Requests.{Needs}
use Rattle.store_pasts.proofs.Laters.{rows_stay, blocks_same, chunks_same}
use Rattle.store_world.specs.Sound.{Sound, lists, stands}
use Rattle.store_world.specs.Kept.{Kept}
use Rattle.store_world.proofs.Frames.{Row, by_answer, by_reading, grants_nothing, no_rows}
use Rattle.store_world.proofs.Alike.{holds_alike, nodes_alike, rows_alike}
use Rattle.store_world.proofs.BlockMaps.{block_maps}

-- TakeToken
module _ (w : World) (s : Sound w) (f : FileId) (t : OpId) where
  abbrev token_taken : Store
  token_taken = store_change w.store (any.File (files.TakeToken f t))

  -- what nodes list is as before, and so are the rows
  token_lists : (n : Node) (h : Hold) → lists token_taken n h ≡ lists w.store n h
  token_lists (Dir d) h = refl
  token_lists (File x) h = grind (arith, block_maps)

  token_stands : (n : Node) → stands token_taken n ≡ stands w.store n
  token_stands (Dir d) = refl
  token_stands (File x) = grind (arith, block_maps)

  token_rows : (x : FileId) (i : ℕ) → row_at token_taken x i ≡ row_at w.store x i
  token_rows x i = grind (arith, block_maps)

  -- what is opened stands, so it was made
  token_done : store_changes w.store (any.File (files.TakeToken f t)) ≡ true
      → Kept w (done w (any.File (files.TakeToken f t))) (any.File (files.TakeToken f t))
  token_done ok = record {
    sound = record {
      entries = s.entries;
      holds = holds_alike _ _ _ _ _ token_lists s.holds;
      nodes = nodes_alike _ _ _ _ token_stands s.nodes;
      tree = s.tree;
      rows = rows_alike _ _ _ _ _ s.rows _ token_rows;
      blocks = s.blocks;
      chunks = s.chunks;
    };
    later = record {
      made = λ n e. e;
      unmade = λ n o e. e;
      named = λ n e. e;
      unnamed = λ n o e. e;
      fresh = λ h o e. e;
      live = λ h g o e l. e;
      kept = λ h p e. e;
      spent = λ h e. e;
      rows = rows_stay _ _ _ _ token_rows;
      blocks = blocks_same _ _;
      chunks = chunks_same _ _;
    };
    taught = λ e. grind (arith, s.nodes.standing_made (File f));
  }

token_refused : (w : World) (f : FileId) (t : OpId) → store_changes w.store (any.File (files.TakeToken f t)) ≡ false
    → OpenedTaught w f (store_reply w.store (any.File (files.TakeToken f t)))
token_refused w f t stayed = grind arith

token_untold : (s : Store) (f : FileId) (t : OpId) → is_made (store_reply s (any.File (files.TakeToken f t))) ≡ false
token_untold s f t = grind arith

pub take_token_row : (f : FileId) (t : OpId) → Row (any.File (files.TakeToken f t))
take_token_row f t = record {
  kept = λ w s needs. by_answer w (any.File (files.TakeToken f t)) _ refl (λ e. by_reading w _ s (token_refused w f t e))
      (token_done w s f t);
  laws = grants_nothing (any.File (files.TakeToken f t)) refl refl (λ s. token_untold s f t) (λ w k. tt) (no_rows _ refl refl);
}

-- Attach
module _ (w : World) (s : Sound w) (f : FileId) (t : OpId) (b : BlkId) (n : ℕ) (h : Hold)
    (needs : Needs w (any.File (files.Attach f t b n h))) where
  abbrev attached : Store
  attached = store_change w.store (any.File (files.Attach f t b n h))

  attach_lists : (m : Node) (x : Hold) → lists attached m x ≡ lists w.store m x
  attach_lists (Dir d) x = refl
  attach_lists (File g) x = grind (arith, block_maps)

  attach_stands : (m : Node) → stands attached m ≡ stands w.store m
  attach_stands (Dir d) = refl
  attach_stands (File g) = grind (arith, block_maps)

  attach_done : store_changes w.store (any.File (files.Attach f t b n h)) ≡ true
      → Kept w (done w (any.File (files.Attach f t b n h))) (any.File (files.Attach f t b n h))
  attach_done ok = record {
    sound = record {
      entries = s.entries;
      holds = holds_alike _ _ _ _ _ attach_lists s.holds;
      nodes = nodes_alike _ _ _ _ attach_stands s.nodes;
      tree = s.tree;
      rows = record {
        bound = λ x i r is. grind (arith, block_maps, s.rows.bound x i r);
        has_hold = λ x i r is. grind (
          arith,
          block_maps,
          s.rows.has_hold x i r,
          s.rows.live h record { blk = b; file = f; phase = RowLive },
        );
        sealed_as = λ x i r is. grind (arith, block_maps, s.rows.sealed_as x i r);
        set = λ x g i is p. grind (arith, block_maps, s.rows.set x g i);
        live = λ x g is l. grind (arith, block_maps, s.rows.live x g);
        listed = λ e x u is. grind (arith, block_maps, s.rows.listed e x u);
        file_made = λ x g is. grind (arith, block_maps, s.rows.file_made x);
      };
      blocks = s.blocks;
      chunks = s.chunks;
    };
    later = record {
      made = λ m e. e;
      unmade = λ m o e. e;
      named = λ m e. e;
      unnamed = λ m o e. e;
      fresh = λ x o e. e;
      live = λ x g o e l. e;
      kept = λ x p e. e;
      spent = λ x e. e;
      rows = record {
        row = λ x i r is. grind (arith, block_maps);
        fresh = λ x o e. grind (arith, block_maps);
        live = λ x g o e l. grind (arith, block_maps);
        kept = λ x p e. grind (arith, block_maps);
        spent = λ x e. grind (arith, block_maps);
      };
      blocks = blocks_same _ _;
      chunks = chunks_same _ _;
    };
    taught = grind (arith, block_maps);
  }

-- one that is refused leaves its hold
attach_says : (w : World) (f : FileId) (t : OpId) (b : BlkId) (n : ℕ) (h : Hold)
    → store_changes w.store (any.File (files.Attach f t b n h)) ≡ false
    → as_attached (store_reply w.store (any.File (files.Attach f t b n h))) ≡ None
attach_says w f t b n h stayed = grind arith

attach_refused : (w : World) (f : FileId) (t : OpId) (b : BlkId) (n : ℕ) (h : Hold) → Needs w (any.File (files.Attach f t b n h))
    → store_changes w.store (any.File (files.Attach f t b n h)) ≡ false
    → AttachTaught w f b n h (as_attached (store_reply w.store (any.File (files.Attach f t b n h))))
attach_refused w f t b n h needs stayed = rw (attach_says w f t b n h stayed) needs.0

attach_untold : (s : Store) (f : FileId) (t : OpId) (b : BlkId) (n : ℕ) (h : Hold)
    → is_made (store_reply s (any.File (files.Attach f t b n h))) ≡ false
attach_untold s f t b n h = grind arith

pub attach_row : (f : FileId) (t : OpId) (b : BlkId) (n : ℕ) (h : Hold) → Row (any.File (files.Attach f t b n h))
attach_row f t b n h = record {
  kept = λ w s needs. by_answer w (any.File (files.Attach f t b n h)) _ refl
      (λ e. by_reading w _ s (attach_refused w f t b n h needs e)) (attach_done w s f t b n h needs);
  laws = grants_nothing (any.File (files.Attach f t b n h)) refl refl (λ s. attach_untold s f t b n h) (λ w k. tt) (no_rows _ refl refl);
}

-- ListBlocks
listed_rows : (x : AnyFile) (i : ℕ) → slice_get (map row_part x.rows) i ≡ part_in (slice_get x.rows i)
listed_rows x i = grind (arith, slice_get-map row_part x.rows i)

module _ (w : World) (s : Sound w) (f : FileId) where
  -- the block of each row is sealed, and as long as listed
  listed_sealed : (i : ℕ) (o : Option FileRow) → row_at w.store f i ≡ o → (p : RowPart) → part_in o ≡ Some p
      → sealed_length (get w.store.blocks p.blk) ≡ Some p.len
  listed_sealed i None e p is = absurd (let k : None ≡ Some p = is in cc)
  listed_sealed i (Some r) e p is =
      let same : row_part r ≡ p = cc in
      subst (λ (x : RowPart). sealed_length (get w.store.blocks x.blk) ≡ Some x.len) same (s.rows.sealed_as f i r e)

  rows_taught : (x : AnyFile) → get w.store.files f ≡ Some x → RowsTaught w f (map row_part x.rows)
  rows_taught x e =
      let row : (i : ℕ) → slice_get (map row_part x.rows) i ≡ part_in (row_at w.store f i) = λ i. rw e (listed_rows x i) in
      record { row = row; sealed = λ i p is. listed_sealed i (row_at w.store f i) refl p (sym (row i) ∙ is) }

  listed_taught : ListedTaught w f (as_block_list (store_reply w.store (any.File (files.ListBlocks f))))
  listed_taught = at (get w.store.files f) refl
    where
      at : (o : Option AnyFile) → get w.store.files f ≡ o
          → ListedTaught w f (as_block_list (store_reply w.store (any.File (files.ListBlocks f))))
      at None e = rw e tt
      at (Some x) e = rw e (rows_taught x e)

list_blocks_untold : (s : Store) (f : FileId) → is_made (store_reply s (any.File (files.ListBlocks f))) ≡ false
list_blocks_untold s f = grind arith

pub list_blocks_row : (f : FileId) → Row (any.File (files.ListBlocks f))
list_blocks_row f = record {
  kept = λ w s needs. by_answer w (any.File (files.ListBlocks f)) _ refl (λ e. by_reading w _ s (listed_taught w s f))
      (λ e. by_reading w _ s (listed_taught w s f));
  laws = grants_nothing (any.File (files.ListBlocks f)) refl refl (λ s. list_blocks_untold s f) (λ w k. tt) (no_rows _ refl refl);
}
