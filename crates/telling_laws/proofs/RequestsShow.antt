-- each request, seen by the tree
use Rattle.std.proofs.Common.{◌≡◌, ◌≢◌, ℕ, Bool, true, false, Option, Some, None, refl, sym, ap, ◌∙◌, arith, if◌then◌else◌, List, [], ◌∷◌}
use Rattle.std.proofs.Common.{map, length, suc}
use Rattle.std.proofs.lemmas.List.{map-append, length-map}
use Rattle.std.specs.List.{slice_get}
use Rattle.std.specs.Option.{option_map}
use Rattle.std.specs.FinMap.{FinMap, get, entries, empty}
use Rattle.tect_ids.specs.declared.ids.BlkId.{BlkId}
use Rattle.tect_ids.specs.declared.ids.DirId.{DirId}
use Rattle.tect_ids.specs.declared.ids.FileId.{FileId}
use Rattle.tect_ids.specs.declared.ids.Hold.{Hold}
use Rattle.tect_ids.specs.declared.ids.OpId.{OpId}
use Rattle.tect_ids.specs.declared.ids.Node.{Node}
use Rattle.tect_ids.specs.declared.ids.Node.TheVariants as nodes
use Rattle.tect_ids.specs.declared.key.Key.{Key}
use Rattle.tect_ids.specs.declared.key.Upper.{Upper}
use Rattle.tect_ids.specs.declared.key.Upper.TheVariants as uppers
use Rattle.tect_ids.specs.declared.values.Over.{Over}
use Rattle.tect_ids.specs.declared.values.Want.{Want}
use Rattle.tect_ids.specs.Keys.{key_cmp, name_eq}
use Rattle.tect_ids.proofs.KeyTests.{name_eq_cases}
use Rattle.map_words.specs.Maps.{set_at}
use Rattle.key_words.specs.Maps.{within}
use Rattle.store_rules.specs.declared.names.DirectoryEntry.{DirectoryEntry}
use Rattle.store_rules.specs.declared.names.NameReq.{NameReq}
use Rattle.store_rules.specs.declared.names.NameReq.TheVariants as names
use Rattle.store_rules.specs.declared.files.FileReq.{FileReq}
use Rattle.store_rules.specs.declared.files.FileReq.TheVariants as files
use Rattle.store_rules.specs.declared.file_rows.FileRow.{FileRow}
use Rattle.store_rules.specs.declared.blocks.BlockReq.{BlockReq}
use Rattle.store_rules.specs.declared.disks.DiskReq.{DiskReq}
use Rattle.store_rules.specs.declared.any.AnyReq.{AnyReq}
use Rattle.store_rules.specs.declared.any.AnyReq.TheVariants as any
use Rattle.store_rules.specs.Names.{key_in, listed, dir_with_hold, dir_sealed}
use Rattle.store_rules.specs.Files.{file_with_hold, file_with_token, file_with_row, file_sealed, row_part}
use Rattle.store_rules.specs.declared.files.File.{File}
use Rattle.store_rules.specs.declared.names.Directory.{Directory}
use Rattle.store_rules.specs.Store.{Store, store_reply, store_change, store_changes}
use Rattle.tree_model.specs.declared.step.TreeStep.{TreeStep}
use Rattle.tree_model.specs.declared.step.TreeStep.TheVariants as step
use Rattle.tree_model.specs.declared.step.TreeReply.{TreeReply}
use Rattle.tree_model.specs.Tree.{Tree, tree_change, tree_reply, is_ok, as_listed, file_with_token as tree_with_token, file_with_block, block_part}
use Rattle.tree_model.specs.Tree.{dir_sealed as tree_dir_sealed, file_sealed as tree_file_sealed}
use Rattle.claim_words.specs.TreeSteps.{tree_step, says}
use Rattle.telling_laws.specs.MapValues.{map_values, seen_by}
use Rattle.telling_laws.specs.View.{Made, view, Shows, AllMade, AllLong, MakesNew, StepShows, shown_dir, shown_row, shown_file, shown_entry}
use Rattle.telling_laws.proofs.ValuesSeen.{entries-map_values, get-map_values, dir_put, file_put, key_put, dir_alike, file_alike}
use Rattle.telling_laws.proofs.ValuesSeen.{within_seen}
use Rattle.telling_laws.proofs.ValuesSeen.{len_within_seen}

-- a listing shows the nodes alone
items_alike : (es : List (Key × DirectoryEntry)) → map listed es ≡ map as_listed (map (seen_by shown_entry) es)
items_alike [] = refl
items_alike (e ∷ es) = ap (λ l. listed e ∷ l) (items_alike es)

listing_alike : (m : FinMap key_cmp DirectoryEntry) (d : DirId)
    → map listed (entries (within m d)) ≡ map as_listed (entries (within (map_values shown_entry m) d))
listing_alike m d = items_alike (entries (within m d)) ∙ ap (map as_listed)
    (sym (ap entries (within_seen shown_entry m d) ∙ entries-map_values shown_entry (within m d)))

names_differ : (a b : List ℕ) → a ≢ b → name_eq a b ≡ false
names_differ a b d = grind (arith, name_eq_cases a b)

module _ (s : Store) (content : BlkId → List ℕ) (made : Made) (op : OpId) where
  -- what the reply says
  abbrev said : AnyReq → TreeReply
  said q = says (store_reply s q)

  turned : (q : AnyReq) (st : TreeStep) (b c : Bool) → b ≡ c
      → (c ≡ true → Shows (store_change s q) content (tree_change (view s content made) op st))
      → Shows (if c then store_change s q else s) content (if b then tree_change (view s content made) op st else view s content made)
  turned q st true true e did = did refl
  turned q st false false e did = refl
  turned q st true false e did = absurd (let k : true ≡ false = e in cc)
  turned q st false true e did = absurd (let k : false ≡ true = e in cc)

  -- a request that is a step: it is allowed; it is not refused just where it changes the store, and then the view changes as by the step
  by_step : (q : AnyReq) (st : TreeStep) → tree_step content q (store_reply s q) ≡ Some st
      → said q ≡ tree_reply (view s content made) op st
      → is_ok (said q) ≡ store_changes s q → (store_changes s q ≡ true → Shows (store_change s q) content (tree_change (view s content made) op st))
      → StepShows s content made op q
  by_step q st is allowed fits did = rw is (allowed, turned q st _ _ fits did)

  unread : (b : Bool) (u t : Tree) (s : Store) → u ≡ t → Shows s content t → Shows s content (if b then u else t)
  unread true u t s e h = rw e h
  unread false u t s e h = h

  -- a request that is a reading
  by_reading : (q : AnyReq) (st : TreeStep) → tree_step content q (store_reply s q) ≡ Some st
      → said q ≡ tree_reply (view s content made) op st
      → store_changes s q ≡ false → tree_change (view s content made) op st ≡ view s content made
      → StepShows s content made op q
  by_reading q st is allowed reads same = rw (is, reads)
      (allowed, unread (is_ok (said q)) (tree_change (view s content made) op st) (view s content made) s same refl)

  check_shows : (d : DirId) → StepShows s content made op (any.Name (names.CheckDir d))
  check_shows d = by_reading (any.Name (names.CheckDir d)) (step.Check d) refl (grind (arith, get-map_values)) (grind arith)
      refl

  look_shows : (k : Key) → StepShows s content made op (any.Name (names.Look k))
  look_shows k = by_reading (any.Name (names.Look k)) (step.Look k) refl (grind (arith, get-map_values)) (grind arith) refl

  list_shows : (d : DirId) → StepShows s content made op (any.Name (names.List d))
  list_shows d = by_reading (any.Name (names.List d)) (step.List d) refl
      (grind (arith, get-map_values, listing_alike s.names.entries d)) (grind arith) refl

  make_dir_shows : (d p : DirId) (h : Hold) (k : Key) → AllMade s made → get made (nodes.Dir d) ≡ None
      → StepShows s content made op (any.Name (names.MakeDir d p h k))
  make_dir_shows d p h k all new = by_step (any.Name (names.MakeDir d p h k)) (step.MakeDir d p) refl
      (grind (arith, all (nodes.Dir d))) (grind arith)
      (λ ok i. record {
        dirs = dir_put shown_dir s.names.dirs d (Some record { parent = p; sealed = false; holds = set_at empty h (Some (uppers.Entry k)) })
            i;
        entries = map_values shown_entry s.names.entries;
        files = map_values (shown_file content) s.files;
        made = set_at made (nodes.Dir d) (Some tt);
      })

  bind_shows : (k : Key) (n : Node) (h : Hold) (o : Over) → StepShows s content made op (any.Name (names.Bind k n h o))
  bind_shows k n h o = by_step (any.Name (names.Bind k n h o)) (step.Bind k n o) refl
      (grind (arith, get-map_values, len_within_seen shown_entry s.names.entries k.dir)) (grind arith)
      (λ ok i. record (view s content made) { entries = key_put shown_entry s.names.entries k (Some record { node = n; hold = h }) i })

  unbind_shows : (k : Key) (w : Want) → StepShows s content made op (any.Name (names.Unbind k w))
  unbind_shows k w = by_step (any.Name (names.Unbind k w)) (step.Unbind k w) refl
      (grind (arith, get-map_values)) (grind arith)
      (λ ok i. record (view s content made) { entries = key_put shown_entry s.names.entries k None i })

  swap_shows : (d : DirId) (from to : List ℕ) (n : Node) (h : Hold) → name_eq from to ≡ false
      → StepShows s content made op (any.Name (names.Swap d from to n h))
  swap_shows d from to n h other = by_step (any.Name (names.Swap d from to n h)) (step.Swap d from to n) refl
      (grind (arith, get-map_values)) (grind arith)
      (λ ok i. record (view s content made) {
        entries =
            (key_put shown_entry _ (key_in d to) (Some record { node = n; hold = h }) ∙ ap (λ m. set_at m (key_in d to) (Some n))
            (key_put shown_entry s.names.entries (key_in d from) None)) i;
      })

  -- a request that is a step just where it is refused
  by_refused : (q : AnyReq) (st : TreeStep) (b : Bool) → store_changes s q ≡ b
      → (b ≡ false → (tree_step content q (store_reply s q) ≡ Some st) × (said q ≡ tree_reply (view s content made) op st) × (is_ok (said q) ≡ false))
      → (b ≡ true → (tree_step content q (store_reply s q) ≡ None) × (view (store_change s q) content made ≡ view s content made)) → StepShows s content made op q
  by_refused q st true e refused did =
      let d : (tree_step content q (store_reply s q) ≡ None) × (view (store_change s q) content made ≡ view s content made) = did refl in rw (e, d.0) d.1
  by_refused q st false e refused did =
      let d : (tree_step content q (store_reply s q) ≡ Some st) × (said q ≡ tree_reply (view s content made) op st)
      × (is_ok (said q) ≡ false) = refused refl in
      rw (e, d.0, d.2) (d.1, refl)

  unseen : (q : AnyReq) (b : Bool) → (b ≡ true → view (store_change s q) content made ≡ view s content made)
      → view (if b then store_change s q else s) content made ≡ view s content made
  unseen q true did = did refl
  unseen q false did = refl

  -- what changes the holds alone is not seen
  dir_holds_alike : (d : DirId) (h : Hold) (u : Option Upper)
      → view record s { names = record s.names { dirs = set_at s.names.dirs d (dir_with_hold (get s.names.dirs d) h u) } } content made
      ≡ view s content made
  dir_holds_alike d h u i = record (view s content made)
      { dirs = dir_alike shown_dir s.names.dirs d (dir_with_hold (get s.names.dirs d) h u) (grind arith) i }

  file_holds_alike : (f : FileId) (h : Hold) (u : Option Upper)
      → view record s { files = set_at s.files f (file_with_hold (get s.files f) h u) } content made ≡ view s content made
  file_holds_alike f h u i = record (view s content made)
      { files = file_alike (shown_file content) s.files f (file_with_hold (get s.files f) h u) (grind arith) i }

  grant_dir_shows : (d : DirId) (h : Hold) (k : Key) → StepShows s content made op (any.Name (names.Grant d h k))
  grant_dir_shows d h k = by_refused (any.Name (names.Grant d h k)) (step.GrantDir d) _ refl
      (λ refused. (grind arith, grind (arith, get-map_values), grind arith))
      (λ ok. (grind arith, dir_holds_alike d h (Some (uppers.Entry k))))

  grant_file_shows : (f : FileId) (h : Hold) (k : Key) → StepShows s content made op (any.File (files.Grant f h k))
  grant_file_shows f h k = by_refused (any.File (files.Grant f h k)) (step.GrantFile f) _ refl
      (λ refused. (grind arith, grind (arith, get-map_values), grind arith))
      (λ ok. (grind arith, file_holds_alike f h (Some (uppers.Entry k))))

  release_dir_shows : (d : DirId) (h : Hold) → StepShows s content made op (any.Name (names.Release d h))
  release_dir_shows d h = unseen (any.Name (names.Release d h)) _ (λ ok. dir_holds_alike d h None)

  release_file_shows : (f : FileId) (h : Hold) → StepShows s content made op (any.File (files.Release f h))
  release_file_shows f h = unseen (any.File (files.Release f h)) _ (λ ok. file_holds_alike f h None)

  make_file_shows : (f : FileId) (h : Hold) (k : Key) (t : Option OpId) → AllMade s made
      → get made (nodes.File f) ≡ None → StepShows s content made op (any.File (files.MakeFile f h k t))
  make_file_shows f h k t all new = by_step (any.File (files.MakeFile f h k t)) (step.MakeFile f t) refl
      (grind (arith, all (nodes.File f))) (grind arith)
      (λ ok i. record {
        dirs = map_values shown_dir s.names.dirs;
        entries = map_values shown_entry s.names.entries;
        files = file_put (shown_file content) s.files f
            (Some record { token = t; sealed = false; holds = set_at empty h (Some (uppers.Entry k)); rows = [] }) i;
        made = set_at made (nodes.File f) (Some tt);
      })

  -- a file with another token, and with one block more
  token_shown : (x : Option File) (t : OpId)
      → option_map (shown_file content) (file_with_token x t) ≡ tree_with_token (option_map (shown_file content) x) t
  token_shown None t = refl
  token_shown (Some x) t = refl

  row_shown : (x : Option File) (r : FileRow)
      → option_map (shown_file content) (file_with_row x r) ≡ file_with_block (option_map (shown_file content) x) (shown_row content r)
  row_shown None r i = None
  row_shown (Some x) r i = Some record { token = x.token; sealed = x.sealed; blocks = map-append (shown_row content) x.rows (r ∷ []) i }

  -- so many blocks
  as_many : (x : File) → length (map (shown_row content) x.rows) ≡ length x.rows
  as_many x = length-map x.rows (shown_row content)

  take_token_shows : (f : FileId) (t : OpId) → StepShows s content made op (any.File (files.TakeToken f t))
  take_token_shows f t = by_step (any.File (files.TakeToken f t)) (step.Open f t) refl
      (grind (arith, get-map_values)) (grind arith)
      (λ ok i. record (view s content made) {
        files =
            (file_put (shown_file content) s.files f (file_with_token (get s.files f) t)
            ∙ ap (set_at (map_values (shown_file content) s.files) f)
            (token_shown (get s.files f) t ∙ ap (λ x. tree_with_token x t) (sym (get-map_values (shown_file content) s.files f)))) i;
      })

  attach_shows : (f : FileId) (t : OpId) (b : BlkId) (n : ℕ) (h : Hold) → StepShows s content made op (any.File (files.Attach f t b n h))
  attach_shows f t b n h =
      let r : FileRow = record { blk = b; len = n; hold = h } in
      by_step (any.File (files.Attach f t b n h)) (step.Attach f t b (content b)) refl
      (grind (arith, get-map_values, as_many)) (grind arith)
      (λ ok i. record (view s content made) {
        files =
            (file_put (shown_file content) s.files f (file_with_row (get s.files f) r)
            ∙ ap (set_at (map_values (shown_file content) s.files) f)
            (row_shown (get s.files f) r
            ∙ ap (λ x. file_with_block x (shown_row content r)) (sym (get-map_values (shown_file content) s.files f)))) i;
      })

  -- a block is as long as its content
  part_shown : (r : FileRow) → length (content r.blk) ≡ r.len → row_part r ≡ block_part (shown_row content r)
  part_shown r e i = record { blk = r.blk; len = sym e i }

  parts_shown : (rs : List FileRow) → ((i : ℕ) (r : FileRow) → slice_get rs i ≡ Some r → length (content r.blk) ≡ r.len)
      → map row_part rs ≡ map block_part (map (shown_row content) rs)
  parts_shown [] long i = []
  parts_shown (r ∷ rs) long i = part_shown r (long 0 r refl) i ∷ parts_shown rs (λ n x e. long (suc n) x e) i

  list_blocks_said : (f : FileId) (x : Option File) → get s.files f ≡ x → AllLong s content
      → said (any.File (files.ListBlocks f)) ≡ tree_reply (view s content made) op (step.Blocks f)
  list_blocks_said f None is long = grind (arith, get-map_values)
  list_blocks_said f (Some x) is long =
      let same : map row_part x.rows ≡ map block_part (map (shown_row content) x.rows) =
      parts_shown x.rows (λ i r e. long f i r (rw is e)) in grind (arith, get-map_values)

  list_blocks_shows : (f : FileId) → AllLong s content → StepShows s content made op (any.File (files.ListBlocks f))
  list_blocks_shows f long = by_reading (any.File (files.ListBlocks f)) (step.Blocks f) refl (list_blocks_said f _ refl long) (grind arith) refl

  -- a directory and a file, sealed
  dir_sealed_shown : (x : Option Directory) → option_map shown_dir (dir_sealed x) ≡ tree_dir_sealed (option_map shown_dir x)
  dir_sealed_shown None = refl
  dir_sealed_shown (Some x) = refl

  file_sealed_shown : (x : Option File)
      → option_map (shown_file content) (file_sealed x) ≡ tree_file_sealed (option_map (shown_file content) x)
  file_sealed_shown None = refl
  file_sealed_shown (Some x) = refl

  seal_dir_shows : (d : DirId) → StepShows s content made op (any.Name (names.SealDir d))
  seal_dir_shows d = by_step (any.Name (names.SealDir d)) (step.SealDir d) refl
      (grind (arith, get-map_values)) (grind arith)
      (λ ok i. record (view s content made) {
        dirs =
            (dir_put shown_dir s.names.dirs d (dir_sealed (get s.names.dirs d))
            ∙ ap (set_at (map_values shown_dir s.names.dirs) d)
            (dir_sealed_shown (get s.names.dirs d) ∙ ap tree_dir_sealed (sym (get-map_values shown_dir s.names.dirs d)))) i;
      })

  seal_file_shows : (f : FileId) → StepShows s content made op (any.File (files.SealFile f))
  seal_file_shows f = by_step (any.File (files.SealFile f)) (step.SealFile f) refl
      (grind (arith, get-map_values)) (grind arith)
      (λ ok i. record (view s content made) {
        files =
            (file_put (shown_file content) s.files f (file_sealed (get s.files f))
            ∙ ap (set_at (map_values (shown_file content) s.files) f)
            (file_sealed_shown (get s.files f) ∙ ap tree_file_sealed (sym (get-map_values (shown_file content) s.files f)))) i;
      })

  -- the tree shows no blocks and no chunks
  block_shows : (q : BlockReq) → StepShows s content made op (any.Block q)
  block_shows q = unseen (any.Block q) _ (λ ok. refl)

  disk_shows : (q : DiskReq) → StepShows s content made op (any.Disk q)
  disk_shows q = unseen (any.Disk q) _ (λ ok. refl)

  -- the whole table
  name_shows : (q : NameReq) → AllMade s made → MakesNew content made (any.Name q) → StepShows s content made op (any.Name q)
  name_shows (names.CheckDir d) all new = check_shows d
  name_shows (names.Look k) all new = look_shows k
  name_shows (names.List d) all new = list_shows d
  name_shows (names.MakeDir d p h k) all new = make_dir_shows d p h k all (new.new (nodes.Dir d) refl)
  name_shows (names.Bind k n h o) all new = bind_shows k n h o
  name_shows (names.Swap d from to n h) all new = swap_shows d from to n h (names_differ from to new.fits)
  name_shows (names.Unbind k w) all new = unbind_shows k w
  name_shows (names.Grant d h k) all new = grant_dir_shows d h k
  name_shows (names.Release d h) all new = release_dir_shows d h
  name_shows (names.SealDir d) all new = seal_dir_shows d

  file_shows : (q : FileReq) → AllMade s made → AllLong s content → MakesNew content made (any.File q) → StepShows s content made op (any.File q)
  file_shows (files.MakeFile f h k t) all long new = make_file_shows f h k t all (new.new (nodes.File f) refl)
  file_shows (files.Grant f h k) all long new = grant_file_shows f h k
  file_shows (files.Release f h) all long new = release_file_shows f h
  file_shows (files.TakeToken f t) all long new = take_token_shows f t
  file_shows (files.Attach f t b n h) all long new = attach_shows f t b n h
  file_shows (files.ListBlocks f) all long new = list_blocks_shows f long
  file_shows (files.SealFile f) all long new = seal_file_shows f

  pub request_shows : (q : AnyReq) → AllMade s made → AllLong s content → MakesNew content made q → StepShows s content made op q
  request_shows (any.Name q) all long new = name_shows q all new
  request_shows (any.File q) all long new = file_shows q all long new
  request_shows (any.Block q) all long new = block_shows q
  request_shows (any.Disk q) all long new = disk_shows q
