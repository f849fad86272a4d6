-- the rows that a block was made with by the past of a store, it was made with by the history
use Rattle.std.proofs.Common.{◌≡◌, ℕ, Bool, true, false, if◌then◌else◌, Option, Some, None, List, [], ◌∷◌, ◌++◌, refl, sym, ap, subst, ◌∙◌}
use Rattle.std.proofs.Common.{arith, is_some, append_assoc}
use Rattle.std.proofs.lemmas.List.{append-nil}
use Rattle.std.specs.FinMap.{get}
use Rattle.tect_ids.specs.declared.ids.BlkId.{BlkId}
use Rattle.tect_ids.specs.declared.ids.Counts.{Counts}
use Rattle.tect_ids.specs.declared.ids.FileId.{FileId}
use Rattle.tect_ids.specs.declared.ids.Hold.{Hold}
use Rattle.tect_ids.specs.declared.ids.OpId.{OpId}
use Rattle.tect_ids.specs.declared.values.Class.{Class}
use Rattle.tect_ids.specs.declared.values.NewRow.{NewRow}
use Rattle.tect_ids.specs.declared.answer.Answer.{Answer}
use Rattle.tect_ids.proofs.KeyTests.{keys, block_keys}
use Rattle.store_rules.specs.declared.names.NameReq.TheVariants as names
use Rattle.store_rules.specs.declared.files.FileReq.TheVariants as files
use Rattle.store_rules.specs.declared.blocks.BlockReq.TheVariants as blocks
use Rattle.store_rules.specs.declared.disks.DiskReq.TheVariants as disks
use Rattle.store_rules.specs.declared.any.AnyReq.{AnyReq}
use Rattle.store_rules.specs.declared.any.AnyReq.TheVariants as any
use Rattle.store_rules.specs.declared.any.AnyReply.{AnyReply}
use Rattle.store_rules.specs.Store.{Store, store_reply, store_changes}
use Rattle.store_rules.specs.Views.{is_made}
use Rattle.store_pasts.specs.Contents.{Born}
use Rattle.store_pasts.specs.Requests.{Needs}
use Rattle.store_pasts.specs.Worlds.{Ghost, World, ghost_change, ghost_next, ghost_settled, ghost_said, opening_ghost}
use Rattle.program_forms.specs.Appends.{command_bytes}
use Rattle.program_forms.specs.declared.heard.Heard.{Heard}
use Rattle.program_forms.specs.Kinds.{Programs}
use Rattle.program_laws.specs.Known.{Deciding, Known}
use Rattle.program_laws.specs.Laws.{ProgramLaws}
use Rattle.world_runs.specs.declared.event.Event.{Event}
use Rattle.world_runs.specs.declared.event.Event.TheVariants.{Own, Dumped}
use Rattle.world_runs.specs.declared.event.Happening.TheVariants.{Began, NotBegun, Acted, Ended, Stopped, Failed}
use Rattle.world_runs.specs.Moments.{WorldState, May, RunFrom, opening, after, IsWorldRun}
use Rattle.claim_words.specs.Commands.{or_later}
use Rattle.claim_words.specs.Attached.{rows_if, rows_by, rows_of}
use Rattle.run_laws.specs.Pasts.{world_of, ghost_after, ghosts_after, ghosts}
use Rattle.run_laws.specs.Known.{AllSound}
use Rattle.run_laws.proofs.Turns.{IsAsked, asked_by_op}
use Rattle.run_laws.proofs.MomentsKeep.{meets, event_sound, opening_all_sound}

abbrev pub born_rows : Option Born → Option (List NewRow)
born_rows None = None
born_rows (Some m) = Some m.rows

-- the history says with which rows each block was made
abbrev pub RowsTold : Ghost → List Event → Type 0
RowsTold g h = (b : BlkId) → born_rows (g.born b) ≡ rows_of h b

rows_more : (h : List Event) (e : Event) (b : BlkId) → rows_of (h ++ e ∷ []) b ≡ or_later (rows_of h b) (rows_by e b)
rows_more [] e b = elim (rows_by e b) as (λ o. or_later o None ≡ o) [ None ↦ refl | Some c ↦ refl ]
rows_more (d ∷ ds) e b = elim (rows_by d b) as
    (λ o. or_later o (rows_of (ds ++ e ∷ []) b) ≡ or_later (or_later o (rows_of ds b)) (rows_by e b))
    [ None ↦ rows_more ds e b | Some c ↦ refl ]

-- ---- events that make nothing

or_none : {X : Type 0} (o : Option X) → or_later o None ≡ o
or_none None = refl
or_none (Some x) = refl

idle_rows : (g f : Ghost) (h : List Event) (e : Event) → ((b : BlkId) → f.born b ≡ g.born b) → ((b : BlkId) → rows_by e b ≡ None)
    → RowsTold g h → RowsTold f (h ++ e ∷ [])
idle_rows g f h e born none t b =
    ap born_rows (born b) ∙ t b ∙ sym (or_none (rows_of h b)) ∙ ap (or_later (rows_of h b)) (sym (none b)) ∙ sym (rows_more h e b)

said_born : (op : OpId) (o : Option (List ℕ)) (g : Ghost) (b : BlkId) → (ghost_said op o g).born b ≡ g.born b
said_born op None g b = refl
said_born op (Some bytes) g b = refl

settled_born : {R : Type 0} (op : OpId) (was now : Option R) (g : Ghost) (b : BlkId) → (ghost_settled op was now g).born b ≡ g.born b
settled_born op None None g b = refl
settled_born op None (Some a) g b = refl
settled_born op (Some c) now g b = refl

-- ---- a request

-- after it the past has the rows that it made a block with
abbrev RowsSo : Store → Ghost → AnyReq → Type 0
RowsSo s g q =
    (b : BlkId) → born_rows ((ghost_next s g q).born b) ≡ or_later (born_rows (g.born b)) (rows_if (is_made (store_reply s q)) q b)

module _ (s : Store) (g : Ghost) where
  born_by : (q : AnyReq) (c : Bool) (b : BlkId) → (ghost_change s g q).born b ≡ g.born b
      → (if c then ghost_change s g q else g).born b ≡ g.born b
  born_by q true b e = e
  born_by q false b e = refl

  rows_none : (q : AnyReq) (made : Bool) (b : BlkId) → rows_if true q b ≡ None → rows_if made q b ≡ None
  rows_none q true b none = none
  rows_none q false b none = refl

  -- one that makes no block
  no_rows : (q : AnyReq) → ((b : BlkId) → (ghost_change s g q).born b ≡ g.born b) → ((b : BlkId) → rows_if true q b ≡ None) → RowsSo s g q
  no_rows q same none b =
      ap born_rows (born_by q (store_changes s q) b (same b)) ∙ sym (or_none (born_rows (g.born b)))
      ∙ ap (or_later (born_rows (g.born b))) (sym (rows_none q (is_made (store_reply s q)) b (none b)))

  new_rows : (b : BlkId) (c : Class) (n : ℕ) (f : FileId) (h : Hold) (rs : List NewRow) → g.born b ≡ None
      → RowsSo s g (any.Block (blocks.MakeBlock b c n f h rs))
  new_rows b c n f h rs unborn k = at (is_some (get s.blocks b)) refl
    where
      at : (t : Bool) → is_some (get s.blocks b) ≡ t
          → born_rows ((ghost_next s g (any.Block (blocks.MakeBlock b c n f h rs))).born k)
          ≡ or_later (born_rows (g.born k))
          (rows_if (is_made (store_reply s (any.Block (blocks.MakeBlock b c n f h rs)))) (any.Block (blocks.MakeBlock b c n f h rs)) k)
      at true is = rw is (grind arith)
      at false is = rw is (grind (arith, keys, block_keys, unborn))

rows_so : (w : World) (q : AnyReq) → Needs w q → RowsSo w.store w.ghost q
rows_so w (any.Name (names.CheckDir d)) needs = no_rows w.store w.ghost (any.Name (names.CheckDir d)) (λ b. refl) (λ b. refl)
rows_so w (any.Name (names.Look k)) needs = no_rows w.store w.ghost (any.Name (names.Look k)) (λ b. refl) (λ b. refl)
rows_so w (any.Name (names.List d)) needs = no_rows w.store w.ghost (any.Name (names.List d)) (λ b. refl) (λ b. refl)
rows_so w (any.Name (names.MakeDir d p h k)) needs = no_rows w.store w.ghost (any.Name (names.MakeDir d p h k)) (λ b. refl) (λ b. refl)
rows_so w (any.Name (names.Bind k n h o)) needs = no_rows w.store w.ghost (any.Name (names.Bind k n h o)) (λ b. refl) (λ b. refl)
rows_so w (any.Name (names.Swap d from to n h)) needs =
    no_rows w.store w.ghost (any.Name (names.Swap d from to n h)) (λ b. refl) (λ b. refl)
rows_so w (any.Name (names.Unbind k t)) needs = no_rows w.store w.ghost (any.Name (names.Unbind k t)) (λ b. refl) (λ b. refl)
rows_so w (any.Name (names.Grant d h k)) needs = no_rows w.store w.ghost (any.Name (names.Grant d h k)) (λ b. refl) (λ b. refl)
rows_so w (any.Name (names.Release d h)) needs = no_rows w.store w.ghost (any.Name (names.Release d h)) (λ b. refl) (λ b. refl)
rows_so w (any.Name (names.SealDir d)) needs = no_rows w.store w.ghost (any.Name (names.SealDir d)) (λ b. refl) (λ b. refl)
rows_so w (any.File (files.MakeFile f h k t)) needs = no_rows w.store w.ghost (any.File (files.MakeFile f h k t)) (λ b. refl) (λ b. refl)
rows_so w (any.File (files.Grant f h k)) needs = no_rows w.store w.ghost (any.File (files.Grant f h k)) (λ b. refl) (λ b. refl)
rows_so w (any.File (files.Release f h)) needs = no_rows w.store w.ghost (any.File (files.Release f h)) (λ b. refl) (λ b. refl)
rows_so w (any.File (files.TakeToken f t)) needs = no_rows w.store w.ghost (any.File (files.TakeToken f t)) (λ b. refl) (λ b. refl)
rows_so w (any.File (files.Attach f t b n h)) needs = no_rows w.store w.ghost (any.File (files.Attach f t b n h)) (λ b. refl) (λ b. refl)
rows_so w (any.File (files.ListBlocks f)) needs = no_rows w.store w.ghost (any.File (files.ListBlocks f)) (λ b. refl) (λ b. refl)
rows_so w (any.File (files.SealFile f)) needs = no_rows w.store w.ghost (any.File (files.SealFile f)) (λ b. refl) (λ b. refl)
rows_so w (any.Block (blocks.MakeBlock b c n f h rs)) needs = new_rows w.store w.ghost b c n f h rs needs.unborn
rows_so w (any.Block (blocks.SealBlock b)) needs = no_rows w.store w.ghost (any.Block (blocks.SealBlock b)) (λ b. refl) (λ b. refl)
rows_so w (any.Block (blocks.GetBlock b)) needs = no_rows w.store w.ghost (any.Block (blocks.GetBlock b)) (λ b. refl) (λ b. refl)
rows_so w (any.Block (blocks.Grant b h f)) needs = no_rows w.store w.ghost (any.Block (blocks.Grant b h f)) (λ b. refl) (λ b. refl)
rows_so w (any.Block (blocks.Release b h)) needs = no_rows w.store w.ghost (any.Block (blocks.Release b h)) (λ b. refl) (λ b. refl)
rows_so w (any.Disk (disks.Put c bytes)) needs = no_rows w.store w.ghost (any.Disk (disks.Put c bytes)) (λ b. refl) (λ b. refl)
rows_so w (any.Disk (disks.Get c)) needs = no_rows w.store w.ghost (any.Disk (disks.Get c)) (λ b. refl) (λ b. refl)

asked_rows : {R : Type 0} (w : World) (h : List Event) (op : OpId) (q : AnyReq) (how : Heard) (was now : Option R) → Needs w q
    → RowsTold w.ghost h
    → RowsTold (ghost_settled op was now (ghost_next w.store w.ghost q)) (h ++ Own op (Acted q (store_reply w.store q) how) ∷ [])
asked_rows w h op q how was now needs t b =
    ap born_rows (settled_born op was now (ghost_next w.store w.ghost q) b) ∙ rows_so w q needs b
    ∙ ap (λ o. or_later o (rows_by e b)) (t b) ∙ sym (rows_more h e b)
  where
    e : Event
    e = Own op (Acted q (store_reply w.store q) how)

-- ---- a run

module _ {S : Type 0} (P : Programs S) (D : Deciding S Answer) (N : Known S Answer) (laws : ProgramLaws P D N) where
  module _ (h : List Event) (m : WorldState S) (g : Ghost) (sound : AllSound N m g) (t : RowsTold g h) where
    acted_rows : (op : OpId) (q : AnyReq) (x : AnyReply) (how : Heard) → May P m (Own op (Acted q x how))
        → RowsTold (ghost_after P D m g (Own op (Acted q x how))) (h ++ Own op (Acted q x how) ∷ [])
    acted_rows op q x how may =
        let by : (s : S) × IsAsked P m op q s = asked_by_op P m op q may.0 in
        subst (λ (y : AnyReply). RowsTold (ghost_after P D m g (Own op (Acted q y how))) (h ++ Own op (Acted q y how) ∷ []))
        (sym may.1)
        (asked_rows (world_of m g) h op q how _ _ (meets P D N laws m g sound op q by.0 by.1).needs t)

    event_rows : (e : Event) → May P m e → RowsTold (ghost_after P D m g e) (h ++ e ∷ [])
    event_rows (Own op (Acted q x how)) may = acted_rows op q x how may
    event_rows (Own op (Began c)) may =
        idle_rows g (ghost_said op (command_bytes c) g) h (Own op (Began c)) (λ b. said_born op (command_bytes c) g b) (λ b. refl) t
    event_rows (Own op (NotBegun c)) may = idle_rows g g h _ (λ b. refl) (λ b. refl) t
    event_rows (Own op (Ended a)) may = idle_rows g g h _ (λ b. refl) (λ b. refl) t
    event_rows (Own op Stopped) may = idle_rows g g h _ (λ b. refl) (λ b. refl) t
    event_rows (Own op (Failed a)) may = idle_rows g g h _ (λ b. refl) (λ b. refl) t
    event_rows Dumped may = idle_rows g g h _ (λ b. refl) (λ b. refl) t

  run_rows : (es h : List Event) (m : WorldState S) (g : Ghost) → AllSound N m g → RowsTold g h → RunFrom P m es
      → RowsTold (ghosts_after P D m g es) (h ++ es)
  run_rows [] h m g sound t run = rw append-nil t
  run_rows (e ∷ es) h m g sound t run =
      subst (λ (l : List Event). RowsTold (ghosts_after P D m g (e ∷ es)) l) (append_assoc h (e ∷ []) es)
      (run_rows es (h ++ e ∷ []) (after P m e) (ghost_after P D m g e) (event_sound P D N laws m g e sound run.0)
      (event_rows h m g sound t e run.0) run.1)

  pub rows_told : (counts : Counts) (es : List Event) → IsWorldRun P counts es → RowsTold (ghosts P D counts es) es
  rows_told counts es run = run_rows es [] (opening counts) opening_ghost (opening_all_sound N counts) (λ b. refl) run
