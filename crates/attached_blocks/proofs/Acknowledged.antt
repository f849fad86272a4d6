-- a block that was attached stands, whole, in every run of programs whose attaches are of appends
use Rattle.std.proofs.Common.{◌≡◌, ℕ, Option, Some, None, List, [], ◌∷◌, ◌++◌, length, refl, sym, ap, subst, ◌∙◌, append_assoc}
use Rattle.std.proofs.lemmas.List.{append-nil}
use Rattle.std.specs.FinMap.{get, len}
use Rattle.tect_ids.specs.declared.ids.BlkId.{BlkId}
use Rattle.tect_ids.specs.declared.ids.Counts.{Counts}
use Rattle.tect_ids.specs.declared.ids.FileId.{FileId}
use Rattle.tect_ids.specs.declared.ids.OpId.{OpId}
use Rattle.tect_ids.specs.declared.values.NewRow.{NewRow}
use Rattle.tect_ids.specs.declared.command.Command.{Command}
use Rattle.tect_ids.specs.declared.command.Command.TheVariants as commands
use Rattle.tect_ids.specs.declared.answer.Answer.{Answer}
use Rattle.store_rules.specs.declared.blocks.Block.{Block}
use Rattle.store_rules.specs.declared.files.File.{File}
use Rattle.store_rules.specs.declared.file_rows.FileRow.{FileRow}
use Rattle.store_rules.specs.declared.any.AnyReq.{AnyReq}
use Rattle.store_rules.specs.Store.{Store, opening_store}
use Rattle.store_pasts.specs.Contents.{row_in}
use Rattle.store_pasts.specs.Ghosts.{World}
use Rattle.store_pasts.specs.Pasts.{row_at}
use Rattle.store_world.specs.Acknowledged.{IsWholeBlock}
use Rattle.store_world.specs.Sound.{Sound}
use Rattle.store_world.proofs.Acknowledged.{row_is_whole}
use Rattle.tree_model.specs.Tree.{opening_tree}
use Rattle.program_forms.specs.Kinds.{Programs}
use Rattle.program_laws.specs.Known.{Deciding, Known}
use Rattle.program_laws.specs.Laws.{ProgramLaws}
use Rattle.world_runs.specs.declared.event.Event.{Event}
use Rattle.world_runs.specs.Moments.{opening, IsWorldRun, moment}
use Rattle.world_runs.specs.OwnRuns.{RepliesAre, stored_after}
use Rattle.whole_runs.proofs.Owns.{replies_from_run, store_is_after}
use Rattle.claim_words.specs.Attached.{HasRow, IsWhole, AttachedBlocksStand, rows_of}
use Rattle.claim_words.specs.Commands.{begun_by, or_later, command_of, content_of}
use Rattle.run_laws.specs.Pasts.{world}
use Rattle.run_laws.proofs.RunsKeep.{run_world_sound}
use Rattle.telling_laws.specs.Telling.{tree_of}
use Rattle.telling_laws.proofs.Contents.{content_stays}
use Rattle.telling_laws.proofs.Histories.{command_more}
use Rattle.tree_runs.proofs.Contents.{told_content}
use Rattle.tree_runs.proofs.Tracks.{Tracks, opening_tracks, run_tracked}
use Rattle.attached_blocks.proofs.Born.{born_rows, rows_told}
use Rattle.attached_blocks.proofs.Copies.{made_with_copies}
use Rattle.attached_blocks.proofs.Owing.{IsAppend, Owing, RequestsOwe}
use Rattle.attached_blocks.proofs.Rows.{asked, attaching, row_stands}

-- ---- command and content are the same later

pub command_lasts : (h es : List Event) (op : OpId) (c : Command) → command_of h op ≡ Some c → command_of (h ++ es) op ≡ Some c
command_lasts h [] op c is = rw append-nil is
command_lasts h (e ∷ es) op c is =
    subst (λ (l : List Event). command_of l op ≡ Some c) (append_assoc h (e ∷ []) es)
    (command_lasts (h ++ e ∷ []) es op c (command_more h e op ∙ ap (λ (o : Option Command). or_later o (begun_by e op)) is))

content_lasts : (h es : List Event) (b : BlkId) (bytes : List ℕ) → content_of h b ≡ Some bytes → content_of (h ++ es) b ≡ Some bytes
content_lasts h [] b bytes is = rw append-nil is
content_lasts h (e ∷ es) b bytes is =
    subst (λ (l : List Event). content_of l b ≡ Some bytes) (append_assoc h (e ∷ []) es)
    (content_lasts (h ++ e ∷ []) es b bytes (content_stays h e b bytes is))

-- ---- the row

has_row : (s : Store) (f : FileId) (i : ℕ) (r : FileRow) → row_at s f i ≡ Some r → HasRow s f r.blk r.len i
has_row s f i r is = by (get s.files f) refl is
  where
    by : (x : Option File) → get s.files f ≡ x → row_in x i ≡ Some r → HasRow s f r.blk r.len i
    by None there is = absurd (let z : None ≡ Some r = is in cc)
    by (Some x) there is = record { file = x; row = r; there = there; at = is; blk = refl; long = refl }

-- ---- the block

-- its content and the rows that it was made with are told, and it is whole
record ToldBlock (es : List Event) (b : BlkId) (n : ℕ) : Type 0 where
  bytes : List ℕ
  rows : List NewRow
  content : content_of es b ≡ Some bytes
  full : length bytes ≡ n
  made : rows_of es b ≡ Some rows
  whole : IsWhole (stored_after opening_store es) b n rows bytes

module _ {S : Type 0} (P : Programs S) (D : Deciding S Answer) (N : Known S Answer) (laws : ProgramLaws P D N) (counts : Counts)
    (es : List Event) (run : IsWorldRun P counts es) where
  -- the store at the end
  abbrev store : Store
  store = stored_after opening_store es

  tracked : Tracks N es (moment P counts es) (tree_of es)
  tracked = (run_tracked P D N laws es [] (opening counts) opening_tree (opening_tracks N counts) run).0

  -- the store beside a past whose contents are told
  abbrev told_world : World
  told_world = record { store = store; ghost = tracked.past }

  told_sound : Sound told_world
  told_sound = subst (λ (s : Store). Sound record { store = s; ghost = tracked.past }) (store_is_after P (opening counts) es)
      (tracked.sound).sound

  told_block : (f : FileId) (i : ℕ) (r : FileRow) → row_at store f i ≡ Some r → ToldBlock es r.blk r.len
  told_block f i r is =
      let told : IsWholeBlock told_world r.blk r.len = row_is_whole told_world told_sound f i r is in
      let made : IsWholeBlock (world P D counts es) r.blk r.len =
      row_is_whole (world P D counts es) (run_world_sound P D N laws counts es run) f i r is in
      let found : Some told.block ≡ Some made.block = sym told.there ∙ made.there in
      let same : told.block ≡ made.block = cc in
      record {
        bytes = told.bytes;
        rows = (made.born).rows;
        content = sym (told_content tracked.past es tracked.told r.blk) ∙ told.said;
        full = told.full;
        made = sym (rows_told P D N laws counts es run r.blk) ∙ ap born_rows made.was;
        whole = record {
          block = told.block;
          there = told.there;
          sealed = told.sealed;
          long = told.long;
          count = ap (λ (x : Block). len x.rows) same ∙ made.count;
          stored = told.stored;
        };
      }

  module _ (knows : RequestsOwe P) where
    pub attached_stand : AttachedBlocksStand counts es
    attached_stand op f token b n i a =
        let replies : RepliesAre opening_store es = replies_from_run P (opening counts) es run in
        let e : Event = attaching es replies op f token b n i a in
        let q : AnyReq = asked es replies op f token b n i a in
        let whole : IsWorldRun P counts (a.before ++ e ∷ a.rest) = subst (λ (l : List Event). IsWorldRun P counts l) a.there run in
        let own : Owing counts a.before op q = knows counts a.before a.rest op q _ a.heard whole in
        let k : IsAppend a.before op own.command f token b = own.owes in
        let c : Command = commands.Append k.path k.bytes in
        let command : command_of es op ≡ Some c = subst (λ (l : List Event). command_of l op ≡ Some c) (sym a.there)
        (command_lasts a.before (e ∷ a.rest) op c (own.begun ∙ ap (λ (d : Command). Some d) k.is)) in
        let content : content_of es b ≡ Some k.bytes = subst (λ (l : List Event). content_of l b ≡ Some k.bytes) (sym a.there)
        (content_lasts a.before (e ∷ a.rest) b k.bytes k.content) in
        let is : row_at store f i ≡ Some record { blk = b; len = n; hold = a.hold } = row_stands es replies op f token b n i a in
        let told : ToldBlock es b n = told_block f i record { blk = b; len = n; hold = a.hold } is in
        let found : Some told.bytes ≡ Some k.bytes = sym told.content ∙ content in
        let same : told.bytes ≡ k.bytes = cc in
        record {
          path = k.path;
          bytes = told.bytes;
          rows = told.rows;
          command = subst (λ (bytes : List ℕ). command_of es op ≡ Some (commands.Append k.path bytes)) (sym same) command;
          content = told.content;
          full = told.full;
          made = told.made;
          copies = made_with_copies P knows counts b told.rows es run told.made;
          row = has_row store f i record { blk = b; len = n; hold = a.hold } is;
          whole = told.whole;
        }
