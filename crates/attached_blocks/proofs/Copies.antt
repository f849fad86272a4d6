-- each block is made with a row for each copy
use Rattle.std.proofs.Common.{◌≡◌, Bool, true, false, if◌then◌else◌, Option, Some, None, List, [], ◌∷◌, ◌++◌, length}
use Rattle.std.proofs.Common.{refl, sym, subst, ◌∙◌, append_assoc}
use Rattle.tect_ids.specs.declared.ids.BlkId.{BlkId}
use Rattle.tect_ids.specs.declared.ids.Counts.{Counts}
use Rattle.tect_ids.specs.declared.ids.OpId.{OpId}
use Rattle.tect_ids.specs.declared.values.NewRow.{NewRow}
use Rattle.tect_ids.specs.declared.command.Command.{Command}
use Rattle.tect_ids.specs.Keys.{blk_eq}
use Rattle.store_rules.specs.declared.blocks.BlockReq.{BlockReq}
use Rattle.store_rules.specs.declared.blocks.BlockReq.TheVariants as blocks
use Rattle.store_rules.specs.declared.any.AnyReq.{AnyReq}
use Rattle.store_rules.specs.declared.any.AnyReq.TheVariants as any
use Rattle.store_rules.specs.Views.{is_made}
use Rattle.program_forms.specs.Kinds.{Programs}
use Rattle.world_runs.specs.declared.event.Event.{Event}
use Rattle.world_runs.specs.declared.event.Event.TheVariants.{Own, Dumped}
use Rattle.world_runs.specs.declared.event.Happening.TheVariants.{Began, NotBegun, Acted, Ended, Stopped, Failed}
use Rattle.world_runs.specs.Moments.{IsWorldRun}
use Rattle.claim_words.specs.Attached.{rows_in, rows_if, rows_by, rows_of}
use Rattle.claim_words.specs.Commands.{or_later}
use Rattle.claim_words.specs.FilesBecause.{copies_needed}
use Rattle.attached_blocks.proofs.Owing.{BlockOwes, Owes, Owing, RequestsOwe}

module _ (counts : Counts) (b : BlkId) (rows : List NewRow) where
  -- these rows are as many as the copies
  abbrev Enough : Type 0
  Enough = length rows ≡ copies_needed counts

  no_rows : None ≡ Some rows → Enough
  no_rows e = absurd (let z : None ≡ Some rows = e in cc)

  asked_rows : (q : BlockReq) → BlockOwes counts q → rows_in q b ≡ Some rows → Enough
  asked_rows (blocks.MakeBlock k c n f h rs) owes is = by (blk_eq b k) is
    where
      by : (t : Bool) → (if t then Some rs else None) ≡ Some rows → Enough
      by true e = let same : rs ≡ rows = cc in subst (λ (l : List NewRow). length l ≡ copies_needed counts) same owes
      by false e = no_rows e
  asked_rows (blocks.SealBlock k) owes is = no_rows is
  asked_rows (blocks.GetBlock k) owes is = no_rows is
  asked_rows (blocks.Grant k h f) owes is = no_rows is
  asked_rows (blocks.Release k h) owes is = no_rows is

  made_rows : (h : List Event) (op : OpId) (c : Command) (made : Bool) (q : AnyReq) → Owes counts h op c q → rows_if made q b ≡ Some rows
      → Enough
  made_rows h op c true (any.Block q) owes is = asked_rows q owes is
  made_rows h op c true (any.Name q) owes is = no_rows is
  made_rows h op c true (any.File q) owes is = no_rows is
  made_rows h op c true (any.Disk q) owes is = no_rows is
  made_rows h op c false q owes is = no_rows is

module _ {S : Type 0} (P : Programs S) (knows : RequestsOwe P) (counts : Counts) (b : BlkId) (rows : List NewRow) where
  -- of the events of a run
  event_rows : (h es : List Event) (e : Event) → IsWorldRun P counts (h ++ e ∷ es) → rows_by e b ≡ Some rows → Enough counts b rows
  event_rows h es (Own op (Acted q x how)) run is =
      let own : Owing counts h op q = knows counts h es op q x how run in
      made_rows counts b rows h op own.command (is_made x) q own.owes is
  event_rows h es (Own op (Began c)) run is = no_rows counts b rows is
  event_rows h es (Own op (NotBegun c)) run is = no_rows counts b rows is
  event_rows h es (Own op (Ended a)) run is = no_rows counts b rows is
  event_rows h es (Own op Stopped) run is = no_rows counts b rows is
  event_rows h es (Own op (Failed a)) run is = no_rows counts b rows is
  event_rows h es Dumped run is = no_rows counts b rows is

  rows_after : (h es : List Event) → IsWorldRun P counts (h ++ es) → rows_of es b ≡ Some rows → Enough counts b rows
  rows_after h [] run is = no_rows counts b rows is
  rows_after h (e ∷ es) run is =
      let again : IsWorldRun P counts ((h ++ e ∷ []) ++ es) =
      subst (λ (l : List Event). IsWorldRun P counts l) (sym (append_assoc h (e ∷ []) es)) run in
      by (rows_after (h ++ e ∷ []) es again) (rows_by e b) refl is
    where
      by : (rows_of es b ≡ Some rows → Enough counts b rows) → (o : Option (List NewRow)) → rows_by e b ≡ o
          → or_later o (rows_of es b) ≡ Some rows → Enough counts b rows
      by rest None now later = rest later
      by rest (Some found) now first = event_rows h es e run (now ∙ first)

  pub made_with_copies : (es : List Event) → IsWorldRun P counts es → rows_of es b ≡ Some rows → length rows ≡ copies_needed counts
  made_with_copies es run is = rows_after [] es run is
