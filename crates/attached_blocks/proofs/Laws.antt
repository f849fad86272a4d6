-- the laws of all programs, joined
use Rattle.std.proofs.Common.{◌≡◌, Some, List, length}
use Rattle.tect_ids.specs.declared.ids.BlkId.{BlkId}
use Rattle.tect_ids.specs.declared.ids.Counts.{Counts}
use Rattle.tect_ids.specs.declared.values.NewRow.{NewRow}
use Rattle.program_rules.specs.Served.{programs}
use Rattle.world_runs.specs.declared.event.Event.{Event}
use Rattle.world_runs.specs.Moments.{opening, IsWorldRun}
use Rattle.whole_runs.proofs.Owns.{replies_from_run}
use Rattle.claim_words.specs.Attached.{AttachedBlocksStand, AttachesAreToOpened, TokensAreLast, TokensAreOpens, rows_of}
use Rattle.claim_words.specs.FilesBecause.{copies_needed}
use Rattle.names_laws.specs.Known.{names_known, names_deciding}
use Rattle.names_laws.proofs.Laws.{names_program_laws}
use Rattle.attached_blocks.proofs.Acknowledged.{attached_stand}
use Rattle.attached_blocks.proofs.Asking.{requests_owe}
use Rattle.attached_blocks.proofs.Copies.{made_with_copies}
use Rattle.attached_blocks.proofs.Opened.{attaches_to_opened}
use Rattle.attached_blocks.proofs.Tokens.{tokens_are_last, tokens_are_opens}

pub stand_so : (counts : Counts) (events : List Event) → IsWorldRun programs counts events → AttachedBlocksStand counts events
stand_so counts events run = attached_stand programs names_deciding names_known names_program_laws counts events run requests_owe

pub opened_so : (counts : Counts) (events : List Event) → IsWorldRun programs counts events → AttachesAreToOpened events
opened_so counts events run = attaches_to_opened programs requests_owe counts events run

pub last_so : (counts : Counts) (events : List Event) → IsWorldRun programs counts events → TokensAreLast events
last_so counts events run = tokens_are_last events (replies_from_run programs (opening counts) events run)

pub opens_so : (counts : Counts) (events : List Event) → IsWorldRun programs counts events → TokensAreOpens events
opens_so counts events run = tokens_are_opens programs requests_owe counts events run

pub copies_so : (counts : Counts) (events : List Event) → IsWorldRun programs counts events → (b : BlkId) (rows : List NewRow)
    → rows_of events b ≡ Some rows → length rows ≡ copies_needed counts
copies_so counts events run b rows is = made_with_copies programs requests_owe counts b rows events run is
