-- A shard of the File layer, and the rule of each request to it.
use Rattle.std.specs.Prelude.{ℕ, Bool, true, false, not, List, [], ◌∷◌, ◌++◌, map, length, nat_le, Option, Some, None, is_some, if◌then◌else◌}
use Rattle.std.specs.FinMap.{FinMap, empty, get}
use Rattle.map_words.specs.Maps.{set_at}
use Rattle.tect_ids.specs.declared.ids.BlkId.{BlkId}
use Rattle.tect_ids.specs.declared.ids.FileId.{FileId}
use Rattle.tect_ids.specs.declared.ids.Hold.{Hold}
use Rattle.tect_ids.specs.declared.ids.OpId.{OpId}
use Rattle.tect_ids.specs.declared.key.Key.{Key}
use Rattle.tect_ids.specs.declared.key.Upper.{Upper}
use Rattle.tect_ids.specs.declared.key.Upper.TheVariants as uppers
use Rattle.tect_ids.specs.declared.values.RowPart.{RowPart}
use Rattle.tect_ids.specs.Keys.{file_cmp, op_eq}
use Rattle.store_rules.specs.declared.file_rows.FileRow.{FileRow}
use Rattle.store_rules.specs.declared.files.File.{File}
use Rattle.store_rules.specs.declared.files.FileReq.{FileReq}
use Rattle.store_rules.specs.declared.files.FileReq.TheVariants as req
use Rattle.store_rules.specs.declared.files.FileReply.{FileReply}
use Rattle.store_rules.specs.declared.files.FileReply.TheVariants.{Made, Granted, Released, Opened, Attached, Blocks, SealedNow, HasId}
use Rattle.store_rules.specs.declared.files.FileReply.TheVariants.{Refused}
use Rattle.tect_ids.specs.declared.values.Refusal.TheVariants.{NoFile, Sealed, Full, TokenChanged}
use Rattle.store_rules.specs.declared.outcome.Outcome.{Outcome}
use Rattle.store_rules.specs.declared.outcome.Outcome.TheVariants.{Leaves, Changes}
use Rattle.store_rules.specs.Outcomes.{changes, refuse, found}

abbrev pub Files : Type 0
Files = FinMap file_cmp File

-- the file with that hold listed, or not
abbrev pub file_with_hold : Option File → Hold → Option Upper → Option File
file_with_hold None h u = None
file_with_hold (Some f) h u = Some record f { holds = set_at f.holds h u }

-- MakeFile
abbrev pub make_file_answer : Files → FileId → Outcome FileReply
make_file_answer s f = refuse (is_some (get s f)) HasId (Changes Made)

abbrev pub make_file_change : Files → FileId → Hold → Key → Option OpId → Files
make_file_change s f h k t =
    set_at s f (Some record { token = t; sealed = false; holds = set_at empty h (Some (uppers.Entry k)); rows = [] })

-- Grant
abbrev pub grant_file_answer : Files → FileId → Outcome FileReply
grant_file_answer s f = found (get s f) (Refused NoFile) (λ x. Changes Granted)

abbrev pub grant_file_change : Files → FileId → Hold → Key → Files
grant_file_change s f h k = set_at s f (file_with_hold (get s f) h (Some (uppers.Entry k)))

-- Release
abbrev pub file_lists : Option File → Hold → Option Upper
file_lists None h = None
file_lists (Some f) h = get f.holds h

abbrev pub release_file_answer : Files → FileId → Hold → Outcome FileReply
release_file_answer s f h = refuse (not (is_some (file_lists (get s f) h))) (Released false) (Changes (Released true))

abbrev pub release_file_change : Files → FileId → Hold → Files
release_file_change s f h = set_at s f (file_with_hold (get s f) h None)

-- TakeToken
abbrev pub file_with_token : Option File → OpId → Option File
file_with_token None t = None
file_with_token (Some f) t = Some record f { token = Some t }

abbrev pub take_token_answer : Files → FileId → Outcome FileReply
take_token_answer s f = found (get s f) (Refused NoFile) (λ x. refuse x.sealed (Refused Sealed) (Changes Opened))

abbrev pub take_token_change : Files → FileId → OpId → Files
take_token_change s f t = set_at s f (file_with_token (get s f) t)

-- Attach

-- as many blocks as a file may have
abbrev pub block_limit : ℕ
block_limit = 4096

-- whether that is the token which the file has
abbrev pub has_token : Option OpId → OpId → Bool
has_token None t = false
has_token (Some now) t = op_eq now t

abbrev pub file_with_row : Option File → FileRow → Option File
file_with_row None r = None
file_with_row (Some f) r = Some record f { rows = f.rows ++ (r ∷ []) }

abbrev pub attach_answer : Files → FileId → OpId → Outcome FileReply
attach_answer s f t =
    found (get s f) (Refused NoFile) (λ x.
    refuse x.sealed (Refused Sealed)
    (refuse (not (has_token x.token t)) (Refused (TokenChanged x.token))
    (refuse (nat_le block_limit (length x.rows)) (Refused Full)
    (Changes (Attached (length x.rows))))))

abbrev pub attach_change : Files → FileId → FileRow → Files
attach_change s f r = set_at s f (file_with_row (get s f) r)

-- ListBlocks
abbrev pub row_part : FileRow → RowPart
row_part r = record { blk = r.blk; len = r.len }

abbrev pub list_blocks_answer : Files → FileId → Outcome FileReply
list_blocks_answer s f = found (get s f) (Refused NoFile) (λ x. Leaves (Blocks x.sealed (map row_part x.rows)))

-- SealFile: also where it was sealed
abbrev pub file_sealed : Option File → Option File
file_sealed None = None
file_sealed (Some f) = Some record f { sealed = true }

abbrev pub seal_file_answer : Files → FileId → Outcome FileReply
seal_file_answer s f = found (get s f) (Refused NoFile) (λ x. Changes SealedNow)

abbrev pub seal_file_change : Files → FileId → Files
seal_file_change s f = set_at s f (file_sealed (get s f))

-- The rule of a request: the file that it concerns, what is answered, what is changed where it is not refused, and whether it is done
-- without memory.
pub record FileRule : Type 0 where
  pub file : FileId
  pub answer : Files → Outcome FileReply
  pub change : Files → Files
  pub free : Bool

-- the whole table
abbrev pub file_rule : FileReq → FileRule
file_rule (req.MakeFile f h k t) =
    record { file = f; answer = λ s. make_file_answer s f; change = λ s. make_file_change s f h k t; free = false }
file_rule (req.Grant f h k) =
    record { file = f; answer = λ s. grant_file_answer s f; change = λ s. grant_file_change s f h k; free = false }
file_rule (req.Release f h) =
    record { file = f; answer = λ s. release_file_answer s f h; change = λ s. release_file_change s f h; free = true }
file_rule (req.TakeToken f t) =
    record { file = f; answer = λ s. take_token_answer s f; change = λ s. take_token_change s f t; free = true }
file_rule (req.Attach f t b n h) = record
    { file = f; answer = λ s. attach_answer s f t; change = λ s. attach_change s f (record { blk = b; len = n; hold = h }); free = false }
file_rule (req.ListBlocks f) = record { file = f; answer = λ s. list_blocks_answer s f; change = λ s. s; free = false }
file_rule (req.SealFile f) = record { file = f; answer = λ s. seal_file_answer s f; change = λ s. seal_file_change s f; free = true }

abbrev pub file_answer : Files → FileReq → Outcome FileReply
file_answer s q = (file_rule q).answer s

abbrev pub file_change : Files → FileReq → Files
file_change s q = (file_rule q).change s

abbrev pub file_step : Files → FileReq → Files
file_step s r = if changes (file_answer s r) then file_change s r else s
