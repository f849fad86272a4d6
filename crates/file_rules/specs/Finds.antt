-- A file by its path's last name, and the answer that a file's refusal makes.
use Rattle.std.specs.Prelude.{Option, Some, None}
use Rattle.tect_ids.specs.declared.ids.FileId.{FileId}
use Rattle.tect_ids.specs.declared.ids.Node.{Node}
use Rattle.tect_ids.specs.declared.ids.Node.TheVariants as nodes
use Rattle.tect_ids.specs.declared.ids.Place.{Place}
use Rattle.tect_ids.specs.declared.key.Key.{Key}
use Rattle.tect_ids.specs.declared.answer.Answer.{Answer}
use Rattle.tect_ids.specs.declared.answer.Answer.TheVariants as answers
use Rattle.tect_ids.specs.declared.answer.Answer.TheVariants.{Odd}
use Rattle.tect_ids.specs.declared.values.Refusal.{Refusal}
use Rattle.tect_ids.specs.declared.values.Refusal.TheVariants as refusals
use Rattle.tect_ids.specs.Refusals.{token_changed}
use Rattle.store_rules.specs.declared.files.FileReply.TheVariants as files
use Rattle.store_rules.specs.declared.names.NameReq.TheVariants as names
use Rattle.store_rules.specs.declared.any.AnyReq.{AnyReq}
use Rattle.store_rules.specs.declared.any.AnyReq.TheVariants as any
use Rattle.store_rules.specs.declared.any.AnyReply.{AnyReply}
use Rattle.store_rules.specs.declared.any.AnyReply.TheVariants.{File}
use Rattle.program_parts.specs.declared.next.Next.{Next}
use Rattle.program_parts.specs.declared.next.Next.TheVariants.{Goes, Comes}
use Rattle.program_parts.specs.Refused.{refusal}

-- an entry is looked up
abbrev pub find_ask : Key → AnyReq
find_ask k = any.Name (names.Look k)

-- the command goes on with the file that was found there; a directory has no contents
abbrev pub found_file : {S : Type 0} → Place → Key → AnyReply → (FileId → S) → Option Node → Next S Answer
found_file place k x next None = Comes (refusal place k x)
found_file place k x next (Some (nodes.Dir d)) = Comes answers.IsDir
found_file place k x next (Some (nodes.File f)) = Goes (next f)

-- what the refusal of a request for the file itself makes; it is refused for nothing else
abbrev pub file_answer : Place → FileId → Refusal → Answer
file_answer place f refusals.NoFile = answers.NoFile
file_answer place f refusals.Sealed = answers.Sealed
file_answer place f refusals.Full = answers.Full f.0
file_answer place f (refusals.TokenChanged now) = token_changed now
file_answer place f why = Odd place

abbrev pub file_refusal : Place → FileId → AnyReply → Answer
file_refusal place f (File (files.Refused why)) = file_answer place f why
file_refusal place f x = Odd place
