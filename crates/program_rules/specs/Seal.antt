-- Seals a directory or a file: what the path leads to is found, and asked to be sealed.
use Rattle.std.specs.Prelude.{ℕ, Bool, true, false, Option, Some, None, List}
use Rattle.tect_ids.specs.declared.ids.DirId.{DirId}
use Rattle.tect_ids.specs.declared.ids.Node.{Node}
use Rattle.tect_ids.specs.declared.ids.Node.TheVariants as nodes
use Rattle.tect_ids.specs.declared.ids.Place.{Place}
use Rattle.tect_ids.specs.declared.key.Key.{Key}
use Rattle.tect_ids.specs.declared.answer.Answer.{Answer}
use Rattle.tect_ids.specs.declared.answer.Answer.TheVariants.{Done}
use Rattle.store_rules.specs.declared.names.NameReq.TheVariants as names
use Rattle.store_rules.specs.declared.files.FileReq.TheVariants as files
use Rattle.store_rules.specs.declared.any.AnyReq.{AnyReq}
use Rattle.store_rules.specs.declared.any.AnyReq.TheVariants as any
use Rattle.store_rules.specs.declared.any.AnyReply.{AnyReply}
use Rattle.store_rules.specs.Names.{key_in}
use Rattle.store_rules.specs.Places.{request_place}
use Rattle.store_rules.specs.Views.{as_found, is_sealed}
use Rattle.program_parts.specs.declared.next.Next.{Next}
use Rattle.program_parts.specs.declared.next.Next.TheVariants.{Goes, Comes}
use Rattle.program_parts.specs.Parts.{Part, looks_nothing, learns_nothing}
use Rattle.program_parts.specs.Refused.{refusal, dir_refusal}
use Rattle.file_rules.specs.Finds.{find_ask, file_refusal}
use Rattle.program_rules.specs.declared.states.Seal.{Seal}
use Rattle.program_rules.specs.declared.states.Seal.TheVariants.{Find, Close}

abbrev pub seal_starts : Option (List ℕ) → DirId → Seal
seal_starts None d = Close (nodes.Dir d)
seal_starts (Some n) d = Find (key_in d n)

-- the request that seals it
abbrev pub seal_ask : Node → AnyReq
seal_ask (nodes.Dir d) = any.Name (names.SealDir d)
seal_ask (nodes.File f) = any.File (files.SealFile f)

abbrev pub seal_asks : Seal → AnyReq
seal_asks (Find k) = find_ask k
seal_asks (Close n) = seal_ask n

abbrev pub found : Place → Key → AnyReply → Option Node → Next Seal Answer
found place k x None = Comes (refusal place k x)
found place k x (Some n) = Goes (Close n)

-- it concerned the directory or the file as a whole
abbrev pub seal_refusal : Place → Node → AnyReply → Answer
seal_refusal place (nodes.Dir d) x = dir_refusal place x
seal_refusal place (nodes.File f) x = file_refusal place f x

abbrev pub sealed : Place → Node → AnyReply → Bool → Next Seal Answer
sealed place n x true = Comes Done
sealed place n x false = Comes (seal_refusal place n x)

abbrev pub seal_hears : Place → Seal → AnyReply → Next Seal Answer
seal_hears place (Find k) x = found place k x (as_found x)
seal_hears place (Close n) x = sealed place n x (is_sealed x)

abbrev pub seal : Part Seal Answer
seal = record {
  turns = looks_nothing;
  asks = λ c m op s. seal_asks s;
  hears = λ c m op s q x. seal_hears (request_place c q) s x;
  learns = learns_nothing;
}

-- its answer is open to the last
abbrev pub seal_decided : Seal → Option Answer
seal_decided s = None
