-- Lists the blocks of a file.
use Rattle.std.specs.Prelude.{ℕ, Option, Some, None, List}
use Rattle.tect_ids.specs.declared.ids.DirId.{DirId}
use Rattle.tect_ids.specs.declared.ids.FileId.{FileId}
use Rattle.tect_ids.specs.declared.ids.Place.{Place}
use Rattle.tect_ids.specs.declared.values.RowPart.{RowPart}
use Rattle.tect_ids.specs.declared.answer.Answer.{Answer}
use Rattle.tect_ids.specs.declared.answer.Answer.TheVariants as answers
use Rattle.store_rules.specs.declared.files.FileReq.TheVariants as files
use Rattle.store_rules.specs.declared.any.AnyReq.{AnyReq}
use Rattle.store_rules.specs.declared.any.AnyReq.TheVariants as any
use Rattle.store_rules.specs.declared.any.AnyReply.{AnyReply}
use Rattle.store_rules.specs.Names.{key_in}
use Rattle.store_rules.specs.Places.{request_place}
use Rattle.store_rules.specs.Views.{as_found, as_block_list}
use Rattle.program_parts.specs.declared.next.Next.{Next}
use Rattle.program_parts.specs.declared.next.Next.TheVariants.{Comes}
use Rattle.program_parts.specs.Parts.{Part, looks_nothing, learns_nothing}
use Rattle.file_rules.specs.declared.states.Blocks.{Blocks}
use Rattle.file_rules.specs.declared.states.Blocks.TheVariants.{Find, List as Listing}
use Rattle.file_rules.specs.Finds.{find_ask, found_file, file_refusal}

-- in the directory to which the path leads
abbrev pub blocks_starts : List ℕ → DirId → Blocks
blocks_starts n d = Find (key_in d n)

abbrev pub blocks_asks : Blocks → AnyReq
blocks_asks (Find k) = find_ask k
blocks_asks (Listing f) = any.File (files.ListBlocks f)

abbrev pub listed : Place → FileId → AnyReply → Option (List RowPart) → Next Blocks Answer
listed place f x None = Comes (file_refusal place f x)
listed place f x (Some parts) = Comes (answers.Blocks parts)

abbrev pub blocks_hears : Place → Blocks → AnyReply → Next Blocks Answer
blocks_hears place (Find k) x = found_file place k x (λ f. Listing f) (as_found x)
blocks_hears place (Listing f) x = listed place f x (as_block_list x)

abbrev pub blocks : Part Blocks Answer
blocks = record {
  turns = looks_nothing;
  asks = λ c m op s. blocks_asks s;
  hears = λ c m op s q x. blocks_hears (request_place c q) s x;
  learns = learns_nothing;
}

-- its answer is open to the last
abbrev pub blocks_decided : Blocks → Option Answer
blocks_decided s = None
