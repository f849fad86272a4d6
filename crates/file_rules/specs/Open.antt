-- Opens a file: it is found, and the op is written into it as its token. The actor keeps file and token by the path.
use Rattle.std.specs.Prelude.{ℕ, Bool, if◌then◌else◌, Option, None, List, [], ◌∷◌}
use Rattle.tect_ids.specs.declared.ids.DirId.{DirId}
use Rattle.tect_ids.specs.declared.ids.FileId.{FileId}
use Rattle.tect_ids.specs.declared.ids.OpId.{OpId}
use Rattle.tect_ids.specs.declared.ids.Place.{Place}
use Rattle.tect_ids.specs.declared.answer.Answer.{Answer}
use Rattle.tect_ids.specs.declared.answer.Answer.TheVariants.{Opened}
use Rattle.store_rules.specs.declared.files.FileReq.TheVariants as files
use Rattle.store_rules.specs.declared.any.AnyReq.{AnyReq}
use Rattle.store_rules.specs.declared.any.AnyReq.TheVariants as any
use Rattle.store_rules.specs.declared.any.AnyReply.{AnyReply}
use Rattle.store_rules.specs.Names.{key_in}
use Rattle.store_rules.specs.Places.{request_place}
use Rattle.store_rules.specs.Views.{as_found, is_opened}
use Rattle.program_forms.specs.Memories.{Learnt, Opens}
use Rattle.program_parts.specs.declared.next.Next.{Next}
use Rattle.program_parts.specs.declared.next.Next.TheVariants.{Comes}
use Rattle.program_parts.specs.Parts.{Part, looks_nothing}
use Rattle.file_rules.specs.declared.states.Open.{Open}
use Rattle.file_rules.specs.declared.states.Open.TheVariants.{Find, Take}
use Rattle.file_rules.specs.Finds.{find_ask, found_file, file_refusal}

-- in the directory to which the path leads
abbrev pub open_starts : List (List ℕ) → List ℕ → DirId → Open
open_starts path n d = Find (key_in d n) path

abbrev pub open_asks : OpId → Open → AnyReq
open_asks op (Find k path) = find_ask k
open_asks op (Take f path) = any.File (files.TakeToken f op)

abbrev pub taken : Place → OpId → FileId → AnyReply → Bool → Next Open Answer
taken place op f x opened = if opened then Comes (Opened f op) else Comes (file_refusal place f x)

abbrev pub open_hears : Place → OpId → Open → AnyReply → Next Open Answer
open_hears place op (Find k path) x = found_file place k x (λ f. Take f path) (as_found x)
open_hears place op (Take f path) x = taken place op f x (is_opened x)

abbrev pub open_learns : OpId → Open → AnyReply → List Learnt
open_learns op (Find k path) x = []
open_learns op (Take f path) x = if is_opened x then Opens path f op ∷ [] else []

abbrev pub opening : Part Open Answer
opening = record {
  turns = looks_nothing;
  asks = λ c m op s. open_asks op s;
  hears = λ c m op s q x. open_hears (request_place c q) op s x;
  learns = λ op s q x. open_learns op s x;
}

-- its answer is open to the last
abbrev pub open_decided : Open → Option Answer
open_decided s = None
