-- Lists the entries of a directory.
use Rattle.std.specs.Prelude.{Option, Some, None, List as Items}
use Rattle.tect_ids.specs.declared.ids.DirId.{DirId}
use Rattle.tect_ids.specs.declared.ids.Place.{Place}
use Rattle.tect_ids.specs.declared.values.Listed.{Listed}
use Rattle.tect_ids.specs.declared.answer.Answer.{Answer}
use Rattle.tect_ids.specs.declared.answer.Answer.TheVariants.{Entries}
use Rattle.store_rules.specs.declared.names.NameReq.TheVariants as names
use Rattle.store_rules.specs.declared.any.AnyReq.TheVariants.{Name}
use Rattle.store_rules.specs.declared.any.AnyReply.{AnyReply}
use Rattle.store_rules.specs.Places.{request_place}
use Rattle.store_rules.specs.Views.{as_listing}
use Rattle.program_parts.specs.declared.next.Next.{Next}
use Rattle.program_parts.specs.declared.next.Next.TheVariants.{Goes, Comes}
use Rattle.program_parts.specs.Parts.{Part, looks_nothing, learns_nothing}
use Rattle.program_parts.specs.Refused.{dir_refusal}
use Rattle.program_rules.specs.declared.states.List.{List}

abbrev pub listed : Place → AnyReply → Option (Items Listed) → Next List Answer
listed place x None = Comes (dir_refusal place x)
listed place x (Some items) = Comes (Entries items)

abbrev pub list : Part List Answer
list = record {
  turns = looks_nothing;
  asks = λ c m op s. Name (names.List s.dir);
  hears = λ c m op s q x. listed (request_place c q) x (as_listing x);
  learns = learns_nothing;
}
