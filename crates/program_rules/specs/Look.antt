-- Looks up an entry, or whether a directory stands.
use Rattle.std.specs.Prelude.{ℕ, Bool, true, false, Option, Some, None, is_some, List}
use Rattle.tect_ids.specs.declared.ids.DirId.{DirId}
use Rattle.tect_ids.specs.declared.ids.Node.{Node}
use Rattle.tect_ids.specs.declared.ids.Node.TheVariants as nodes
use Rattle.tect_ids.specs.declared.ids.Place.{Place}
use Rattle.tect_ids.specs.declared.key.Key.{Key}
use Rattle.tect_ids.specs.declared.answer.Answer.{Answer}
use Rattle.tect_ids.specs.declared.answer.Answer.TheVariants.{Found}
use Rattle.store_rules.specs.declared.names.NameReq.TheVariants as names
use Rattle.store_rules.specs.declared.any.AnyReq.{AnyReq}
use Rattle.store_rules.specs.declared.any.AnyReq.TheVariants.{Name}
use Rattle.store_rules.specs.declared.any.AnyReply.{AnyReply}
use Rattle.store_rules.specs.Names.{key_in}
use Rattle.store_rules.specs.Places.{request_place}
use Rattle.store_rules.specs.Views.{as_found, as_parent}
use Rattle.program_parts.specs.declared.next.Next.{Next}
use Rattle.program_parts.specs.declared.next.Next.TheVariants.{Goes, Comes}
use Rattle.program_parts.specs.Parts.{Part, looks_nothing, learns_nothing}
use Rattle.program_parts.specs.Refused.{refusal, dir_refusal}
use Rattle.program_rules.specs.declared.states.Look.{Look}
use Rattle.program_rules.specs.declared.states.Look.TheVariants.{Check, Entry}

abbrev pub look_starts : Option (List ℕ) → DirId → Look
look_starts None d = Check d
look_starts (Some n) d = Entry (key_in d n)

abbrev pub look_asks : Look → AnyReq
look_asks (Check d) = Name (names.CheckDir d)
look_asks (Entry k) = Name (names.Look k)

abbrev pub checked : Place → DirId → AnyReply → Bool → Next Look Answer
checked place d x true = Comes (Found (nodes.Dir d))
checked place d x false = Comes (dir_refusal place x)

abbrev pub looked : Place → Key → AnyReply → Option Node → Next Look Answer
looked place k x None = Comes (refusal place k x)
looked place k x (Some n) = Comes (Found n)

abbrev pub look_hears : Place → Look → AnyReply → Next Look Answer
look_hears place (Check d) x = checked place d x (is_some (as_parent x))
look_hears place (Entry k) x = looked place k x (as_found x)

abbrev pub look : Part Look Answer
look = record {
  turns = looks_nothing;
  asks = λ c m op s. look_asks s;
  hears = λ c m op s q x. look_hears (request_place c q) s x;
  learns = learns_nothing;
}
