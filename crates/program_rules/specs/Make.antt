-- Makes a file or a directory, with a hold, and binds it to its name.
use Rattle.std.specs.Prelude.{ℕ, Bool, true, false, if◌then◌else◌, Option, Some, None, List}
use Rattle.tect_ids.specs.declared.ids.Counts.{Counts}
use Rattle.tect_ids.specs.declared.ids.DirId.{DirId}
use Rattle.tect_ids.specs.declared.ids.Hold.{Hold}
use Rattle.tect_ids.specs.declared.ids.Node.{Node}
use Rattle.tect_ids.specs.declared.ids.Node.TheVariants as nodes
use Rattle.tect_ids.specs.declared.ids.OpId.{OpId}
use Rattle.tect_ids.specs.declared.ids.Place.{Place}
use Rattle.tect_ids.specs.declared.key.Key.{Key}
use Rattle.tect_ids.specs.declared.values.Over.{Over}
use Rattle.tect_ids.specs.declared.values.Over.TheVariants as over
use Rattle.tect_ids.specs.declared.answer.Answer.{Answer}
use Rattle.tect_ids.specs.declared.answer.Answer.TheVariants.{Found}
use Rattle.tect_ids.specs.Numbers.{object_number, own_hold}
use Rattle.store_rules.specs.declared.names.NameReq.TheVariants as names
use Rattle.store_rules.specs.declared.files.FileReq.TheVariants as files
use Rattle.store_rules.specs.declared.any.AnyReq.{AnyReq}
use Rattle.store_rules.specs.declared.any.AnyReq.TheVariants as any
use Rattle.store_rules.specs.declared.any.AnyReply.{AnyReply}
use Rattle.store_rules.specs.Names.{key_in}
use Rattle.store_rules.specs.Places.{request_place}
use Rattle.store_rules.specs.Views.{is_made, as_bound}
use Rattle.tect_calls.specs.declared.tokens.Freed.{Freed}
use Rattle.tect_calls.specs.Readings.{bound_freed}
use Rattle.program_forms.specs.Memories.{Memory}
use Rattle.program_parts.specs.declared.next.Next.{Next}
use Rattle.program_parts.specs.declared.next.Next.TheVariants.{Goes, Comes}
use Rattle.program_parts.specs.Parts.{Part, within, looks_nothing, learns_nothing}
use Rattle.program_parts.specs.Refused.{refusal}
use Rattle.program_parts.specs.Releases.{release_ask, then_release}
use Rattle.program_rules.specs.declared.states.NewNode.{NewNode}
use Rattle.program_rules.specs.declared.states.NewNode.TheVariants as new
use Rattle.program_rules.specs.declared.states.Make.{Make}
use Rattle.program_rules.specs.declared.states.Make.TheVariants.{New, Bind, Release}

-- what the new name may replace
abbrev pub over_of : NewNode → Over
over_of new.File = over.File
over_of new.Dir = over.Absent

-- what has that number
abbrev pub node_of : NewNode → ℕ → Node
node_of new.File number = nodes.File record { 0 = number }
node_of new.Dir number = nodes.Dir record { 0 = number }

-- the request that makes it, held for that entry
abbrev pub new_ask : NewNode → ℕ → Hold → DirId → List ℕ → AnyReq
new_ask new.File number h d n = any.File (files.MakeFile record { 0 = number } h (key_in d n) None)
new_ask new.Dir number h d n = any.Name (names.MakeDir record { 0 = number } d h (key_in d n))

abbrev pub make_asks : OpId → ℕ → Make → AnyReq
make_asks op number (New kind d n) = new_ask kind number (own_hold op) d n
make_asks op number (Bind kind k node h) = any.Name (names.Bind k node h (over_of kind))
make_asks op number (Release r) = release_ask (r.first).node (r.first).hold

-- what was made is bound next
abbrev pub made : Place → OpId → NewNode → Key → Node → AnyReply → Next Make Answer
made place op kind k node x = if is_made x then Goes (Bind kind k node (own_hold op)) else Comes (refusal place k x)

-- where the bind is refused its hold is released, and else that of a file that was replaced
abbrev pub bound : Place → Key → Node → Hold → AnyReply → Option (Option Freed) → Next Make Answer
bound place k node h x None = Goes (Release record { first = record { node = node; hold = h }; second = None; answer = refusal place k x })
bound place k node h x (Some old) = within Release (then_release old (Found node))

abbrev pub make_hears : Place → OpId → ℕ → Make → AnyReply → Next Make Answer
make_hears place op number (New kind d n) x = made place op kind (key_in d n) (node_of kind number) x
make_hears place op number (Bind kind k node h) x = bound place k node h x (bound_freed (as_bound x))
make_hears place op number (Release r) x = within Release (then_release r.second r.answer)

abbrev pub make : Part Make Answer
make = record {
  turns = looks_nothing;
  asks = λ c m op s. make_asks op (object_number op.actor m.serial) s;
  hears = λ c m op s q x. make_hears (request_place c q) op (object_number op.actor m.serial) s x;
  learns = learns_nothing;
}

-- its answer, once it can't change any more; what the command has not bound by then it will not bind
abbrev pub make_decided : Make → Option Answer
make_decided (New kind d n) = None
make_decided (Bind kind k node h) = None
make_decided (Release r) = Some r.answer
