-- Takes a name from a file, and releases the file's hold for it.
use Rattle.std.specs.Prelude.{Option, Some, None}
use Rattle.tect_ids.specs.declared.ids.Place.{Place}
use Rattle.tect_ids.specs.declared.key.Key.{Key}
use Rattle.tect_ids.specs.declared.values.Want.TheVariants.{AnyFile}
use Rattle.tect_ids.specs.declared.answer.Answer.{Answer}
use Rattle.tect_ids.specs.declared.answer.Answer.TheVariants.{Done}
use Rattle.store_rules.specs.declared.names.NameReq.TheVariants as names
use Rattle.store_rules.specs.declared.any.AnyReq.{AnyReq}
use Rattle.store_rules.specs.declared.any.AnyReq.TheVariants.{Name}
use Rattle.store_rules.specs.declared.any.AnyReply.{AnyReply}
use Rattle.store_rules.specs.Places.{request_place}
use Rattle.store_rules.specs.Views.{as_unbound}
use Rattle.tect_calls.specs.declared.tokens.Freed.{Freed}
use Rattle.tect_calls.specs.Readings.{unbound_freed}
use Rattle.program_parts.specs.declared.next.Next.{Next}
use Rattle.program_parts.specs.declared.next.Next.TheVariants.{Goes, Comes}
use Rattle.program_parts.specs.Parts.{Part, within, looks_nothing, learns_nothing}
use Rattle.program_parts.specs.Refused.{refusal}
use Rattle.program_parts.specs.Releases.{release_ask, then_release}
use Rattle.program_rules.specs.declared.states.Delete.{Delete}
use Rattle.program_rules.specs.declared.states.Delete.TheVariants.{Unbind, Release}

abbrev pub delete_asks : Delete → AnyReq
delete_asks (Unbind k) = Name (names.Unbind k AnyFile)
delete_asks (Release r) = release_ask (r.first).node (r.first).hold

abbrev pub unbound : Place → Key → AnyReply → Option Freed → Next Delete Answer
unbound place k x None = Comes (refusal place k x)
unbound place k x (Some f) = within Release (then_release (Some f) Done)

abbrev pub delete_hears : Place → Delete → AnyReply → Next Delete Answer
delete_hears place (Unbind k) x = unbound place k x (unbound_freed (as_unbound x))
delete_hears place (Release r) x = within Release (then_release r.second r.answer)

abbrev pub delete : Part Delete Answer
delete = record {
  turns = looks_nothing;
  asks = λ c m op s. delete_asks s;
  hears = λ c m op s q x. delete_hears (request_place c q) s x;
  learns = learns_nothing;
}

-- its answer, once it can't change any more; what the command has not bound by then it will not bind
abbrev pub delete_decided : Delete → Option Answer
delete_decided (Unbind k) = None
delete_decided (Release r) = Some r.answer
