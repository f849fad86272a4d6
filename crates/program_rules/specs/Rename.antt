-- Gives a node another name in its directory: it is found under the old name, a hold for the new name is granted at it, the names are
-- swapped, and the holds of the old name and of a file that was replaced are released. Equal names leave it as it is.
use Rattle.std.specs.Prelude.{ℕ, Bool, true, false, if◌then◌else◌, Option, Some, None, List}
use Rattle.tect_ids.specs.declared.ids.DirId.{DirId}
use Rattle.tect_ids.specs.declared.ids.Hold.{Hold}
use Rattle.tect_ids.specs.declared.ids.Node.{Node}
use Rattle.tect_ids.specs.declared.ids.Node.TheVariants as nodes
use Rattle.tect_ids.specs.declared.ids.OpId.{OpId}
use Rattle.tect_ids.specs.declared.ids.Place.{Place}
use Rattle.tect_ids.specs.declared.key.Key.{Key}
use Rattle.tect_ids.specs.declared.answer.Answer.{Answer}
use Rattle.tect_ids.specs.declared.answer.Answer.TheVariants.{Done}
use Rattle.tect_ids.specs.Keys.{name_eq}
use Rattle.tect_ids.specs.Numbers.{own_hold}
use Rattle.store_rules.specs.declared.names.NameReq.TheVariants as names
use Rattle.store_rules.specs.declared.files.FileReq.TheVariants as files
use Rattle.store_rules.specs.declared.any.AnyReq.{AnyReq}
use Rattle.store_rules.specs.declared.any.AnyReq.TheVariants as any
use Rattle.store_rules.specs.declared.any.AnyReply.{AnyReply}
use Rattle.store_rules.specs.Names.{key_in}
use Rattle.store_rules.specs.Places.{request_place}
use Rattle.store_rules.specs.Views.{as_found, is_granted, as_swapped}
use Rattle.tect_calls.specs.declared.tokens.Freed.{Freed}
use Rattle.tect_calls.specs.Readings.{swapped_freed}
use Rattle.program_parts.specs.declared.next.Next.{Next}
use Rattle.program_parts.specs.declared.next.Next.TheVariants.{Goes, Comes}
use Rattle.program_parts.specs.Parts.{Part, within, looks_nothing, learns_nothing}
use Rattle.program_parts.specs.Refused.{refusal}
use Rattle.program_parts.specs.Releases.{release_ask, then_release}
use Rattle.program_rules.specs.declared.states.Rename.{Rename}
use Rattle.program_rules.specs.declared.states.Rename.TheVariants.{Find, Grant, Swap, Release}
use Rattle.program_rules.specs.NamePairs.{OldAndNew, pair_of}

abbrev pub grant_ask : Node → Hold → Key → AnyReq
grant_ask (nodes.Dir d) h k = any.Name (names.Grant d h k)
grant_ask (nodes.File f) h k = any.File (files.Grant f h k)

abbrev pub rename_asks : OpId → Rename → AnyReq
rename_asks op (Find d from to) = any.Name (names.Look (key_in d from))
rename_asks op (Grant d p node) = grant_ask node (own_hold op) (key_in d p.to)
rename_asks op (Swap d p node h) = any.Name (names.Swap d p.from p.to node h)
rename_asks op (Release r) = release_ask (r.first).node (r.first).hold

-- the node goes on to its new name, unless that is the old one
abbrev pub to_grant : DirId → Node → Option OldAndNew → Next Rename Answer
to_grant d node None = Comes Done
to_grant d node (Some p) = Goes (Grant d p node)

abbrev pub found_old : Place → DirId → List ℕ → List ℕ → AnyReply → Option Node → Next Rename Answer
found_old place d from to x None = Comes (refusal place (key_in d from) x)
found_old place d from to x (Some node) = to_grant d node (pair_of from to (name_eq from to))

abbrev pub granted : Place → OpId → DirId → OldAndNew → Node → AnyReply → Next Rename Answer
granted place op d p node x = if is_granted x then Goes (Swap d p node (own_hold op)) else Comes (refusal place (key_in d p.from) x)

-- where the swap is refused the new hold is released, and else the old one and that of a file that was replaced
abbrev pub swapped : Place → DirId → OldAndNew → Node → Hold → AnyReply → Option (Freed × Option Freed) → Next Rename Answer
swapped place d p node h x None =
    Goes (Release record { first = record { node = node; hold = h }; second = None; answer = refusal place (key_in d p.from) x })
swapped place d p node h x (Some f) = Goes (Release record { first = f.0; second = f.1; answer = Done })

abbrev pub rename_hears : Place → OpId → Rename → AnyReply → Next Rename Answer
rename_hears place op (Find d from to) x = found_old place d from to x (as_found x)
rename_hears place op (Grant d p node) x = granted place op d p node x
rename_hears place op (Swap d p node h) x = swapped place d p node h x (swapped_freed node (as_swapped x))
rename_hears place op (Release r) x = within Release (then_release r.second r.answer)

abbrev pub rename : Part Rename Answer
rename = record {
  turns = looks_nothing;
  asks = λ c m op s. rename_asks op s;
  hears = λ c m op s q x. rename_hears (request_place c q) op s x;
  learns = learns_nothing;
}

-- its answer, once it can't change any more; what the command has not bound by then it will not bind
abbrev pub rename_decided : Rename → Option Answer
rename_decided (Find d from to) = None
rename_decided (Grant d p node) = None
rename_decided (Swap d p node h) = None
rename_decided (Release r) = Some r.answer
