-- The release of holds that can't be bound any more, before the answer.
use Rattle.std.specs.Prelude.{Option, Some, None}
use Rattle.tect_ids.specs.declared.ids.Hold.{Hold}
use Rattle.tect_ids.specs.declared.ids.Node.{Node}
use Rattle.tect_ids.specs.declared.ids.Node.TheVariants as nodes
use Rattle.tect_ids.specs.declared.answer.Answer.{Answer}
use Rattle.store_rules.specs.declared.names.NameReq.TheVariants as names
use Rattle.store_rules.specs.declared.files.FileReq.TheVariants as files
use Rattle.store_rules.specs.declared.any.AnyReq.{AnyReq}
use Rattle.store_rules.specs.declared.any.AnyReq.TheVariants as any
use Rattle.tect_calls.specs.declared.tokens.Freed.{Freed}
use Rattle.program_parts.specs.declared.next.Next.{Next}
use Rattle.program_parts.specs.declared.next.Next.TheVariants.{Goes, Comes}
use Rattle.program_parts.specs.declared.releasing.Releasing.{Releasing}
use Rattle.program_parts.specs.Parts.{Part, looks_nothing, learns_nothing}

abbrev pub release_ask : Node → Hold → AnyReq
release_ask (nodes.Dir d) h = any.Name (names.Release d h)
release_ask (nodes.File f) h = any.File (files.Release f h)

-- a hold that is released, if there is one, before the answer
abbrev pub then_release : Option Freed → Answer → Next Releasing Answer
then_release None a = Comes a
then_release (Some f) a = Goes record { first = f; second = None; answer = a }

-- whatever is replied to a release, what comes next is the same
abbrev pub releasing : Part Releasing Answer
releasing = record {
  turns = looks_nothing;
  asks = λ c m op s. release_ask (s.first).node (s.first).hold;
  hears = λ c m op s q x. then_release s.second s.answer;
  learns = learns_nothing;
}
