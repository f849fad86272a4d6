-- The walk along a path: each name is looked up in turn; then comes the operation, in the directory to which the path led.
use Rattle.std.specs.Prelude.{ℕ, Option, Some, None, List, [], ◌∷◌}
use Rattle.tect_ids.specs.declared.ids.Counts.{Counts}
use Rattle.tect_ids.specs.declared.ids.DirId.{DirId}
use Rattle.tect_ids.specs.declared.ids.Node.{Node}
use Rattle.tect_ids.specs.declared.ids.Node.TheVariants as nodes
use Rattle.tect_ids.specs.declared.ids.OpId.{OpId}
use Rattle.tect_ids.specs.declared.ids.Place.{Place}
use Rattle.tect_ids.specs.declared.key.Key.{Key}
use Rattle.tect_ids.specs.declared.answer.Answer.{Answer}
use Rattle.tect_ids.specs.declared.answer.Answer.TheVariants as answers
use Rattle.store_rules.specs.declared.names.NameReq.TheVariants as names
use Rattle.store_rules.specs.declared.any.AnyReq.{AnyReq}
use Rattle.store_rules.specs.declared.any.AnyReq.TheVariants as any
use Rattle.store_rules.specs.declared.any.AnyReply.{AnyReply}
use Rattle.store_rules.specs.Names.{key_in}
use Rattle.store_rules.specs.Places.{request_place}
use Rattle.store_rules.specs.Views.{as_found}
use Rattle.program_forms.specs.Memories.{Memory, Learnt}
use Rattle.program_forms.specs.Kinds.{Turned}
use Rattle.program_parts.specs.declared.next.Next.{Next}
use Rattle.program_parts.specs.declared.next.Next.TheVariants.{Goes, Comes}
use Rattle.program_parts.specs.declared.walking.Walking.{Walking}
use Rattle.program_parts.specs.declared.walking.Walking.TheVariants.{Way, There}
use Rattle.program_parts.specs.Parts.{Part, within, turned_within}
use Rattle.program_parts.specs.Refused.{refusal}

-- the walk along these names from that directory, and the operation where they lead
abbrev pub walk_on : {O S : Type 0} → (O → DirId → S) → DirId → List (List ℕ) → O → Walking O S
walk_on enters d [] o = There (enters o d)
walk_on enters d (n ∷ ns) o = Way d n ns o

-- at the reply to a look on the way
abbrev pub walked : {O S : Type 0} → (O → DirId → S) → Place → Key → List (List ℕ) → O → AnyReply → Option Node → Next (Walking O S) Answer
walked enters place k ns o x None = Comes (refusal place k x)
walked enters place k ns o x (Some (nodes.Dir d)) = Goes (walk_on enters d ns o)
walked enters place k ns o x (Some (nodes.File f)) = Comes answers.NotDir

abbrev pub walk_turns : {O S : Type 0} → Part S Answer → Counts → Memory → OpId → Walking O S → Turned (Next (Walking O S) Answer)
walk_turns P c m op (Way d n ns o) = record { memory = m; state = Goes (Way d n ns o) }
walk_turns P c m op (There s) = turned_within There (P.turns c m op s)

abbrev pub walk_asks : {O S : Type 0} → Part S Answer → Counts → Memory → OpId → Walking O S → AnyReq
walk_asks P c m op (Way d n ns o) = any.Name (names.Look (key_in d n))
walk_asks P c m op (There s) = P.asks c m op s

abbrev pub walk_hears : {O S : Type 0} → (O → DirId → S) → Part S Answer → Counts → Memory → OpId → Walking O S → AnyReq → AnyReply
    → Next (Walking O S) Answer
walk_hears enters P c m op (Way d n ns o) q x = walked enters (request_place c q) (key_in d n) ns o x (as_found x)
walk_hears enters P c m op (There s) q x = within There (P.hears c m op s q x)

abbrev pub walk_learns : {O S : Type 0} → Part S Answer → OpId → Walking O S → AnyReq → AnyReply → List Learnt
walk_learns P op (Way d n ns o) q x = []
walk_learns P op (There s) q x = P.learns op s q x

-- a walk, and then the operation, which begins so in the directory to which the path led
abbrev pub walking : {O S : Type 0} → (O → DirId → S) → Part S Answer → Part (Walking O S) Answer
walking enters P = record { turns = walk_turns P; asks = walk_asks P; hears = walk_hears enters P; learns = walk_learns P }
