use Rattle.std.proofs.Common.{◌+◌, ◌≤◌, List, ℕ, length}
use Rattle.std.specs.Prelude.{Err}
use Rattle.std.specs.Io.KnownBytes.{Consumes, IsAtEnd}
use Rattle.tect_ids.specs.declared.script.Plan.{Plan}
use Rattle.script_forms.specs.Spelling.{Spells}
use Rattle.script_reader.specs.GivesPlan.{IsUnlessMemory}
use Rattle.script_forms.specs.FirstFault.{IsFirstFault}
use Rattle.tect_app.proofs.Inputs.{read_fault}
use Rattle.plan_laws.proofs.Plans.{spelled_playable, few_clients}
use Rattle.tect_app.proofs.input.read_plan.Goals as goal

pub returns-in-Ok-clause-playable : goal.returns-in-Ok-clause-playable
returns-in-Ok-clause-playable g c = spelled_playable _ _ c.in-Ok.ensures.spelled

pub returns-in-Ok-clause-clients : goal.returns-in-Ok-clause-clients
returns-in-Ok-clause-clients g c = few_clients _ _ c.in-Ok.ensures.spelled

pub returns-clause-first : goal.returns-clause-first
returns-clause-first g c =
    let bytes : List ℕ = c.in-Ok-Some.input.items in
    let fault = c.in-Err.fault in
    let left = g.S.Source.left c.args.source.now in
    let rest = g.S.Source.left c.read_input.new.source in
    let calls = g.S.Source.calls c.args.source.now in
    let whole : Consumes left rest bytes × IsAtEnd rest × (length bytes ≤ 67108864)
    × (g.S.Source.calls c.read_input.new.source ≤ calls + length bytes + 1) =
    rw (c.in-Ok-Some.field-0-is) at c.in-Ok-Some.ensures.whole in
    let complete : (plan : Plan) → Spells bytes plan
    → IsUnlessMemory plan (Err fault) = rw (c.deref.ensures.value) at c.in-Err.ensures.complete in
    let first : IsFirstFault bytes fault = rw (c.deref.ensures.value) at c.in-Err.ensures.first in
    read_fault left rest bytes fault whole.0 whole.1 complete first
