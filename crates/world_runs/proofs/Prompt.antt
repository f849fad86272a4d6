-- an actor's commands that end at once: one list of events after another
use Rattle.std.proofs.Common.{List, [], ◌∷◌, ◌++◌}
use Rattle.tect_ids.specs.declared.ids.Counts.{Counts}
use Rattle.tect_ids.specs.declared.ids.OpId.{OpId}
use Rattle.program_forms.specs.Kinds.{Programs}
use Rattle.world_runs.specs.declared.event.Event.{Event}
use Rattle.world_runs.specs.declared.event.Event.TheVariants.{Own, Dumped}
use Rattle.world_runs.specs.declared.event.Happening.{Happening}
use Rattle.world_runs.specs.declared.event.Happening.TheVariants.{Began, NotBegun, Acted, Ended, Stopped, Failed}
use Rattle.world_runs.specs.Actors.{Actor}
use Rattle.world_runs.specs.OwnRuns.{own_next, own_state}
use Rattle.world_runs.specs.Smooth.{EndIsNext, OwnIsPrompt, IsPromptFrom, OwnEndsAtOnce}

-- what comes first stays so, whatever comes behind; and what comes behind an end stays behind it
pub end_next-append : (op : OpId) (es fs : List Event) → EndIsNext op es → EndIsNext op (es ++ fs)
end_next-append op [] fs next = absurd next
end_next-append op (e ∷ es) fs next = next

-- whether it is prompt rests on what comes behind it alone
pub own_prompt-behind : {S : Type 0} (P : Programs S) (c : Counts) (s : Actor S) (op : OpId) (h : Happening) (es fs : List Event)
    → (EndIsNext op es → EndIsNext op fs) → OwnIsPrompt P c s op h es → OwnIsPrompt P c s op h fs
own_prompt-behind P c s op (Acted q x h) es fs next prompt = λ over. next (prompt over)
own_prompt-behind P c s op (Began k) es fs next prompt = tt
own_prompt-behind P c s op (NotBegun k) es fs next prompt = tt
own_prompt-behind P c s op (Ended a) es fs next prompt = tt
own_prompt-behind P c s op Stopped es fs next prompt = tt
own_prompt-behind P c s op (Failed a) es fs next prompt = tt

pub prompt-behind : {S : Type 0} (P : Programs S) (c : Counts) (s : Actor S) (e : Event) (es fs : List Event)
    → ((op : OpId) → EndIsNext op es → EndIsNext op fs) → IsPromptFrom P c s e es → IsPromptFrom P c s e fs
prompt-behind P c s (Own op h) es fs next prompt = own_prompt-behind P c s op h es fs (next op) prompt
prompt-behind P c s Dumped es fs next prompt = tt

pub ends_at_once-append : {S : Type 0} (P : Programs S) (c : Counts) (s : Actor S) (es fs : List Event) → OwnEndsAtOnce P c s es
    → OwnEndsAtOnce P c (own_state P c s es) fs → OwnEndsAtOnce P c s (es ++ fs)
ends_at_once-append P c s [] fs first next = next
ends_at_once-append P c s (e ∷ es) fs first next = (
  prompt-behind P c (own_next P c s e) e es (es ++ fs) (λ op next. end_next-append op es fs next) first.0,
  ends_at_once-append P c (own_next P c s e) es fs first.1 next,
)
