use Rattle.whole_runs.proofs.Prompt.{prompt_is_own_prompt}
use Rattle.noted_runs.proofs.prompt_is_own_prompt.Goals as goal

pub returns : goal.returns
returns g c P = prompt_is_own_prompt P
