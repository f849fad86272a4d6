-- The answer that a refusal makes, the same for a request and for a step of the small machine.
use Rattle.std.specs.Prelude.{Option, Some, None}
use Rattle.tect_ids.specs.declared.ids.OpId.{OpId}
use Rattle.tect_ids.specs.declared.key.Key.{Key}
use Rattle.tect_ids.specs.declared.values.Refusal.{Refusal}
use Rattle.tect_ids.specs.declared.values.Refusal.TheVariants as refusal
use Rattle.tect_ids.specs.declared.answer.Answer.{Answer}
use Rattle.tect_ids.specs.declared.answer.Answer.TheVariants as answers

-- the file's token is another one; where it has none, nobody has it open
abbrev pub token_changed : Option OpId → Answer
token_changed (Some now) = answers.TokenChanged now
token_changed None = answers.NotOpen

-- where the request or step concerned that entry; of a directory as a whole the name does not matter
abbrev pub refusal_answer : Key → Refusal → Answer
refusal_answer k refusal.NoDir = answers.NoDir
refusal_answer k refusal.NoName = answers.NoName
refusal_answer k refusal.NoFile = answers.NoFile
refusal_answer k refusal.Exists = answers.Exists
refusal_answer k refusal.IsDir = answers.IsDir
refusal_answer k refusal.Sealed = answers.Sealed
refusal_answer k refusal.Full = answers.Full (k.dir).0
refusal_answer k (refusal.Changed now) = answers.Changed k now
refusal_answer k (refusal.TokenChanged now) = token_changed now
