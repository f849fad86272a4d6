-- The answer that a refusal makes. A reply that a program has no use for is odd: no run answers it.
use Rattle.tect_ids.specs.declared.ids.Place.{Place}
use Rattle.tect_ids.specs.declared.key.Key.{Key}
use Rattle.tect_ids.specs.declared.answer.Answer.{Answer}
use Rattle.tect_ids.specs.declared.answer.Answer.TheVariants.{NoDir, Odd}
use Rattle.tect_ids.specs.declared.values.Refusal.TheVariants as refusals
use Rattle.tect_ids.specs.Refusals.{refusal_answer}
use Rattle.store_rules.specs.declared.names.NameReply.TheVariants as names
use Rattle.store_rules.specs.declared.files.FileReply.TheVariants as files
use Rattle.store_rules.specs.declared.any.AnyReply.{AnyReply}
use Rattle.store_rules.specs.declared.any.AnyReply.TheVariants.{Name, File}

-- the request was at this place and concerned this entry
abbrev pub refusal : Place → Key → AnyReply → Answer
refusal place k (Name (names.Refused why)) = refusal_answer k why
refusal place k (File (files.Refused why)) = refusal_answer k why
refusal place k _ = Odd place

-- the request concerned a directory as a whole, and is refused only where that does not stand
abbrev pub dir_refusal : Place → AnyReply → Answer
dir_refusal place (Name (names.Refused refusals.NoDir)) = NoDir
dir_refusal place _ = Odd place
