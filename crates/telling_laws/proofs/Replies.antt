-- what a program makes of a reply, against what the reply says to the tree
use Rattle.std.proofs.Common.{◌≡◌, None, Some, arith}
use Rattle.tect_ids.specs.declared.ids.Node.{Node}
use Rattle.tect_ids.specs.declared.ids.Place.{Place}
use Rattle.tect_ids.specs.declared.key.Key.{Key}
use Rattle.tect_ids.specs.declared.values.Refusal.{Refusal}
use Rattle.tect_ids.specs.declared.values.Refusal.TheVariants as refusals
use Rattle.tect_ids.specs.Refusals.{refusal_answer}
use Rattle.store_rules.specs.declared.names.NameReq.TheVariants as names
use Rattle.store_rules.specs.declared.any.AnyReq.TheVariants as any
use Rattle.store_rules.specs.declared.any.AnyReply.{AnyReply}
use Rattle.store_rules.specs.Store.{Store, store_reply}
use Rattle.store_rules.specs.Views.{as_found}
use Rattle.tree_model.specs.declared.step.StepValue.TheVariants as shown
use Rattle.tree_model.specs.declared.step.TreeReply.{TreeReply}
use Rattle.tree_model.specs.declared.step.TreeReply.TheVariants.{Ok, Refused}
use Rattle.program_parts.specs.Refused.{refusal}
use Rattle.claim_words.specs.TreeSteps.{says}

-- the word of a refusal
abbrev pub why_of : TreeReply → Refusal
why_of (Ok x) = refusals.NoDir
why_of (Refused why) = why

-- the reply is a refusal, and makes the answer that the tree's refusal makes
abbrev pub RefusesSo : Place → Key → AnyReply → Type 0
RefusesSo place k x = (says x ≡ Refused (why_of (says x))) × (refusal place k x ≡ refusal_answer k (why_of (says x)))

module _ (s : Store) (place : Place) (k : Key) where
  pub look_some : (n : Node) → as_found (store_reply s (any.Name (names.Look k))) ≡ Some n
      → says (store_reply s (any.Name (names.Look k))) ≡ Ok (shown.Node n)
  look_some n e = grind arith

  pub look_none : as_found (store_reply s (any.Name (names.Look k))) ≡ None → RefusesSo place k (store_reply s (any.Name (names.Look k)))
  look_none e = (grind arith, grind arith)
