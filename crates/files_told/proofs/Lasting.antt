-- what explains an answer explains it later too
use Rattle.std.proofs.Common.{◌≡◌, ℕ, List, [], ◌∷◌, ◌++◌, ap, ◌∙◌, append_assoc, inl, inr}
use Rattle.tect_ids.specs.declared.ids.Counts.{Counts}
use Rattle.tect_ids.specs.declared.ids.FileId.{FileId}
use Rattle.tect_ids.specs.declared.ids.OpId.{OpId}
use Rattle.tect_ids.specs.declared.command.Command.{Command}
use Rattle.tect_ids.specs.declared.command.Command.TheVariants as commands
use Rattle.tect_ids.specs.declared.answer.Answer.{Answer}
use Rattle.tree_model.specs.declared.step.StepValue.TheVariants as shown
use Rattle.tree_model.specs.declared.step.TreeReply.TheVariants.{Ok}
use Rattle.tree_model.specs.declared.step.TreeStep.TheVariants as step
use Rattle.world_runs.specs.declared.event.Event.{Event}
use Rattle.world_runs.specs.declared.event.Event.TheVariants.{Own}
use Rattle.world_runs.specs.declared.event.Happening.TheVariants.{Began}
use Rattle.claim_words.specs.Because.{because}
use Rattle.claim_words.specs.FilesBecause.{IsRead, ReadPoint, WasNotOpen, WasOpen, files_because}
use Rattle.claim_words.specs.TreeSteps.{Told, steps_after, tree_steps}
use Rattle.telling_laws.proofs.Histories.{steps_after-append}
use Rattle.telling_laws.proofs.Walks.{point_stays}
use Rattle.files_told.specs.FilesTelling.{files_why}

pub read_point_lasts : (t u : List Told) (op : OpId) (p : List (List ℕ)) (bytes : List ℕ) → ReadPoint t op p bytes
    → ReadPoint (t ++ u) op p bytes
read_point_lasts t u op p bytes k = record {
  before = k.before;
  file = k.file;
  sealed = k.sealed;
  rows = k.rows;
  later = k.later ++ u;
  there = ap (λ l. l ++ u) k.there
      ∙ append_assoc k.before (record { op = op; does = step.Blocks k.file; says = Ok (shown.Blocks k.sealed k.rows) } ∷ k.later) u;
  dir = k.dir;
  walked = k.walked;
  found = k.found;
  by_tree = k.by_tree;
}

read_lasts : (t u : List Told) (op : OpId) (p : List (List ℕ)) (a : Answer) → IsRead t op p a → IsRead (t ++ u) op p a
read_lasts t u op p a r = (r.0, r.1, read_point_lasts t u op p r.0 r.2)

not_open_lasts : (h es : List Event) (op : OpId) (c : Command) (p : List (List ℕ)) → WasNotOpen h op c p → WasNotOpen (h ++ es) op c p
not_open_lasts h es op c p w = record {
  before = w.before;
  later = w.later ++ es;
  there = ap (λ l. l ++ es) w.there ∙ append_assoc w.before (Own op (Began c) ∷ w.later) es;
  never = w.never;
}

pub was_open_lasts : (h es : List Event) (op : OpId) (c : Command) (p : List (List ℕ)) (f : FileId) (token : OpId)
    → WasOpen h op c p f token → WasOpen (h ++ es) op c p f token
was_open_lasts h es op c p f token w = record {
  before = w.before;
  later = w.later ++ es;
  there = ap (λ l. l ++ es) w.there ∙ append_assoc w.before (Own op (Began c) ∷ w.later) es;
  last = w.last;
}

pub steps_grow : (h es : List Event) → tree_steps (h ++ es) ≡ tree_steps h ++ steps_after h es
steps_grow h es = steps_after-append [] h es

files_last : (counts : Counts) (h es : List Event) (op : OpId) (c : Command) (a : Answer) → files_because counts h op c a
    → files_because counts (h ++ es) op c a
files_last counts h es op (commands.Open p) a f = f
files_last counts h es op (commands.Blocks p) a f = f
files_last counts h es op (commands.Read p) a (inl f) = inl f
files_last counts h es op (commands.Read p) a (inr f) = inr (rw (steps_grow h es) (read_lasts (tree_steps h) (steps_after h es) op p a f))
files_last counts h es op (commands.Append p bytes) a (inl f) = inl (not_open_lasts h es op (commands.Append p bytes) p f.0, f.1)
files_last counts h es op (commands.Append p bytes) a (inr f) = inr f
files_last counts h es op c a f = absurd f

pub because_lasts : (counts : Counts) (h es : List Event) (op : OpId) (c : Command) (a : Answer) → because counts h op c a
    → because counts (h ++ es) op c a
because_lasts counts h es op c a (inl (inl p)) =
    inl (inl (rw (steps_grow h es) (point_stays (tree_steps h) (steps_after h es) op c a p)))
because_lasts counts h es op c a (inl (inr lacks)) = inl (inr lacks)
because_lasts counts h es op c a (inr f) = inr (files_last counts h es op c a f)

pub why_lasts : (counts : Counts) (h es : List Event) (op : OpId) (c : Command) (a : Answer) → files_why counts h op c a
    → files_why counts (h ++ es) op c a
why_lasts counts h es op c a (inl b) = inl (because_lasts counts h es op c a b)
why_lasts counts h es op c a (inr odd) = inr odd
