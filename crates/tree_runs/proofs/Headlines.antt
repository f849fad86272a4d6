-- each answer is the one that the tree gives at the command's point
use Rattle.std.proofs.Common.{◌≡◌, ◌≢◌, ◌⊎◌, ℕ, true, false, Some, List, take, refl, ap, ◌∙◌, inl, inr}
use Rattle.std.specs.List.{slice_get}
use Rattle.tect_ids.specs.declared.ids.Counts.{Counts}
use Rattle.tect_ids.specs.declared.ids.OpId.{OpId}
use Rattle.tect_ids.specs.declared.ids.Place.{Place}
use Rattle.tect_ids.specs.declared.command.Command.{Command}
use Rattle.tect_ids.specs.declared.answer.Answer.{Answer}
use Rattle.tect_ids.specs.declared.answer.Answer.TheVariants.{Odd}
use Rattle.program_rules.specs.Served.{Program, programs}
use Rattle.world_runs.specs.declared.event.Event.{Event}
use Rattle.world_runs.specs.declared.event.Event.TheVariants.{Own}
use Rattle.world_runs.specs.declared.event.Happening.TheVariants.{Ended}
use Rattle.world_runs.specs.Moments.{WorldState, May, IsWorldRun, moment, opening}
use Rattle.whole_runs.proofs.Fronts.{front_runs, may_at}
use Rattle.program_laws.specs.Known.{is_odd}
use Rattle.run_laws.specs.Laws.{NoRunAnswersOdd}
use Rattle.run_laws.proofs.RunsKeep.{no_run_answers_odd}
use Rattle.claim_words.specs.Because.{because}
use Rattle.claim_words.specs.Headline.{ExplainsBy, HadNoRoom, HeadlineBy, Headline}
use Rattle.telling_laws.specs.Telling.{RunsAskFresh, RunsFollowTree, RunsAreExplained}
use Rattle.telling_laws.specs.Following.{RunsShowTree}
use Rattle.telling_laws.proofs.RunsFollow.{runs_show_tree, runs_follow_tree}
use Rattle.telling_laws.proofs.RunsTell.{runs_are_explained}
use Rattle.names_laws.specs.Known.{names_known, names_deciding}
use Rattle.names_laws.proofs.Laws.{names_program_laws}
use Rattle.files_told.specs.FilesTelling.{files_why}
use Rattle.names_told.specs.NamesTelling.{names_telling}
use Rattle.names_told.proofs.NamesTell.{names_tell_so}
use Rattle.tree_runs.specs.Safe.{RunsAskSafely}
use Rattle.tree_runs.proofs.AskSafely.{runs_ask_fresh}
use Rattle.tree_runs.proofs.Tracks.{runs_ask_safely}

pub safely : RunsAskSafely programs
safely = runs_ask_safely programs names_deciding names_known names_program_laws

freshly : RunsAskFresh programs
freshly = runs_ask_fresh programs safely

pub shown_so : RunsShowTree programs
shown_so = runs_show_tree programs freshly

pub followed_so : RunsFollowTree programs
followed_so = runs_follow_tree programs freshly

-- ---- no answer is odd

odd_place : (a : Answer) → is_odd a ≡ true → (place : Place) × (a ≡ Odd place)
odd_place (Odd place) e = (place, refl)
odd_place a e = absurd (let k : false ≡ true = e in cc)

-- no command ends so
pub no_end_is_odd : (counts : Counts) (history : List Event) → IsWorldRun programs counts history → (op : OpId) (a : Answer) (n : ℕ)
    → slice_get history n ≡ Some (Own op (Ended a)) → (place : Place) → a ≢ Odd place
no_end_is_odd counts history run op a n at place odd =
    let m : WorldState Program = moment programs counts (take n history) in
    let front : IsWorldRun programs counts (take n history) = front_runs programs n history (opening counts) run in
    let may : May programs m (Own op (Ended a)) = may_at programs (opening counts) history n (Own op (Ended a)) run at in
    none_odd counts (take n history) front op place (may.0 ∙ ap (λ (b : Answer). Some b) odd)
  where
    none_odd : NoRunAnswersOdd programs
    none_odd = no_run_answers_odd programs names_deciding names_known names_program_laws

-- so the history explains each
because_plain : (counts : Counts) (h : List Event) (op : OpId) (c : Command) (a : Answer) → ((place : Place) → a ≢ Odd place)
    → files_why counts h op c a → because counts h op c a
because_plain counts h op c a plain (inl b) = b
because_plain counts h op c a plain (inr odd) = absurd (plain (odd_place a odd).0 (odd_place a odd).1)

explains_plain : (counts : Counts) (h : List Event) (op : OpId) (a : Answer) → ((place : Place) → a ≢ Odd place)
    → ExplainsBy (files_why counts) h op a ⊎ HadNoRoom h op a → ExplainsBy (because counts) h op a ⊎ HadNoRoom h op a
explains_plain counts h op a plain (inl x) = inl record {
  command = x.command;
  begun = x.begun;
  because = because_plain counts h op x.command a plain x.because;
}
explains_plain counts h op a plain (inr x) = inr x

pub run_headline : (counts : Counts) (events : List Event) → IsWorldRun programs counts events → Headline counts events
run_headline counts events run = record {
  tree = told.tree;
  begins = told.begins;
  answers = λ place op a is.
      explains_plain counts (take place events) op a (no_end_is_odd counts events run op a place is) (told.answers place op a is);
}
  where
    explained : RunsAreExplained counts programs (names_telling counts)
    explained = runs_are_explained Program counts programs names_deciding (names_telling counts) (names_tell_so counts) freshly followed_so

    told : HeadlineBy (files_why counts) events
    told = explained events run
