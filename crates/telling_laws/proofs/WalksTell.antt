-- a walk before an operation: each look leads on, or is the command's point
use Rattle.std.proofs.Common.{◌≡◌, ℕ, Option, Some, None, List, [], ◌∷◌, ◌++◌, refl}
use Rattle.tect_ids.specs.declared.ids.Counts.{Counts}
use Rattle.tect_ids.specs.declared.ids.DirId.{DirId}
use Rattle.tect_ids.specs.declared.ids.FileId.{FileId}
use Rattle.tect_ids.specs.declared.ids.Node.{Node}
use Rattle.tect_ids.specs.declared.ids.Node.TheVariants.{Dir, File}
use Rattle.tect_ids.specs.declared.ids.OpId.{OpId}
use Rattle.tect_ids.specs.declared.ids.Place.{Place}
use Rattle.tect_ids.specs.declared.key.Key.{Key}
use Rattle.tect_ids.specs.declared.command.Command.{Command}
use Rattle.tect_ids.specs.declared.answer.Answer.{Answer}
use Rattle.tect_ids.specs.declared.answer.Answer.TheVariants as answers
use Rattle.tect_ids.specs.Refusals.{refusal_answer}
use Rattle.store_rules.specs.declared.names.NameReq.TheVariants as names
use Rattle.store_rules.specs.declared.any.AnyReq.{AnyReq}
use Rattle.store_rules.specs.declared.any.AnyReq.TheVariants as any
use Rattle.store_rules.specs.declared.any.AnyReply.{AnyReply}
use Rattle.store_rules.specs.Names.{key_in}
use Rattle.store_rules.specs.Places.{request_place}
use Rattle.store_rules.specs.Store.{opening_store}
use Rattle.store_rules.specs.Views.{as_found}
use Rattle.tree_model.specs.declared.step.TreeStep.TheVariants as step
use Rattle.tree_model.specs.declared.step.StepValue.TheVariants as shown
use Rattle.tree_model.specs.declared.step.TreeReply.{TreeReply}
use Rattle.tree_model.specs.declared.step.TreeReply.TheVariants.{Ok, Refused}
use Rattle.program_forms.specs.declared.heard.Heard.{Heard}
use Rattle.program_parts.specs.declared.walking.Walking.{Walking}
use Rattle.program_parts.specs.declared.walking.Walking.TheVariants.{Way, There}
use Rattle.program_parts.specs.Parts.{Part}
use Rattle.program_parts.specs.Refused.{refusal}
use Rattle.program_parts.specs.Walks.{walk_on, walked, walking}
use Rattle.program_laws.specs.Known.{Deciding}
use Rattle.part_laws.specs.Walks.{walk_deciding}
use Rattle.world_runs.specs.declared.event.Event.{Event}
use Rattle.world_runs.specs.OwnRuns.{stored_after}
use Rattle.claim_words.specs.TreeSteps.{says}
use Rattle.claim_words.specs.Points.{StopsWalk}
use Rattle.telling_laws.specs.Telling.{Telling, Tells}
use Rattle.telling_laws.specs.Parts.{NextTells, PartTells, WalkTells, walk_telling}
use Rattle.telling_laws.proofs.Replies.{why_of, RefusesSo, look_some, look_none}
use Rattle.telling_laws.proofs.Steps.{reply_at, act_at, Allows, WalkedTo, decides_now, walks_now, walked_stays}
use Rattle.telling_laws.proofs.PartsTell.{TellsIn, part_tells, tells_in, waits_tell, tells_within, told_before}

-- what ends a walk
stops_no : (k : Key) (a : Answer) (r : TreeReply) → r ≡ Refused (why_of r) → a ≡ refusal_answer k (why_of r) → StopsWalk k r a
stops_no k a (Ok x) e h = absurd (let z : Ok x ≡ Refused (why_of (Ok x)) = e in cc)
stops_no k a (Refused why) e h = h

stops_file : (k : Key) (f : FileId) (r : TreeReply) → r ≡ Ok (shown.Node (File f)) → StopsWalk k r answers.NotDir
stops_file k f r e = rw e refl

module _ {O S : Type 0} (begins : O → DirId → S) (fits : Command → O → Type 0) {D : Deciding S Answer} {T : Telling S}
    (W : WalkTells begins fits D T) where
  -- a walk along these names from there, to which the command's walk led, and then the operation
  pub walk_on_tells : (h : List Event) (op : OpId) (c : Command) (d : DirId) (ns : List (List ℕ)) (o : O) → WalkedTo h op c d ns → fits c o
      → Tells (walk_deciding D) (walk_telling fits T) h op c (walk_on begins d ns o)
  walk_on_tells h op c d [] o w fit = told_before D T h op c (begins o d) (W.undecided o d) (W.before h op c o d w fit)
  walk_on_tells h op c d (n ∷ ns) o w fit = (w, fit)

  -- ---- a look on the way

  module _ (h : List Event) (op : OpId) (c : Command) (d : DirId) (n : List ℕ) (ns : List (List ℕ)) (o : O) (how : Heard)
      (w : WalkedTo h op c d (n ∷ ns)) (fit : fits c o) (run : Allows h (act_at h op (any.Name (names.Look (key_in d n))) how)) where
    -- the entry, the look, its reply, and the history then
    abbrev k : Key
    k = key_in d n

    abbrev q : AnyReq
    q = any.Name (names.Look k)

    abbrev x : AnyReply
    x = reply_at h q

    abbrev more : List Event
    more = h ++ act_at h op q how ∷ []

    stops : (a : Answer) → StopsWalk k (says x) a → T.because more op c a
    stops a s = W.point more op c a (decides_now h op c q x how (step.Look k) refl d (n ∷ ns) a w run (refl, s))

    walked_tells : (place : Place) (f : Option Node) → as_found x ≡ f
        → NextTells (walk_deciding D) (walk_telling fits T) more op c (walked begins place k ns o x f)
    walked_tells place None e =
        let no : RefusesSo place k x = look_none (stored_after opening_store h) place k e in
        stops (refusal place k x) (stops_no k (refusal place k x) (says x) no.0 no.1)
    walked_tells place (Some (Dir f)) e =
        walk_on_tells more op c f ns o (walks_now h op c q x how (step.Look k) refl d n ns f refl w
        (look_some (stored_after opening_store h) place k (Dir f) e)) fit
    walked_tells place (Some (File f)) e =
        stops answers.NotDir (stops_file k f (says x) (look_some (stored_after opening_store h) place k (File f) e))

  -- ---- all of it

  module _ {counts : Counts} {P : Part S Answer} (L : PartTells counts P D T) where
    walk_tells_in : (s : Walking O S) → TellsIn counts (walking begins P) (walk_deciding D) (walk_telling fits T) s
    walk_tells_in (Way d n ns o) = waits_tell (walking begins P) (walk_deciding D) (walk_telling fits T) (Way d n ns o) record {
      looks = λ m op. refl;
      undecided = refl;
      hears = λ h op c m how fresh before run.
          walked_tells h op c d n ns o how before.0 before.1 run (request_place counts (any.Name (names.Look (key_in d n)))) _ refl;
      stays = λ h e op c other before. (walked_stays h e op c d (n ∷ ns) other before.0, before.1);
      learns = λ h op c m x before. refl;
    }
    walk_tells_in (There s) = tells_within There record {
      decided = λ t. refl;
      before = λ h op c t b. b;
      because = λ h op c a b. b;
    } (tells_in L s)

    pub walk_tells : PartTells counts (walking begins P) (walk_deciding D) (walk_telling fits T)
    walk_tells = part_tells walk_tells_in L.lasts
