-- renaming: the look decides where it is refused or the names are equal, the grant where it is refused, and else the swap
use Rattle.std.proofs.Common.{◌≡◌, ℕ, Bool, true, false, if◌then◌else◌, List, [], ◌∷◌, ◌++◌, Option, Some, None, refl, arith}
use Rattle.tect_ids.specs.declared.ids.Counts.{Counts}
use Rattle.tect_ids.specs.declared.ids.DirId.{DirId}
use Rattle.tect_ids.specs.declared.ids.Hold.{Hold}
use Rattle.tect_ids.specs.declared.ids.Node.{Node}
use Rattle.tect_ids.specs.declared.ids.Node.TheVariants.{Dir, File}
use Rattle.tect_ids.specs.declared.ids.OpId.{OpId}
use Rattle.tect_ids.specs.declared.ids.Place.{Place}
use Rattle.tect_ids.specs.declared.key.Key.{Key}
use Rattle.tect_ids.specs.declared.command.Command.{Command}
use Rattle.tect_ids.specs.declared.answer.Answer.{Answer}
use Rattle.tect_ids.specs.declared.answer.Answer.TheVariants as answers
use Rattle.tect_ids.specs.Keys.{name_eq}
use Rattle.tect_ids.specs.Numbers.{own_hold}
use Rattle.tect_ids.proofs.KeyTests.{name_eq_cases}
use Rattle.store_rules.specs.declared.names.NameReq.TheVariants as names
use Rattle.store_rules.specs.declared.names.Replaced.{Replaced}
use Rattle.store_rules.specs.declared.any.AnyReq.{AnyReq}
use Rattle.store_rules.specs.declared.any.AnyReq.TheVariants as any
use Rattle.store_rules.specs.declared.any.AnyReply.{AnyReply}
use Rattle.store_rules.specs.Names.{key_in}
use Rattle.store_rules.specs.Places.{request_place}
use Rattle.store_rules.specs.Store.{opening_store}
use Rattle.store_rules.specs.Views.{as_found, is_granted, as_swapped}
use Rattle.tree_model.specs.declared.step.TreeStep.{TreeStep}
use Rattle.tree_model.specs.declared.step.TreeStep.TheVariants as step
use Rattle.tree_model.specs.declared.step.StepValue.TheVariants as shown
use Rattle.tree_model.specs.declared.step.TreeReply.{TreeReply}
use Rattle.tree_model.specs.declared.step.TreeReply.TheVariants.{Ok, Refused}
use Rattle.tect_calls.specs.Readings.{swapped_freed}
use Rattle.program_forms.specs.declared.heard.Heard.{Heard}
use Rattle.program_parts.specs.declared.next.Next.TheVariants.{Goes, Comes}
use Rattle.program_parts.specs.Refused.{refusal}
use Rattle.program_rules.specs.declared.states.Rename.{Rename}
use Rattle.program_rules.specs.declared.states.Rename.TheVariants.{Find, Grant, Swap, Release}
use Rattle.program_rules.specs.declared.operation.Operation.TheVariants as operation
use Rattle.program_rules.specs.NamePairs.{OldAndNew, pair_of}
use Rattle.program_rules.specs.Rename.{rename, grant_ask, to_grant, found_old, swapped}
use Rattle.part_laws.specs.Releases.{release_deciding}
use Rattle.world_runs.specs.declared.event.Event.{Event}
use Rattle.world_runs.specs.OwnRuns.{stored_after}
use Rattle.claim_words.specs.Commands.{content_in}
use Rattle.claim_words.specs.Opened.{opens_of}
use Rattle.claim_words.specs.TreeSteps.{Told, tree_step, where_refused, says, tree_steps}
use Rattle.claim_words.specs.Points.{of_op, Seen, done_answer, FindsSource, IsRefusal, Decides}
use Rattle.claim_words.specs.Because.{because}
use Rattle.telling_laws.specs.Telling.{Telling}
use Rattle.telling_laws.specs.Parts.{NextTells, PartTells, release_telling}
use Rattle.telling_laws.proofs.Steps.{reply_at, act_at, Allows, saw_then, saw_now}
use Rattle.telling_laws.proofs.Replies.{why_of, RefusesSo, look_some, look_none}
use Rattle.telling_laws.proofs.PartsTell.{TellsIn, IsWithin, part_tells, tells_in, waits_tell, tells_within}
use Rattle.names_laws.proofs.Rename.{rename_deciding}
use Rattle.names_told.specs.NamesTelling.{CameTo, SawSource, RenameBefore}
use Rattle.names_told.proofs.Replies.{done_yes, done_no, source_no, source_same, refusal_no, ok_done, swap_some, swap_none, grant_none}
use Rattle.names_told.proofs.Commands.{OfItsCommands}
use Rattle.files_told.proofs.Lasting.{because_lasts}
use Rattle.names_told.proofs.Causes.{releases_tell, still_came, decided_now}

module _ (counts : Counts) where
  abbrev pub rename_telling : Telling Rename
  rename_telling = record { Before = RenameBefore; because = because counts }

  rename_releases : IsWithin Release release_deciding (release_telling (because counts)) rename_deciding rename_telling
  rename_releases = record { decided = λ r. refl; before = λ h op c r b. b; because = λ h op c a b. b }

  -- after any event more
  still_saw : (h : List Event) (e : Event) (op : OpId) (c : Command) (d : DirId) (p : OldAndNew) (n : Node) → SawSource h op c d p n
      → SawSource (h ++ e ∷ []) op c d p n
  still_saw h e op c d p n saw = record {
    came = still_came h e op c d (operation.Rename p.from p.to) saw.came;
    seen = saw_then h e op c (step.Look (key_in d p.from)) (Ok (shown.Node n)) saw.seen;
  }

  -- ---- the node is found

  module _ (h : List Event) (op : OpId) (c : Command) (how : Heard) (place : Place) (d : DirId) (from to : List ℕ) where
    -- the old name, the look, and its reply
    abbrev k : Key
    k = key_in d from

    abbrev q : AnyReq
    q = any.Name (names.Look k)

    abbrev x : AnyReply
    x = reply_at h q

    -- the history with it
    abbrev more : List Event
    more = h ++ act_at h op q how ∷ []

    find_decides : (a : Answer) → CameTo h op c d (operation.Rename from to) → Allows h (act_at h op q how) → FindsSource k to (says x) a
        → because counts more op c a
    find_decides a came run f =
        decided_now counts h op c q how (step.Look k) refl d (operation.Rename from to) a came run (λ p r last other. rw (last, other) (refl, f))

    to_grant_tells : (n : Node) (same : Bool) → name_eq from to ≡ same → says x ≡ Ok (shown.Node n)
        → CameTo h op c d (operation.Rename from to) → Allows h (act_at h op q how)
        → NextTells rename_deciding rename_telling more op c (to_grant d n (pair_of from to same))
    to_grant_tells n true e said came run =
        let same : from ≡ to = grind (arith, name_eq_cases from to, e) in
        find_decides answers.Done came run (source_same k to n (says x) said same)
    to_grant_tells n false e said came run = record {
      came = still_came h (act_at h op q how) op c d (operation.Rename from to) came;
      seen = saw_now h op c q x how (step.Look k) refl (Ok (shown.Node n)) said;
    }

    found_tells : (o : Option Node) → as_found x ≡ o → CameTo h op c d (operation.Rename from to) → Allows h (act_at h op q how)
        → NextTells rename_deciding rename_telling more op c (found_old place d from to x o)
    found_tells None e came run =
        let no : RefusesSo place k x = look_none (stored_after opening_store h) place k e in
        find_decides (refusal place k x) came run (source_no k (refusal place k x) to (says x) no.0 no.1)
    found_tells (Some n) e came run =
        to_grant_tells n (name_eq from to) refl (look_some (stored_after opening_store h) place k n e) came run

  -- ---- the hold is granted

  -- a grant opens nothing
  grant_opens : (c : Option Command) (n : Node) (hold : Hold) (k : Key) (x : AnyReply) → [] ≡ opens_of c (grant_ask n hold k) x
  grant_opens c (Dir d) hold k x = refl
  grant_opens c (File f) hold k x = refl

  -- the step that a grant is where it is refused
  abbrev grant_step : Node → TreeStep
  grant_step (Dir d) = step.GrantDir d
  grant_step (File f) = step.GrantFile f

  refused_step : (s : TreeStep) (r : TreeReply) → r ≡ Refused (why_of r) → where_refused s r ≡ Some s
  refused_step s (Ok x) e = absurd (let z : Ok x ≡ Refused (why_of (Ok x)) = e in cc)
  refused_step s (Refused why) e = refl

  grant_is : (h : List Event) (n : Node) (hold : Hold) (k : Key)
      → says (reply_at h (grant_ask n hold k)) ≡ Refused (why_of (says (reply_at h (grant_ask n hold k))))
      → tree_step (content_in h) (grant_ask n hold k) (reply_at h (grant_ask n hold k)) ≡ Some (grant_step n)
  grant_is h (Dir d) hold k e = refused_step (step.GrantDir d) _ e
  grant_is h (File f) hold k e = refused_step (step.GrantFile f) _ e

  grant_decides : (own : List Told) (d : DirId) (p : OldAndNew) (n : Node) (r : TreeReply) (a : Answer)
      → Seen own (step.Look (key_in d p.from)) (Ok (shown.Node n)) → IsRefusal (key_in d p.from) r a
      → OfItsCommands (λ c. Decides c own d (grant_step n) r a) (operation.Rename p.from p.to)
  grant_decides own d p (Dir g) r a seen f = λ b e last other. rw last (seen, f)
  grant_decides own d p (File g) r a seen f = λ b e last other. rw last (seen, f)

  module _ (h : List Event) (op : OpId) (c : Command) (how : Heard) (place : Place) (d : DirId) (p : OldAndNew) (n : Node) where
    -- the request, and its reply
    abbrev grant : AnyReq
    grant = grant_ask n (own_hold op) (key_in d p.to)

    abbrev granting : AnyReply
    granting = reply_at h grant

    granted_tells : (b : Bool) → is_granted granting ≡ b → SawSource h op c d p n → Allows h (act_at h op grant how)
        → NextTells rename_deciding rename_telling (h ++ act_at h op grant how ∷ []) op c
        (if b then Goes (Swap d p n (own_hold op)) else Comes (refusal place (key_in d p.from) granting))
    granted_tells true e saw run = still_saw h (act_at h op grant how) op c d p n saw
    granted_tells false e saw run =
        let k : Key = key_in d p.from in
        let no : RefusesSo place k granting = grant_none (stored_after opening_store h) place n (own_hold op) (key_in d p.to) k e in
        decided_now counts h op c grant how (grant_step n) (grant_is h n (own_hold op) (key_in d p.to) no.0) d (operation.Rename p.from p.to)
        (refusal place k granting) saw.came run
        (grant_decides (of_op op (tree_steps h)) d p n (says granting) (refusal place k granting) saw.seen
        (refusal_no k (refusal place k granting) (says granting) no.0 no.1))

  -- ---- the names are swapped

  module _ (h : List Event) (op : OpId) (c : Command) (how : Heard) (place : Place) (d : DirId) (p : OldAndNew) (n : Node) (hold : Hold)
    where
      -- the request, and its reply
      abbrev swap : AnyReq
      swap = any.Name (names.Swap d p.from p.to n hold)

      abbrev swapping : AnyReply
      swapping = reply_at h swap

      swap_decides : (a : Answer) → SawSource h op c d p n → Allows h (act_at h op swap how)
          → a ≡ done_answer (key_in d p.from) answers.Done (says swapping) → because counts (h ++ act_at h op swap how ∷ []) op c a
      swap_decides a saw run e =
          decided_now counts h op c swap how (step.Swap d p.from p.to n) refl d (operation.Rename p.from p.to) a saw.came run
          (λ b r last other. rw (last, other) (saw.seen, refl, refl, refl, e))

      swapped_tells : (o : Option (Hold × Option Replaced)) → as_swapped swapping ≡ o → SawSource h op c d p n
          → Allows h (act_at h op swap how)
          → NextTells rename_deciding rename_telling (h ++ act_at h op swap how ∷ []) op c
          (swapped place d p n hold swapping (swapped_freed n o))
      swapped_tells None e saw run =
          let k : Key = key_in d p.from in
          let no : RefusesSo place k swapping = swap_none (stored_after opening_store h) place d p.from p.to n hold k e in
          swap_decides (refusal place k swapping) saw run (done_no k (refusal place k swapping) answers.Done (says swapping) no.0 no.1)
      swapped_tells (Some f) e saw run =
          swap_decides answers.Done saw run (done_yes (key_in d p.from) answers.Done (says swapping)
          (ok_done (says swapping) (swap_some (stored_after opening_store h) place d p.from p.to n hold f e)))

  -- ---- the laws

  rename_at : (s : Rename) → TellsIn counts rename rename_deciding rename_telling s
  rename_at (Find d from to) = waits_tell rename rename_deciding rename_telling (Find d from to) record {
    looks = λ m op. refl;
    undecided = refl;
    hears = λ h op c m how fresh came run.
        found_tells h op c how (request_place counts (any.Name (names.Look (key_in d from)))) d from to _ refl came run;
    stays = λ h e op c other came. still_came h e op c d (operation.Rename from to) came;
    learns = λ h op c m x before. refl;
  }
  rename_at (Grant d p n) = waits_tell rename rename_deciding rename_telling (Grant d p n) record {
    looks = λ m op. refl;
    undecided = refl;
    hears = λ h op c m how fresh saw run.
        granted_tells h op c how (request_place counts (grant_ask n (own_hold op) (key_in d p.to))) d p n _ refl saw run;
    stays = λ h e op c other saw. still_saw h e op c d p n saw;
    learns = λ h op c m x saw. grant_opens (Some c) n (own_hold op) (key_in d p.to) x;
  }
  rename_at (Swap d p n hold) = waits_tell rename rename_deciding rename_telling (Swap d p n hold) record {
    looks = λ m op. refl;
    undecided = refl;
    hears = λ h op c m how fresh saw run.
        swapped_tells h op c how (request_place counts (any.Name (names.Swap d p.from p.to n hold))) d p n hold _ refl saw run;
    stays = λ h e op c other saw. still_saw h e op c d p n saw;
    learns = λ h op c m x before. refl;
  }
  rename_at (Release r) = tells_within Release rename_releases (tells_in (releases_tell counts) r)

  pub rename_tells : PartTells counts rename rename_deciding rename_telling
  rename_tells = part_tells rename_at (because_lasts counts)
