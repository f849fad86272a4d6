-- a look and a create, as the tree plays them
use Rattle.std.proofs.Common.{◌≡◌, ◌+◌, ℕ, Bool, true, false, is_some, if◌then◌else◌, Option, Some, None, List, refl, sym, ap}
use Rattle.std.proofs.Common.{subst, ◌∙◌, arith}
use Rattle.std.specs.Option.{option_map}
use Rattle.std.specs.FinMap.{get}
use Rattle.tect_ids.specs.declared.ids.DirId.{DirId}
use Rattle.tect_ids.specs.declared.ids.FileId.{FileId}
use Rattle.tect_ids.specs.declared.ids.Hold.{Hold}
use Rattle.tect_ids.specs.declared.ids.OpId.{OpId}
use Rattle.tect_ids.specs.declared.ids.Place.{Place}
use Rattle.tect_ids.specs.declared.ids.Node.{Node}
use Rattle.tect_ids.specs.declared.ids.Node.TheVariants as nodes
use Rattle.tect_ids.specs.declared.key.Key.{Key}
use Rattle.tect_ids.specs.declared.values.Over.{Over}
use Rattle.tect_ids.specs.declared.values.Over.TheVariants as over
use Rattle.tect_ids.specs.declared.values.Refusal.{Refusal}
use Rattle.tect_ids.specs.declared.answer.Answer.{Answer}
use Rattle.tect_ids.specs.declared.answer.Answer.TheVariants as answers
use Rattle.tect_ids.specs.Numbers.{object_number, own_hold}
use Rattle.tect_ids.specs.Refusals.{refusal_answer}
use Rattle.store_rules.specs.declared.names.Replaced.{Replaced}
use Rattle.store_rules.specs.declared.names.DirectoryEntry.{DirectoryEntry}
use Rattle.store_rules.specs.declared.names.NameReq.TheVariants as names
use Rattle.store_rules.specs.declared.files.FileReq.TheVariants as files
use Rattle.store_rules.specs.declared.any.AnyReq.{AnyReq}
use Rattle.store_rules.specs.declared.any.AnyReq.TheVariants as any
use Rattle.store_rules.specs.declared.any.AnyReply.{AnyReply}
use Rattle.store_rules.specs.Names.{key_in}
use Rattle.store_rules.specs.Places.{request_place}
use Rattle.store_rules.specs.Views.{is_made, as_found, as_bound}
use Rattle.store_rules.specs.Store.{Store, store_reply}
use Rattle.store_world.proofs.Rows.{role_laws}
use Rattle.tree_model.specs.declared.step.TreeStep.{TreeStep}
use Rattle.tree_model.specs.declared.step.TreeStep.TheVariants as step
use Rattle.tree_model.specs.declared.step.StepValue.TheVariants as shown
use Rattle.tree_model.specs.declared.step.TreeReply.{TreeReply}
use Rattle.tree_model.specs.declared.step.TreeReply.TheVariants.{Ok, Refused}
use Rattle.tree_model.specs.Tree.{Tree, tree_reply, tree_next}
use Rattle.tect_calls.specs.declared.tokens.Freed.{Freed}
use Rattle.tect_calls.specs.Readings.{freed_old, bound_freed}
use Rattle.program_parts.specs.declared.next.Next.{Next}
use Rattle.program_parts.specs.declared.next.Next.TheVariants as next
use Rattle.program_parts.specs.declared.walking.Walking.TheVariants.{There}
use Rattle.program_parts.specs.Parts.{within}
use Rattle.program_parts.specs.Refused.{refusal}
use Rattle.program_rules.specs.declared.states.Look.{Look}
use Rattle.program_rules.specs.declared.states.Look.TheVariants as looking
use Rattle.program_rules.specs.declared.states.NewNode.TheVariants as new
use Rattle.program_rules.specs.declared.states.Make.{Make}
use Rattle.program_rules.specs.declared.states.Make.TheVariants as making
use Rattle.program_rules.specs.declared.operation.OperationState.{OperationState}
use Rattle.program_rules.specs.declared.operation.OperationState.TheVariants as states
use Rattle.program_rules.specs.Look.{looked}
use Rattle.program_rules.specs.Make.{bound}
use Rattle.program_rules.specs.Served.{Program, programs}
use Rattle.world_runs.specs.Moments.{WorldState, after}
use Rattle.claim_words.specs.TreeSteps.{says}
use Rattle.claim_words.specs.Points.{done_answer}
use Rattle.telling_laws.specs.View.{shown_entry}
use Rattle.telling_laws.proofs.ValuesSeen.{get-map_values}
use Rattle.telling_laws.proofs.Replies.{why_of, RefusesSo, look_some, look_none}
use Rattle.session_runs.specs.Session.{Played, stepped, found_answer, releases}
use Rattle.session_runs.specs.Session as session
use Rattle.session_runs.proofs.Comes.{serial_after, StandsAt, Goes, kept_now, next_stands, step_said, step_goes, stands_as, end_goes, acted}
use Rattle.session_runs.proofs.Comes.{release_goes, then_goes}

-- a state of a look, and of a create
abbrev pub looks : Look → Program
looks s = next.Goes (There (states.Look s))

abbrev pub makes : Make → Program
makes s = next.Goes (There (states.Make s))

-- the same of where it goes on
abbrev pub look_next : Next Look Answer → Program
look_next n = within (λ (s : OperationState). There s) (within (λ (s : Look). states.Look s) n)

abbrev pub make_next : Next Make Answer → Program
make_next n = within (λ (s : OperationState). There s) (within (λ (s : Make). states.Make s) n)

-- a request that makes nothing takes no serial
none_taken : (s : Store) (own : ℕ) (q : AnyReq) → is_made (store_reply s q) ≡ false → serial_after own q (store_reply s q) ≡ own
none_taken s own q e = rw e refl

-- ---- a look

module _ (m : WorldState Program) (t : Tree) (op : OpId) (own : ℕ) (k : Key) (st : StandsAt m t op own (looks (looking.Entry k))) where
  abbrev look_request : AnyReq
  look_request = any.Name (names.Look k)

  abbrev look_reply : AnyReply
  look_reply = store_reply m.store look_request

  abbrev look_after : WorldState Program
  look_after = after programs m (acted op look_request look_reply)

  found_said : (r : TreeReply) (n : Node) → r ≡ Ok (shown.Node n) → answers.Found n ≡ found_answer k r
  found_said r n e = rw e refl

  refused_said : (r : TreeReply) (why : Refusal) → r ≡ Refused why → refusal_answer k why ≡ found_answer k r
  refused_said r why e = rw e refl

  look_said : says look_reply ≡ tree_reply t op (step.Look k)
  look_said = step_said m t op own (looks (looking.Entry k)) st look_request refl (λ h. refl) refl (step.Look k) refl

  unread : (r : TreeReply) → tree_next t op (step.Look k) r ≡ t
  unread (Ok value) = refl
  unread (Refused why) = refl

  ends : (place : Place) (o : Option Node) → as_found look_reply ≡ o
      → StandsAt look_after t op own (look_next (looked place k look_reply o))
      → Goes look_after t op (session.looked t op own k) 0
  ends place None e stands =
      let no : RefusesSo place k look_reply = look_none m.store place k e in
      end_goes _ t op own _ (session.looked t op own k) stands refl refl (no.1 ∙ refused_said _ _ (sym look_said ∙ no.0))
  ends place (Some y) e stands =
      end_goes _ t op own _ (session.looked t op own k) stands refl refl (found_said _ y (sym look_said ∙ look_some m.store place k y e))

  pub look_goes : Goes m t op (session.looked t op own k) 1
  look_goes =
      let stands : StandsAt look_after t op own (look_next (looked (request_place m.counts look_request) k look_reply
      (as_found look_reply))) =
      stands_as _ _ t op _ own _ _ (next_stands m t op own (looks (looking.Entry k)) st look_request refl (λ h. refl) refl)
      (unread (says look_reply))
      (none_taken m.store own look_request ((role_laws look_request).untold m.store refl tt)) refl in
      subst (λ (u : Tree). Goes look_after u op (session.looked t op own k) 0 → Goes m t op (session.looked t op own k) 1)
      (unread (says look_reply))
      (step_goes m t op own (looks (looking.Entry k)) st look_request refl (λ h. refl) refl (session.looked t op own k) 0)
      (ends (request_place m.counts look_request) (as_found look_reply) refl stands)

-- ---- a create

releases_refused : (now : Option Node) (why : Refusal) → releases now (Refused why) ≡ 1
releases_refused None why = refl
releases_refused (Some n) why = refl

releases_done : (now : Option Node) → releases now (Ok shown.Done) ≡ (if is_some now then 1 else 0)
releases_done None = refl
releases_done (Some n) = refl

seen_there : (o : Option DirectoryEntry) → is_some (option_map shown_entry o) ≡ is_some o
seen_there None = refl
seen_there (Some e) = refl

freed_there : (o : Option Replaced) → is_some (freed_old o) ≡ is_some o
freed_there None = refl
freed_there (Some e) = refl

done_said : (k : Key) (a : Answer) (r : TreeReply) → r ≡ Ok shown.Done → a ≡ done_answer k a r
done_said k a r e = rw e refl

not_said : (k : Key) (a : Answer) (r : TreeReply) (why : Refusal) → r ≡ Refused why → refusal_answer k why ≡ done_answer k a r
not_said k a r why e = rw e refl

-- what a bind is answered, against what it says to the tree; it gives up the hold of what stood at the name
module _ (s : Store) (k : Key) (n : Node) (h : Hold) where
  abbrev bind_reply : AnyReply
  bind_reply = store_reply s (any.Name (names.Bind k n h over.File))

  bind_some : (old : Option Replaced) → as_bound bind_reply ≡ Some old → says bind_reply ≡ Ok shown.Done
  bind_some old e = grind arith

  bind_none : (place : Place) → as_bound bind_reply ≡ None → RefusesSo place k bind_reply
  bind_none place e = (grind arith, grind arith)

  bind_replaces : (old : Option Replaced) → as_bound bind_reply ≡ Some old → is_some old ≡ is_some (get s.names.entries k)
  bind_replaces old e = grind arith

-- after the bind of a file
module _ (m : WorldState Program) (t : Tree) (op : OpId) (own : ℕ) (k : Key) (f : FileId)
    (st : StandsAt m t op own (makes (making.Bind new.File k (nodes.File f) (own_hold op)))) where
  -- the file as a node
  abbrev n : Node
  n = nodes.File f

  abbrev state : Program
  state = makes (making.Bind new.File k n (own_hold op))

  -- the tree's step
  abbrev bind : TreeStep
  bind = step.Bind k n over.File

  -- the request
  abbrev q : AnyReq
  q = any.Name (names.Bind k n (own_hold op) over.File)

  -- what the store replies
  abbrev y : AnyReply
  y = store_reply m.store q

  -- the moment after the bind
  abbrev mid : WorldState Program
  mid = after programs m (acted op q y)

  -- the tree after the bind
  abbrev u : Tree
  u = stepped t op bind

  -- what the tree plays
  abbrev p : Played
  p = session.bound t op own k f

  -- how many holds are released
  abbrev left : ℕ
  left = releases (get t.entries k) (tree_reply t op bind)

  bind_said : says y ≡ tree_reply t op bind
  bind_said = step_said m t op own state st q refl (λ h. refl) refl bind refl

  bind_tree : tree_next t op bind (says y) ≡ u
  bind_tree = ap (tree_next t op bind) bind_said

  -- whether a file was replaced
  there : (old : Option Replaced) → as_bound y ≡ Some old → is_some (freed_old old) ≡ is_some (get t.entries k)
  there old e =
      let seen : get t.entries k ≡ option_map shown_entry (get (m.store).names.entries k) = ap (λ (v : Tree). get v.entries k)
      (sym ((st.tracks).so.shown).shows) ∙ get-map_values shown_entry (m.store).names.entries k in
      freed_there old ∙ bind_replaces m.store k n (own_hold op) old e ∙ sym
      (ap is_some seen ∙ seen_there (get (m.store).names.entries k))

  bound_goes : (place : Place) (o : Option (Option Replaced)) → as_bound y ≡ o
      → StandsAt mid u op own (make_next (bound place k n (own_hold op) y (bound_freed o))) → Goes mid u op p left
  bound_goes place None e stands =
      let no : RefusesSo place k y = bind_none m.store k n (own_hold op) place e in
      let said : tree_reply t op bind ≡ Refused (why_of (says y)) = sym bind_said ∙ no.0 in
      let one : left ≡ 1 = ap (releases (get t.entries k)) said ∙ releases_refused (get t.entries k) (why_of (says y)) in
      subst (λ (i : ℕ). Goes mid u op p i) (sym one)
      (release_goes mid u op own (refusal place k y) p refl refl
      (no.1 ∙ not_said k (answers.Found n) (tree_reply t op bind) (why_of (says y)) said) record { node = n; hold = own_hold op } stands)
  bound_goes place (Some old) e stands =
      let said : tree_reply t op bind ≡ Ok shown.Done = sym bind_said ∙ bind_some m.store k n (own_hold op) old e in
      let count : left ≡ (if is_some (freed_old old) then 1 else 0) =
      ap (releases (get t.entries k)) said ∙ releases_done (get t.entries k) ∙ ap (λ (b : Bool). if b then 1 else 0) (sym (there old e)) in
      subst (λ (i : ℕ). Goes mid u op p i) (sym count)
      (then_goes mid u op own (answers.Found n) p refl refl (done_said k (answers.Found n) (tree_reply t op bind) said) (freed_old old)
      stands)

  bind_goes : Goes m t op p (left + 1)
  bind_goes =
      let stands : StandsAt mid u op own (make_next (bound (request_place m.counts q) k n (own_hold op) y (bound_freed (as_bound y)))) =
      stands_as mid _ u op _ own _ _ (next_stands m t op own state st q refl (λ h. refl) refl) bind_tree
      (none_taken m.store own q ((role_laws q).untold m.store refl tt)) refl in
      subst (λ (v : Tree). Goes mid v op p left → Goes m t op p (left + 1)) bind_tree
      (step_goes m t op own state st q refl (λ h. refl) refl p left)
      (bound_goes (request_place m.counts q) (as_bound y) refl stands)

module _ (m : WorldState Program) (t : Tree) (op : OpId) (own : ℕ) (d : DirId) (n : List ℕ)
    (st : StandsAt m t op own (makes (making.New new.File d n))) where
  -- the file that is made
  abbrev file : FileId
  file = record { 0 = object_number op.actor own }

  -- the request that makes it
  abbrev making_request : AnyReq
  making_request = any.File (files.MakeFile file (own_hold op) (key_in d n) None)

  -- what the store replies
  abbrev made_reply : AnyReply
  made_reply = store_reply m.store making_request

  -- the tree's step
  abbrev make : TreeStep
  make = step.MakeFile file None

  made_now : is_made made_reply ≡ true
  made_now = (kept_now m t op own (makes (making.New new.File d n)) st making_request refl (λ h. refl) refl).taught.0

  make_said : says made_reply ≡ tree_reply t op make
  make_said = step_said m t op own (makes (making.New new.File d n)) st making_request refl (λ h. refl) refl make refl

  make_tree : tree_next t op make (says made_reply) ≡ stepped t op make
  make_tree = ap (tree_next t op make) make_said

  pub create_goes : Goes m t op (session.created t op own (key_in d n) file) (session.created t op own (key_in d n) file).transactions
  create_goes =
      let k : Key = key_in d n in
      let mid : WorldState Program = after programs m (acted op making_request made_reply) in
      let v : Tree = stepped t op make in
      let p : Played = session.created t op own k file in
      let left : ℕ = releases (get v.entries k) (tree_reply v op (step.Bind k (nodes.File file) over.File)) in
      let stands : StandsAt mid v op (own + 1) (makes (making.Bind new.File k (nodes.File file) (own_hold op))) =
      stands_as mid _ v op _ (own + 1) _ _ (next_stands m t op own (makes (making.New new.File d n)) st making_request refl (λ h. refl) refl)
      make_tree
      (rw made_now refl) (rw made_now refl) in
      let all : Goes m t op p (left + 1 + 1) =
      subst (λ (w : Tree). Goes mid w op p (left + 1) → Goes m t op p (left + 1 + 1)) make_tree
      (step_goes m t op own (makes (making.New new.File d n)) st making_request refl (λ h. refl) refl p (left + 1))
      (bind_goes mid v op (own + 1) k file stands) in
      subst (λ (i : ℕ). Goes m t op p i) (omega arith) all
