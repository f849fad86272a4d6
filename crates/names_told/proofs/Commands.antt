-- which command an operation is of, and where a command walks
use Rattle.std.proofs.Common.{◌≡◌, ℕ, true, false, Some, None, List, [], ◌∷◌, refl, subst, inl, inr}
use Rattle.tect_ids.specs.declared.ids.Counts.{Counts}
use Rattle.tect_ids.specs.declared.ids.OpId.{OpId}
use Rattle.tect_ids.specs.declared.command.Command.{Command}
use Rattle.tect_ids.specs.declared.command.Command.TheVariants as commands
use Rattle.tect_ids.specs.declared.answer.Answer.TheVariants as answers
use Rattle.tect_ids.specs.Paths.{but_last, last_name}
use Rattle.program_rules.specs.declared.states.NewNode.TheVariants as new
use Rattle.program_rules.specs.declared.operation.Operation.{Operation}
use Rattle.program_rules.specs.declared.operation.Operation.TheVariants as operation
use Rattle.program_rules.specs.Served.{Begun, Walks, Appends, LacksName, WantsFile, begun, is_served}
use Rattle.world_runs.specs.declared.event.Event.{Event}
use Rattle.claim_words.specs.FilesBecause.{files_because}
use Rattle.claim_words.specs.Points.{way}
use Rattle.claim_words.specs.Points as points
use Rattle.names_told.specs.NamesTelling.{Fits}

-- so it is of each command of that operation
abbrev pub OfItsCommands : (Command → Type 0) → Operation → Type 0
OfItsCommands F (operation.Look None) = F (commands.Look [])
OfItsCommands F (operation.Look (Some n)) = (m : List ℕ) (ms : List (List ℕ)) → last_name (m ∷ ms) ≡ n → F (commands.Look (m ∷ ms))
OfItsCommands F operation.List = (p : List (List ℕ)) → F (commands.List p)
OfItsCommands F (operation.Make new.File n) = (p : List (List ℕ)) → last_name p ≡ n → F (commands.Create p)
OfItsCommands F (operation.Make new.Dir n) = (p : List (List ℕ)) → last_name p ≡ n → F (commands.Mkdir p)
OfItsCommands F (operation.Delete n) = (p : List (List ℕ)) → last_name p ≡ n → F (commands.Delete p)
OfItsCommands F (operation.Open p n) = last_name p ≡ n → F (commands.Open p)
OfItsCommands F (operation.Blocks n) = (p : List (List ℕ)) → last_name p ≡ n → F (commands.Blocks p)
OfItsCommands F (operation.Read n) = (p : List (List ℕ)) → last_name p ≡ n → F (commands.Read p)
OfItsCommands F (operation.Seal None) = F (commands.Seal [])
OfItsCommands F (operation.Seal (Some n)) = (m : List ℕ) (ms : List (List ℕ)) → last_name (m ∷ ms) ≡ n → F (commands.Seal (m ∷ ms))
OfItsCommands F (operation.Rename from to) = (p q : List (List ℕ)) → last_name p ≡ from → last_name q ≡ to → F (commands.Rename p q)

same_operation : (p q : List (List ℕ)) (o u : Operation) → Walks p o ≡ Walks q u → u ≡ o
same_operation p q o u e = cc

lacks_none : (p : List (List ℕ)) (o : Operation) → LacksName ≡ Walks p o → ⊥
lacks_none p o e = cc

wants_none : (p : List (List ℕ)) (o : Operation) → WantsFile ≡ Walks p o → ⊥
wants_none p o e = cc

appends_none : (q : List (List ℕ)) (bytes : List ℕ) (p : List (List ℕ)) (o : Operation) → Appends q bytes ≡ Walks p o → ⊥
appends_none q bytes p o e = cc

module _ (F : Command → Type 0) (o : Operation) (of : OfItsCommands F o) where
  -- where a command walks to that operation
  is_of : (p q : List (List ℕ)) (u : Operation) → Walks p u ≡ Walks q o → OfItsCommands F u
  is_of p q u e = subst (λ (v : Operation). OfItsCommands F v) (same_operation p q u o e) of

  pub of_command : (c : Command) → Fits c o → F c
  of_command (commands.Look []) fit = is_of _ _ _ fit
  of_command (commands.Look (n ∷ ns)) fit = is_of (but_last (n ∷ ns)) _ (operation.Look (Some (last_name (n ∷ ns)))) fit n ns refl
  of_command (commands.List p) fit = is_of p _ operation.List fit p
  of_command (commands.Create []) fit = absurd (lacks_none _ o fit)
  of_command (commands.Create (n ∷ ns)) fit =
      is_of (but_last (n ∷ ns)) _ (operation.Make new.File (last_name (n ∷ ns))) fit (n ∷ ns) refl
  of_command (commands.Mkdir []) fit = absurd (lacks_none _ o fit)
  of_command (commands.Mkdir (n ∷ ns)) fit =
      is_of (but_last (n ∷ ns)) _ (operation.Make new.Dir (last_name (n ∷ ns))) fit (n ∷ ns) refl
  of_command (commands.Delete []) fit = absurd (lacks_none _ o fit)
  of_command (commands.Delete (n ∷ ns)) fit =
      is_of (but_last (n ∷ ns)) _ (operation.Delete (last_name (n ∷ ns))) fit (n ∷ ns) refl
  of_command (commands.Rename p []) fit = absurd (lacks_none _ o fit)
  of_command (commands.Rename [] (t ∷ ts)) fit = absurd (lacks_none _ o fit)
  of_command (commands.Rename (n ∷ ns) (t ∷ ts)) fit =
      is_of (but_last (n ∷ ns)) _ (operation.Rename (last_name (n ∷ ns)) (last_name (t ∷ ts))) fit (n ∷ ns) (t ∷ ts) refl refl
  of_command (commands.Open []) fit = absurd (wants_none _ o fit)
  of_command (commands.Open (n ∷ ns)) fit =
      is_of (but_last (n ∷ ns)) _ (operation.Open (n ∷ ns) (last_name (n ∷ ns))) fit refl
  of_command (commands.Append p bytes) fit = absurd (appends_none p bytes _ o fit)
  of_command (commands.Blocks []) fit = absurd (wants_none _ o fit)
  of_command (commands.Blocks (n ∷ ns)) fit = is_of (but_last (n ∷ ns)) _ (operation.Blocks (last_name (n ∷ ns))) fit (n ∷ ns) refl
  of_command (commands.Read []) fit = absurd (wants_none _ o fit)
  of_command (commands.Read (n ∷ ns)) fit = is_of (but_last (n ∷ ns)) _ (operation.Read (last_name (n ∷ ns))) fit (n ∷ ns) refl
  of_command (commands.Seal []) fit = is_of _ _ _ fit
  of_command (commands.Seal (n ∷ ns)) fit = is_of (but_last (n ∷ ns)) _ (operation.Seal (Some (last_name (n ∷ ns)))) fit n ns refl
  of_command _ fit = absurd (lacks_none _ o fit)

-- a served command walks its way, or appends, or lacks a name that it needs, or wants the contents of the root
abbrev pub BeginsSo : Command → Begun → Type 0
BeginsSo c (Walks p o) = p ≡ way c
BeginsSo c (Appends p bytes) = c ≡ commands.Append p bytes
BeginsSo c LacksName = points.LacksName c
BeginsSo c WantsFile = (counts : Counts) (h : List Event) (op : OpId) → files_because counts h op c answers.IsDir

pub begins_so : (c : Command) → is_served c ≡ true → BeginsSo c (begun c)
begins_so (commands.Look p) s = refl
begins_so (commands.List p) s = refl
begins_so (commands.Create []) s = refl
begins_so (commands.Create (n ∷ ns)) s = refl
begins_so (commands.Mkdir []) s = refl
begins_so (commands.Mkdir (n ∷ ns)) s = refl
begins_so (commands.Delete []) s = refl
begins_so (commands.Delete (n ∷ ns)) s = refl
begins_so (commands.Rename p []) s = inr refl
begins_so (commands.Rename [] (t ∷ ts)) s = inl refl
begins_so (commands.Rename (n ∷ ns) (t ∷ ts)) s = refl
begins_so (commands.Open []) s = λ counts h op. (refl, refl)
begins_so (commands.Open (n ∷ ns)) s = refl
begins_so (commands.Append p bytes) s = refl
begins_so (commands.Blocks []) s = λ counts h op. (refl, refl)
begins_so (commands.Blocks (n ∷ ns)) s = refl
begins_so (commands.Read []) s = λ counts h op. inl (refl, refl)
begins_so (commands.Read (n ∷ ns)) s = refl
begins_so (commands.Seal p) s = refl
begins_so _ s = absurd (let k : false ≡ true = s in cc)
