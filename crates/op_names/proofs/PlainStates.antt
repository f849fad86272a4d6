-- No command comes to an answer that is a want of memory or of room.
use Rattle.std.specs.Prelude.{ℕ, Bool, true, false, if◌then◌else◌, is_some, Option, Some, None, List, [], ◌∷◌}
use Rattle.tect_ids.specs.declared.ids.Counts.{Counts}
use Rattle.tect_ids.specs.declared.ids.DirId.{DirId}
use Rattle.tect_ids.specs.declared.ids.Hold.{Hold}
use Rattle.tect_ids.specs.declared.ids.Node.{Node}
use Rattle.tect_ids.specs.declared.ids.Node.TheVariants as nodes
use Rattle.tect_ids.specs.declared.ids.OpId.{OpId}
use Rattle.tect_ids.specs.declared.ids.Place.{Place}
use Rattle.tect_ids.specs.declared.key.Key.{Key}
use Rattle.tect_ids.specs.declared.values.Listed.{Listed}
use Rattle.tect_ids.specs.declared.values.Refusal.TheVariants.{NoDir}
use Rattle.tect_ids.specs.declared.answer.Answer.{Answer}
use Rattle.tect_ids.specs.declared.command.Command.{Command}
use Rattle.tect_ids.specs.Keys.{name_eq}
use Rattle.tect_ids.specs.Numbers.{root, object_number}
use Rattle.store_rules.specs.declared.names.NameReply.TheVariants as names
use Rattle.store_rules.specs.declared.any.AnyReq.{AnyReq}
use Rattle.store_rules.specs.declared.any.AnyReply.{AnyReply}
use Rattle.store_rules.specs.declared.any.AnyReply.TheVariants as any
use Rattle.store_rules.specs.Names.{key_in}
use Rattle.store_rules.specs.Places.{request_place}
use Rattle.store_rules.specs.Views.{as_found, as_parent, as_listing, is_made, is_granted, is_sealed, as_bound, as_unbound, as_swapped}
use Rattle.tect_calls.specs.declared.tokens.Freed.{Freed}
use Rattle.tect_calls.specs.Readings.{bound_freed, unbound_freed, swapped_freed}
use Rattle.program_forms.specs.Lacks.{IsLack}
use Rattle.program_forms.specs.Memories.{Memory}
use Rattle.program_parts.specs.declared.next.Next.{Next}
use Rattle.program_parts.specs.declared.next.Next.TheVariants.{Goes, Comes}
use Rattle.program_parts.specs.declared.walking.Walking.TheVariants.{Way, There}
use Rattle.program_parts.specs.Parts.{within}
use Rattle.program_parts.specs.Refused.{dir_refusal}
use Rattle.program_parts.specs.Releases.{then_release}
use Rattle.program_parts.specs.Walks.{walk_on, walked, walk_asks}
use Rattle.program_rules.specs.declared.states.Look.{Look}
use Rattle.program_rules.specs.declared.states.Look.TheVariants as looking
use Rattle.program_rules.specs.declared.states.Make.{Make}
use Rattle.program_rules.specs.declared.states.Make.TheVariants as making
use Rattle.program_rules.specs.declared.states.Delete.{Delete}
use Rattle.program_rules.specs.declared.states.Delete.TheVariants as deleting
use Rattle.program_rules.specs.declared.states.Rename.{Rename}
use Rattle.program_rules.specs.declared.states.Rename.TheVariants as renaming
use Rattle.program_rules.specs.declared.states.Seal.{Seal}
use Rattle.program_rules.specs.declared.states.Seal.TheVariants as sealing
use Rattle.program_rules.specs.declared.operation.Operation.{Operation}
use Rattle.program_rules.specs.declared.operation.Operation.TheVariants as operation
use Rattle.program_rules.specs.declared.operation.OperationState.{OperationState}
use Rattle.program_rules.specs.declared.operation.OperationState.TheVariants as states
use Rattle.program_rules.specs.NamePairs.{OldAndNew, pair_of}
use Rattle.program_rules.specs.Look.{checked, looked, look_hears}
use Rattle.program_rules.specs.List.{listed}
use Rattle.program_rules.specs.Make.{bound, make_hears}
use Rattle.program_rules.specs.Delete.{unbound, delete_hears}
use Rattle.program_rules.specs.Rename.{to_grant, found_old, swapped, rename_hears}
use Rattle.program_rules.specs.Seal.{found, seal_refusal, sealed, seal_hears}
use Rattle.program_rules.specs.Operations.{begins_in, operations, operation_hears}
use Rattle.program_rules.specs.Served.{Program, Begun, Walks, Appends, LacksName, WantsFile, begun, started}
use Rattle.op_files.specs.Plain.{IsPlainNext, IsPlainOpen, IsPlainAppend, IsPlainBlocks, IsPlainRead}
use Rattle.op_files.proofs.PlainStates.{plain_refused, plain_file_refused}
use Rattle.op_files.proofs.PlainStates.{plain_open, plain_append, plain_append_start, plain_blocks, plain_read}
use Rattle.op_names.specs.Going.{went_on}
use Rattle.op_names.specs.Plain.{IsPlainMake, IsPlainDelete, IsPlainRename, IsPlainOperation, IsPlainWalking, IsPlainState}

-- ---- refusals

plain_dir_refused : (place : Place) (x : AnyReply) → ¬ IsLack (dir_refusal place x)
plain_dir_refused place (any.Name (names.Refused NoDir)) l = l
plain_dir_refused place _ l = l

-- ---- a part within another

plain_within : {S T : Type 0} (f : S → T) (P : S → Type 0) (Q : T → Type 0) → ((s : S) → P s → Q (f s)) → (n : Next S Answer)
    → IsPlainNext P n → IsPlainNext Q (within f n)
plain_within f P Q keeps (Goes s) plain = keeps s plain
plain_within f P Q keeps (Comes a) plain = plain

-- ---- operations

abbrev IsAny : {S : Type 0} → S → Type 0
IsAny s = Unit {0}

module _ (place : Place) (x : AnyReply) where
  plain_checked : (d : DirId) (b : Bool) → IsPlainNext IsAny (checked place d x b)
  plain_checked d true = λ l. l
  plain_checked d false = plain_dir_refused place x

  plain_looked : (k : Key) (o : Option Node) → IsPlainNext IsAny (looked place k x o)
  plain_looked k None = plain_refused place k x
  plain_looked k (Some n) = λ l. l

  plain_look : (s : Look) → IsPlainNext IsAny (look_hears place s x)
  plain_look (looking.Check d) = plain_checked d (is_some (as_parent x))
  plain_look (looking.Entry k) = plain_looked k (as_found x)

  plain_listed : (o : Option (List Listed)) → IsPlainNext IsAny (listed place x o)
  plain_listed None = plain_dir_refused place x
  plain_listed (Some items) = λ l. l

  made_released : (f : Option Freed) (a : Answer) → ¬ IsLack a → IsPlainNext IsPlainMake (within making.Release (then_release f a))
  made_released None a plain = plain
  made_released (Some f) a plain = plain

  plain_made : (b : Bool) (s : Make) (a : Answer) → IsPlainMake s → ¬ IsLack a
      → IsPlainNext IsPlainMake (if b then Goes s else Comes a)
  plain_made true s a goes comes = goes
  plain_made false s a goes comes = comes

  plain_bound : (k : Key) (n : Node) (h : Hold) (o : Option (Option Freed)) → IsPlainNext IsPlainMake (bound place k n h x o)
  plain_bound k n h None = plain_refused place k x
  plain_bound k n h (Some old) = made_released old _ (λ l. l)

  plain_make : (op : OpId) (number : ℕ) (s : Make) → IsPlainMake s → IsPlainNext IsPlainMake (make_hears place op number s x)
  plain_make op number (making.New kind d n) plain = plain_made (is_made x) _ _ tt (plain_refused place (key_in d n) x)
  plain_make op number (making.Bind kind k n h) plain = plain_bound k n h (bound_freed (as_bound x))
  plain_make op number (making.Release r) plain = made_released r.second r.answer plain

  deleted_released : (f : Option Freed) (a : Answer) → ¬ IsLack a → IsPlainNext IsPlainDelete (within deleting.Release (then_release f a))
  deleted_released None a plain = plain
  deleted_released (Some f) a plain = plain

  plain_unbound : (k : Key) (o : Option Freed) → IsPlainNext IsPlainDelete (unbound place k x o)
  plain_unbound k None = plain_refused place k x
  plain_unbound k (Some f) = λ l. l

  plain_delete : (s : Delete) → IsPlainDelete s → IsPlainNext IsPlainDelete (delete_hears place s x)
  plain_delete (deleting.Unbind k) plain = plain_unbound k (unbound_freed (as_unbound x))
  plain_delete (deleting.Release r) plain = deleted_released r.second r.answer plain

  renamed_released : (f : Option Freed) (a : Answer) → ¬ IsLack a → IsPlainNext IsPlainRename (within renaming.Release (then_release f a))
  renamed_released None a plain = plain
  renamed_released (Some f) a plain = plain

  plain_to_grant : (d : DirId) (n : Node) (p : Option OldAndNew) → IsPlainNext IsPlainRename (to_grant d n p)
  plain_to_grant d n None = λ l. l
  plain_to_grant d n (Some p) = tt

  plain_found : (d : DirId) (from to : List ℕ) (o : Option Node) → IsPlainNext IsPlainRename (found_old place d from to x o)
  plain_found d from to None = plain_refused place (key_in d from) x
  plain_found d from to (Some n) = plain_to_grant d n (pair_of from to (name_eq from to))

  plain_granted : (b : Bool) (s : Rename) (a : Answer) → IsPlainRename s → ¬ IsLack a
      → IsPlainNext IsPlainRename (if b then Goes s else Comes a)
  plain_granted true s a goes comes = goes
  plain_granted false s a goes comes = comes

  plain_swapped : (d : DirId) (p : OldAndNew) (n : Node) (h : Hold) (o : Option (Freed × Option Freed))
      → IsPlainNext IsPlainRename (swapped place d p n h x o)
  plain_swapped d p n h None = plain_refused place (key_in d p.from) x
  plain_swapped d p n h (Some f) = λ l. l

  plain_rename : (op : OpId) (s : Rename) → IsPlainRename s → IsPlainNext IsPlainRename (rename_hears place op s x)
  plain_rename op (renaming.Find d from to) plain = plain_found d from to (as_found x)
  plain_rename op (renaming.Grant d p n) plain = plain_granted (is_granted x) _ _ tt (plain_refused place (key_in d p.from) x)
  plain_rename op (renaming.Swap d p n h) plain = plain_swapped d p n h (swapped_freed n (as_swapped x))
  plain_rename op (renaming.Release r) plain = renamed_released r.second r.answer plain

  plain_seal_refused : (n : Node) → ¬ IsLack (seal_refusal place n x)
  plain_seal_refused (nodes.Dir d) = plain_dir_refused place x
  plain_seal_refused (nodes.File f) = plain_file_refused place f x

  plain_to_close : (k : Key) (o : Option Node) → IsPlainNext IsAny (found place k x o)
  plain_to_close k None = plain_refused place k x
  plain_to_close k (Some n) = tt

  plain_sealed : (n : Node) (b : Bool) → IsPlainNext IsAny (sealed place n x b)
  plain_sealed n true = λ l. l
  plain_sealed n false = plain_seal_refused n

  plain_seal : (s : Seal) → IsPlainNext IsAny (seal_hears place s x)
  plain_seal (sealing.Find k) = plain_to_close k (as_found x)
  plain_seal (sealing.Close n) = plain_sealed n (is_sealed x)

plain_operation : (c : Counts) (m : Memory) (op : OpId) (s : OperationState) (q : AnyReq) (x : AnyReply) → IsPlainOperation s
    → IsPlainNext IsPlainOperation (operation_hears c m op s q x)
plain_operation c m op (states.Look s) q x plain =
    plain_within states.Look IsAny IsPlainOperation (λ t p. tt) _ (plain_look (request_place c q) x s)
plain_operation c m op (states.List s) q x plain =
    plain_within states.List IsAny IsPlainOperation (λ t p. tt) _ (plain_listed (request_place c q) x (as_listing x))
plain_operation c m op (states.Make s) q x plain =
    plain_within states.Make IsPlainMake IsPlainOperation (λ t p. p) _
    (plain_make (request_place c q) x op (object_number op.actor m.serial) s plain)
plain_operation c m op (states.Delete s) q x plain =
    plain_within states.Delete IsPlainDelete IsPlainOperation (λ t p. p) _ (plain_delete (request_place c q) x s plain)
plain_operation c m op (states.Rename s) q x plain =
    plain_within states.Rename IsPlainRename IsPlainOperation (λ t p. p) _ (plain_rename (request_place c q) x op s plain)
plain_operation c m op (states.Open s) q x plain =
    plain_within states.Open IsPlainOpen IsPlainOperation (λ t p. tt) _ (plain_open (request_place c q) x op s)
plain_operation c m op (states.Append s) q x plain =
    plain_within states.Append IsPlainAppend IsPlainOperation (λ t p. p) _
    (plain_append (request_place c q) x op (object_number op.actor m.serial) s plain)
plain_operation c m op (states.Blocks s) q x plain =
    plain_within states.Blocks IsPlainBlocks IsPlainOperation (λ t p. tt) _ (plain_blocks (request_place c q) x s)
plain_operation c m op (states.Read s) q x plain =
    plain_within states.Read IsPlainRead IsPlainOperation (λ t p. tt) _ (plain_read (request_place c q) x s)
plain_operation c m op (states.Seal s) q x plain =
    plain_within states.Seal IsAny IsPlainOperation (λ t p. tt) _ (plain_seal (request_place c q) x s)

-- ---- walks

plain_begin : (o : Operation) (d : DirId) → IsPlainOperation (begins_in o d)
plain_begin (operation.Look n) d = tt
plain_begin operation.List d = tt
plain_begin (operation.Make kind n) d = tt
plain_begin (operation.Delete n) d = tt
plain_begin (operation.Rename from to) d = tt
plain_begin (operation.Open path n) d = tt
plain_begin (operation.Blocks n) d = tt
plain_begin (operation.Read n) d = tt
plain_begin (operation.Seal n) d = tt

plain_walk : (d : DirId) (ns : List (List ℕ)) (o : Operation) → IsPlainWalking (walk_on begins_in d ns o)
plain_walk d [] o = plain_begin o d
plain_walk d (n ∷ ns) o = tt

plain_walked : (place : Place) (k : Key) (ns : List (List ℕ)) (o : Operation) (x : AnyReply) (found : Option Node)
    → IsPlainNext IsPlainWalking (walked begins_in place k ns o x found)
plain_walked place k ns o x None = plain_refused place k x
plain_walked place k ns o x (Some (nodes.Dir d)) = plain_walk d ns o
plain_walked place k ns o x (Some (nodes.File f)) = λ l. l

-- at a reply, and at the begin
pub plain_after : (c : Counts) (m : Memory) (op : OpId) (p : Program) (x : AnyReply) → IsPlainState p → IsPlainState (went_on c m op p x)
plain_after c m op (Goes (Way d n ns o)) x plain =
    plain_walked (request_place c (walk_asks {O = Operation} operations c m op (Way d n ns o))) (key_in d n) ns o x (as_found x)
plain_after c m op (Goes (There s)) x plain =
    plain_within There IsPlainOperation IsPlainWalking (λ t p. p) _
    (plain_operation c m op s (walk_asks {O = Operation} operations c m op (There s)) x plain)
plain_after c m op (Comes a) x plain = plain

plain_started : (counts : Counts) (m : Memory) (b : Begun) → IsPlainState (started counts m b)
plain_started counts m (Walks p o) = plain_walk root p o
plain_started counts m (Appends p bytes) =
    plain_within There IsPlainOperation IsPlainWalking (λ t p. p) _
    (plain_within states.Append IsPlainAppend IsPlainOperation (λ t p. p) _ (plain_append_start counts m p bytes))
plain_started counts m LacksName = λ l. l
plain_started counts m WantsFile = λ l. l

pub plain_start : (counts : Counts) (m : Memory) (c : Command) → IsPlainState (started counts m (begun c))
plain_start counts m c = plain_started counts m (begun c)
