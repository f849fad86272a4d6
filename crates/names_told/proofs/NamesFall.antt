-- each operation on names, and a seal, takes few transactions
use Rattle.std.proofs.Common.{◌≡◌, Some, None, List, refl, ◌+◌, ℕ, Bool}
use Rattle.std.proofs.Common.{true, false, is_some, if◌then◌else◌, Option, arith}
use Rattle.tect_ids.specs.declared.ids.DirId.{DirId}
use Rattle.tect_ids.specs.declared.ids.Hold.{Hold}
use Rattle.tect_ids.specs.declared.ids.Node.{Node}
use Rattle.tect_ids.specs.declared.ids.Place.{Place}
use Rattle.tect_ids.specs.declared.key.Key.{Key}
use Rattle.tect_ids.specs.declared.values.Listed.{Listed}
use Rattle.tect_ids.specs.declared.values.Want.TheVariants.{AnyFile}
use Rattle.tect_ids.specs.declared.answer.Answer.{Answer}
use Rattle.tect_ids.specs.Keys.{name_eq}
use Rattle.tect_ids.specs.Numbers.{object_number, own_hold}
use Rattle.tect_ids.specs.declared.ids.Node.TheVariants as nodes
use Rattle.store_rules.specs.declared.any.AnyReq.{AnyReq}
use Rattle.store_rules.specs.declared.any.AnyReq.TheVariants.{Name}
use Rattle.store_rules.specs.declared.any.AnyReply.{AnyReply}
use Rattle.store_rules.specs.Names.{key_in}
use Rattle.store_rules.specs.Places.{request_place}
use Rattle.store_rules.specs.Views.{as_parent, as_found, as_listing, as_bound, as_unbound, as_swapped, is_made, is_granted, is_sealed}
use Rattle.store_rules.specs.declared.names.NameReq.TheVariants as names
use Rattle.tect_calls.specs.declared.tokens.Freed.{Freed}
use Rattle.tect_calls.specs.Readings.{bound_freed, swapped_freed, unbound_freed}
use Rattle.program_parts.specs.Refused.{refusal}
use Rattle.program_rules.specs.declared.states.NewNode.{NewNode}
use Rattle.program_rules.specs.declared.states.Look.{Look}
use Rattle.program_rules.specs.declared.states.List.{List as Listing}
use Rattle.program_rules.specs.declared.states.Make.{Make}
use Rattle.program_rules.specs.declared.states.Delete.{Delete}
use Rattle.program_rules.specs.declared.states.Rename.{Rename}
use Rattle.program_rules.specs.declared.states.Seal.{Seal}
use Rattle.program_rules.specs.declared.states.Seal.TheVariants as sealing
use Rattle.program_rules.specs.Seal.{seal, seal_ask, found, sealed}
use Rattle.program_rules.specs.NamePairs.{OldAndNew, pair_of}
use Rattle.program_rules.specs.Look.{look, checked, looked}
use Rattle.program_rules.specs.List.{list, listed}
use Rattle.program_rules.specs.Make.{make, new_ask, node_of, over_of, bound}
use Rattle.program_rules.specs.Delete.{delete, unbound}
use Rattle.program_rules.specs.Rename.{rename, grant_ask, to_grant, found_old, swapped}
use Rattle.program_rules.specs.declared.states.NewNode.TheVariants as new
use Rattle.program_rules.specs.declared.states.Look.TheVariants as looking
use Rattle.program_rules.specs.declared.states.Make.TheVariants as making
use Rattle.program_rules.specs.declared.states.Delete.TheVariants as deleting
use Rattle.program_rules.specs.declared.states.Rename.TheVariants as renaming
use Rattle.program_parts.specs.declared.next.Next.TheVariants.{Goes, Comes}
use Rattle.fall_laws.specs.Counting.{is_look}
use Rattle.fall_laws.specs.Bounding.{Many, AtMost, none}
use Rattle.fall_laws.specs.Parts.{Takes, next_left, never_grows}
use Rattle.fall_laws.proofs.PartsFall.{FallsIn, falls_in, waits_fall}
use Rattle.fall_laws.proofs.PartsFall.{falls_within, release_falls}
use Rattle.names_told.specs.NamesTelling.{others, look_left, list_left, make_left, delete_left, rename_left, seal_left}

-- ---- beside what is asked

-- after a look
by_look : (q : AnyReq) (after : Many) (n : ℕ) → is_look q ≡ true → AtMost after (others n) → Takes q after record { looks = 1; others = n }
by_look q after n is l = record { looks = rw is (omega (arith, l.looks)); others = rw is (omega (arith, l.others)) }

-- after another transaction
by_other : (q : AnyReq) (after : Many) (n : ℕ) → is_look q ≡ false → AtMost after (others n) → Takes q after (others (1 + n))
by_other q after n is l = record { looks = rw is (omega (arith, l.looks)); others = rw is (omega (arith, l.others)) }

pub nothing : (n : ℕ) → AtMost none (others n)
nothing n = record { looks = omega arith; others = omega arith }

-- ---- what is left after each reply

module _ (place : Place) where
  checked_leaves : (d : DirId) (x : AnyReply) (b : Bool) → AtMost (next_left look_left (checked place d x b)) (others 0)
  checked_leaves d x true = nothing 0
  checked_leaves d x false = nothing 0

  looked_leaves : (k : Key) (x : AnyReply) (o : Option Node) → AtMost (next_left look_left (looked place k x o)) (others 0)
  looked_leaves k x None = nothing 0
  looked_leaves k x (Some n) = nothing 0

  listed_leaves : (x : AnyReply) (o : Option (List Listed)) → AtMost (next_left list_left (listed place x o)) (others 0)
  listed_leaves x None = nothing 0
  listed_leaves x (Some items) = nothing 0

  bound_leaves : (k : Key) (n : Node) (h : Hold) (x : AnyReply) (o : Option (Option Freed))
      → AtMost (next_left make_left (bound place k n h x o)) (others 1)
  bound_leaves k n h x None = record { looks = omega arith; others = omega arith }
  bound_leaves k n h x (Some None) = nothing 1
  bound_leaves k n h x (Some (Some f)) = record { looks = omega arith; others = omega arith }

  unbound_leaves : (k : Key) (x : AnyReply) (o : Option Freed) → AtMost (next_left delete_left (unbound place k x o)) (others 1)
  unbound_leaves k x None = nothing 1
  unbound_leaves k x (Some f) = record { looks = omega arith; others = omega arith }

  found_leaves : (d : DirId) (from to : List ℕ) (x : AnyReply) (o : Option Node)
      → AtMost (next_left rename_left (found_old place d from to x o)) (others 4)
  found_leaves d from to x None = nothing 4
  found_leaves d from to x (Some n) = to_grant_leaves d n (pair_of from to (name_eq from to))
    where
      to_grant_leaves : (d : DirId) (n : Node) (o : Option OldAndNew) → AtMost (next_left rename_left (to_grant d n o)) (others 4)
      to_grant_leaves d n None = nothing 4
      to_grant_leaves d n (Some p) = record { looks = omega arith; others = omega arith }

  swapped_leaves : (d : DirId) (p : OldAndNew) (n : Node) (h : Hold) (x : AnyReply) (o : Option (Freed × Option Freed))
      → AtMost (next_left rename_left (swapped place d p n h x o)) (others 2)
  swapped_leaves d p n h x None = record { looks = omega arith; others = omega arith }
  swapped_leaves d p n h x (Some (f, None)) = record { looks = omega arith; others = omega arith }
  swapped_leaves d p n h x (Some (f, Some g)) = record { looks = omega arith; others = omega arith }

  to_close_leaves : (k : Key) (x : AnyReply) (o : Option Node) → AtMost (next_left seal_left (found place k x o)) (others 1)
  to_close_leaves k x None = nothing 1
  to_close_leaves k x (Some n) = record { looks = omega arith; others = omega arith }

  sealed_leaves : (n : Node) (x : AnyReply) (b : Bool) → AtMost (next_left seal_left (sealed place n x b)) (others 0)
  sealed_leaves n x true = nothing 0
  sealed_leaves n x false = nothing 0

-- it goes on where it was made or granted, and else it has come to an end
goes_on_if : {S : Type 0} (left : S → Many) (s : S) (a : Answer) (n : ℕ) → AtMost (left s) (others n) → (b : Bool)
    → AtMost (next_left left (if b then Goes s else Comes a)) (others n)
goes_on_if left s a n l true = l
goes_on_if left s a n l false = nothing n

-- what is made, granted or sealed is no look
new_no_look : (kind : NewNode) (number : ℕ) (h : Hold) (d : DirId) (n : List ℕ) → is_look (new_ask kind number h d n) ≡ false
new_no_look new.File number h d n = refl
new_no_look new.Dir number h d n = refl

grant_no_look : (n : Node) (h : Hold) (k : Key) → is_look (grant_ask n h k) ≡ false
grant_no_look (nodes.Dir d) h k = refl
grant_no_look (nodes.File f) h k = refl

seal_no_look : (n : Node) → is_look (seal_ask n) ≡ false
seal_no_look (nodes.Dir d) = refl
seal_no_look (nodes.File f) = refl

-- ---- each operation

pub look_at : (s : Look) → FallsIn look (never_grows look_left) s
look_at (looking.Check d) = waits_fall look look_left (looking.Check d) record {
  looks = λ c m op. refl;
  hears = λ c m op x. by_look _ _ 0 refl (checked_leaves (request_place c (Name (names.CheckDir d))) d x (is_some (as_parent x)));
}
look_at (looking.Entry k) = waits_fall look look_left (looking.Entry k) record {
  looks = λ c m op. refl;
  hears = λ c m op x. by_look _ _ 0 refl (looked_leaves (request_place c (Name (names.Look k))) k x (as_found x));
}

pub list_at : (s : Listing) → FallsIn list (never_grows list_left) s
list_at s = waits_fall list list_left s record {
  looks = λ c m op. refl;
  hears = λ c m op x. by_other _ _ 0 refl (listed_leaves (request_place c (Name (names.List s.dir))) x (as_listing x));
}

pub make_at : (s : Make) → FallsIn make (never_grows make_left) s
make_at (making.New kind d n) = waits_fall make make_left (making.New kind d n) record {
  looks = λ c m op. refl;
  hears = λ c m op x.
      let number : ℕ = object_number op.actor m.serial in
      by_other _ _ 2 (new_no_look kind number (own_hold op) d n)
      (goes_on_if make_left (making.Bind kind (key_in d n) (node_of kind number) (own_hold op))
      (refusal (request_place c (new_ask kind number (own_hold op) d n)) (key_in d n) x) 2
      record { looks = omega arith; others = omega arith } (is_made x));
}
make_at (making.Bind kind k n h) = waits_fall make make_left (making.Bind kind k n h) record {
  looks = λ c m op. refl;
  hears = λ c m op x.
      by_other _ _ 1 refl (bound_leaves (request_place c (Name (names.Bind k n h (over_of kind)))) k n h x (bound_freed (as_bound x)));
}
make_at (making.Release r) = falls_within making.Release record { left = λ s. refl; grows = λ c q x. refl } (falls_in release_falls r)

pub delete_at : (s : Delete) → FallsIn delete (never_grows delete_left) s
delete_at (deleting.Unbind k) = waits_fall delete delete_left (deleting.Unbind k) record {
  looks = λ c m op. refl;
  hears = λ c m op x.
      by_other _ _ 1 refl (unbound_leaves (request_place c (Name (names.Unbind k AnyFile))) k x (unbound_freed (as_unbound x)));
}
delete_at (deleting.Release r) = falls_within deleting.Release record { left = λ s. refl; grows = λ c q x. refl } (falls_in release_falls r)

pub rename_at : (s : Rename) → FallsIn rename (never_grows rename_left) s
rename_at (renaming.Find d from to) = waits_fall rename rename_left (renaming.Find d from to) record {
  looks = λ c m op. refl;
  hears = λ c m op x.
      by_look _ _ 4 refl (found_leaves (request_place c (Name (names.Look (key_in d from)))) d from to x (as_found x));
}
rename_at (renaming.Grant d p n) = waits_fall rename rename_left (renaming.Grant d p n) record {
  looks = λ c m op. refl;
  hears = λ c m op x.
      by_other _ _ 3 (grant_no_look n (own_hold op) (key_in d p.to))
      (goes_on_if rename_left (renaming.Swap d p n (own_hold op))
      (refusal (request_place c (grant_ask n (own_hold op) (key_in d p.to))) (key_in d p.from) x) 3
      record { looks = omega arith; others = omega arith } (is_granted x));
}
rename_at (renaming.Swap d p n h) = waits_fall rename rename_left (renaming.Swap d p n h) record {
  looks = λ c m op. refl;
  hears = λ c m op x.
      by_other _ _ 2 refl
      (swapped_leaves (request_place c (Name (names.Swap d p.from p.to n h))) d p n h x (swapped_freed n (as_swapped x)));
}
rename_at (renaming.Release r) = falls_within renaming.Release record { left = λ s. refl; grows = λ c q x. refl } (falls_in release_falls r)

pub seal_at : (s : Seal) → FallsIn seal (never_grows seal_left) s
seal_at (sealing.Find k) = waits_fall seal seal_left (sealing.Find k) record {
  looks = λ c m op. refl;
  hears = λ c m op x. by_look _ _ 1 refl (to_close_leaves (request_place c (Name (names.Look k))) k x (as_found x));
}
seal_at (sealing.Close n) = waits_fall seal seal_left (sealing.Close n) record {
  looks = λ c m op. refl;
  hears = λ c m op x. by_other _ _ 0 (seal_no_look n) (sealed_leaves (request_place c (seal_ask n)) n x (is_sealed x));
}
