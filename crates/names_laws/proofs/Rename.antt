-- renaming: a hold for the new name is granted to the node that was found, and by it the names are swapped
use Rattle.std.proofs.Common.{◌≡◌, ℕ, List, Bool, true, false, if◌then◌else◌, Option, Some, None, refl, arith}
use Rattle.tect_ids.specs.declared.ids.DirId.{DirId}
use Rattle.tect_ids.specs.declared.ids.Hold.{Hold}
use Rattle.tect_ids.specs.declared.ids.Node.{Node}
use Rattle.tect_ids.specs.declared.ids.Node.TheVariants.{Dir, File}
use Rattle.tect_ids.specs.declared.ids.OpId.{OpId}
use Rattle.tect_ids.specs.declared.ids.Place.{Place}
use Rattle.tect_ids.specs.declared.answer.Answer.{Answer}
use Rattle.tect_ids.specs.declared.answer.Answer.TheVariants.{Done}
use Rattle.tect_ids.specs.Keys.{op_eq, name_eq}
use Rattle.tect_ids.specs.Numbers.{own_hold}
use Rattle.tect_ids.proofs.KeyTests.{name_eq_cases}
use Rattle.store_rules.specs.declared.names.Replaced.{Replaced}
use Rattle.store_rules.specs.declared.names.NameReq.TheVariants as names
use Rattle.store_rules.specs.declared.files.FileReq.TheVariants as files
use Rattle.store_rules.specs.declared.any.AnyReq.{AnyReq}
use Rattle.store_rules.specs.declared.any.AnyReq.TheVariants as any
use Rattle.store_rules.specs.declared.any.AnyReply.{AnyReply}
use Rattle.store_rules.specs.Names.{key_in}
use Rattle.store_rules.specs.Places.{request_place}
use Rattle.store_rules.specs.Store.{store_reply}
use Rattle.store_rules.specs.Views.{as_found, is_granted, as_swapped}
use Rattle.tect_calls.specs.Readings.{freed_old, swapped_freed}
use Rattle.program_forms.specs.Memories.{Memory}
use Rattle.program_parts.specs.declared.next.Next.TheVariants.{Goes, Comes}
use Rattle.program_parts.specs.Refused.{refusal}
use Rattle.program_rules.specs.declared.states.Rename.{Rename}
use Rattle.program_rules.specs.declared.states.Rename.TheVariants.{Find, Grant, Swap, Release}
use Rattle.program_rules.specs.NamePairs.{OldAndNew, pair_of}
use Rattle.program_rules.specs.Rename.{rename, rename_decided, to_grant, found_old, granted, swapped}
use Rattle.store_pasts.specs.Worlds.{World, next, settled}
use Rattle.store_pasts.specs.Pasts.{was_made}
use Rattle.store_pasts.specs.Later.{Touched, Later}
use Rattle.store_pasts.specs.Requests.{FoundTaught, SwappedTaught, touched_by}
use Rattle.program_laws.specs.Known.{Deciding, Known, IsNewOp, IsApart, is_odd}
use Rattle.part_laws.specs.Parts.{PartLaws, NextKnows, next_decided}
use Rattle.part_laws.specs.Releases.{release_deciding, release_known}
use Rattle.part_laws.proofs.States.{LawsIn, WaitsAt, part_laws, waits, laws_in}
use Rattle.part_laws.proofs.Within.{IsWithin, laws_within}
use Rattle.part_laws.proofs.Own.{nothing_own, hold_own, bound_own, plain, no_hold, new_stays, new_untouched}
use Rattle.part_laws.proofs.Refused.{look_not_odd, dir_grant_not_odd, file_grant_not_odd, swap_not_odd}
use Rattle.part_laws.proofs.Releases.{release_laws, old_freed}
use Rattle.names_laws.specs.Known.{RenameKnows, RenameGrantKnows, RenameSwapKnows}
use Rattle.names_laws.proofs.Holds.{way_stays, own_granted, of_op, of_op_test, own_stays, is_own, not_own}
use Rattle.names_laws.proofs.Ends.{releases, gives_up}

abbrev pub rename_known : Known Rename Answer
rename_known = record { Knows = RenameKnows; Ends = λ w a. is_odd a ≡ false }

abbrev pub rename_deciding : Deciding Rename Answer
rename_deciding = record { decided = rename_decided }

rename_releases : IsWithin Release release_deciding release_known rename_deciding rename_known
rename_releases = record {
  decided = λ r. refl;
  knows = λ w op m r k. k;
  ends = λ w a e. e;
}

-- ---- the node is found

module _ (v : World) (op : OpId) (m : Memory) (place : Place) (d : DirId) where
  pair_knows : (from to : List ℕ) (n : Node) → was_made v.ghost (Dir d) ≡ true → IsNewOp v op → FoundTaught v (Some n)
      → (same : Bool) → name_eq from to ≡ same
      → NextKnows rename_known (settled op None (next_decided rename_deciding (to_grant d n (pair_of from to same))) v) op m
      (to_grant d n (pair_of from to same))
  pair_knows from to n made new taught true e = refl
  pair_knows from to n made new taught false e =
      record { made = made; new = new; other = grind (arith, name_eq_cases from to, e); named = taught.1 }

  found_knows : (from to : List ℕ) (x : AnyReply) (o : Option Node) → was_made v.ghost (Dir d) ≡ true → IsNewOp v op
      → (o ≡ None → is_odd (refusal place (key_in d from) x) ≡ false) → FoundTaught v o
      → NextKnows rename_known (settled op None (next_decided rename_deciding (found_old place d from to x o)) v) op m
      (found_old place d from to x o)
  found_knows from to x None made new plain taught = plain refl
  found_knows from to x (Some n) made new plain taught = pair_knows from to n made new taught (name_eq from to) refl

find_waits : (d : DirId) (from to : List ℕ) → WaitsAt rename rename_deciding rename_known (Find d from to)
find_waits d from to = record {
  looks = λ c m op. refl;
  undecided = refl;
  meets = λ c w op m r a k. plain w op m _ refl tt (nothing_own op m);
  stays = λ by w v op m l apart k. way_stays by w v op l apart m d k;
  goes_on = λ c w op m n r a k kept serial.
      let q : AnyReq = any.Name (names.Look (key_in d from)) in
      let x : AnyReply = store_reply w.store q in
      found_knows (next w q) op n (request_place c q) d from to x (as_found x) (kept.later.made (Dir d) k.made)
      (new_untouched (touched_by q) w (next w q) op kept.later (λ h own. refl) (λ h own. refl) (λ t own. refl) k.new)
      (look_not_odd w.store (request_place c q) (key_in d from) (key_in d from)) kept.taught;
  learns = λ c w op m r a k kept. tt;
  spends = λ c w op m r a k x h g now own is live. absurd (no_hold w op k.new h g own is);
  grants = λ c w op m r a k kept h free touched granted. absurd (let f : false ≡ true = touched in cc);
}

-- ---- the hold is granted

grant_stays : (by : Touched) (w v : World) (op : OpId) → Later by w v → IsApart by op → (d : DirId) (p : OldAndNew) (n : Node)
    → RenameGrantKnows w op d p n → RenameGrantKnows v op d p n
grant_stays by w v op l apart d p n k =
    record { made = l.made (Dir d) k.made; new = new_stays by w v op l apart k.new; other = k.other; named = l.named n k.named }

granted_knows : (v : World) (op : OpId) (m : Memory) (place : Place) (d : DirId) (p : OldAndNew) (n : Node) (x : AnyReply) (b : Bool)
    → (b ≡ false → is_odd (refusal place (key_in d p.from) x) ≡ false) → (b ≡ true → RenameSwapKnows v op d p n (own_hold op))
    → NextKnows rename_known
    (settled op None
    (next_decided rename_deciding (if b then Goes (Swap d p n (own_hold op)) else Comes (refusal place (key_in d p.from) x))) v) op m
    (if b then Goes (Swap d p n (own_hold op)) else Comes (refusal place (key_in d p.from) x))
granted_knows v op m place d p n x true plain knows = knows refl
granted_knows v op m place d p n x false plain knows = plain refl

granted_waits : (place : Place) (op : OpId) (d : DirId) (p : OldAndNew) (n : Node) (x : AnyReply) → is_granted x ≡ true
    → next_decided rename_deciding (granted place op d p n x) ≡ None
granted_waits place op d p n x e = rw e refl

grant_waits : (d : DirId) (p : OldAndNew) (node : Node) → WaitsAt rename rename_deciding rename_known (Grant d p node)
grant_waits d p (Dir g) = record {
  looks = λ c m op. refl;
  undecided = refl;
  meets = λ c w op m r a k.
      plain w op m _ refl ((k.new).given (own_hold op) refl, k.made, k.named) (hold_own op m (own_hold op) refl);
  stays = λ by w v op m l apart k. grant_stays by w v op l apart d p (Dir g) k;
  goes_on = λ c w op m n r a k kept serial.
      let q : AnyReq = any.Name (names.Grant g (own_hold op) (key_in d p.to)) in
      let x : AnyReply = store_reply w.store q in
      granted_knows (next w q) op n (request_place c q) d p (Dir g) x (is_granted x)
      (dir_grant_not_odd w.store (request_place c q) (key_in d p.from) g (own_hold op) (key_in d p.to))
      (λ e. record {
        hold = own_granted w (next w q) op (touched_by q) (Dir g) (key_in d p.to) (λ h ne. ne) kept.later k.new (kept.taught e);
        other = k.other;
      });
  learns = λ c w op m r a k kept. tt;
  spends = λ c w op m r a k x h g now own is live. absurd (no_hold w op k.new h g own is);
  grants = λ c w op m r a k kept h free touched ok.
      let q : AnyReq = any.Name (names.Grant g (own_hold op) (key_in d p.to)) in
      granted_waits (request_place c q) op d p (Dir g) (store_reply w.store q) ok;
}
grant_waits d p (File g) = record {
  looks = λ c m op. refl;
  undecided = refl;
  meets = λ c w op m r a k.
      plain w op m _ refl ((k.new).given (own_hold op) refl, k.made, k.named) (hold_own op m (own_hold op) refl);
  stays = λ by w v op m l apart k. grant_stays by w v op l apart d p (File g) k;
  goes_on = λ c w op m n r a k kept serial.
      let q : AnyReq = any.File (files.Grant g (own_hold op) (key_in d p.to)) in
      let x : AnyReply = store_reply w.store q in
      granted_knows (next w q) op n (request_place c q) d p (File g) x (is_granted x)
      (file_grant_not_odd w.store (request_place c q) (key_in d p.from) g (own_hold op) (key_in d p.to))
      (λ e. record {
        hold = own_granted w (next w q) op (touched_by q) (File g) (key_in d p.to) (λ h ne. ne) kept.later k.new (kept.taught e);
        other = k.other;
      });
  learns = λ c w op m r a k kept. tt;
  spends = λ c w op m r a k x h g now own is live. absurd (no_hold w op k.new h g own is);
  grants = λ c w op m r a k kept h free touched ok.
      let q : AnyReq = any.File (files.Grant g (own_hold op) (key_in d p.to)) in
      granted_waits (request_place c q) op d p (File g) (store_reply w.store q) ok;
}

-- ---- the names are swapped

-- where the swap is refused its hold is given up
swapped_knows : (v : World) (op : OpId) (m : Memory) (place : Place) (d : DirId) (p : OldAndNew) (n : Node) (h : Hold) (x : AnyReply)
    (o : Option (Hold × Option Replaced)) → op_eq h.op op ≡ true → (o ≡ None → is_odd (refusal place (key_in d p.from) x) ≡ false)
    → SwappedTaught v h n (key_in d p.to) o
    → NextKnows rename_known (settled op None (next_decided rename_deciding (swapped place d p n h x (swapped_freed n o))) v) op m
    (swapped place d p n h x (swapped_freed n o))
swapped_knows v op m place d p n h x None own plain taught =
    gives_up Release rename_releases v op m n h (key_in d p.to) (refusal place (key_in d p.from) x) own taught (plain refl)
swapped_knows v op m place d p n h x (Some was) own plain taught =
    releases Release rename_releases v op m record { first = record { node = n; hold = was.0 }; second = freed_old was.1; answer = Done }
    record { first = taught.0; second = old_freed v was.1 taught.1; plain = refl }

swap_stays : (by : Touched) (w v : World) (op : OpId) → Later by w v → IsApart by op → (d : DirId) (p : OldAndNew) (n : Node) (h : Hold)
    → RenameSwapKnows w op d p n h → RenameSwapKnows v op d p n h
swap_stays by w v op l apart d p n h k = record { hold = own_stays w op h n (key_in d p.to) k.hold by v l apart; other = k.other }

swap_waits : (d : DirId) (p : OldAndNew) (node : Node) (hold : Hold) → WaitsAt rename rename_deciding rename_known (Swap d p node hold)
swap_waits d p node hold = record {
  looks = λ c m op. refl;
  undecided = refl;
  meets = λ c w op m r a k.
      plain w op m _ refl ((k.hold).granted, k.other) (bound_own op m hold (of_op w op hold node (key_in d p.to) k.hold));
  stays = λ by w v op m l apart k. swap_stays by w v op l apart d p node hold k;
  goes_on = λ c w op m n r a k kept serial.
      let q : AnyReq = any.Name (names.Swap d p.from p.to node hold) in
      let x : AnyReply = store_reply w.store q in
      swapped_knows (next w q) op n (request_place c q) d p node hold x (as_swapped x) (of_op_test w op hold node (key_in d p.to) k.hold)
      (swap_not_odd w.store (request_place c q) (key_in d p.from) d p.from p.to node hold) kept.taught;
  learns = λ c w op m r a k kept. tt;
  spends = λ c w op m r a k x h g now own is live. is_own w op hold node (key_in d p.to) k.hold h g own is;
  grants = λ c w op m r a k kept h free touched granted. absurd (not_own w op hold node (key_in d p.to) k.hold h free touched);
}

-- ---- the laws

rename_at : (s : Rename) → LawsIn rename rename_deciding rename_known s
rename_at (Find d from to) = waits (find_waits d from to)
rename_at (Grant d p node) = waits (grant_waits d p node)
rename_at (Swap d p node hold) = waits (swap_waits d p node hold)
rename_at (Release r) = laws_within Release rename_releases (laws_in release_laws r)

pub rename_laws : PartLaws rename rename_deciding rename_known
rename_laws = part_laws rename_at (λ by w v a l e. e)
