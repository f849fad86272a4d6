-- making: a file or a directory is made with the op's hold, and bound to its name by that hold
use Rattle.std.proofs.Common.{◌≡◌, ℕ, List, Bool, true, false, if◌then◌else◌, Option, Some, None, refl}
use Rattle.tect_ids.specs.declared.ids.DirId.{DirId}
use Rattle.tect_ids.specs.declared.ids.FileId.{FileId}
use Rattle.tect_ids.specs.declared.ids.Hold.{Hold}
use Rattle.tect_ids.specs.declared.ids.Node.{Node}
use Rattle.tect_ids.specs.declared.ids.Node.TheVariants.{Dir, File}
use Rattle.tect_ids.specs.declared.ids.OpId.{OpId}
use Rattle.tect_ids.specs.declared.ids.Place.{Place}
use Rattle.tect_ids.specs.declared.key.Key.{Key}
use Rattle.tect_ids.specs.declared.answer.Answer.{Answer}
use Rattle.tect_ids.specs.declared.answer.Answer.TheVariants.{Found}
use Rattle.tect_ids.specs.Keys.{op_eq}
use Rattle.tect_ids.specs.Numbers.{object_number, own_hold}
use Rattle.store_rules.specs.declared.names.Replaced.{Replaced}
use Rattle.store_rules.specs.declared.names.NameReq.TheVariants as names
use Rattle.store_rules.specs.declared.files.FileReq.TheVariants as files
use Rattle.store_rules.specs.declared.any.AnyReq.{AnyReq}
use Rattle.store_rules.specs.declared.any.AnyReq.TheVariants as any
use Rattle.store_rules.specs.declared.any.AnyReply.{AnyReply}
use Rattle.store_rules.specs.Names.{key_in}
use Rattle.store_rules.specs.Places.{request_place}
use Rattle.store_rules.specs.Store.{store_reply}
use Rattle.store_rules.specs.Views.{is_made, as_bound}
use Rattle.tect_calls.specs.Readings.{freed_old, bound_freed}
use Rattle.program_forms.specs.Memories.{Memory}
use Rattle.program_parts.specs.declared.next.Next.TheVariants.{Goes, Comes}
use Rattle.program_parts.specs.Refused.{refusal}
use Rattle.program_rules.specs.declared.states.NewNode.{NewNode}
use Rattle.program_rules.specs.declared.states.NewNode.TheVariants as new
use Rattle.program_rules.specs.declared.states.Make.{Make}
use Rattle.program_rules.specs.declared.states.Make.TheVariants.{New, Bind, Release}
use Rattle.program_rules.specs.Make.{make, make_decided, made, bound, over_of}
use Rattle.store_pasts.specs.Worlds.{World, next, settled}
use Rattle.store_pasts.specs.Later.{Touched, Later}
use Rattle.store_pasts.specs.Requests.{BoundTaught, touched_by}
use Rattle.program_laws.specs.Known.{Deciding, Known, IsApart, is_odd}
use Rattle.part_laws.specs.Parts.{PartLaws, NextKnows, next_decided}
use Rattle.part_laws.specs.Releases.{release_deciding, release_known}
use Rattle.part_laws.proofs.States.{LawsIn, WaitsAt, part_laws, waits, laws_in}
use Rattle.part_laws.proofs.Within.{IsWithin, laws_within}
use Rattle.part_laws.proofs.Own.{plain, making, file_own, dir_own, named_own, file_free, dir_free, file_number, dir_number, no_hold}
use Rattle.part_laws.proofs.Refused.{bind_not_odd}
use Rattle.part_laws.proofs.Releases.{release_laws, old_freed}
use Rattle.names_laws.specs.Known.{MakeKnows, MakeBindKnows}
use Rattle.names_laws.proofs.Holds.{way_stays, own_granted, of_op, of_op_test, own_stays, is_own, not_own}
use Rattle.names_laws.proofs.Ends.{gives_up, releases_then}

abbrev pub make_known : Known Make Answer
make_known = record { Knows = MakeKnows; Ends = λ w a. is_odd a ≡ false }

abbrev pub make_deciding : Deciding Make Answer
make_deciding = record { decided = make_decided }

make_releases : IsWithin Release release_deciding release_known make_deciding make_known
make_releases = record {
  decided = λ r. refl;
  knows = λ w op m r k. k;
  ends = λ w a e. e;
}

-- ---- it is made

module _ (v : World) (op : OpId) (m : Memory) (place : Place) (kind : NewNode) (k : Key) (n : Node) (x : AnyReply) where
  made_knows : (b : Bool) → b ≡ true → MakeBindKnows v op (own_hold op) n k
      → NextKnows make_known
      (settled op None (next_decided make_deciding (if b then Goes (Bind kind k n (own_hold op)) else Comes (refusal place k x))) v) op m
      (if b then Goes (Bind kind k n (own_hold op)) else Comes (refusal place k x))
  made_knows true e knows = knows
  made_knows false e knows = absurd (let f : false ≡ true = e in cc)

made_waits : (place : Place) (op : OpId) (kind : NewNode) (k : Key) (n : Node) (x : AnyReply) → is_made x ≡ true
    → next_decided make_deciding (made place op kind k n x) ≡ None
made_waits place op kind k n x e = rw e refl

file_waits : (d : DirId) (name : List ℕ) → WaitsAt make make_deciding make_known (New new.File d name)
file_waits d name = record {
  looks = λ c m op. refl;
  undecided = refl;
  meets = λ c w op m r a k.
      making w op m _ k.left (file_free w op m r a, (k.new).given (own_hold op) refl, k.made) (file_own op m (own_hold op) refl);
  stays = λ by w v op m l apart k. way_stays by w v op l apart m d k;
  goes_on = λ c w op m n r a k kept serial.
      let f : FileId = record { 0 = object_number op.actor m.serial } in
      let q : AnyReq = any.File (files.MakeFile f (own_hold op) (key_in d name) None) in
      let x : AnyReply = store_reply w.store q in
      made_knows (next w q) op n (request_place c q) new.File (key_in d name) (File f) x (is_made x)
      kept.taught.0
      record {
        hold = own_granted w (next w q) op (touched_by q) (File f) (key_in d name) (λ h ne. ne) kept.later k.new kept.taught.1;
        unnamed = kept.taught.2;
        mine = file_number op m.serial a.few;
      };
  learns = λ c w op m r a k kept. tt;
  spends = λ c w op m r a k x h g now own is live. absurd (no_hold w op k.new h g own is);
  grants = λ c w op m r a k kept h free touched granted.
      let f : FileId = record { 0 = object_number op.actor m.serial } in
      let q : AnyReq = any.File (files.MakeFile f (own_hold op) (key_in d name) None) in
      made_waits (request_place c q) op new.File (key_in d name) (File f) (store_reply w.store q) kept.taught.0;
}

dir_waits : (d : DirId) (name : List ℕ) → WaitsAt make make_deciding make_known (New new.Dir d name)
dir_waits d name = record {
  looks = λ c m op. refl;
  undecided = refl;
  meets = λ c w op m r a k.
      making w op m _ k.left (dir_free w op m r a, (k.new).given (own_hold op) refl, k.made, refl) (dir_own op m (own_hold op) refl);
  stays = λ by w v op m l apart k. way_stays by w v op l apart m d k;
  goes_on = λ c w op m n r a k kept serial.
      let f : DirId = record { 0 = object_number op.actor m.serial } in
      let q : AnyReq = any.Name (names.MakeDir f d (own_hold op) (key_in d name)) in
      let x : AnyReply = store_reply w.store q in
      made_knows (next w q) op n (request_place c q) new.Dir (key_in d name) (Dir f) x (is_made x)
      kept.taught.0
      record {
        hold = own_granted w (next w q) op (touched_by q) (Dir f) (key_in d name) (λ h ne. ne) kept.later k.new kept.taught.1;
        unnamed = kept.taught.2;
        mine = dir_number op m.serial a.few;
      };
  learns = λ c w op m r a k kept. tt;
  spends = λ c w op m r a k x h g now own is live. absurd (no_hold w op k.new h g own is);
  grants = λ c w op m r a k kept h free touched granted.
      let f : DirId = record { 0 = object_number op.actor m.serial } in
      let q : AnyReq = any.Name (names.MakeDir f d (own_hold op) (key_in d name)) in
      made_waits (request_place c q) op new.Dir (key_in d name) (Dir f) (store_reply w.store q) kept.taught.0;
}

-- ---- it is bound

-- where the bind is refused its hold is given up
bound_knows : (v : World) (op : OpId) (m : Memory) (place : Place) (k : Key) (n : Node) (h : Hold) (x : AnyReply)
    (o : Option (Option Replaced)) → op_eq h.op op ≡ true → (o ≡ None → is_odd (refusal place k x) ≡ false) → BoundTaught v h n k o
    → NextKnows make_known (settled op None (next_decided make_deciding (bound place k n h x (bound_freed o))) v) op m
    (bound place k n h x (bound_freed o))
bound_knows v op m place k n h x None own plain taught =
    gives_up Release make_releases v op m n h k (refusal place k x) own taught (plain refl)
bound_knows v op m place k n h x (Some old) own plain taught =
    releases_then Release make_releases v op m (freed_old old) (Found n) (old_freed v old taught) refl

bind_stays : (by : Touched) (w v : World) (op : OpId) → Later by w v → IsApart by op → (h : Hold) (n : Node) (k : Key)
    → MakeBindKnows w op h n k → MakeBindKnows v op h n k
bind_stays by w v op l apart h n k knows = record {
  hold = own_stays w op h n k knows.hold by v l apart;
  unnamed = l.unnamed n (apart.named n knows.mine) knows.unnamed;
  mine = knows.mine;
}

bind_waits : (kind : NewNode) (key : Key) (node : Node) (hold : Hold) → WaitsAt make make_deciding make_known (Bind kind key node hold)
bind_waits kind key node hold = record {
  looks = λ c m op. refl;
  undecided = refl;
  meets = λ c w op m r a k.
      plain w op m _ refl ((k.hold).granted, k.unnamed) (named_own op m node hold (of_op w op hold node key k.hold) k.mine);
  stays = λ by w v op m l apart k. bind_stays by w v op l apart hold node key k;
  goes_on = λ c w op m n r a k kept serial.
      let q : AnyReq = any.Name (names.Bind key node hold (over_of kind)) in
      bound_knows (next w q) op n (request_place c q) key node hold (store_reply w.store q) (as_bound (store_reply w.store q))
      (of_op_test w op hold node key k.hold) (bind_not_odd w.store (request_place c q) key key node hold (over_of kind)) kept.taught;
  learns = λ c w op m r a k kept. tt;
  spends = λ c w op m r a k x h g now own is live. is_own w op hold node key k.hold h g own is;
  grants = λ c w op m r a k kept h free touched granted. absurd (not_own w op hold node key k.hold h free touched);
}

-- ---- the laws

make_at : (s : Make) → LawsIn make make_deciding make_known s
make_at (New new.File d name) = waits (file_waits d name)
make_at (New new.Dir d name) = waits (dir_waits d name)
make_at (Bind kind key node hold) = waits (bind_waits kind key node hold)
make_at (Release r) = laws_within Release make_releases (laws_in release_laws r)

pub make_laws : PartLaws make make_deciding make_known
make_laws = part_laws make_at (λ by w v a l e. e)
