-- a walk, and then an operation that keeps the laws of parts, keep them
use Rattle.std.proofs.Common.{◌≡◌, ℕ, ◌≤◌, List, [], ◌∷◌, true, false, Option, Some, None, refl, arith}
use Rattle.tect_ids.specs.declared.ids.DirId.{DirId}
use Rattle.tect_ids.specs.declared.ids.Node.{Node}
use Rattle.tect_ids.specs.declared.ids.Node.TheVariants.{Dir, File}
use Rattle.tect_ids.specs.declared.ids.OpId.{OpId}
use Rattle.tect_ids.specs.declared.ids.Place.{Place}
use Rattle.tect_ids.specs.declared.key.Key.{Key}
use Rattle.tect_ids.specs.declared.answer.Answer.{Answer}
use Rattle.store_rules.specs.declared.names.NameReq.TheVariants as names
use Rattle.store_rules.specs.declared.any.AnyReq.{AnyReq}
use Rattle.store_rules.specs.declared.any.AnyReq.TheVariants as any
use Rattle.store_rules.specs.declared.any.AnyReply.{AnyReply}
use Rattle.store_rules.specs.Names.{key_in}
use Rattle.store_rules.specs.Places.{request_place}
use Rattle.store_rules.specs.Store.{Store, store_reply}
use Rattle.store_rules.specs.Views.{as_found, is_made}
use Rattle.program_forms.specs.Memories.{Memory, always}
use Rattle.program_parts.specs.declared.walking.Walking.{Walking}
use Rattle.program_parts.specs.declared.walking.Walking.TheVariants.{Way, There}
use Rattle.program_parts.specs.Parts.{Part}
use Rattle.program_parts.specs.Refused.{refusal}
use Rattle.program_parts.specs.Walks.{walk_on, walked, walking}
use Rattle.store_pasts.specs.Worlds.{World, next, settled}
use Rattle.store_pasts.specs.Requests.{touched_by, FoundTaught}
use Rattle.program_laws.specs.Known.{Deciding, Known, IsNewOp, is_odd}
use Rattle.part_laws.specs.Parts.{NextKnows, next_decided, PartLaws}
use Rattle.part_laws.specs.Walks.{OnItsWay, walk_known, walk_deciding, BeginsLaws}
use Rattle.part_laws.proofs.Own.{plain, nothing_own, new_stays, new_untouched, no_hold}
use Rattle.part_laws.proofs.Refused.{look_not_odd}
use Rattle.part_laws.proofs.States.{LawsIn, WaitsAt, waits, part_laws, laws_in}
use Rattle.part_laws.proofs.Within.{laws_within}

-- a look takes no serial
pub look_serial : (s : Store) (m : Memory) (k : Key)
    → (always m (any.Name (names.Look k)) (store_reply s (any.Name (names.Look k)))).serial ≡ m.serial
look_serial s m k = let none : is_made (store_reply s (any.Name (names.Look k))) ≡ false = grind arith in rw none refl

module _ {O S : Type 0} (begins : O → DirId → S) {P : Part S Answer} {D : Deciding S Answer} {N : Known S Answer}
    (l : PartLaws P D N) (b : BeginsLaws begins D N) where
  -- ---- on its way

  -- it walks on, or its operation begins
  pub on_knows : (v : World) (op : OpId) (m : Memory) (d : DirId) (ns : List (List ℕ)) (o : O) → OnItsWay v op m d
      → (walk_known N).Knows v op m (walk_on begins d ns o)
  on_knows v op m d [] o k = b.knows v op m o d k
  on_knows v op m d (n ∷ ns) o k = k

  on_undecided : (d : DirId) (ns : List (List ℕ)) (o : O) → (walk_deciding D).decided (walk_on begins d ns o) ≡ None
  on_undecided d [] o = b.undecided o d
  on_undecided d (n ∷ ns) o = refl

  -- at what was found
  module _ (v : World) (op : OpId) (m : Memory) (place : Place) (k : Key) (ns : List (List ℕ)) (o : O) (x : AnyReply) where
    walked_knows : (f : Option Node) → FoundTaught v f → IsNewOp v op → m.serial ≤ op.number
        → (f ≡ None → is_odd (refusal place k x) ≡ false)
        → NextKnows (walk_known N)
        (settled op None (next_decided (walk_deciding D) (walked begins place k ns o x f)) v) op m (walked begins place k ns o x f)
    walked_knows None t new left plain = plain refl
    walked_knows (Some (Dir d)) t new left plain =
        rw (on_undecided d ns o) (on_knows v op m d ns o record { made = t.0; new = new; left = left })
    walked_knows (Some (File f)) t new left plain = refl

  way_waits : (d : DirId) (n : List ℕ) (ns : List (List ℕ)) (o : O)
      → WaitsAt (walking begins P) (walk_deciding D) (walk_known N) (Way d n ns o)
  way_waits d n ns o = record {
    looks = λ c m op. refl;
    undecided = refl;
    meets = λ c w op m r a k. plain w op m _ refl tt (nothing_own op m);
    stays = λ by w v op m later apart k. record {
      made = later.made (Dir d) k.made;
      new = new_stays by w v op later apart k.new;
      left = k.left;
    };
    goes_on = λ c w op m m' r a k kept serial.
        let key : Key = key_in d n in
        let q : AnyReq = any.Name (names.Look key) in
        walked_knows (next w q) op m' (request_place c q) key ns o (store_reply w.store q) (as_found (store_reply w.store q))
        kept.taught (new_untouched (touched_by q) w (next w q) op kept.later (λ h own. refl) (λ h own. refl) (λ t own. refl) k.new)
        (rw (serial, look_serial w.store m key) k.left) (look_not_odd w.store (request_place c q) key key);
    learns = λ c w op m r a k kept. tt;
    spends = λ c w op m r a k x h g now own is live. absurd (no_hold w op k.new h g own is);
    grants = λ c w op m r a k kept h none t ok. absurd (let f : false ≡ true = t in cc);
  }

  -- ---- all of it

  walk_at : (s : Walking O S) → LawsIn (walking begins P) (walk_deciding D) (walk_known N) s
  walk_at (Way d n ns o) = waits (way_waits d n ns o)
  walk_at (There s) = laws_within There record { decided = λ s. refl; knows = λ w op m s k. k; ends = b.plain } (laws_in l s)

  pub walk_laws : PartLaws (walking begins P) (walk_deciding D) (walk_known N)
  walk_laws = part_laws walk_at (λ by w v r later e. e)
