-- sealing: what the name leads to is found, and then sealed; that needs no hold
use Rattle.std.proofs.Common.{◌≡◌, Bool, true, false, Option, Some, None, refl}
use Rattle.tect_ids.specs.declared.ids.Node.{Node}
use Rattle.tect_ids.specs.declared.ids.Node.TheVariants as nodes
use Rattle.tect_ids.specs.declared.ids.OpId.{OpId}
use Rattle.tect_ids.specs.declared.ids.Place.{Place}
use Rattle.tect_ids.specs.declared.key.Key.{Key}
use Rattle.tect_ids.specs.declared.answer.Answer.{Answer}
use Rattle.store_rules.specs.declared.names.NameReq.TheVariants as names
use Rattle.store_rules.specs.declared.files.FileReq.TheVariants as files
use Rattle.store_rules.specs.declared.any.AnyReq.{AnyReq}
use Rattle.store_rules.specs.declared.any.AnyReq.TheVariants as any
use Rattle.store_rules.specs.declared.any.AnyReply.{AnyReply}
use Rattle.store_rules.specs.Places.{request_place}
use Rattle.store_rules.specs.Store.{store_reply}
use Rattle.store_rules.specs.Views.{as_found, is_sealed}
use Rattle.program_forms.specs.Memories.{Memory}
use Rattle.program_parts.specs.Refused.{refusal}
use Rattle.program_rules.specs.declared.states.Seal.{Seal}
use Rattle.program_rules.specs.declared.states.Seal.TheVariants.{Find, Close}
use Rattle.program_rules.specs.Seal.{seal, seal_decided, found, seal_refusal, sealed}
use Rattle.store_pasts.specs.Worlds.{World, next, settled}
use Rattle.store_pasts.specs.Requests.{touched_by}
use Rattle.program_laws.specs.Known.{Deciding, Known, IsNewOp, is_odd}
use Rattle.part_laws.specs.Parts.{PartLaws, NextKnows, next_decided}
use Rattle.part_laws.proofs.States.{LawsIn, WaitsAt, part_laws, waits}
use Rattle.part_laws.proofs.Own.{nothing_own, plain, no_hold, new_stays, new_untouched}
use Rattle.part_laws.proofs.Refused.{look_not_odd, seal_not_odd as dir_not_odd}
use Rattle.file_laws.proofs.Finds.{seal_not_odd as file_not_odd}

-- its op has no hold
abbrev pub seal_known : Known Seal Answer
seal_known = record { Knows = λ w op m s. IsNewOp w op; Ends = λ w a. is_odd a ≡ false }

abbrev pub seal_deciding : Deciding Seal Answer
seal_deciding = record { decided = seal_decided }

-- ---- at the reply

module _ (v : World) (op : OpId) (m : Memory) (place : Place) (x : AnyReply) where
  found_knows : (k : Key) (o : Option Node) → IsNewOp v op → (o ≡ None → is_odd (refusal place k x) ≡ false)
      → NextKnows seal_known (settled op None (next_decided seal_deciding (found place k x o)) v) op m (found place k x o)
  found_knows k None new plain = plain refl
  found_knows k (Some n) new plain = new

  sealed_knows : (n : Node) (b : Bool) → (b ≡ false → is_odd (seal_refusal place n x) ≡ false)
      → NextKnows seal_known (settled op None (next_decided seal_deciding (sealed place n x b)) v) op m (sealed place n x b)
  sealed_knows n true plain = refl
  sealed_knows n false plain = plain refl

-- ---- the laws

find_waits : (k : Key) → WaitsAt seal seal_deciding seal_known (Find k)
find_waits k = record {
  looks = λ c m op. refl;
  undecided = refl;
  meets = λ c w op m r a new. plain w op m _ refl tt (nothing_own op m);
  stays = λ by w v op m l apart new. new_stays by w v op l apart new;
  goes_on = λ c w op m n r a new kept serial.
      let q : AnyReq = any.Name (names.Look k) in
      let x : AnyReply = store_reply w.store q in
      found_knows (next w q) op n (request_place c q) x k (as_found x)
      (new_untouched (touched_by q) w (next w q) op kept.later (λ h own. refl) (λ h own. refl) (λ t own. refl) new)
      (look_not_odd w.store (request_place c q) k k);
  learns = λ c w op m r a new kept. tt;
  spends = λ c w op m r a new x h g now own is live. absurd (no_hold w op new h g own is);
  grants = λ c w op m r a new kept h free touched granted. absurd (let f : false ≡ true = touched in cc);
}

close_waits : (n : Node) → WaitsAt seal seal_deciding seal_known (Close n)
close_waits (nodes.Dir d) = record {
  looks = λ c m op. refl;
  undecided = refl;
  meets = λ c w op m r a new. plain w op m _ refl tt (nothing_own op m);
  stays = λ by w v op m l apart new. new_stays by w v op l apart new;
  goes_on = λ c w op m n r a new kept serial.
      let q : AnyReq = any.Name (names.SealDir d) in
      let x : AnyReply = store_reply w.store q in
      sealed_knows (next w q) op n (request_place c q) x (nodes.Dir d) (is_sealed x) (dir_not_odd w.store (request_place c q) d);
  learns = λ c w op m r a new kept. tt;
  spends = λ c w op m r a new x h g now own is live. absurd (no_hold w op new h g own is);
  grants = λ c w op m r a new kept h free touched granted. absurd (let f : false ≡ true = touched in cc);
}
close_waits (nodes.File f) = record {
  looks = λ c m op. refl;
  undecided = refl;
  meets = λ c w op m r a new. plain w op m _ refl tt (nothing_own op m);
  stays = λ by w v op m l apart new. new_stays by w v op l apart new;
  goes_on = λ c w op m n r a new kept serial.
      let q : AnyReq = any.File (files.SealFile f) in
      let x : AnyReply = store_reply w.store q in
      sealed_knows (next w q) op n (request_place c q) x (nodes.File f) (is_sealed x) (file_not_odd w.store (request_place c q) f f);
  learns = λ c w op m r a new kept. tt;
  spends = λ c w op m r a new x h g now own is live. absurd (no_hold w op new h g own is);
  grants = λ c w op m r a new kept h free touched granted. absurd (let f : false ≡ true = touched in cc);
}

seal_at : (s : Seal) → LawsIn seal seal_deciding seal_known s
seal_at (Find k) = waits (find_waits k)
seal_at (Close n) = waits (close_waits n)

pub seal_laws : PartLaws seal seal_deciding seal_known
seal_laws = part_laws seal_at (λ by w v a l e. e)
