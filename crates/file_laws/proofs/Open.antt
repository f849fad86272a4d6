-- opening: the file is found, and the op is written into it as its token
use Rattle.std.proofs.Common.{◌≡◌, ℕ, List, Bool, true, false, Option, Some, None, refl}
use Rattle.tect_ids.specs.declared.ids.FileId.{FileId}
use Rattle.tect_ids.specs.declared.ids.Node.{Node}
use Rattle.tect_ids.specs.declared.ids.Node.TheVariants as nodes
use Rattle.tect_ids.specs.declared.ids.OpId.{OpId}
use Rattle.tect_ids.specs.declared.ids.Place.{Place}
use Rattle.tect_ids.specs.declared.key.Key.{Key}
use Rattle.store_rules.specs.declared.names.NameReq.TheVariants as names
use Rattle.store_rules.specs.declared.files.FileReq.TheVariants as files
use Rattle.store_rules.specs.declared.any.AnyReq.{AnyReq}
use Rattle.store_rules.specs.declared.any.AnyReq.TheVariants as any
use Rattle.store_rules.specs.declared.any.AnyReply.{AnyReply}
use Rattle.store_rules.specs.Places.{request_place}
use Rattle.store_rules.specs.Store.{store_reply}
use Rattle.store_rules.specs.Views.{as_found, is_opened}
use Rattle.program_forms.specs.Memories.{Memory}
use Rattle.program_parts.specs.Refused.{refusal}
use Rattle.file_rules.specs.declared.states.Open.{Open}
use Rattle.file_rules.specs.declared.states.Open.TheVariants.{Find, Take}
use Rattle.file_rules.specs.Finds.{file_refusal, found_file}
use Rattle.file_rules.specs.Open.{opening, taken, open_learns}
use Rattle.store_pasts.specs.Worlds.{World, next, settled}
use Rattle.store_pasts.specs.Pasts.{was_made}
use Rattle.store_pasts.specs.Requests.{touched_by}
use Rattle.program_laws.specs.Known.{IsNewOp, AllLearnt, is_odd}
use Rattle.part_laws.specs.Parts.{PartLaws, NextKnows, next_decided}
use Rattle.part_laws.proofs.States.{LawsIn, WaitsAt, part_laws, waits}
use Rattle.part_laws.proofs.Own.{nothing_own, plain, no_hold, new_stays, new_untouched}
use Rattle.part_laws.proofs.Refused.{look_not_odd}
use Rattle.file_laws.specs.Known.{open_known, open_deciding}
use Rattle.file_laws.proofs.Finds.{token_not_odd}

-- ---- the file is found

found_knows : (v : World) (op : OpId) (m : Memory) (place : Place) (k : Key) (path : List (List ℕ)) (x : AnyReply) (o : Option Node)
    → IsNewOp v op → (o ≡ None → is_odd (refusal place k x) ≡ false)
    → NextKnows open_known (settled op None (next_decided open_deciding (found_file place k x (λ f. Take f path) o)) v) op m
    (found_file place k x (λ f. Take f path) o)
found_knows v op m place k path x None new plain = plain refl
found_knows v op m place k path x (Some (nodes.Dir d)) new plain = refl
found_knows v op m place k path x (Some (nodes.File f)) new plain = new

find_waits : (k : Key) (path : List (List ℕ)) → WaitsAt opening open_deciding open_known (Find k path)
find_waits k path = record {
  looks = λ c m op. refl;
  undecided = refl;
  meets = λ c w op m r a new. plain w op m _ refl tt (nothing_own op m);
  stays = λ by w v op m l apart new. new_stays by w v op l apart new;
  goes_on = λ c w op m n r a new kept serial.
      let q : AnyReq = any.Name (names.Look k) in
      let x : AnyReply = store_reply w.store q in
      found_knows (next w q) op n (request_place c q) k path x (as_found x)
      (new_untouched (touched_by q) w (next w q) op kept.later (λ h own. refl) (λ h own. refl) (λ t own. refl) new)
      (look_not_odd w.store (request_place c q) k k);
  learns = λ c w op m r a new kept. tt;
  spends = λ c w op m r a new x h g now own is live. absurd (no_hold w op new h g own is);
  grants = λ c w op m r a new kept h free touched granted. absurd (let f : false ≡ true = touched in cc);
}

-- ---- its token is taken

taken_knows : (v : World) (op : OpId) (m : Memory) (place : Place) (f : FileId) (x : AnyReply) (b : Bool)
    → (b ≡ false → is_odd (file_refusal place f x) ≡ false)
    → NextKnows open_known (settled op None (next_decided open_deciding (taken place op f x b)) v) op m (taken place op f x b)
taken_knows v op m place f x true plain = refl
taken_knows v op m place f x false plain = plain refl

-- what is kept of it: the file was made, and the token is the actor's own
taken_learns : (v : World) (op : OpId) (f : FileId) (path : List (List ℕ)) (x : AnyReply) (b : Bool) → is_opened x ≡ b
    → (is_opened x ≡ true → was_made v.ghost (nodes.File f) ≡ true) → AllLearnt v op.actor (open_learns op (Take f path) x)
taken_learns v op f path x true e made = rw e (record { made = made e; own = refl }, tt)
taken_learns v op f path x false e made = rw e tt

take_waits : (f : FileId) (path : List (List ℕ)) → WaitsAt opening open_deciding open_known (Take f path)
take_waits f path = record {
  looks = λ c m op. refl;
  undecided = refl;
  meets = λ c w op m r a new. plain w op m _ refl tt (nothing_own op m);
  stays = λ by w v op m l apart new. new_stays by w v op l apart new;
  goes_on = λ c w op m n r a new kept serial.
      let q : AnyReq = any.File (files.TakeToken f op) in
      let x : AnyReply = store_reply w.store q in
      taken_knows (next w q) op n (request_place c q) f x (is_opened x) (token_not_odd w.store (request_place c q) f f op);
  learns = λ c w op m r a new kept.
      let q : AnyReq = any.File (files.TakeToken f op) in
      let x : AnyReply = store_reply w.store q in
      taken_learns (next w q) op f path x (is_opened x) refl kept.taught;
  spends = λ c w op m r a new x h g now own is live. absurd (no_hold w op new h g own is);
  grants = λ c w op m r a new kept h free touched granted. absurd (let f : false ≡ true = touched in cc);
}

-- ---- the laws

open_at : (s : Open) → LawsIn opening open_deciding open_known s
open_at (Find k path) = waits (find_waits k path)
open_at (Take f path) = waits (take_waits f path)

pub open_laws : PartLaws opening open_deciding open_known
open_laws = part_laws open_at (λ by w v a l e. e)
