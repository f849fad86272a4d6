-- listing the blocks of a file: it is found, and then its blocks are listed
use Rattle.std.proofs.Common.{◌≡◌, List as Items, true, false, Option, Some, None, refl}
use Rattle.tect_ids.specs.declared.ids.FileId.{FileId}
use Rattle.tect_ids.specs.declared.ids.Node.{Node}
use Rattle.tect_ids.specs.declared.ids.Node.TheVariants as nodes
use Rattle.tect_ids.specs.declared.ids.OpId.{OpId}
use Rattle.tect_ids.specs.declared.ids.Place.{Place}
use Rattle.tect_ids.specs.declared.key.Key.{Key}
use Rattle.tect_ids.specs.declared.values.RowPart.{RowPart}
use Rattle.store_rules.specs.declared.names.NameReq.TheVariants as names
use Rattle.store_rules.specs.declared.files.FileReq.TheVariants as files
use Rattle.store_rules.specs.declared.any.AnyReq.{AnyReq}
use Rattle.store_rules.specs.declared.any.AnyReq.TheVariants as any
use Rattle.store_rules.specs.declared.any.AnyReply.{AnyReply}
use Rattle.store_rules.specs.Places.{request_place}
use Rattle.store_rules.specs.Store.{store_reply}
use Rattle.store_rules.specs.Views.{as_found, as_block_list}
use Rattle.program_forms.specs.Memories.{Memory}
use Rattle.program_parts.specs.Refused.{refusal}
use Rattle.file_rules.specs.declared.states.Blocks.{Blocks}
use Rattle.file_rules.specs.declared.states.Blocks.TheVariants.{Find, List as Listing}
use Rattle.file_rules.specs.Finds.{file_refusal, found_file}
use Rattle.file_rules.specs.Blocks.{blocks, listed}
use Rattle.store_pasts.specs.Worlds.{World, next, settled}
use Rattle.store_pasts.specs.Requests.{touched_by}
use Rattle.program_laws.specs.Known.{IsNewOp, is_odd}
use Rattle.part_laws.specs.Parts.{PartLaws, NextKnows, next_decided}
use Rattle.part_laws.proofs.States.{LawsIn, WaitsAt, part_laws, waits}
use Rattle.part_laws.proofs.Own.{nothing_own, plain, no_hold, new_stays, new_untouched}
use Rattle.part_laws.proofs.Refused.{look_not_odd}
use Rattle.file_laws.specs.Known.{blocks_known, blocks_deciding}
use Rattle.file_laws.proofs.Finds.{list_not_odd}

module _ (v : World) (op : OpId) (m : Memory) (place : Place) (x : AnyReply) where
  found_knows : (k : Key) (o : Option Node) → IsNewOp v op → (o ≡ None → is_odd (refusal place k x) ≡ false)
      → NextKnows blocks_known (settled op None (next_decided blocks_deciding (found_file place k x (λ f. Listing f) o)) v) op m
      (found_file place k x (λ f. Listing f) o)
  found_knows k None new plain = plain refl
  found_knows k (Some (nodes.Dir d)) new plain = refl
  found_knows k (Some (nodes.File f)) new plain = new

  listed_knows : (f : FileId) (o : Option (Items RowPart)) → (o ≡ None → is_odd (file_refusal place f x) ≡ false)
      → NextKnows blocks_known (settled op None (next_decided blocks_deciding (listed place f x o)) v) op m (listed place f x o)
  listed_knows f None plain = plain refl
  listed_knows f (Some parts) plain = refl

find_waits : (k : Key) → WaitsAt blocks blocks_deciding blocks_known (Find k)
find_waits k = record {
  looks = λ c m op. refl;
  undecided = refl;
  meets = λ c w op m r a new. plain w op m _ refl tt (nothing_own op m);
  stays = λ by w v op m l apart new. new_stays by w v op l apart new;
  goes_on = λ c w op m n r a new kept serial.
      let q : AnyReq = any.Name (names.Look k) in
      let x : AnyReply = store_reply w.store q in
      found_knows (next w q) op n (request_place c q) x k (as_found x)
      (new_untouched (touched_by q) w (next w q) op kept.later (λ h own. refl) (λ h own. refl) (λ t own. refl) new)
      (look_not_odd w.store (request_place c q) k k);
  learns = λ c w op m r a new kept. tt;
  spends = λ c w op m r a new x h g now own is live. absurd (no_hold w op new h g own is);
  grants = λ c w op m r a new kept h free touched granted. absurd (let f : false ≡ true = touched in cc);
}

list_waits : (f : FileId) → WaitsAt blocks blocks_deciding blocks_known (Listing f)
list_waits f = record {
  looks = λ c m op. refl;
  undecided = refl;
  meets = λ c w op m r a new. plain w op m _ refl tt (nothing_own op m);
  stays = λ by w v op m l apart new. new_stays by w v op l apart new;
  goes_on = λ c w op m n r a new kept serial.
      let q : AnyReq = any.File (files.ListBlocks f) in
      let x : AnyReply = store_reply w.store q in
      listed_knows (next w q) op n (request_place c q) x f (as_block_list x) (list_not_odd w.store (request_place c q) f f);
  learns = λ c w op m r a new kept. tt;
  spends = λ c w op m r a new x h g now own is live. absurd (no_hold w op new h g own is);
  grants = λ c w op m r a new kept h free touched granted. absurd (let f : false ≡ true = touched in cc);
}

-- ---- the laws

blocks_at : (s : Blocks) → LawsIn blocks blocks_deciding blocks_known s
blocks_at (Find k) = waits (find_waits k)
blocks_at (Listing f) = waits (list_waits f)

pub blocks_laws : PartLaws blocks blocks_deciding blocks_known
blocks_laws = part_laws blocks_at (λ by w v a l e. e)
