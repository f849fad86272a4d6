-- deleting: the name is taken away, and then the hold for it can be released
use Rattle.std.proofs.Common.{◌≡◌, false, true, Option, Some, None, refl}
use Rattle.tect_ids.specs.declared.ids.Hold.{Hold}
use Rattle.tect_ids.specs.declared.ids.Node.{Node}
use Rattle.tect_ids.specs.declared.ids.OpId.{OpId}
use Rattle.tect_ids.specs.declared.ids.Place.{Place}
use Rattle.tect_ids.specs.declared.key.Key.{Key}
use Rattle.tect_ids.specs.declared.values.Want.TheVariants.{AnyFile}
use Rattle.tect_ids.specs.declared.answer.Answer.{Answer}
use Rattle.tect_ids.specs.declared.answer.Answer.TheVariants.{Done}
use Rattle.store_rules.specs.declared.names.NameReq.TheVariants as names
use Rattle.store_rules.specs.declared.any.AnyReq.{AnyReq}
use Rattle.store_rules.specs.declared.any.AnyReq.TheVariants.{Name}
use Rattle.store_rules.specs.declared.any.AnyReply.{AnyReply}
use Rattle.store_rules.specs.Places.{request_place}
use Rattle.store_rules.specs.Store.{store_reply}
use Rattle.store_rules.specs.Views.{as_unbound}
use Rattle.tect_calls.specs.Readings.{unbound_freed}
use Rattle.program_forms.specs.Memories.{Memory}
use Rattle.program_parts.specs.Refused.{refusal}
use Rattle.program_rules.specs.declared.states.Delete.{Delete}
use Rattle.program_rules.specs.declared.states.Delete.TheVariants.{Unbind, Release}
use Rattle.program_rules.specs.Delete.{delete, delete_decided, unbound}
use Rattle.store_pasts.specs.Worlds.{World, next, settled}
use Rattle.store_pasts.specs.Requests.{UnboundTaught}
use Rattle.program_laws.specs.Known.{Deciding, Known, is_odd}
use Rattle.part_laws.specs.Parts.{PartLaws, NextKnows, next_decided}
use Rattle.part_laws.specs.Releases.{release_deciding, release_known}
use Rattle.part_laws.proofs.States.{LawsIn, WaitsAt, part_laws, waits, laws_in}
use Rattle.part_laws.proofs.Within.{IsWithin, laws_within}
use Rattle.part_laws.proofs.Own.{nothing_own, plain, no_hold, new_stays}
use Rattle.part_laws.proofs.Refused.{unbind_not_odd}
use Rattle.part_laws.proofs.Releases.{release_laws}
use Rattle.names_laws.specs.Known.{DeleteKnows}
use Rattle.names_laws.proofs.Ends.{releases_then}

abbrev pub delete_known : Known Delete Answer
delete_known = record { Knows = DeleteKnows; Ends = λ w a. is_odd a ≡ false }

abbrev pub delete_deciding : Deciding Delete Answer
delete_deciding = record { decided = delete_decided }

delete_releases : IsWithin Release release_deciding release_known delete_deciding delete_known
delete_releases = record {
  decided = λ r. refl;
  knows = λ w op m r k. k;
  ends = λ w a e. e;
}

unbound_knows : (v : World) (op : OpId) (m : Memory) (place : Place) (k : Key) (x : AnyReply) (o : Option (Node × Hold))
    → (o ≡ None → is_odd (refusal place k x) ≡ false) → UnboundTaught v o
    → NextKnows delete_known (settled op None (next_decided delete_deciding (unbound place k x (unbound_freed o))) v) op m
    (unbound place k x (unbound_freed o))
unbound_knows v op m place k x None plain taught = plain refl
unbound_knows v op m place k x (Some p) plain taught =
    releases_then Release delete_releases v op m (Some record { node = p.0; hold = p.1 }) Done taught refl

unbind_waits : (k : Key) → WaitsAt delete delete_deciding delete_known (Unbind k)
unbind_waits k = record {
  looks = λ c m op. refl;
  undecided = refl;
  meets = λ c w op m r a new. plain w op m _ refl tt (nothing_own op m);
  stays = λ by w v op m l apart new. new_stays by w v op l apart new;
  goes_on = λ c w op m n r a new kept serial.
      let q : AnyReq = Name (names.Unbind k AnyFile) in
      unbound_knows (next w q) op n (request_place c q) k (store_reply w.store q) (as_unbound (store_reply w.store q))
      (unbind_not_odd w.store (request_place c q) k k AnyFile) kept.taught;
  learns = λ c w op m r a k kept. tt;
  spends = λ c w op m r a new x h g now own is live. absurd (no_hold w op new h g own is);
  grants = λ c w op m r a new kept h free touched granted. absurd (let f : false ≡ true = touched in cc);
}

delete_at : (s : Delete) → LawsIn delete delete_deciding delete_known s
delete_at (Unbind k) = waits (unbind_waits k)
delete_at (Release r) = laws_within Release delete_releases (laws_in release_laws r)

pub delete_laws : PartLaws delete delete_deciding delete_known
delete_laws = part_laws delete_at (λ by w v a l e. e)
