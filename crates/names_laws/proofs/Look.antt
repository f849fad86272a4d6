-- looking, and listing: one request that only reads, and then the answer
use Rattle.std.proofs.Common.{◌≡◌, List as Items, [], Bool, true, false, is_some, Option, Some, None, refl, sym, ◌∙◌}
use Rattle.tect_ids.specs.declared.ids.Counts.{Counts}
use Rattle.tect_ids.specs.declared.ids.DirId.{DirId}
use Rattle.tect_ids.specs.declared.ids.Hold.{Hold}
use Rattle.tect_ids.specs.declared.ids.Node.{Node}
use Rattle.tect_ids.specs.declared.ids.OpId.{OpId}
use Rattle.tect_ids.specs.declared.ids.Place.{Place}
use Rattle.tect_ids.specs.declared.key.Key.{Key}
use Rattle.tect_ids.specs.declared.values.Listed.{Listed}
use Rattle.tect_ids.specs.declared.answer.Answer.{Answer}
use Rattle.store_rules.specs.declared.names.NameReq.TheVariants as names
use Rattle.store_rules.specs.declared.any.AnyReq.{AnyReq}
use Rattle.store_rules.specs.declared.any.AnyReq.TheVariants.{Name}
use Rattle.store_rules.specs.declared.any.AnyReply.{AnyReply}
use Rattle.store_rules.specs.Places.{request_place}
use Rattle.store_rules.specs.Store.{store_reply}
use Rattle.store_rules.specs.Views.{as_found, as_parent, as_listing}
use Rattle.program_forms.specs.Memories.{Memory}
use Rattle.program_parts.specs.declared.next.Next.TheVariants.{Goes}
use Rattle.program_parts.specs.Parts.{Part}
use Rattle.program_parts.specs.Refused.{refusal, dir_refusal}
use Rattle.program_rules.specs.declared.states.Look.{Look}
use Rattle.program_rules.specs.declared.states.Look.TheVariants.{Check, Entry}
use Rattle.program_rules.specs.declared.states.List.{List}
use Rattle.program_rules.specs.Look.{look, checked, looked}
use Rattle.program_rules.specs.List.{list, listed}
use Rattle.store_pasts.specs.Worlds.{World}
use Rattle.store_pasts.specs.Requests.{touched_by}
use Rattle.program_laws.specs.Known.{Deciding, Known, IsNewOp, Meets, is_odd}
use Rattle.part_laws.specs.Parts.{PartLaws, NextKnows}
use Rattle.part_laws.proofs.States.{WaitsAt, part_laws, waits}
use Rattle.part_laws.proofs.Own.{nothing_own, plain, no_hold, new_stays}
use Rattle.part_laws.proofs.Refused.{check_not_odd, look_not_odd, list_not_odd}

-- its op has no hold
abbrev pub reading_known : {S : Type 0} → Known S Answer
reading_known = record { Knows = λ w op m s. IsNewOp w op; Ends = λ w a. is_odd a ≡ false }

-- nothing is decided before the reply
abbrev pub reading_deciding : {S : Type 0} → Deciding S Answer
reading_deciding = record { decided = λ s. None }

-- a state where what is asked only reads, and the reply makes the answer, of which nothing is kept
pub record ReadsAt {S : Type 0} (P : Part S Answer) (s : S) : Type 0 where
  pub looks : (c : Counts) (m : Memory) (op : OpId) → P.turns c m op s ≡ record { memory = m; state = Goes s }
  pub meets : (c : Counts) (w : World) (op : OpId) (m : Memory) → Meets w op m (P.asks c m op s)
  pub touches : (c : Counts) (m : Memory) (op : OpId) (h : Hold) → (touched_by (P.asks c m op s)).hold h ≡ false
  pub answers : (c : Counts) (w v : World) (op : OpId) (m n : Memory)
      → NextKnows reading_known v op n (P.hears c m op s (P.asks c m op s) (store_reply w.store (P.asks c m op s)))
  pub keeps : (op : OpId) (q : AnyReq) (x : AnyReply) → P.learns op s q x ≡ []

reading_waits : {S : Type 0} (P : Part S Answer) (s : S) → ReadsAt P s → WaitsAt P reading_deciding reading_known s
reading_waits P s reads = record {
  looks = reads.looks;
  undecided = refl;
  meets = λ c w op m r a k. reads.meets c w op m;
  stays = λ by w v op m l apart k. new_stays by w v op l apart k;
  goes_on = λ c w op m n r a k kept serial. reads.answers c w _ op m n;
  learns = λ c w op m r a k kept. rw (reads.keeps op (P.asks c m op s) (store_reply w.store (P.asks c m op s))) tt;
  spends = λ c w op m r a k x h g now own is live. absurd (no_hold w op k h g own is);
  grants = λ c w op m r a k kept h free touched granted.
      absurd (let f : false ≡ true = sym (reads.touches c m op h) ∙ touched in cc);
}

reading_laws : {S : Type 0} (P : Part S Answer) → ((s : S) → ReadsAt P s) → PartLaws P reading_deciding reading_known
reading_laws P reads = part_laws (λ s. waits (reading_waits P s (reads s))) (λ by w v r l e. e)

-- ---- at the reply

module _ (w : World) (op : OpId) (m : Memory) (place : Place) (x : AnyReply) where
  checked_plain : (d : DirId) (b : Bool) → (b ≡ false → is_odd (dir_refusal place x) ≡ false)
      → NextKnows reading_known w op m (checked place d x b)
  checked_plain d true plain = refl
  checked_plain d false plain = plain refl

  looked_plain : (k : Key) (o : Option Node) → (o ≡ None → is_odd (refusal place k x) ≡ false)
      → NextKnows reading_known w op m (looked place k x o)
  looked_plain k None plain = plain refl
  looked_plain k (Some n) plain = refl

  listed_plain : (o : Option (Items Listed)) → (o ≡ None → is_odd (dir_refusal place x) ≡ false)
      → NextKnows reading_known w op m (listed place x o)
  listed_plain None plain = plain refl
  listed_plain (Some items) plain = refl

-- ---- the laws

look_reads : (s : Look) → ReadsAt look s
look_reads (Check d) = record {
  looks = λ c m op. refl;
  meets = λ c w op m. plain w op m _ refl tt (nothing_own op m);
  touches = λ c m op h. refl;
  answers = λ c w v op m n.
      let q : AnyReq = Name (names.CheckDir d) in
      let x : AnyReply = store_reply w.store q in
      checked_plain v op n (request_place c q) x d (is_some (as_parent x)) (check_not_odd w.store (request_place c q) d);
  keeps = λ op q x. refl;
}
look_reads (Entry k) = record {
  looks = λ c m op. refl;
  meets = λ c w op m. plain w op m _ refl tt (nothing_own op m);
  touches = λ c m op h. refl;
  answers = λ c w v op m n.
      let q : AnyReq = Name (names.Look k) in
      let x : AnyReply = store_reply w.store q in
      looked_plain v op n (request_place c q) x k (as_found x) (look_not_odd w.store (request_place c q) k k);
  keeps = λ op q x. refl;
}

pub look_laws : PartLaws look reading_deciding reading_known
look_laws = reading_laws look look_reads

list_reads : (s : List) → ReadsAt list s
list_reads s = record {
  looks = λ c m op. refl;
  meets = λ c w op m. plain w op m _ refl tt (nothing_own op m);
  touches = λ c m op h. refl;
  answers = λ c w v op m n.
      let q : AnyReq = Name (names.List s.dir) in
      let x : AnyReply = store_reply w.store q in
      listed_plain v op n (request_place c q) x (as_listing x) (list_not_odd w.store (request_place c q) s.dir);
  keeps = λ op q x. refl;
}

pub list_laws : PartLaws list reading_deciding reading_known
list_laws = reading_laws list list_reads
