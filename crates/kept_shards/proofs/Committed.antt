-- a transaction at a kept machine is one of the whole store
use Rattle.std.proofs.Common.{◌≡◌, ℕ, ◌<◌, ◌&&◌, Bool, true, false, Some, List, [], ◌∷◌, ◌++◌, map, length, get_or, set, sym, ap}
use Rattle.std.proofs.Common.{◌∙◌, subst, Result, Ok, Err, IfOk, arith}
use Rattle.std.specs.Prelude.{OnErr, slice_get, nat_lt, option_map}
use Rattle.std.proofs.lemmas.Bool.Decides.{nat_tests}
use Rattle.std.proofs.lemmas.List.{set-get_or, map-set}
use Rattle.std.proofs.Math.ListN.{length-map}
use Rattle.std.proofs.lemmas.Option.{slice_get-map, get_or_from_slice_get}
use Rattle.tect_ids.specs.declared.ids.Counts.{Counts}
use Rattle.tect_ids.specs.declared.ids.Place.{Place}
use Rattle.tect_ids.specs.Places.{layer_at}
use Rattle.store_rules.specs.declared.any.AnyReq.{AnyReq}
use Rattle.store_rules.specs.declared.any.AnyReply.{AnyReply}
use Rattle.store_rules.specs.Alone.{request_layer}
use Rattle.store_rules.specs.Places.{request_place}
use Rattle.store_rules.specs.Store.{Store, store_step}
use Rattle.store_shards.proofs.Asked.{asked_layer}
use Rattle.store_shards.specs.Rows.{together, AreShards}
use Rattle.store_shards.proofs.Rows.{row_index, row_reply, row_done, row_stays}
use Rattle.entry_words.specs.declared.entry.Entry.{Entry}
use Rattle.entry_words.specs.declared.entry.Label.{Label}
use Rattle.entry_words.specs.declared.entry.Moment.TheVariants.{Act}
use Rattle.entry_words.specs.Labels.{label_at}
use Rattle.program_forms.specs.declared.heard.Heard.TheVariants.{Whole}
use Rattle.passes.specs.declared.pass.Pass.{Pass}
use Rattle.passes.specs.Commits.{entry_of}
use Rattle.place_kit.specs.declared.any.AnyKept.{AnyKept}
use Rattle.place_kit.specs.Committing.{AnyCommitted}
use Rattle.place_kit.specs.Kept.{label_of, history_of, machine_of, clock_of}
use Rattle.place_kit.specs.Replay.{stamps_rise}
use Rattle.place_kit.specs.Started.{AreStarted}
use Rattle.place_kit.proofs.AllKinds.{kept_rising}
use Rattle.all_shards.proofs.AtPlaces.{got_within}
use Rattle.all_shards.proofs.Lent.{read_map}
use Rattle.kept_shards.specs.KeptStore.{KeptStore, IsDone, entries_at, clock_after, clock_at, committed, entry_here}
use Rattle.kept_shards.proofs.Started.{started_set}

-- the clock of a kept machine is the stamp of its last entry
clock_is : (low high : ℕ) (es : List Entry) → stamps_rise low high es ≡ true → high ≡ clock_after low es
clock_is low high [] e = grind (arith, nat_tests)
clock_is low high (x ∷ es) e = clock_is x.stamp high es (second (nat_lt low x.stamp) (stamps_rise x.stamp high es) e)
  where
    second : (a b : Bool) → (a && b) ≡ true → b ≡ true
    second true b e = e
    second false b e = cc

-- the kept machines as one store
abbrev pub store_of : Counts → List AnyKept → KeptStore
store_of c ks = record { counts = c; store = together (map machine_of ks); entries = map history_of ks }

-- the machine that was set is the one that was read
set_same : {X : Type 0} (xs : List X) (i : ℕ) (k x : X) → k ≡ get_or xs i k → x ≡ k → set xs i x ≡ xs
set_same xs i k x read same = ap (set xs i) (same ∙ read) ∙ set-get_or xs i k

-- the machine at a request's place, among all
module _ (c : Counts) (all : List AnyKept) (is : AreShards c (map machine_of all)) (started : AreStarted c all) (p : Place) (q : AnyReq)
    (at : p ≡ request_place c q) where
  pub within : p.0 < length all
  within =
      let lt : (request_place c q).0 < length (map machine_of all) = row_index c (map machine_of all) is q in
      subst (λ (o : Place). o.0 < length all) (sym at) (omega (arith, lt, length-map all machine_of))

  module _ (k : AnyKept) (read : k ≡ get_or all p.0 k) where
    found : slice_get all p.0 ≡ Some k
    found = got_within all p.0 k within ∙ ap Some (sym read)

    pub label_is : label_of k ≡ label_at c p.0
    label_is = started.labels p.0 k found

    pub layer_is : (label_of k).layer ≡ request_layer q
    layer_is = ap (λ (l : Label). l.layer) label_is ∙ ap (λ (o : Place). layer_at c o.0) at ∙ asked_layer c q is.places

    own_entries : entries_at (store_of c all) p.0 ≡ history_of k
    own_entries = get_or_from_slice_get (map history_of all) p.0 (history_of k) []
        (slice_get-map history_of all p.0 ∙ ap (option_map history_of) found)

    clocks : clock_of k ≡ clock_at (store_of c all) p.0
    clocks = clock_is 0 (clock_of k) (history_of k) (kept_rising k) ∙ ap (clock_after 0) (sym own_entries)

    entry_is : (pass : Pass) (r : AnyReply) → entry_of (label_of k) (clock_of k) pass q r ≡ entry_here (store_of c all) pass q r
    entry_is pass r =
        ap (λ (l : Label). entry_of l (clock_of k) pass q r) label_is
        ∙ ap (λ (t : ℕ). entry_of (label_at c p.0) t pass q r) clocks
        ∙ ap (λ (o : Place). entry_of (label_at c o.0) (clock_at (store_of c all) o.0) pass q r) at

    state_read : machine_of k ≡ get_or (map machine_of all) p.0 (machine_of k)
    state_read = read_map machine_of all p.0 k read

    module _ (l : AnyKept) (pass after : Pass) where
      abbrev later : List AnyKept
      later = set all p.0 l

      pub stays : l ≡ k → store_of c later ≡ store_of c all
      stays same = ap (store_of c) (set_same all p.0 k l read same)

      pub keeps : {E : Type 0} (result : Result AnyReply E) → IfOk result (λ r. AnyCommitted k l pass after q r)
          → OnErr result ((l ≡ k) × (after ≡ pass))
          → AreShards c (map machine_of later) × AreStarted c later
      keeps (Ok r) done same = (
        subst (λ (row : List Store). AreShards c row) (sym (map-set machine_of all p.0 l))
            (row_stays c (map machine_of all) is q p at (machine_of k) state_read (machine_of l) done.served.state),
        started_set c all p.0 k l started found done.served.label,
      )
      keeps (Err e) done same =
          let back = sym (set_same all p.0 k l read same.0) in (
            subst (λ (ks : List AnyKept). AreShards c (map machine_of ks)) back is,
            subst (AreStarted c) back started,
          )

      state_is : (r : AnyReply) → AnyCommitted k l pass after q r
          → store_of c later ≡ committed (store_of c all) (entry_here (store_of c all) pass q r)
      state_is r done =
          let e : Entry = entry_here (store_of c all) pass q r in
          let store : together (map machine_of later) ≡ store_step (together (map machine_of all)) q =
          ap together (map-set machine_of all p.0 l)
          ∙ row_done c (map machine_of all) is q p at (machine_of k) state_read (machine_of l) done.served.state in
          let entries : map history_of later ≡ set (map history_of all) (request_place c q).0
          (entries_at (store_of c all) (request_place c q).0 ++ e ∷ []) =
          map-set history_of all p.0 l
          ∙ ap (set (map history_of all) p.0)
          (done.served.history ∙ ap (λ (x : Entry). history_of k ++ x ∷ []) (entry_is pass r)
          ∙ ap (λ (es : List Entry). es ++ e ∷ []) (sym own_entries))
          ∙ ap (λ (o : Place). set (map history_of all) o.0 (entries_at (store_of c all) o.0 ++ e ∷ [])) at in
          λ i. record { counts = c; store = store i; entries = entries i }

      pub result_is : (r : AnyReply) → AnyCommitted k l pass after q r → IsDone (store_of c all) (store_of c later) pass after q r
      result_is r done = record {
        reply = done.served.answer ∙ row_reply c (map machine_of all) is q p at (machine_of k) state_read;
        state = state_is r done;
        trail = done.trail ∙ ap (λ (e : Entry). pass.moments.items ++ Act e Whole ∷ []) (entry_is pass r);
        clock = done.clock ∙ ap (λ (e : Entry). e.stamp) (entry_is pass r);
        steps = done.steps;
        actor = done.actor;
        running = done.running;
      }

-- a fact for the value, if there is one
pub if_ok : {R E : Type 0} {P Q : R → Type 0} (result : Result R E) → ((r : R) → P r → Q r) → IfOk result P → IfOk result Q
if_ok (Ok r) f h = f r h
if_ok (Err e) f h = tt

-- and for the refusal
pub if_err : {R E : Type 0} {P Q : Type 0} (result : Result R E) → (P → Q) → OnErr result P → OnErr result Q
if_err (Ok r) f h = tt
if_err (Err e) f h = f h
