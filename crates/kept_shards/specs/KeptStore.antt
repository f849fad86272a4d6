-- What contracts see of kept machines: the whole store that they are together, and the entries that each place keeps.
use Rattle.std.specs.Prelude.{Result, Ok, Err, ◌≡◌, ℕ, ◌+◌, max, List, [], ◌∷◌, ◌++◌, slice_index_or, slice_set, refl}
use Rattle.std.specs.Coded.{Coded, code_by, coded×, coded_list}
use Rattle.tect_ids.specs.declared.ids.Counts.{Counts}
use Rattle.store_rules.specs.declared.any.AnyReq.{AnyReq}
use Rattle.store_rules.specs.declared.any.AnyReply.{AnyReply}
use Rattle.store_rules.specs.Places.{request_place}
use Rattle.store_rules.specs.Store.{Store, store_reply, store_step}
use Rattle.layers.specs.Codes.{store_code}
use Rattle.entry_words.specs.declared.entry.Entry.{Entry}
use Rattle.entry_words.specs.contracts.entry.Entry as entry
use Rattle.entry_words.specs.declared.entry.Moment.TheVariants.{Act}
use Rattle.program_forms.specs.declared.heard.Heard.TheVariants.{Whole}
use Rattle.entry_words.specs.declared.entry.Refused.{Refused}
use Rattle.entry_words.specs.declared.entry.Refused.TheVariants.{NoMemory, HistoryFull, Astray}
use Rattle.passes.specs.declared.pass.Pass.{Pass}
use Rattle.passes.specs.Commits.{entry_of}
use Rattle.entry_words.specs.Labels.{label_at}
use Rattle.all_shards.specs.Whole.{counts_code}

-- the entries of all places, in their order
pub record KeptStore : Type 0 where
  pub counts : Counts
  pub store : Store
  pub entries : List (List Entry)

abbrev pub kept_code : Coded KeptStore
kept_code =
    code_by (Counts × (Store × List (List Entry))) (coded× counts_code (coded× store_code (coded_list (coded_list entry.the_row.coded))))
    (λ w. (w.counts, (w.store, w.entries))) (λ p. record { counts = p.0; store = p.1.0; entries = p.1.1 }) (λ _. refl)

abbrev pub entries_at : KeptStore → ℕ → List Entry
entries_at w place = slice_index_or w.entries place []

-- the stamp of the last of these entries, which come after that clock
abbrev pub clock_after : ℕ → List Entry → ℕ
clock_after clock [] = clock
clock_after clock (e ∷ es) = clock_after e.stamp es

-- the clock of a place: the stamp of its last entry
abbrev pub clock_at : KeptStore → ℕ → ℕ
clock_at w place = clock_after 0 (entries_at w place)

-- the store after a transaction, whose entry its place keeps
abbrev pub committed : KeptStore → Entry → KeptStore
committed w e = record w { store = store_step w.store e.req; entries = slice_set w.entries e.place.0 (entries_at w e.place.0 ++ e ∷ []) }

-- the entry of the pass's request, as it is done next
abbrev pub entry_here : KeptStore → Pass → AnyReq → AnyReply → Entry
entry_here w p q x =
    let place = (request_place w.counts q).0 in
    entry_of (label_at w.counts place) (clock_at w place) p q x

-- the request was done there with that reply, and the pass has the same entry
pub record IsDone (old new : KeptStore) (before after : Pass) (q : AnyReq) (x : AnyReply) : Type 0 where
  pub reply : x ≡ store_reply old.store q
  pub state : new ≡ committed old (entry_here old before q x)
  pub trail : after.moments.items ≡ before.moments.items ++ Act (entry_here old before q x) Whole ∷ []
  pub clock : after.clock ≡ (entry_here old before q x).stamp
  pub steps : after.steps ≡ before.steps + 1
  pub actor : after.actor ≡ before.actor
  pub running : after.running ≡ before.running

-- the entry is the one that its place keeps: it replies as the whole store, and is stamped above that clock and its place's
pub record DidHere (w v : KeptStore) (clock : ℕ) (q : AnyReq) (e : Entry) : Type 0 where
  pub reply : e.reply ≡ store_reply w.store q
  pub stamp : e.stamp ≡ max (clock_at w (request_place w.counts q).0) clock + 1
  pub state : v ≡ committed w e

-- What came of a commit that began at that clock. No other machine is found than the one that is looked for.
abbrev pub Did : KeptStore → KeptStore → ℕ → AnyReq → Result Entry Refused → Type 0
Did w v clock q (Ok e) = DidHere w v clock q e
Did w v clock q (Err NoMemory) = v ≡ w
Did w v clock q (Err (HistoryFull place)) = v ≡ w
Did w v clock q (Err (Astray want found)) = ⊥
