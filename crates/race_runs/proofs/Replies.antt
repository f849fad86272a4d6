-- where each place's moments are a legal history of its shard, the replies are those of the whole store
use Rattle.std.proofs.Common.{◌≡◌, ℕ, zero, suc, ◌<◌, Bool, true, false, if◌then◌else◌, Some, List, [], ◌∷◌, length, refl}
use Rattle.std.proofs.Common.{sym, ap, ◌∙◌, subst, eqb, arith}
use Rattle.std.proofs.lemmas.List.Elements.{All-filter, filter_passes, recursion_from_All}
use Rattle.std.proofs.lemmas.Option.{get_or_from_slice_get}
use Rattle.std.specs.List.{All, AllByRecursion, filter, slice_get}
use Rattle.tect_ids.specs.declared.ids.Counts.{Counts}
use Rattle.tect_ids.specs.declared.ids.Place.{Place}
use Rattle.tect_ids.specs.Places.{HasPlaces, place_count, layer_at}
use Rattle.store_rules.specs.Alone.{opening_of, request_layer}
use Rattle.store_rules.specs.Places.{request_place}
use Rattle.store_rules.specs.Store.{Store, opening_store, store_reply, store_step}
use Rattle.store_shards.proofs.Asked.{asked_layer, asked_place}
use Rattle.store_shards.specs.Shards.{AreWhole, Parts, opening_parts, parts_step, place_eq}
use Rattle.store_shards.proofs.Parts.{opening_whole, same_reply, step_whole}
use Rattle.store_shards.proofs.Rows.{opening_is}
use Rattle.place_kit.specs.declared.any.AnyKept.{AnyKept}
use Rattle.entry_words.specs.declared.entry.Entry.{Entry}
use Rattle.entry_words.specs.declared.entry.Label.{Label}
use Rattle.entry_words.specs.declared.entry.Moment.{Moment}
use Rattle.program_forms.specs.declared.heard.Heard.{Heard}
use Rattle.entry_words.specs.declared.entry.Moment.TheVariants.{Act, Local}
use Rattle.entry_words.specs.declared.entry.Note.{Note}
use Rattle.entry_words.specs.declared.entry.Note.TheVariants as notes
use Rattle.place_kit.specs.Kept.{base_of, history_of, label_of, place_of}
use Rattle.entry_words.specs.Moments.{is_at, trail_of}
use Rattle.place_kit.specs.Replay.{IsLegal}
use Rattle.entry_words.specs.Labels.{label_at}
use Rattle.place_kit.specs.Started.{AreStarted}
use Rattle.place_kit.proofs.Answered.{kept_answered}
use Rattle.place_kit.proofs.AllKinds.{opened_base}
use Rattle.tect_ids.specs.declared.answer.Answer.{Answer}
use Rattle.tect_ids.specs.declared.answer.Answer.TheVariants as answers
use Rattle.tect_ids.specs.declared.ids.OpId.{OpId}
use Rattle.world_runs.specs.declared.event.Event.{Event}
use Rattle.world_runs.specs.Events.{end_event, event_of, events_of}
use Rattle.world_runs.specs.Events.{IsPlaced}
use Rattle.race_runs.specs.PlacesReply.{PlacesReply}
use Rattle.world_runs.specs.OwnRuns.{RepliesAre}
use Rattle.world_runs.proofs.Actors.{one_number, same_number}
use Rattle.whole_runs.proofs.Actors.{flipped}

-- each moment is a transaction at this place, and that of its request
abbrev AreAt : Counts → ℕ → List Moment → Type 0
AreAt c n ms = AllByRecursion (λ m. is_at n m ≡ true) ms × AllByRecursion (IsPlaced c) ms

-- so its request goes to the place's layer
own_layer : (c : Counts) (n : ℕ) (e : Entry) (h : Heard) → HasPlaces c → is_at n (Act e h) ≡ true → IsPlaced c (Act e h)
    → request_layer e.req ≡ layer_at c n
own_layer c n e h has at placed =
    let here : (request_place c e.req).0 ≡ n = ap (λ (p : Place). p.0) (sym placed) ∙ one_number e.place.0 n at in
    sym (asked_layer c e.req has) ∙ ap (layer_at c) here

own_layers : (c : Counts) (n : ℕ) (ms : List Moment) → HasPlaces c → AreAt c n ms
    → AllByRecursion (λ e. request_layer e.req ≡ layer_at c n) (trail_of ms)
own_layers c n [] has at = tt
own_layers c n (Local stamp actor note ∷ ms) has at = absurd (let none : false ≡ true = at.0.0 in cc)
own_layers c n (Act e h ∷ ms) has at = (own_layer c n e h has at.0.0 at.1.0, own_layers c n ms has (at.0.1, at.1.1))

own_history : (n : ℕ) (s : Store) (ms : List Moment) → AllByRecursion (λ m. is_at n m ≡ true) ms → IsLegal store_step store_reply s (trail_of ms)
    → RepliesAre s (events_of ms)
own_history n s [] at answered = tt
own_history n s (Local stamp actor note ∷ ms) at answered = absurd (let none : false ≡ true = at.0 in cc)
own_history n s (Act e h ∷ ms) at answered = (answered.0, own_history n (store_step s e.req) ms at.1 answered.1)

-- ---- a kept machine that was started at its place

module _ (c : Counts) (has : HasPlaces c) (n : ℕ) (k : AnyKept) (ms : List Moment) (label : label_of k ≡ label_at c n) (at : AreAt c n ms)
    (trail : trail_of ms ≡ history_of k) where
  layers : AllByRecursion (λ e. request_layer e.req ≡ (label_of k).layer) (history_of k)
  layers = subst (λ (l : Label). AllByRecursion (λ e. request_layer e.req ≡ l.layer) (history_of k)) (sym label)
      (subst (λ (es : List Entry). AllByRecursion (λ e. request_layer e.req ≡ layer_at c n) es) trail (own_layers c n ms has at))

  opens : base_of k ≡ opening_parts c (record { 0 = n })
  opens =
      opened_base k (ap (λ (l : Label). l.folded) label) ∙ ap (λ (l : Label). opening_of l.layer l.rooted) label
      ∙ opening_is c has n

  kept_replies : RepliesAre (opening_parts c (record { 0 = n })) (events_of ms)
  kept_replies =
      subst (λ t. RepliesAre t (events_of ms)) opens
      (own_history n (base_of k) ms at.0 (subst (λ (es : List Entry). IsLegal store_step store_reply (base_of k) es) (sym trail) (kept_answered k layers)))

-- ---- all places

-- a moment that is no transaction says nothing of the store
end_replies : (s : Store) (op : OpId) (a : Answer) (es : List Event) → RepliesAre s es → RepliesAre s (end_event op a ∷ es)
end_replies s op answers.NoMemory es r = (tt, r)
end_replies s op (answers.HistoryFull p) es r = (tt, r)
end_replies s op _ es r = (tt, r)

note_replies : (s : Store) (stamp actor : ℕ) (note : Note) (es : List Event) → RepliesAre s es
    → RepliesAre s (event_of (Local stamp actor note) ∷ es)
note_replies s stamp actor (notes.Began op c) es r = (tt, r)
note_replies s stamp actor (notes.Ended op a) es r = end_replies s op a es r
note_replies s stamp actor (notes.Stopped op) es r = (tt, r)

-- each place's own moments are replied to by its part
abbrev PlacesReplyFrom : Counts → Parts → List Moment → Type 0
PlacesReplyFrom c parts ms = (p : Place) → p.0 < place_count c → RepliesAre (parts p) (events_of (filter (is_at p.0) ms))

rest_part : (s : Store) (e : Entry) (h : Heard) (ms : List Moment) (b : Bool) → RepliesAre s (events_of (if b then Act e h ∷ ms else ms))
    → RepliesAre (if b then store_step s e.req else s) (events_of ms)
rest_part s e h ms true r = r.1
rest_part s e h ms false r = r

first_part : (s : Store) (e : Entry) (h : Heard) (ms : List Moment) (b : Bool) → b ≡ true
    → RepliesAre s (events_of (if b then Act e h ∷ ms else ms))
    → e.reply ≡ store_reply s e.req
first_part s e h ms true is r = r.0
first_part s e h ms false is r = absurd cc

rest_places : (c : Counts) (parts : Parts) (e : Entry) (h : Heard) (ms : List Moment) → IsPlaced c (Act e h)
    → PlacesReplyFrom c parts (Act e h ∷ ms)
    → PlacesReplyFrom c (parts_step c parts e.req) ms
rest_places c parts e h ms placed replies p low =
    let same : eqb e.place.0 p.0 ≡ place_eq p (request_place c e.req) = flipped e.place.0 p.0 ∙ ap (λ (r : Place). eqb p.0 r.0) placed in
    subst (λ b. RepliesAre (if b then store_step (parts p) e.req else parts p) (events_of (filter (is_at p.0) ms))) same
    (rest_part (parts p) e h (filter (is_at p.0) ms) (eqb e.place.0 p.0) (replies p low))

pub parts_make_replies : (c : Counts) (parts : Parts) (whole : Store) (ms : List Moment) → HasPlaces c → AreWhole c parts whole
    → PlacesReplyFrom c parts ms
    → AllByRecursion (IsPlaced c) ms → RepliesAre whole (events_of ms)
parts_make_replies c parts whole [] has is replies placed = tt
parts_make_replies c parts whole (Local stamp actor note ∷ ms) has is replies placed =
    note_replies whole stamp actor note (events_of ms) (parts_make_replies c parts whole ms has is replies placed.1)
parts_make_replies c parts whole (Act e h ∷ ms) has is replies placed =
    let p : Place = request_place c e.req in
    let here : is_at p.0 (Act e h) ≡ true = ap (λ (r : Place). eqb r.0 p.0) placed.0 ∙ same_number p.0 in
    let first : e.reply ≡ store_reply (parts p) e.req = first_part (parts p) e h (filter (is_at p.0) ms) (is_at p.0 (Act e h)) here
    (replies p (asked_place c e.req has)) in (
      first ∙ same_reply c parts whole is e.req,
      parts_make_replies c (parts_step c parts e.req) (store_step whole e.req) ms has
          (step_whole c parts whole is e.req) (rest_places c parts e h ms placed.0 replies) placed.1,
    )

-- ---- from the kept machines

item_at : {X : Type 0} (xs : List X) (n : ℕ) → n < length xs → (x : X) × (slice_get xs n ≡ Some x)
item_at [] n low = absurd (omega arith)
item_at (x ∷ xs) zero low = (x, refl)
item_at (x ∷ xs) (suc n) low = item_at xs n (omega arith)

place_replies : (c : Counts) (ks : List AnyKept) (ms : List Moment) → HasPlaces c → AreStarted c ks
    → All (λ k. trail_of (filter (is_at (place_of k)) ms) ≡ history_of k) ks
    → All (IsPlaced c) ms → PlacesReplyFrom c (opening_parts c) ms
place_replies c ks ms has started histories placed p low =
    let there : p.0 < length ks = omega (arith, started.number) in
    let item : (k : AnyKept) × (slice_get ks p.0 ≡ Some k) = item_at ks p.0 there in
    let k : AnyKept = item.0 in
    let label : label_of k ≡ label_at c p.0 = started.labels p.0 k item.1 in
    let at_k : trail_of (filter (is_at (place_of k)) ms) ≡ history_of k =
    subst (λ (x : AnyKept). trail_of (filter (is_at (place_of x)) ms) ≡ history_of x) (get_or_from_slice_get ks p.0 k k item.1)
    (histories p.0 k there) in
    let at_p : trail_of (filter (is_at p.0) ms) ≡ history_of k = subst
    (λ (l : Label). trail_of (filter (is_at l.place.0) ms) ≡ history_of k) label at_k in
    let passes : AllByRecursion (λ m. is_at p.0 m ≡ true) (filter (is_at p.0) ms) = recursion_from_All (λ m. is_at p.0 m ≡ true)
    (filter (is_at p.0) ms) (filter_passes (is_at p.0) ms) in
    let own : AllByRecursion (IsPlaced c) (filter (is_at p.0) ms) = recursion_from_All (IsPlaced c) (filter (is_at p.0) ms)
    (All-filter (is_at p.0) (IsPlaced c) ms placed) in
    kept_replies c has p.0 k (filter (is_at p.0) ms) label (passes, own) at_p

pub places_reply : PlacesReply
places_reply c ks ms has started histories placed =
    parts_make_replies c (opening_parts c) opening_store ms has (opening_whole c)
    (λ p low. place_replies c ks ms has started histories placed p low) (recursion_from_All (IsPlaced c) ms placed)
