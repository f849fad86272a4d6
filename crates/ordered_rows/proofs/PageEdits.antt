-- pages as code keeps them, when a page is changed, split or joined
use Rattle.std.proofs.Common.{◌≡◌, ◌≢◌, ℕ, zero, suc, ◌+◌, ◌<◌, ◌≤◌, List, [], ◌∷◌, ◌++◌}
use Rattle.std.proofs.Common.{length, get_or, set, take, drop, Vec, vec_capacity}
use Rattle.std.proofs.Common.{Result, Ok, Err, OnOk, subst, inl, inr, ◌⊎◌, refl, sym, ap, ◌∙◌, arith}
use Rattle.std.specs.Prelude.{All}
use Rattle.std.proofs.lemmas.Bool.{cases_lt}
use Rattle.std.specs.List.{insert, remove}
use Rattle.std.proofs.lemmas.List.{append_assoc, length-set, length-map, get_or-map, map-set, get_or-set_same}
use Rattle.std.proofs.lemmas.List.{get_or-set_other, length-append, set-get_or}
use Rattle.std.proofs.lemmas.List.Edits.{length-insert, length-remove, get_or-remove_below, get_or-remove_above}
use Rattle.std.proofs.lemmas.List.Elements.{All-cons, All-append, All-set, All-take, All-drop}
use Rattle.ordered_rows.specs.Pages.{page_at, shown, HaveRoom, IsPaged, IsPageSize, ArePages, HaveLost, AreJoinable}
use Rattle.ordered_rows.specs.Pairs.{pairs}
use Rattle.ordered_rows.proofs.Shown.{map-insert, map-remove}

pub always : {T E P : Type 0} (r : Result T E) → P → OnOk r P
always (Ok x) p = p
always (Err e) p = tt

pub get_or_any : {X : Type 0} (xs : List X) (k : ℕ) (d e : X) → k < length xs → get_or xs k d ≡ get_or xs k e
get_or_any [] k d e lt = absurd (omega arith)
get_or_any (x ∷ xs) zero d e lt = refl
get_or_any (x ∷ xs) (suc k) d e lt = get_or_any xs k d e (omega arith)

-- the same number, or another
pub either : (k i : ℕ) → (k ≡ i) ⊎ (k ≢ i)
either zero zero = inl refl
either zero (suc i) = inr (λ e. omega (arith, e))
either (suc k) zero = inr (λ e. omega (arith, e))
either (suc k) (suc i) = next (either k i)
  where
    next : (k ≡ i) ⊎ (k ≢ i) → (suc k ≡ suc i) ⊎ (suc k ≢ suc i)
    next (inl e) = inl (ap suc e)
    next (inr n) = inr (λ e. n (omega (arith, e)))

module _ {X : Type 0} where
  abbrev IsSized : ℕ → List X → Type 0
  IsSized n page = IsPageSize n (length page)

  -- pages of which one is changed, where the others have a size for so many
  sized_set : (n : ℕ) (pages : List (List X)) (i : ℕ) (page : List X) → i < length pages → IsSized n page
      → ((k : ℕ) (d : List X) → k < length pages → k ≢ i → IsSized n (get_or pages k d)) → All (IsSized n) (set pages i page)
  sized_set n pages i page lt size others k d in_range = by_place (either k i)
    where
      by_place : (k ≡ i) ⊎ (k ≢ i) → IsSized n (get_or (set pages i page) k d)
      by_place (inl e) = rw (e, get_or-set_same pages i page d lt) size
      by_place (inr o) = rw (get_or-set_other pages i k page d o) (others k d (rw (length-set pages i page) at in_range) o)

  paged_of : (n : ℕ) (pages : List (List X)) → length pages ≡ n → All (IsSized n) pages → IsPaged pages
  paged_of n pages count all k d lt = rw count (all k d lt)

  paged_set : (pages : List (List X)) (i : ℕ) (page : List X) → IsPaged pages → IsSized (length pages) page → IsPaged (set pages i page)
  paged_set pages i page paged size =
      paged_of (length pages) (set pages i page) (length-set pages i page) (All-set (IsSized (length pages)) pages i page size paged)

  All-insert : (P : List X → Type 0) (pages : List (List X)) (i : ℕ) (page : List X) → P page → All P pages → All P (insert pages i page)
  All-insert P pages i page here all =
      All-append P (take i pages) (page ∷ drop i pages) (All-take P i pages all)
      (All-cons P page (drop i pages) here (All-drop P i pages all))

  -- a page is split
  joined_split : (pages : List (List X)) (i : ℕ) (a b : List X) → i < length pages → pairs (insert (set pages i a) (suc i) b)
      ≡ pairs (set pages i (a ++ b))
  joined_split [] i a b lt = absurd (omega arith)
  joined_split (p ∷ pages) zero a b lt = sym (append_assoc a b (pairs pages))
  joined_split (p ∷ pages) (suc i) a b lt = ap (λ rest. p ++ rest) (joined_split pages i a b (omega arith))

  -- the other pages, where one is split or two are joined
  abbrev Others : ℕ → List (List X) → ℕ → Type 0
  Others n pages i = (k : ℕ) (d : List X) → k < length pages → k ≢ i → IsSized n (get_or pages k d)

  others_of : (pages : List (List X)) (i : ℕ) → i < length pages → IsPaged pages → Others (length pages + 1) pages i
  others_of pages i lt paged k d in_range o =
      let size = paged k d in_range in
      record { some = size.some; most = size.most; least = λ two. size.least (omega (arith, o, lt, in_range)) }

  paged_split : (pages : List (List X)) (i : ℕ) (a b : List X) → i < length pages → Others (length pages + 1) pages i
      → 16 ≤ length a → length a ≤ 64 → 16 ≤ length b → length b ≤ 64 → IsPaged (insert (set pages i a) (suc i) b)
  paged_split pages i a b lt others a_least a_most b_least b_most =
      let n = length pages in
      let size : (page : List X) → 16 ≤ length page → length page ≤ 64 → IsSized (n + 1) page =
      λ page least most. record { some = omega (arith, least); most = most; least = λ two. least } in
      let count : length (insert (set pages i a) (suc i) b) ≡ n + 1 =
      length-insert (set pages i a) (suc i) b (omega (arith, length-set pages i a)) ∙ ap (λ x. x + 1) (length-set pages i a) in
      paged_of (n + 1) (insert (set pages i a) (suc i) b) count
      (All-insert (IsSized (n + 1)) (set pages i a) (suc i) b (size b b_least b_most)
      (sized_set (n + 1) pages i a lt (size a a_least a_most) others))

  -- two neighbours are joined
  joined_merge : (pages : List (List X)) (i : ℕ) → suc i < length pages
      → pairs (set (remove pages (suc i)) i (page_at pages i ++ page_at pages (suc i))) ≡ pairs pages
  joined_merge [] i lt = absurd (omega arith)
  joined_merge (p ∷ []) i lt = absurd (omega arith)
  joined_merge (p ∷ q ∷ pages) zero lt = append_assoc p q (pairs pages)
  joined_merge (p ∷ q ∷ pages) (suc i) lt = ap (λ rest. p ++ rest) (joined_merge (q ∷ pages) i (omega arith))

  -- the pages without the one behind place i, but for the one there
  others_left : (n : ℕ) (pages : List (List X)) (i : ℕ) → suc i < length pages
      → ((k : ℕ) → k < length pages → k ≢ i → k ≢ suc i → IsSized n (page_at pages k)) → Others n (remove pages (suc i)) i
  others_left n pages i lt others k d in_range o = by_side (cases_lt k (suc i))
    where
      inside : k < length (remove pages (suc i))
      inside = in_range

      count : length (remove pages (suc i)) + 1 ≡ length pages
      count = length-remove pages (suc i) lt

      by_side : (k < suc i) ⊎ (suc i ≤ k) → IsSized n (get_or (remove pages (suc i)) k d)
      by_side (inl less) =
          rw (get_or-remove_below pages (suc i) d k less lt, get_or_any pages k d [] (omega (arith, less, lt)))
          (others k (omega (arith, less, lt)) o (λ e. omega (arith, e, less)))
      by_side (inr more) =
          let far : k + 1 < length pages = omega (arith, inside, count) in
          rw (get_or-remove_above pages (suc i) d k more lt, get_or_any pages (k + 1) d [] far)
          (others (k + 1) far (λ e. omega (arith, e, more)) (λ e. omega (arith, e, more)))

-- pages as vectors
module _ {X A : Type 0} (pages : List (Vec X A)) where
  pub shown_set : (i : ℕ) (w : Vec X A) (page : List X) → w.items ≡ page → shown (set pages i w) ≡ set (shown pages) i page
  shown_set i w page is = map-set (λ (v : Vec X A). v.items) pages i w ∙ ap (set (shown pages) i) is

  pub shown_insert : (i : ℕ) (w : Vec X A) → shown (insert pages i w) ≡ insert (shown pages) i w.items
  shown_insert i w = map-insert (λ (v : Vec X A). v.items) pages i w

  pub count_shown : length (shown pages) ≡ length pages
  count_shown = length-map pages (λ (v : Vec X A). v.items)

  module _ (i : ℕ) (lt : i < length pages) (v : Vec X A) (is : v ≡ get_or pages i v) where
    pub shown_at : page_at (shown pages) i ≡ v.items
    shown_at = get_or-map (λ (x : Vec X A). x.items) pages i v [] lt ∙ ap (λ (x : Vec X A). x.items) (sym is)

    pub shown_same : (w : Vec X A) → w.items ≡ v.items → shown (set pages i w) ≡ shown pages
    shown_same w same = shown_set i w (page_at (shown pages) i) (same ∙ sym shown_at) ∙ set-get_or (shown pages) i []

    pub size_at : ArePages pages → IsPageSize (length pages) (length v.items)
    size_at p = let size = p.paged i [] (rw count_shown lt) in rw (shown_at, count_shown) at size

    pub pages_set : (w : Vec X A) → ArePages pages → IsPageSize (length pages) (length w.items) → vec_capacity v ≤ vec_capacity w
        → ArePages (set pages i w)
    pages_set w p size grows = record {
      paged =
          rw (shown_set i w w.items refl) (paged_set (shown pages) i w.items p.paged (rw count_shown size));
      room =
          λ two. let room = p.room (rw (length-set pages i w) at two) in
          let here = room i v lt in
          All-set (λ (x : Vec X A). 65 ≤ vec_capacity x) pages i w (omega (arith, grows, rw (← is) at here)) room;
    }

    pub room_set : (w : Vec X A) → (2 ≤ length pages → HaveRoom pages) → 65 ≤ vec_capacity w → HaveRoom (set pages i w)
    room_set w room has k d in_range = by_place (either k i)
      where
        by_place : (k ≡ i) ⊎ (k ≢ i) → 65 ≤ vec_capacity (get_or (set pages i w) k d)
        by_place (inl e) = rw (e, get_or-set_same pages i w d lt) has
        by_place (inr o) =
            let inside : k < length pages = rw (length-set pages i w) at in_range in
            rw (get_or-set_other pages i k w d o) (room (omega (arith, o, lt, inside)) k d inside)

    -- the page, changed, is split
    pub split_joined : (w u : Vec X A) (page : List X) (n : ℕ) → w.items ++ u.items ≡ page → n ≡ suc i
        → pairs (shown (insert (set pages i w) n u)) ≡ pairs (set (shown pages) i page)
    split_joined w u page n parts next =
        ap (λ n. pairs (shown (insert (set pages i w) n u))) next
        ∙ ap pairs (map-insert (λ (x : Vec X A). x.items) (set pages i w) (suc i) u
        ∙ ap (λ p. insert p (suc i) u.items) (shown_set i w w.items refl))
        ∙ joined_split (shown pages) i w.items u.items (rw count_shown lt)
        ∙ ap (λ p. pairs (set (shown pages) i p)) parts

    pub split_pages : (w u : Vec X A) (n : ℕ) → n ≡ suc i → Others (length (shown pages) + 1) (shown pages) i → HaveRoom pages
        → 65 ≤ vec_capacity w → 65 ≤ vec_capacity u → 16 ≤ length w.items → length w.items ≤ 64 → 16 ≤ length u.items
        → length u.items ≤ 64 → ArePages (insert (set pages i w) n u)
    split_pages w u n next others room w_room u_room w_least w_most u_least u_most =
        let seen : shown (insert (set pages i w) (suc i) u) ≡ insert (set (shown pages) i w.items) (suc i) u.items =
        map-insert (λ (x : Vec X A). x.items) (set pages i w) (suc i) u
        ∙ ap (λ p. insert p (suc i) u.items) (shown_set i w w.items refl) in
        rw next record {
          paged =
              rw seen (paged_split (shown pages) i w.items u.items (rw count_shown lt) others w_least w_most u_least u_most);
          room =
              λ two. let P : Vec X A → Type 0 = λ x. 65 ≤ vec_capacity x in
              let set_room = room_set w (λ two. room) w_room in
              All-append P (take (suc i) (set pages i w)) (u ∷ drop (suc i) (set pages i w)) (All-take P (suc i) (set pages i w) set_room)
              (All-cons P u (drop (suc i) (set pages i w)) u_room (All-drop P (suc i) (set pages i w) set_room));
        }

    pub split_others : ArePages pages → Others (length (shown pages) + 1) (shown pages) i
    split_others p = others_of (shown pages) i (rw count_shown lt) p.paged

    -- a page that has lost a value, and has fewer than 16
    pub have_lost : (w : Vec X A) → ArePages pages → length w.items + 1 ≡ length v.items → length w.items ≤ 15
        → vec_capacity w ≡ vec_capacity v → HaveLost (set pages i w) i
    have_lost w p less few same =
        let n = length (shown pages) in
        let seen = shown_set i w w.items refl in
        let here : page_at (shown (set pages i w)) i ≡ w.items =
        ap (λ x. page_at x i) seen ∙ get_or-set_same (shown pages) i w.items [] (rw count_shown lt) in
        let size = size_at p in
        record {
          in_range = rw (length-set pages i w) lt;
          others =
              λ k in_range o. let inside : k < length (shown pages) = rw count_shown (rw (length-set pages i w) at in_range) in
              let size = p.paged k [] inside in
              rw (seen, get_or-set_other (shown pages) i k w.items [] o, length-set pages i w) (rw count_shown at size);
          most = rw here few;
          least =
              λ two. rw here (omega (arith, less, size.least (rw (length-set pages i w) at two)));
          room =
              λ two. let room = p.room (rw (length-set pages i w) at two) in
              let cap = room i v lt in
              room_set w (λ two. room) (omega (arith, same, rw (← is) at cap));
        }

-- two neighbours are joined: the right one is taken out, and lies beside the others
module _ {X A : Type 0} (old : List (Vec X A)) (i : ℕ) (j : AreJoinable old i) (pages : List (Vec X A)) (are : pages ≡ remove old (suc i))
    (v r : Vec X A) (is : v ≡ get_or pages i v) (was : r ≡ get_or old (suc i) r) where
  count_left : length pages + 1 ≡ length old
  count_left = ap (λ p. length p + 1) are ∙ length-remove old (suc i) j.in_range

  left_in : i < length pages
  left_in = omega (arith, count_left, j.in_range)

  shown_left : shown pages ≡ remove (shown old) (suc i)
  shown_left = ap shown are ∙ map-remove (λ (x : Vec X A). x.items) old (suc i)

  suc_in : suc i < length (shown old)
  suc_in = rw (count_shown old) j.in_range

  left_is : page_at (shown old) i ≡ v.items
  left_is = sym (get_or-remove_below (shown old) (suc i) [] i (omega arith) suc_in) ∙ ap (λ p. page_at p i) (sym shown_left)
      ∙ shown_at pages i left_in v is

  right_is : page_at (shown old) (suc i) ≡ r.items
  right_is = shown_at old (suc i) j.in_range r was

  pub most : length v.items + length r.items ≤ 79
  most = rw (left_is, right_is) at j.most

  pub least : 31 ≤ length v.items + length r.items
  least = rw (left_is, right_is) at j.least

  room_left : HaveRoom pages
  room_left =
      let P : Vec X A → Type 0 = λ x. 65 ≤ vec_capacity x in
      subst (λ p. All P p) (sym are) (All-append P (take (suc i) old) (drop (suc (suc i)) old) (All-take P (suc i) old j.room)
      (All-drop P (suc (suc i)) old j.room))

  pub left_room : 65 ≤ vec_capacity v
  left_room = let room = room_left i v left_in in rw (← is) at room

  pub right_room : 65 ≤ vec_capacity r
  right_room = let room = j.room (suc i) r j.in_range in rw (← was) at room

  left_others : Others (length old) (shown pages) i
  left_others =
      subst (λ p. Others (length old) p i) (sym shown_left) (others_left (length old) (shown old) i suc_in
      (λ k in_range. j.others k (rw (count_shown old) at in_range)))

  all_joined : pairs (set (shown pages) i (v.items ++ r.items)) ≡ pairs (shown old)
  all_joined = rw (shown_left, ← left_is, ← right_is) (joined_merge (shown old) i suc_in)

  pub merged_joined : (w : Vec X A) → w.items ≡ v.items ++ r.items → pairs (shown (set pages i w)) ≡ pairs (shown old)
  merged_joined w whole = ap pairs (shown_set pages i w (v.items ++ r.items) whole) ∙ all_joined

  pub merged_pages : (w : Vec X A) → w.items ≡ v.items ++ r.items → length v.items + length r.items ≤ 64 → vec_capacity v ≤ vec_capacity w
      → ArePages (set pages i w)
  merged_pages w whole few grows =
      let n = length (shown pages) in
      let size : length w.items ≡ length v.items + length r.items = ap length whole ∙ length-append v.items r.items in
      let fewer : n + 1 ≡ length old = ap (λ x. x + 1) (count_shown pages) ∙ count_left in
      record {
        paged =
            rw (shown_set pages i w w.items refl) (paged_of n (set (shown pages) i w.items) (length-set (shown pages) i w.items)
            (sized_set n (shown pages) i w.items (rw (count_shown pages) left_in) record {
              some = omega (arith, size, least);
              most = omega (arith, size, few);
              least = λ two. omega (arith, size, least);
            } (λ k d in_range o. let s = left_others k d in_range o in
            record { some = s.some; most = s.most; least = λ two. s.least (omega (arith, two, fewer)) })));
        room =
            λ two. room_set pages i left_in v is w (λ two. room_left) (omega (arith, grows, left_room));
      }

  pub spread_joined : (w u : Vec X A) (n : ℕ) → w.items ++ u.items ≡ v.items ++ r.items → n ≡ suc i
      → pairs (shown (insert (set pages i w) n u)) ≡ pairs (shown old)
  spread_joined w u n parts next = split_joined pages i left_in v is w u (v.items ++ r.items) n parts next ∙ all_joined

  pub spread_pages : (w u : Vec X A) (n : ℕ) → n ≡ suc i → w.items ++ u.items ≡ v.items ++ r.items
      → 65 ≤ length v.items + length r.items → length w.items ≤ length u.items + 1 → length u.items ≤ length w.items + 1
      → vec_capacity w ≡ vec_capacity v → vec_capacity u ≡ vec_capacity r → ArePages (insert (set pages i w) n u)
  spread_pages w u n next parts many w_most u_most w_keeps u_keeps =
      let sum : length w.items + length u.items ≡ length v.items + length r.items =
      sym (length-append w.items u.items) ∙ ap length parts ∙ length-append v.items r.items in
      let fewer : length old ≡ length (shown pages) + 1 = sym (ap (λ x. x + 1) (count_shown pages) ∙ count_left) in
      split_pages pages i left_in v is w u n next (subst (λ n. Others n (shown pages) i) fewer left_others) room_left
      (omega (arith, w_keeps, left_room)) (omega (arith, u_keeps, right_room))
      (omega (arith, sum, many, w_most, u_most)) (omega (arith, sum, most, w_most, u_most))
      (omega (arith, sum, many, w_most, u_most)) (omega (arith, sum, most, w_most, u_most))
