-- What the code of the walk does to its lists.
use Rattle.std.proofs.Common.{◌≡◌, ℕ, zero, suc, ◌+◌, ◌<◌, ◌≤◌, Bool, true, false, List, [], ◌∷◌, ◌++◌, Bor, refl, sym, ◌∙◌}
use Rattle.std.proofs.Common.{ap, subst, arith, eqb, length, get_or, map, take, set, append-nil, append_assoc}
use Rattle.std.specs.List.{All}
use Rattle.std.proofs.lemmas.List.{get_or_past, get_or-map, get_or-set_same, get_or-set_other, map-set, length-map, map_more, take_all}
use Rattle.std.proofs.lemmas.List.Elements.{All-head, All-tail}
use borrow.Author.Tests.{eqb-true, eq-eqb}
use Rattle.place_kit.specs.declared.any.AnyKept.{AnyKept}
use Rattle.entry_words.specs.declared.entry.Entry.{Entry}
use Rattle.entry_words.specs.declared.entry.Moment.{Moment}
use Rattle.entry_words.specs.declared.entry.Moment.TheVariants.{Act, Local}
use Rattle.program_forms.specs.declared.heard.Heard.{Heard}
use Rattle.place_kit.specs.Kept.{history_of}
use Rattle.merge_runs.specs.declared.keyed.Keyed.{Keyed}
use Rattle.merge_runs.specs.Keyed.{moment_in}
use Rattle.merge_runs.specs.Merged.{StandInOrder, IsInOrder}
use Rattle.merge_runs.specs.Walks.{acted_at, list_at, IsWalked, TakesEntry, TakesMoment, BlocksMoment, IsApartFrom}
use Rattle.merge_runs.proofs.Acts.{acted_append}
use Rattle.merge_runs.proofs.Walks.{blocked_apart, left_apart}

abbrev pub lent : List (Bor (List Entry)) → List (List Entry)
lent ls = map (λ h. h.now) ls

pub list_read : (ls : List (Bor (List Entry))) (n : ℕ) (l : Bor (List Entry)) → n < length ls → l ≡ get_or ls n l
    → list_at (lent ls) n ≡ l.now
list_read ls n l h e = get_or-map (λ (h : Bor (List Entry)). h.now) ls n l [] h ∙ ap (λ (h : Bor (List Entry)). h.now) (sym e)

pub takes_entry : (ls : List (Bor (List Entry))) (e : Entry) (l rest : Bor (List Entry)) → e.place.0 < length ls
    → l ≡ get_or ls e.place.0 l → l.now ≡ e ∷ rest.now → TakesEntry (lent ls) (lent (set ls e.place.0 rest)) e
takes_entry ls e l rest h at q =
    let p : ℕ = e.place.0 in
    let s : lent (set ls p rest) ≡ set (lent ls) p rest.now = map-set (λ (h : Bor (List Entry)). h.now) ls p rest in
    let n = length-map ls (λ (h : Bor (List Entry)). h.now) in
    let same : list_at (lent (set ls p rest)) p ≡ rest.now =
    ap (λ xs. list_at xs p) s ∙ get_or-set_same (lent ls) p rest.now [] (omega arith) in (
      list_read ls p l h at ∙ q ∙ ap (λ es. e ∷ es) (sym same),
      λ k ne. ap (λ xs. list_at xs k) s ∙ get_or-set_other (lent ls) p k rest.now [] ne,
    )

all_empty : (ls : List (Bor (List Entry))) → All (λ h. h.now ≡ []) ls → (n : ℕ) → list_at (lent ls) n ≡ []
all_empty [] a n = get_or_past {X = List Entry} [] n [] (omega arith)
all_empty (l ∷ ls) a zero = All-head (λ (h : Bor (List Entry)). h.now ≡ []) l ls a
all_empty (l ∷ ls) a (suc n) = all_empty ls (All-tail (λ (h : Bor (List Entry)). h.now ≡ []) l ls a) n

acted_one : (n : ℕ) (e : Entry) (heard : Heard) → eqb e.place.0 n ≡ true → acted_at n (Act e heard ∷ []) ≡ e ∷ []
acted_one n e heard t = rw t refl

acted_none : (n : ℕ) (e : Entry) (heard : Heard) → eqb e.place.0 n ≡ false → acted_at n (Act e heard ∷ []) ≡ []
acted_none n e heard t = rw t refl

-- a place's list after the entry, at that place and at others
act_taken : (n : ℕ) (e : Entry) (heard : Heard) (old new : List (List Entry)) (b : Bool) → eqb e.place.0 n ≡ b → TakesEntry old new e
    → acted_at n (Act e heard ∷ []) ++ list_at new n ≡ list_at old n
act_taken n e heard old new true h t =
    let p : e.place.0 ≡ n = eqb-true e.place.0 n h in
    ap (λ es. es ++ list_at new n) (acted_one n e heard h) ∙ sym (subst (λ k. list_at old k ≡ e ∷ list_at new k) p t.0)
act_taken n e heard old new false h t =
    ap (λ es. es ++ list_at new n) (acted_none n e heard h)
    ∙ t.1 n (λ q. let d : true ≡ false = sym (eq-eqb e.place.0 n (sym q)) ∙ h in absurd cc)

moment_taken : (n : ℕ) (m : Moment) (old new : List (List Entry)) → TakesMoment old new m
    → acted_at n (m ∷ []) ++ list_at new n ≡ list_at old n
moment_taken n (Act e heard) old new t = act_taken n e heard old new (eqb e.place.0 n) refl t
moment_taken n (Local s a x) old new t = ap (λ ls. list_at ls n) t

split_map : {X Y : Type 0} (f : X → Y) (xs : List X) (i : ℕ) (x : X) → i < length xs → x ≡ get_or xs i x
    → (back : List Y) × (map f xs ≡ map f (take i xs) ++ f x ∷ back)
split_map f [] i x l e = absurd (omega arith)
split_map f (y ∷ ys) zero x l e = (map f ys, ap (λ z. f z ∷ map f ys) (sym e))
split_map f (y ∷ ys) (suc i) x l e = let r = split_map f ys i x (omega arith) e in (r.0, ap (λ zs. f y ∷ zs) r.1)

module _ (ks : List AnyKept) (order : List Keyed) where
  -- up to that index the walk has taken from each history what stands before its list
  abbrev pub IsTakenTo : ℕ → List (List Entry) → Type 0
  IsTakenTo i lists =
      (n : ℕ) → acted_at n (map moment_in (take i order)) ++ list_at lists n ≡ list_at (map history_of ks) n

  pub walk_more : (i : ℕ) (k : Keyed) (old new : List (List Entry)) → i < length order → k ≡ get_or order i k
      → TakesMoment old new (moment_in k) → IsTakenTo i old → IsTakenTo (i + 1) new
  walk_more i k old new l e t h n =
      let front : List Moment = map moment_in (take i order) in
      let m : Moment = moment_in k in
      let more : map moment_in (take (i + 1) order) ≡ front ++ m ∷ [] =
      map_more moment_in order i k l ∙ ap (λ x. front ++ moment_in x ∷ []) (sym e) in
      let at : acted_at n (map moment_in (take (i + 1) order)) ≡ acted_at n front ++ acted_at n (m ∷ []) =
      ap (λ ms. acted_at n ms) more ∙ acted_append n front (m ∷ []) in
      ap (λ es. es ++ list_at new n) at ∙ append_assoc (acted_at n front) (acted_at n (m ∷ [])) (list_at new n)
      ∙ ap (λ es. acted_at n front ++ es) (moment_taken n m old new t)
      ∙ h n

  pub walk_blocked : (i : ℕ) (k : Keyed) (lists : List (List Entry)) (x : Entry) → i < length order → k ≡ get_or order i k
      → StandInOrder 0 ks → IsInOrder (map moment_in order) → IsTakenTo i lists → BlocksMoment lists (moment_in k) x
      → IsApartFrom ks (map moment_in order) x
  walk_blocked i k lists x l e s o h b =
      let w = split_map moment_in order i k l e in
      let whole : List Moment = map moment_in (take i order) ++ moment_in k ∷ w.0 in
      let q : map moment_in order ≡ whole = w.1 in
      subst (λ ms. IsApartFrom ks ms x) (sym q)
      (blocked_apart ks (map moment_in (take i order)) lists s h w.0 (moment_in k) x (subst (λ ms. IsInOrder ms) q o) b)

  all_taken : (i : ℕ) (lists : List (List Entry)) → length order ≤ i → IsTakenTo i lists
      → (n : ℕ) → acted_at n (map moment_in order) ++ list_at lists n ≡ list_at (map history_of ks) n
  all_taken i lists l h n =
      subst (λ ys. acted_at n (map moment_in ys) ++ list_at lists n ≡ list_at (map history_of ks) n) (take_all i order l) (h n)

  pub walk_left : (i : ℕ) (lists : List (List Entry)) (n : ℕ) (x : Entry) (rest : List Entry) → length order ≤ i → StandInOrder 0 ks
      → IsTakenTo i lists → list_at lists n ≡ x ∷ rest → IsApartFrom ks (map moment_in order) x
  walk_left i lists n x rest l s h q = left_apart ks (map moment_in order) lists s (all_taken i lists l h) n x rest q

  pub walk_done : (i : ℕ) (ls : List (Bor (List Entry))) → length order ≤ i → IsTakenTo i (lent ls) → All (λ h. h.now ≡ []) ls
      → IsWalked ks (map moment_in order)
  walk_done i ls l h a n =
      sym (append-nil (acted_at n (map moment_in order)))
      ∙ ap (λ es. acted_at n (map moment_in order) ++ es) (sym (all_empty ls a n)) ∙ all_taken i (lent ls) l h n
