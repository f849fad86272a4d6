-- from one moment an op can do but one thing, where its actor's room is told and memory is found
use Rattle.std.proofs.Common.{◌≡◌, ◌≤◌, ◌+◌, ℕ, true, false, inl, inr, ◌⊎◌, Option, Some, None, List, [], ◌∷◌, ◌++◌, refl, sym, ap}
use Rattle.std.proofs.Common.{subst, ◌∙◌, arith}
use Rattle.tect_ids.specs.declared.ids.OpId.{OpId}
use Rattle.tect_ids.specs.declared.answer.Answer.{Answer}
use Rattle.tect_ids.specs.declared.answer.Answer.TheVariants as answers
use Rattle.tect_ids.specs.declared.command.Command.{Command}
use Rattle.store_rules.specs.declared.any.AnyReq.{AnyReq}
use Rattle.store_rules.specs.declared.any.AnyReply.{AnyReply}
use Rattle.store_rules.specs.Store.{store_reply}
use Rattle.store_rules.specs.Places.{request_place}
use Rattle.program_forms.specs.declared.heard.Heard.TheVariants.{Whole, Unkept, Left}
use Rattle.program_forms.specs.Kinds.{Does, Asks, Says, Programs}
use Rattle.world_runs.specs.declared.event.Event.{Event}
use Rattle.world_runs.specs.declared.event.Event.TheVariants.{Own, Dumped}
use Rattle.world_runs.specs.declared.event.Happening.{Happening}
use Rattle.world_runs.specs.declared.event.Happening.TheVariants.{Began, NotBegun, Acted, Ended, Stopped, Failed}
use Rattle.world_runs.specs.Actors.{CanBegin, asked_in, answer_in}
use Rattle.world_runs.specs.Moments.{WorldState, after, after_all, does}
use Rattle.world_runs.specs.Limits.{IsFull, IsFullForBegin}
use Rattle.world_runs.specs.Follows.{IsAct, IsEnd, Acts, IsActOf, IsEndOf, IsBeginOf, EndsAfter, tries}
use Rattle.script_runs.specs.InTime.{only_ends}
use Rattle.script_runs.proofs.Histories.{act_no_end}
use Rattle.script_runs.proofs.Fine.{IsFine, AreFine}

asks_does : (o : Option (Does Answer)) (q : AnyReq) → asked_in o ≡ Some q → o ≡ Some (Asks q)
asks_does None q e = absurd (let k : None ≡ Some q = e in cc)
asks_does (Some (Asks p)) q e = let k : Some p ≡ Some q = e in let same : p ≡ q = cc in ap (λ z. Some (Asks z)) same
asks_does (Some (Says a)) q e = absurd (let k : None ≡ Some q = e in cc)

says_does : (o : Option (Does Answer)) (a : Answer) → answer_in o ≡ Some a → o ≡ Some (Says a)
says_does None a e = absurd (let k : None ≡ Some a = e in cc)
says_does (Some (Asks q)) a e = absurd (let k : None ≡ Some a = e in cc)
says_does (Some (Says b)) a e = let k : Some b ≡ Some a = e in let same : b ≡ a = cc in ap (λ z. Some (Says z)) same

module _ {S : Type 0} (P : Programs S) where
  module _ (before : List Event) (m : WorldState S) where
    -- ---- what an op does next

    -- The event is what the op's command does next: its end with its answer; its transaction, where its actor has room; or else its
    -- end for want of room.
    abbrev IsBy : OpId → Does Answer → Event → Type 0
    IsBy op (Says a) e = e ≡ Own op (Ended a)
    IsBy op (Asks q) e =
        ((¬ IsFull before op.actor) × (e ≡ Own op (Acted q (store_reply m.store q) Whole)))
        ⊎ (IsFull before op.actor × (e ≡ Own op (Failed (answers.HistoryFull (request_place m.counts q)))))

    record IsNext (op : OpId) (e : Event) : Type 0 where
      next : Does Answer
      is : does P m op ≡ Some next
      by : IsBy op next e

    failed_next : (op : OpId) (a : Answer) → IsFine P before m (Own op (Failed a)) → IsNext op (Own op (Failed a))
    failed_next op (answers.HistoryFull p) f =
        let q : AnyReq = ((f.room).1).0 in
        record {
          next = Asks q;
          is = asks_does (does P m op) q ((f.room).1).1;
          by = inr ((f.room).0, ap (λ z. Own op (Failed (answers.HistoryFull z))) ((f.room).1).2);
        }
    failed_next op answers.NoMemory f = absurd f.memory
    failed_next op _ f = absurd ((f.may).0).0

    own_next : (op : OpId) (h : Happening) → IsAct h ⊎ IsEnd h → IsFine P before m (Own op h) → IsNext op (Own op h)
    own_next op (Acted q x Whole) k f = record {
      next = Asks q;
      is = asks_does (does P m op) q (f.may).0;
      by = inl (f.room, ap (λ (z : AnyReply). Own op (Acted q z Whole)) (f.may).1);
    }
    own_next op (Acted q x Unkept) k f = absurd f.memory
    own_next op (Acted q x Left) k f = absurd f.memory
    own_next op (Ended a) k f = record { next = Says a; is = says_does (does P m op) a (f.may).0; by = refl }
    own_next op (Failed a) k f = failed_next op a f
    own_next op (Began c) k f = absurd (elim k [ inl i ↦ i | inr i ↦ i ])
    own_next op (NotBegun c) k f = absurd (elim k [ inl i ↦ i | inr i ↦ i ])
    own_next op Stopped k f = absurd (elim k [ inl i ↦ i | inr i ↦ i ])

    next_is : (op : OpId) (e : Event) → IsActOf op e ⊎ IsEndOf op e → IsFine P before m e → IsNext op e
    next_is op (Own o h) (inl is) f = subst (λ (z : OpId). IsNext z (Own o h)) is.0 (own_next o h (inl is.1) f)
    next_is op (Own o h) (inr is) f = subst (λ (z : OpId). IsNext z (Own o h)) is.0 (own_next o h (inr is.1) f)
    next_is op Dumped (inl is) f = absurd is
    next_is op Dumped (inr is) f = absurd is

    by_same : (op : OpId) (d : Does Answer) (x y : Event) → IsBy op d x → IsBy op d y → x ≡ y
    by_same op (Says a) x y one other = one ∙ sym other
    by_same op (Asks q) x y (inl one) (inl other) = one.1 ∙ sym other.1
    by_same op (Asks q) x y (inl one) (inr other) = absurd (one.0 other.0)
    by_same op (Asks q) x y (inr one) (inl other) = absurd (other.0 one.0)
    by_same op (Asks q) x y (inr one) (inr other) = one.1 ∙ sym other.1

    -- two transactions or ends of it are the same
    pub event_same : (op : OpId) (x y : Event) → IsActOf op x ⊎ IsEndOf op x → IsActOf op y ⊎ IsEndOf op y → IsFine P before m x
        → IsFine P before m y → x ≡ y
    event_same op x y one other f g =
        let first : IsNext op x = next_is op x one f in
        let second : IsNext op y = next_is op y other g in
        let k : Some first.next ≡ Some second.next = sym first.is ∙ second.is in
        let same : first.next ≡ second.next = cc in
        by_same op second.next x y (subst (λ (d : Does Answer). IsBy op d x) same first.by) second.by

    -- so it is never both
    act_or_end : (op : OpId) (x y : Event) → IsActOf op x → IsEndOf op y → IsFine P before m x → IsFine P before m y → ⊥
    act_or_end op x y act end f g =
        act_no_end op op y (subst (λ (z : Event). IsActOf op z) (event_same op x y (inl act) (inr end) f g) act) end

    -- ---- how an actor begins

    module _ (a : ℕ) (c : Command) where
      abbrev first_op : OpId
      first_op = record { actor = a; number = (m.actors a).number + 1 }

      is_first : (op : OpId) → CanBegin (m.actors op.actor) op → op.actor ≡ a → op ≡ first_op
      is_first op can own =
          let number : op.number ≡ (m.actors a).number + 1 = rw own at can.next in λ i. record { actor = own i; number = number i }

      -- its next op begins the command where it has room, and else is refused
      record BeginsBy (op : OpId) (x : Event) : Type 0 where
        op_is : op ≡ first_op
        by : ((¬ IsFullForBegin before a) × (x ≡ Own first_op (Began c))) ⊎ (IsFullForBegin before a × (x ≡ Own first_op (NotBegun c)))

      begins_by : (op : OpId) (x : Event) → op.actor ≡ a → IsBeginOf op c x → IsFine P before m x → BeginsBy op x
      begins_by op (Own o (Began d)) own is f =
          let its : o.actor ≡ a = ap (λ (z : OpId). z.actor) is.0 ∙ own in
          let first : o ≡ first_op = is_first o ((f.may).0).0 its in
          record {
            op_is = sym is.0 ∙ first;
            by = inl (subst (λ (i : ℕ). ¬ IsFullForBegin before i) its f.room, λ i. Own (first i) (Began (is.1 i)));
          }
      begins_by op (Own o (NotBegun d)) own is f =
          let its : o.actor ≡ a = ap (λ (z : OpId). z.actor) is.0 ∙ own in
          let first : o ≡ first_op = is_first o ((f.may).0).0 its in
          record {
            op_is = sym is.0 ∙ first;
            by = inr (subst (λ (i : ℕ). IsFullForBegin before i) its f.room, λ i. Own (first i) (NotBegun (is.1 i)));
          }
      begins_by op (Own o (Acted q x h)) own is f = absurd is.1
      begins_by op (Own o (Ended b)) own is f = absurd is.1
      begins_by op (Own o Stopped) own is f = absurd is.1
      begins_by op (Own o (Failed b)) own is f = absurd is.1
      begins_by op Dumped own is f = absurd is

      pub begins_same : (op o : OpId) (x y : Event) → op.actor ≡ a → o.actor ≡ a → IsBeginOf op c x → IsBeginOf o c y
          → IsFine P before m x → IsFine P before m y → (op ≡ o) × (x ≡ y)
      begins_same op o x y own its one other f g =
          let first : BeginsBy op x = begins_by op x own one f in
          let second : BeginsBy o y = begins_by o y its other g in
          let ops : op ≡ o = first.op_is ∙ sym second.op_is in
          elim first.by [
            | inl k ↦ elim second.by [ inl l ↦ (ops, k.1 ∙ sym l.1) | inr l ↦ absurd (k.0 l.0) ]
            | inr k ↦ elim second.by [ inl l ↦ absurd (l.0 k.0) | inr l ↦ (ops, k.1 ∙ sym l.1) ]
          ]

  -- ---- transactions and the end

  -- what is fine behind an event is so behind the same event
  pub fine_behind : (before : List Event) (m : WorldState S) (x y : Event) (es : List Event) → x ≡ y
      → AreFine P (before ++ y ∷ []) (after P m y) es → AreFine P (before ++ x ∷ []) (after P m x) es
  fine_behind before m x y es same fine = subst (λ (z : Event). AreFine P (before ++ z ∷ []) (after P m z) es) (sym same) fine

  module _ (op : OpId) where
    ends_alike : (before : List Event) (m : WorldState S) (n k : ℕ) (ds es : List Event) (x y : Event) → Acts op n ds → Acts op k es
        → IsEndOf op x → IsEndOf op y → AreFine P before m (ds ++ x ∷ []) → AreFine P before m (es ++ y ∷ []) → ds ++ x ∷ [] ≡ es ++ y ∷ []
    ends_alike before m n k [] [] x y one other end last f g =
        ap (λ (z : Event). z ∷ []) (event_same before m op x y (inr end) (inr last) f.0 g.0)
    ends_alike before m n k (d ∷ ds) (e ∷ es) x y one other end last f g =
        let same : d ≡ e = event_same before m op d e (inl one.0) (inl other.0) f.0 g.0 in
        let rest : ds ++ x ∷ [] ≡ es ++ y ∷ [] =
        ends_alike (before ++ d ∷ []) (after P m d) (one.1).0 (other.1).0 ds es x y (one.1).2 (other.1).2 end last f.1
        (fine_behind before m d e (es ++ y ∷ []) same g.1) in
        λ i. same i ∷ rest i
    ends_alike before m n k [] (e ∷ es) x y one other end last f g = absurd (act_or_end before m op e x other.0 end g.0 f.0)
    ends_alike before m n k (d ∷ ds) [] x y one other end last f g = absurd (act_or_end before m op d y one.0 last f.0 g.0)

    pub ends_same : (before : List Event) (m : WorldState S) (n k : ℕ) (ds es : List Event) → EndsAfter op n ds → EndsAfter op k es
        → AreFine P before m ds → AreFine P before m es → ds ≡ es
    ends_same before m n k ds es one other f g =
        one.2 ∙ ends_alike before m n k one.0 other.0 one.1 other.1 one.3 other.3 one.4 other.4 (rw one.2 at f) (rw other.2 at g)
        ∙ sym other.2

    -- so many transactions
    pub acts_same : (before : List Event) (m : WorldState S) (n : ℕ) (ds es : List Event) → Acts op n ds → Acts op n es
        → AreFine P before m ds → AreFine P before m es → ds ≡ es
    acts_same before m n [] [] one other f g = refl
    acts_same before m n (d ∷ ds) (e ∷ es) one other f g =
        let same : d ≡ e = event_same before m op d e (inl one.0) (inl other.0) f.0 g.0 in
        let counts : (other.1).0 ≡ (one.1).0 = omega (arith, (one.1).1, (other.1).1) in
        let rest : ds ≡ es =
        acts_same (before ++ d ∷ []) (after P m d) (one.1).0 ds es (one.1).2 (subst (λ (i : ℕ). Acts op i es) counts (other.1).2) f.1
        (fine_behind before m d e es same g.1) in
        λ i. same i ∷ rest i
    acts_same before m n [] (e ∷ es) one other f g = absurd (omega (arith, one, (other.1).1))
    acts_same before m n (d ∷ ds) [] one other f g = absurd (omega (arith, other, (one.1).1))

    -- an op that can do so many transactions, and has more to do then than to end, does not come to its end in time before
    pub acts_not_ends : (before : List Event) (m : WorldState S) (n k : ℕ) (ds es : List Event) (y : Event) → Acts op n ds → Acts op k es
        → IsEndOf op y → AreFine P before m ds → AreFine P before m (es ++ y ∷ []) → k + tries y ≤ n
        → only_ends P (after_all P m ds) op ≡ false → (k ≡ n → only_ends P (after_all P m es) op ≡ true) → ⊥
    acts_not_ends before m n k [] [] y one other last f g few on in_time =
        let z : true ≡ false = sym (in_time (omega (arith, one, other))) ∙ on in cc
    acts_not_ends before m n k [] (e ∷ es) y one other last f g few on in_time = omega (arith, one, few, (other.1).1)
    acts_not_ends before m n k (d ∷ ds) [] y one other last f g few on in_time = act_or_end before m op d y one.0 last f.0 g.0
    acts_not_ends before m n k (d ∷ ds) (e ∷ es) y one other last f g few on in_time =
        let same : d ≡ e = event_same before m op d e (inl one.0) (inl other.0) f.0 g.0 in
        let later : (other.1).0 + tries y ≤ (one.1).0 = omega (arith, few, (one.1).1, (other.1).1) in
        acts_not_ends (before ++ d ∷ []) (after P m d) (one.1).0 (other.1).0 ds es y (one.1).2 (other.1).2 last f.1
        (fine_behind before m d e (es ++ y ∷ []) same g.1) later on
        (λ all. subst (λ (z : Event). only_ends P (after_all P (after P m z) es) op ≡ true) (sym same)
        (in_time (omega (arith, all, (one.1).1, (other.1).1))))
