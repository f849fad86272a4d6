-- lines that are followed by an end and further events are followed by those without the end
use Rattle.std.proofs.Common.{◌≡◌, ◌≢◌, ℕ, inl, inr, Option, Some, None, List, [], ◌∷◌, ◌++◌, refl, sym, ap}
use Rattle.std.proofs.Common.{subst, ◌∙◌, arith}
use Rattle.tect_ids.specs.declared.ids.OpId.{OpId}
use Rattle.tect_ids.specs.declared.script.Act.{Act}
use Rattle.tect_ids.specs.declared.script.Act.TheVariants as acts
use Rattle.tect_ids.specs.declared.script.Line.{Line}
use Rattle.tect_ids.specs.declared.script.Line.TheVariants as lines
use Rattle.tect_ids.proofs.KeyTests.{num_eq_cases}
use Rattle.program_forms.specs.Kinds.{Programs}
use Rattle.world_runs.specs.declared.event.Event.{Event}
use Rattle.world_runs.specs.declared.event.Event.TheVariants.{Own, Dumped}
use Rattle.world_runs.specs.declared.event.Happening.TheVariants.{Stopped}
use Rattle.world_runs.specs.Actors.{Actor, running_op}
use Rattle.world_runs.specs.Moments.{WorldState, after, after_all}
use Rattle.world_runs.specs.Follows.{Acts, IsEndOf, EndsAfter, DoesLine}
use Rattle.whole_runs.specs.Standing.{busy_at}
use Rattle.world_runs.specs.Smooth.{StepsOn, AllStepOn}
use Rattle.script_runs.specs.InTime.{DoesInTime, FollowsInTime}
use Rattle.script_runs.proofs.Histories.{act_no_end, end_no_begin, end_of_one}
use Rattle.script_runs.proofs.Running.{AllWell}
use Rattle.script_runs.proofs.Moves.{Keeps, end_moves}
use Rattle.script_runs.proofs.Lines.{busy_is}
use Rattle.script_runs.proofs.InTime.{in_time_after}

-- ---- an end that comes first

-- what comes to an end, where an end comes first, is that end alone
record IsAlone (o : OpId) (e : Event) (rest part later : List Event) : Type 0 where
  end : IsEndOf o e
  only : part ≡ e ∷ []
  alone : rest ≡ later

end_alone : (op o : OpId) (n : ℕ) (e : Event) (rest part later front : List Event) (last : Event) → IsEndOf op e → e ∷ rest ≡ part ++ later
    → part ≡ front ++ last ∷ [] → Acts o n front → IsEndOf o last
    → IsAlone o e rest part later
end_alone op o n e rest part later [] last end parts is acts lasts =
    let whole : e ∷ rest ≡ last ∷ later = parts ∙ ap (λ l. l ++ later) is in
    let same : e ≡ last = cc in
    let tails : rest ≡ later = cc in
    record {
      end = subst (λ (z : Event). IsEndOf o z) (sym same) lasts;
      only = is ∙ ap (λ (z : Event). z ∷ []) (sym same);
      alone = tails;
    }
end_alone op o n e rest part later (d ∷ ds) last end parts is acts lasts =
    let whole : e ∷ rest ≡ d ∷ ((ds ++ last ∷ []) ++ later) = parts ∙ ap (λ l. l ++ later) is in
    let same : e ≡ d = cc in
    absurd (act_no_end o op d acts.0 (subst (λ (z : Event). IsEndOf op z) same end))

ends_alone : (op o : OpId) (n : ℕ) (e : Event) (rest part later : List Event) → IsEndOf op e → e ∷ rest ≡ part ++ later
    → EndsAfter o n part → IsAlone o e rest part later
ends_alone op o n e rest part later end parts ends = end_alone op o n e rest part later ends.0 ends.1 end parts ends.2 ends.3 ends.4

-- another event does not come first then
not_first : (op : OpId) (e d : Event) (rest part later ds : List Event) → IsEndOf op e → e ∷ rest ≡ part ++ later → part ≡ d ∷ ds
    → IsEndOf op d
not_first op e d rest part later ds end parts is =
    let whole : e ∷ rest ≡ d ∷ (ds ++ later) = parts ∙ ap (λ l. l ++ later) is in
    let same : e ≡ d = cc in
    subst (λ (z : Event). IsEndOf op z) same end

-- where it comes first, no transaction does
acts_none : (op o : OpId) (n : ℕ) (e : Event) (rest part later : List Event) → IsEndOf op e → e ∷ rest ≡ part ++ later → Acts o n part
    → part ≡ []
acts_none op o n e rest [] later end parts acts = refl
acts_none op o n e rest (d ∷ ds) later end parts acts =
    absurd (act_no_end o op d acts.0 (not_first op e d rest (d ∷ ds) later ds end parts refl))

module _ {S : Type 0} (P : Programs S) where
  -- ---- an end that comes before its line

  module _ (n : WorldState S) (s : AllWell n) (a : ℕ) (op : OpId) (is : busy_at n a ≡ Some op) (e : Event) (end : IsEndOf op e) where
    -- the moment after it
    abbrev k : WorldState S
    k = after P n e

    idles : Keeps n k a None
    idles = subst (λ (i : ℕ). Keeps n k i None) (busy_is n s a op is).own (end_moves P n op e end)

    -- its own actor's line is over by it
    record IsOver (act : Act) (rest part later : List Event) : Type 0 where
      only : part ≡ e ∷ []
      alone : rest ≡ later
      does : DoesLine a None act [] None

    own_over : (act : Act) (part later rest : List Event) (next : Option OpId) → StepsOn (lines.Client [] a act) → e ∷ rest ≡ part ++ later
        → DoesInTime P n a (Some op) act part next → IsOver act rest part later
    own_over (acts.Do c) part later rest next some parts does = absurd does
    own_over (acts.Begin c) part later rest next some parts does = absurd does
    own_over (acts.Step i) part later rest next some parts (inl d) =
        let none : part ≡ [] = acts_none op op i e rest part later end parts d.0 in
        let zero_steps : i ≡ 0 = subst (λ (l : List Event). Acts op i l) none d.0 in
        absurd (omega (arith, some, zero_steps))
    own_over (acts.Step i) part later rest next some parts (inr d) =
        let t : (j : ℕ) × EndsAfter op j part = in_time_after P n op i part d.0 in
        let l : IsAlone op e rest part later = ends_alone op op t.0 e rest part later end parts t.1 in
        record { only = l.only; alone = l.alone; does = (refl, refl) }
    own_over acts.Run part later rest next some parts d =
        let l : IsAlone op e rest part later = ends_alone op op (d.0).0 e rest part later end parts (d.0).1 in
        record { only = l.only; alone = l.alone; does = (refl, refl) }
    own_over acts.Stop part later rest next some parts d = absurd (not_first op e (Own op Stopped) rest part later [] end parts d.0).1

    -- the end is of no other actor's op
    not_others : (c : ℕ) (o : OpId) → c ≢ a → o.actor ≡ c → IsEndOf o e → ⊥
    not_others c o apart own ends =
        let same : o ≡ op = end_of_one op o e end ends in
        apart (sym own ∙ ap (λ (z : OpId). z.actor) same ∙ (busy_is n s a op is).own)

    -- another actor's line does nothing then, nor would it later
    abbrev DoesNothing : ℕ → Option OpId → Act → List Event → Option OpId → Type 0
    DoesNothing c busy act part next = (part ≡ []) × ((q : WorldState S) → DoesInTime P q c busy act [] next)

    none_does : (c : ℕ) (act : Act) (part : List Event) (next : Option OpId) → part ≡ [] → DoesLine c None act part next
        → DoesNothing c None act part next
    none_does c act part next none d = (none, λ q. subst (λ (l : List Event). DoesLine c None act l next) none d)

    other_none : (c : ℕ) (busy : Option OpId) (act : Act) (part later rest : List Event) (next : Option OpId) → c ≢ a
        → ((o : OpId) → busy ≡ Some o → o.actor ≡ c) → e ∷ rest ≡ part ++ later
        → DoesInTime P n c busy act part next → DoesNothing c busy act part next
    other_none c None (acts.Do x) part later rest next apart own parts d = absurd
        (end_no_begin op (d.0).0 x (d.0).1 (not_first op e (d.0).1 rest part later (d.0).2 end parts (d.0).4) (d.0).5)
    other_none c None (acts.Begin x) part later rest next apart own parts d = absurd
        (end_no_begin op d.0 x d.1 (not_first op e d.1 rest part later [] end parts d.3) d.4)
    other_none c None (acts.Step i) part later rest next apart own parts d = none_does c (acts.Step i) part next d.0 d
    other_none c None acts.Run part later rest next apart own parts d = none_does c acts.Run part next d.0 d
    other_none c None acts.Stop part later rest next apart own parts d = none_does c acts.Stop part next d.0 d
    other_none c (Some o) (acts.Do x) part later rest next apart own parts d = absurd d
    other_none c (Some o) (acts.Begin x) part later rest next apart own parts d = absurd d
    other_none c (Some o) (acts.Step i) part later rest next apart own parts (inl d) =
        let none : part ≡ [] = acts_none op o i e rest part later end parts d.0 in
        (none, λ q. inl (subst (λ (l : List Event). Acts o i l) none d.0, d.1))
    other_none c (Some o) (acts.Step i) part later rest next apart own parts (inr d) =
        let t : (j : ℕ) × EndsAfter o j part = in_time_after P n o i part d.0 in
        absurd (not_others c o apart (own o refl) (ends_alone op o t.0 e rest part later end parts t.1).end)
    other_none c (Some o) acts.Run part later rest next apart own parts d = absurd
        (not_others c o apart (own o refl) (ends_alone op o (d.0).0 e rest part later end parts (d.0).1).end)
    other_none c (Some o) acts.Stop part later rest next apart own parts d = absurd
        (not_first op e (Own o Stopped) rest part later [] end parts d.0).1

    -- without the end the lines are followed too, from the moment after it
    abbrev WithoutEnd : List Line → Type 0
    WithoutEnd ls = (rest : List Event) → FollowsInTime P n ls (e ∷ rest) → FollowsInTime P k ls rest

    own_without : (client : List ℕ) (act : Act) (ls : List Line) (part later rest : List Event) (next : Option OpId)
        → StepsOn (lines.Client client a act) → e ∷ rest ≡ part ++ later
        → DoesInTime P n a (busy_at n a) act part next → FollowsInTime P (after_all P n part) ls later
        → FollowsInTime P k (lines.Client client a act ∷ ls) rest
    own_without client act ls part later rest next some parts does more =
        let over : IsOver act rest part later = own_over act part later rest next some parts (rw is at does) in
        let there : FollowsInTime P k ls later = subst (λ (l : List Event). FollowsInTime P (after_all P n l) ls later) over.only more in (
          [],
          rest,
          None,
          refl,
          subst (λ (o : Option OpId). DoesInTime P k a o act [] None) (sym idles.busy) over.does,
          subst (λ (l : List Event). FollowsInTime P k ls l) (sym over.alone) there,
        )

    own_so : (c : ℕ) (act : Act) (ls : List Line) (client : List ℕ) → c ≡ a → StepsOn (lines.Client client c act) → (rest : List Event)
        → FollowsInTime P n (lines.Client client c act ∷ ls) (e ∷ rest) → FollowsInTime P k (lines.Client client c act ∷ ls) rest
    own_so c act ls client same some rest f =
        subst (λ (z : ℕ). StepsOn (lines.Client client z act) → FollowsInTime P n (lines.Client client z act ∷ ls) (e ∷ rest)
        → FollowsInTime P k (lines.Client client z act ∷ ls) rest) (sym same)
        (λ some_here here. own_without client act ls here.0 here.1 rest here.2 some_here here.3 here.4 here.5) some f

    other_without : (client : List ℕ) (c : ℕ) (act : Act) (ls : List Line) (part later rest : List Event) (next : Option OpId) → c ≢ a
        → WithoutEnd ls → e ∷ rest ≡ part ++ later
        → DoesInTime P n c (busy_at n c) act part next → FollowsInTime P (after_all P n part) ls later
        → FollowsInTime P k (lines.Client client c act ∷ ls) rest
    other_without client c act ls part later rest next apart others parts does more =
        let none : DoesNothing c (busy_at n c) act part next =
        other_none c (busy_at n c) act part later rest next apart (λ o at. (busy_is n s c o at).own) parts does in
        let all : later ≡ e ∷ rest = sym (parts ∙ ap (λ l. l ++ later) none.0) in
        let there : FollowsInTime P n ls later = subst (λ (l : List Event). FollowsInTime P (after_all P n l) ls later) none.0 more in
        let here : FollowsInTime P n ls (e ∷ rest) = subst (λ (l : List Event). FollowsInTime P n ls l) all there in
        let still : busy_at n c ≡ busy_at k c = ap (λ (st : Actor S). running_op st.running) (sym (idles.others c apart)) in
        ([], rest, next, refl, subst (λ (o : Option OpId). DoesInTime P k c o act [] next) still (none.1 k), others rest here)

    pub without_end : (ls : List Line) → AllStepOn ls → WithoutEnd ls
    without_end [] some rest f = absurd (let z : e ∷ rest ≡ [] = f in cc)
    without_end (lines.Client client c act ∷ ls) some rest f =
        elim (num_eq_cases c a) [
          | inl same ↦ own_so c act ls client same.1 some.0 rest f
          | inr differs ↦ other_without client c act ls f.0 f.1 rest f.2 differs.1 (without_end ls some.1) f.3 f.4 f.5
        ]
    without_end (lines.Dump ∷ ls) some rest f =
        let same : e ≡ Dumped = (let z : e ∷ rest ≡ Dumped ∷ f.0 = f.1 in cc) in absurd (subst (λ (z : Event). IsEndOf op z) same end)
    without_end (lines.Store counts ∷ ls) some rest f = absurd f
    without_end (lines.Sweep ∷ ls) some rest f = absurd f
    without_end (lines.Lose disk ∷ ls) some rest f = absurd f
