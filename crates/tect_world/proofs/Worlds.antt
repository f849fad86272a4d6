-- the world after the code of each call
use Rattle.std.proofs.Common.{◌≡◌, ℕ, ◌+◌, ◌-◌, ◌<◌, ◌≤◌, ◌^◌, ◌⊎◌, inl, inr, Bool, true, false, eqb, if◌then◌else◌, Option, None}
use Rattle.std.proofs.Common.{List, [], ◌∷◌, ◌++◌, length, get_or, set, refl, sym, ap, ◌∙◌, subst, append_assoc, arith, length-append}
use Rattle.std.specs.Prelude.{IsSome, OnOk, OnErr, MatchResult, Result, Ok, Err, vec_len, vec_capacity}
use Rattle.std.proofs.lemmas.List.{append-nil, length-set}
use Rattle.std.proofs.lemmas.List.Sums.{count_by-le-length}
use Rattle.tect_ids.specs.declared.ids.Counts.{Counts}
use Rattle.tect_ids.specs.declared.ids.OpId.{OpId}
use Rattle.tect_ids.specs.declared.answer.Answer.{Answer}
use Rattle.tect_ids.specs.declared.command.Command.{Command}
use Rattle.program_forms.specs.Kinds.{Programs}
use Rattle.entry_words.specs.declared.entry.Moment.{Moment}
use Rattle.entry_words.specs.declared.entry.Moment.TheVariants.{Local}
use Rattle.entry_words.specs.declared.entry.Note.TheVariants as notes
use Rattle.entry_words.specs.Moments.{rises, running_in}
use Rattle.passes.proofs.Pushes.{rises-raised}
use Rattle.world_runs.specs.declared.event.Event.{Event}
use Rattle.world_runs.specs.declared.event.Event.TheVariants.{Own}
use Rattle.world_runs.specs.declared.event.Happening.TheVariants.{Began, NotBegun, Stopped}
use Rattle.world_runs.specs.Actors.{Actor, idle_actor, program_of, has_ended}
use Rattle.world_runs.specs.Moments.{opening}
use Rattle.world_runs.specs.Report.{transactions}
use Rattle.world_runs.specs.Events.{events_of}
use Rattle.world_runs.specs.OwnRuns.{own_state, RepliesAre, stored_after}
use Rattle.world_runs.proofs.Actors.{own_state-append}
use Rattle.whole_runs.proofs.Owns.{counts_stay}
use Rattle.whole_runs.proofs.OwnLines.{transactions_own}
use Rattle.store_shards.proofs.Rows.{any_default}
use Rattle.program_calls.specs.declared.turned.Turned.{Turned}
use Rattle.clients.specs.Lives.{ClientLife, IsLife, events_in, state_in, op_in, next_op_in, idle_life, begun_life, refused_life}
use Rattle.clients.specs.Refused.{RunsIn, IsRefused}
use Rattle.clients.specs.Steps.{Tried, Unasked, Did, Denied, EndsSo, state_after, ended_life, tried_life, tried_events}
use Rattle.clients.specs.Steps.{end_events}
use Rattle.kept_shards.specs.KeptStore.{KeptStore, clock_at}
use Rattle.world_lives.specs.declared.marks.Mark.{Mark}
use Rattle.world_lives.specs.declared.marks.Mark.TheVariants as marks
use Rattle.tect_world.specs.declared.world.World.TheInside.{Inside}
use Rattle.tect_world.specs.Clients.{client_at, raised, going, is_going, IsClientOf}
use Rattle.tect_world.specs.ClientSteps.{StepsOnce, BeginsOnce, StopsOnce, StaysSo, marks_for, stepped_events}
use Rattle.tect_world.specs.Inside.{life_of, noted_in, IsWorld}
use Rattle.world_lives.specs.Life.{present, grown, last_op, next_op}
use Rattle.world_lives.specs.Steps.{HasBegun, Stepped}
use Rattle.tect_world.proofs.Lives.{Grows, grows, stays, at_own, world_owns, world_state}
use Rattle.tect_world.proofs.Marking.{told_all, marked_all, step_few, marks_length}
use Rattle.tect_world.proofs.OneStep.{same_actor, same_counts, clock_rises, clock_early, step_replies, next_is, places_then}
use Rattle.tect_world.proofs.Outcomes.{goes_as, step_ends}
use Rattle.tect_world.proofs.Notings.{rises_one, rises_none}
use Rattle.tect_world.proofs.Rooms.{one_less}
use Rattle.tect_world.proofs.StepMoments.{step_moments, step_noted, step_fewer, step_fresh, noted_all, step_rises}
use Rattle.tect_world.proofs.Stopping.{noted_event, none_silent, IsStop, stop_by, stopped_goes}

-- the state after a step that did not end the command
after_try : {S : Type 0} (P : Programs S) (c : Counts) (l s : ClientLife) (op : OpId) (t : Tried) → l.counts ≡ c → s.counts ≡ c
    → events_in s ≡ events_in l ++ (tried_events op t ++ []) → state_in P s ≡ state_after P c (state_in P l) t
after_try P c l s op t before after events =
    ap (λ (k : Counts). own_state P k idle_actor (events_in s)) after
    ∙ ap (own_state P c idle_actor) events
    ∙ own_state-append P c idle_actor (events_in l) (tried_events op t ++ [])
    ∙ ap (λ (k : Counts). own_state P c (own_state P k idle_actor (events_in l)) (tried_events op t ++ [])) (sym before)
    ∙ by_try t
  where
    by_try : (t : Tried) → own_state P c (state_in P l) (tried_events op t ++ []) ≡ state_after P c (state_in P l) t
    by_try Unasked = refl
    by_try (Did q y h) = refl
    by_try (Denied q e) = refl

module _ {S : Type 0} (P : Programs S) (old : Inside S) (a : ℕ) (before : ClientLife) (is : IsWorld P old) (low : 1 ≤ a) (high : a ≤ 65)
    (at : before ≡ get_or old.clients.items (a - 1) before) where
  abbrev c : Counts
  c = old.shards.counts

  same_client : before ≡ client_at c old.clients.items a
  same_client = at ∙ any_default old.clients.items (a - 1) before (idle_life 0 c) (omega (arith, is.number, low, high))

  pub mine : IsClientOf P c old.clock a before
  mine = subst (IsClientOf P c old.clock a) (sym same_client) (is.each a low high)

  pub own_state_is : (present P (life_of old)).actors a ≡ state_in P before
  own_state_is = world_state P old is a low high ∙ ap (state_in P) (sym same_client)

  -- what is so of the actor is so of the client, and the other way
  pub to_client : (Q : Actor S → Type 0) → Q ((present P (life_of old)).actors a) → Q (state_in P before)
  to_client Q = subst Q own_state_is

  pub from_client : (Q : Actor S → Type 0) → Q (state_in P before) → Q ((present P (life_of old)).actors a)
  from_client Q = subst Q (sym own_state_is)

  pub own_op : op_in P before ≡ last_op (present P (life_of old)) a
  own_op i = record { actor = mine.actor i; number = ap (λ (x : Actor S). x.number) (sym own_state_is) i }

  pub own_next : next_op_in P before ≡ next_op (present P (life_of old)) a
  own_next i = record { actor = mine.actor i; number = ap (λ (x : Actor S). x.number + 1) (sym own_state_is) i }

  pub own_count : transactions (events_in before) (op_in P before) ≡ transactions (life_of old).history (last_op (present P (life_of old)) a)
  own_count =
      ap (transactions (events_in before)) own_op
      ∙ ap (λ (es : List Event). transactions es (last_op (present P (life_of old)) a))
      (ap events_in same_client ∙ sym (world_owns P old is a low high))
      ∙ transactions_own (life_of old).history (last_op (present P (life_of old)) a)

  abbrev r : ClientLife
  r = raised before old.clock

  clock_is : r.clock ≡ old.clock
  clock_is = omega (arith, mine.early)

  rising_now : rises 0 r.clock (noted_in old) ≡ true
  rising_now = rises-raised 0 old.clock r.clock (noted_in old) is.rising (omega (arith, clock_is))

  -- of the client as the world has it
  same_fresh : (kept : List Moment) → (kept ≡ []) ⊎ (before.silent ≡ []) → (kept ≡ []) ⊎ ((client_at c old.clients.items a).silent ≡ [])
  same_fresh kept (inl none) = inl none
  same_fresh kept (inr none) = inr (ap (λ (l : ClientLife). l.silent) (sym same_client) ∙ none)

  -- where its command goes on, there is room for a mark
  pub room_to_stop : IsSome (state_in P before).running → vec_len old.order < vec_capacity old.order
  room_to_stop running =
      let counted = one_less (is_going P) old.clients.items (a - 1) (idle_life 0 c) (idle_life 0 c) (omega (arith, is.number, low, high))
      (ap (is_going P) (sym same_client) ∙ running) refl in
      omega (arith, counted, is.room)

  module _ (new : Inside S) (s : ClientLife) (os : List Mark) (order : os ≡ old.order.items) (short : length os < 2 ^ 61)
      (items : new.clients.items ≡ set old.clients.items (a - 1) s) (life : IsLife P s) where
    few_now : going P new.clients.items ≤ 65
    few_now =
        let few = count_by-le-length (is_going P) new.clients.items in
        let same : length new.clients.items ≡ 65 = ap length items ∙ length-set old.clients.items (a - 1) s ∙ is.number in
        omega (arith, few, same)

    room_now : vec_len new.order + 65 ≤ vec_capacity new.order → vec_len new.order + going P new.clients.items ≤ vec_capacity new.order
    room_now room = let few = few_now in omega (arith, room, few)

    -- ---- a step

    module _ (turned : Turned) (o : StepsOnce P old.shards new.shards before s old.clock new.clock os new.order.items turned)
        (counts : new.shards.counts ≡ c) (room : vec_len new.order + 65 ≤ vec_capacity new.order) where
      abbrev es : List Event
      es = stepped_events P r o.step.tried o.step.answer

      places : (p : ℕ) → clock_at old.shards p ≤ r.clock
      places p = let early = is.places p in omega (arith, early, clock_is)

      s_is : s ≡ ended_life (tried_life P r o.step.stamp o.step.tried) (op_in P r) o.step.answer
      s_is = o.step.life

      rises_so : r.clock ≤ s.clock
      rises_so = rw s_is
          (clock_rises P r o.step.stamp (op_in P r) o.step.tried o.step.answer
          (next_is P old.shards new.shards r o.step.stamp places o.step.tried o.step.there))

      soon : s.clock ≤ r.clock + length es
      soon = rw s_is (clock_early P r o.step.stamp (op_in P r) o.step.tried o.step.answer
          (next_is P old.shards new.shards r o.step.stamp places o.step.tried o.step.there))

      few_events : length es ≤ 2
      few_events = step_few r.silent (op_in P r) o.step.tried o.step.answer

      actor_kept : s.actor ≡ a
      actor_kept = ap (λ (l : ClientLife). l.actor) s_is ∙ same_actor P r o.step.stamp o.step.tried (op_in P r) o.step.answer ∙ mine.actor

      counts_kept : s.counts ≡ c
      counts_kept = ap (λ (l : ClientLife). l.counts) s_is ∙ same_counts P r o.step.stamp o.step.tried (op_in P r) o.step.answer ∙
          mine.counts

      replies : RepliesAre old.shards.store es × (new.shards.store ≡ stored_after old.shards.store es)
      replies = step_replies P old.shards new.shards r o.step.stamp (op_in P r) r.silent o.step.answer o.step.tried o.step.there

      order_is : new.order.items ≡ old.order.items ++ marks_for a es
      order_is = o.order ∙ ap (λ (ms : List Mark). ms ++ marks_for before.actor es) order ∙ ap
          (λ (n : ℕ). old.order.items ++ marks_for n es) mine.actor

      order_length : length new.order.items ≡ length old.order.items + length es
      order_length = ap length order_is ∙ length-append old.order.items (marks_for a es) ∙ ap (λ (n : ℕ). length old.order.items + n)
          (marks_length a es)

      refused_so : (e : Event) (ss : List Event) → r.silent ≡ e ∷ ss → IsRefused r.silent (state_in P r).running
      refused_so e ss same =
          let now : RunsIn (e ∷ ss) (running_in None r.moments) (state_in P r).running =
          subst (λ (xs : List Event). RunsIn xs (running_in None r.moments) (state_in P r).running) same mine.life.going in
          subst (λ (xs : List Event). IsRefused xs (state_in P r).running) (sym same) now.1

      abbrev noted_then : List Moment
      noted_then = step_moments P r o.step.stamp o.step.tried (op_in P r) o.step.answer

      clock_then : (ended_life (tried_life P r o.step.stamp o.step.tried) (op_in P r) o.step.answer).clock ≡ new.clock
      clock_then = ap (λ (l : ClientLife). l.clock) (sym s_is) ∙ sym o.clock

      step_grows : Grows P old new a s es (marks_for a es)
      step_grows = record {
        kept = noted_then;
        moments = ap (λ (l : ClientLife). l.moments) s_is ∙ step_noted P r o.step.stamp o.step.tried (op_in P r) o.step.answer ∙ ap
            (λ (l : ClientLife). l.moments ++ noted_then) same_client;
        in_turn = noted_all a es noted_then (step_fewer P r o.step.stamp o.step.tried (op_in P r) o.step.answer);
        fresh = same_fresh noted_then
            (step_fresh P r o.step.stamp r.silent o.step.tried (op_in P r) o.step.answer refl refused_so o.step.asks);
        rising = subst (λ (k : ℕ). rises 0 k (noted_in old ++ noted_then) ≡ true) clock_then
            (step_rises P r o.step.stamp (noted_in old) rising_now o.step.tried (op_in P r) o.step.answer o.step.later);
        room = room_now room;
        items = items;
        counts = counts;
        events = o.step.events ∙ ap (λ (l : ClientLife). events_in l ++ es) same_client;
        order = order_is;
        told = told_all a es;
        marked = marked_all a es;
        mine = record { actor = actor_kept; counts = counts_kept; life = life; early = omega (arith, o.clock) };
        later = omega (arith, rises_so, o.clock, clock_is);
        places = λ p.
            let there : clock_at new.shards p ≤ s.clock =
            rw s_is (places_then P old.shards new.shards r o.step.stamp places (op_in P r) o.step.answer o.step.tried o.step.there p) in
            omega (arith, there, o.clock);
        early = omega (arith, soon, o.clock, clock_is, is.early, order_length);
        few = omega (arith, short, ap length order, order_length, few_events);
        replies = replies.0;
        store = replies.1;
      }

      pub step_stays : IsWorld P new
      step_stays = stays P old new a s es (marks_for a es) is low high step_grows

      -- what the step comes to

      grew : life_of new ≡ grown (life_of old) es
      grew = grows P old new a s es (marks_for a es) is low high step_grows

      new_state : (present P (life_of new)).actors a ≡ state_in P s
      new_state =
          world_state P new step_stays a low high ∙ ap (λ (k : Counts). state_in P (client_at k new.clients.items a)) counts
          ∙ ap (state_in P) (at_own P old new a s es (marks_for a es) is low high step_grows)

      counts_here : c ≡ (present P (life_of new)).counts
      counts_here = sym counts ∙ sym (counts_stay P (opening new.shards.counts) (life_of new).history)

      ends_here : EndsSo P c (state_after P c (state_in P r) o.step.tried) o.step.tried o.step.answer
      ends_here = subst (λ (k : Counts). EndsSo P k (state_after P k (state_in P r) o.step.tried) o.step.tried o.step.answer) mine.counts
          o.step.ends

      goes_here : o.step.answer ≡ None → (present P (life_of new)).actors a ≡ state_after P c (state_in P r) o.step.tried
      goes_here none =
          new_state ∙ after_try P c r s (op_in P r) o.step.tried mine.counts counts_kept
          (o.step.events ∙ ap (λ (x : Option Answer). events_in r ++ (tried_events (op_in P r) o.step.tried ++ end_events r.silent
          (op_in P r) x)) none)

      pub step_is : Stepped P (life_of old) (life_of new) (last_op (present P (life_of old)) a) turned
      step_is =
          subst (Stepped P (life_of old) (life_of new) (last_op (present P (life_of old)) a)) (sym o.step.told)
          (step_ends P (life_of old) (life_of new) (last_op (present P (life_of old)) a) c (state_after P c (state_in P r) o.step.tried)
          r.silent o.step.tried o.step.answer ends_here
          (grew ∙ ap (λ (p : OpId). grown (life_of old) (tried_events p o.step.tried ++ end_events r.silent p o.step.answer)) own_op)
          (λ none ended.
          subst (λ (x : Actor S). has_ended P (present P (life_of new)).counts x.memory
          (program_of x.running (last_op (present P (life_of old)) a)) ≡ false)
          (sym (goes_here none))
          (subst (λ (k : Counts). has_ended P k (state_after P c (state_in P r) o.step.tried).memory
          (program_of (state_after P c (state_in P r) o.step.tried).running (last_op (present P (life_of old)) a)) ≡ false) counts_here
          (goes_as P c (state_after P c (state_in P r) o.step.tried).memory (state_after P c (state_in P r) o.step.tried).running
          (last_op (present P (life_of old)) a) ended))))

    -- ---- a begin, a stop, and no begin

    pub one_grows : (e : Event) → new.shards ≡ old.shards → events_in s ≡ events_in before ++ e ∷ [] → s.actor ≡ before.actor
        → s.counts ≡ before.counts → r.clock ≤ s.clock → s.clock ≤ r.clock + 1
        → new.clock ≡ s.clock → new.order.items ≡ os ++ marks.Actor before.actor ∷ [] → RepliesAre old.shards.store (e ∷ [])
        → old.shards.store ≡ stored_after old.shards.store (e ∷ [])
        → (kept : List Moment) → s.moments ≡ before.moments ++ kept → length kept ≤ 1 → (kept ≡ []) ⊎ (before.silent ≡ [])
        → rises 0 s.clock (noted_in old ++ kept) ≡ true
        → vec_len new.order + going P new.clients.items ≤ vec_capacity new.order
        → Grows P old new a s (e ∷ []) (marks_for a (e ∷ []))
    one_grows e shards events actor counts low_clock soon clock pushed replies store kept moments few fresh rise room =
        let order_is : new.order.items ≡ old.order.items ++ marks.Actor a ∷ [] =
        pushed ∙ ap (λ (ms : List Mark). ms ++ marks.Actor before.actor ∷ []) order ∙ ap (λ (n : ℕ). old.order.items ++ marks.Actor n ∷ [])
        mine.actor in
        let order_length : length new.order.items ≡ length old.order.items + 1 = ap length order_is ∙ length-append old.order.items
        (marks.Actor a ∷ []) in
        record {
          kept = kept;
          moments = moments ∙ ap (λ (l : ClientLife). l.moments ++ kept) same_client;
          in_turn = noted_all a (e ∷ []) kept few;
          fresh = same_fresh kept fresh;
          rising = subst (λ (k : ℕ). rises 0 k (noted_in old ++ kept) ≡ true) (sym clock) rise;
          room = room;
          items = items;
          counts = ap (λ (w : KeptStore). w.counts) shards;
          events = events ∙ ap (λ (l : ClientLife). events_in l ++ e ∷ []) same_client;
          order = order_is;
          told = told_all a (e ∷ []);
          marked = marked_all a (e ∷ []);
          mine = record { actor = actor ∙ mine.actor; counts = counts ∙ mine.counts; life = life; early = omega (arith, clock) };
          later = omega (arith, low_clock, clock, clock_is);
          places = λ p. let before = is.places p
              in let same : clock_at new.shards p ≡ clock_at old.shards p = ap (λ (w : KeptStore). clock_at w p) shards
              in omega (arith, before, same, low_clock, clock, clock_is);
          early = omega (arith, soon, clock, clock_is, is.early, order_length);
          few = omega (arith, short, ap length order, order_length);
          replies = replies;
          store = ap (λ (w : KeptStore). w.store) shards ∙ store;
        }

    module _ (command : Command) (shards : new.shards ≡ old.shards) (room : vec_len new.order + 65 ≤ vec_capacity new.order) where
      abbrev note : Moment
      note = Local (r.clock + 1) r.actor (notes.Began (next_op_in P r) command)

      begun_grows : s ≡ begun_life P r command → new.clock ≡ s.clock → new.order.items ≡ os ++ marks.Actor before.actor ∷ []
          → Grows P old new a s (Own (next_op_in P r) (Began command) ∷ []) (marks_for a (Own (next_op_in P r) (Began command) ∷ []))
      begun_grows begun clock pushed =
          let live : RunsIn r.silent (running_in None (r.moments ++ note ∷ [])) (state_in P s).running =
          subst (λ (x : ClientLife). RunsIn x.silent (running_in None x.moments) (state_in P s).running) begun life.going in
          let none : r.silent ≡ [] = none_silent r.silent r.moments note (next_op_in P r) (state_in P s).running live refl in
          one_grows (Own (next_op_in P r) (Began command)) shards (ap events_in begun ∙ noted_event r.moments note r.silent none)
          (ap (λ (l : ClientLife). l.actor) begun) (ap (λ (l : ClientLife). l.counts) begun)
          (rw begun (omega arith)) (rw begun (omega arith)) clock pushed (tt, tt) refl (note ∷ []) (ap (λ (l : ClientLife). l.moments) begun)
          (omega arith) (inr none)
          (subst (λ (k : ℕ). rises 0 k (noted_in old ++ note ∷ []) ≡ true) (sym (ap (λ (l : ClientLife). l.clock) begun))
          (rises_one r.clock (noted_in old) note rising_now (omega arith)))
          (room_now room)

      refused_grows : s ≡ refused_life P r command → new.clock ≡ s.clock → new.order.items ≡ os ++ marks.Actor before.actor ∷ []
          → Grows P old new a s (Own (next_op_in P r) (NotBegun command) ∷ [])
          (marks_for a (Own (next_op_in P r) (NotBegun command) ∷ []))
      refused_grows refused clock pushed =
          one_grows (Own (next_op_in P r) (NotBegun command)) shards
          (ap events_in refused ∙ sym (append_assoc (events_of r.moments) r.silent (Own (next_op_in P r) (NotBegun command) ∷ [])))
          (ap (λ (l : ClientLife). l.actor) refused) (ap (λ (l : ClientLife). l.counts) refused) (rw refused (omega arith))
          (rw refused (omega arith)) clock pushed (tt, tt) refl
          [] (ap (λ (l : ClientLife). l.moments) refused ∙ sym (append-nil before.moments)) (omega arith) (inl refl)
          (subst (λ (k : ℕ). rises 0 k (noted_in old ++ []) ≡ true) (sym (ap (λ (l : ClientLife). l.clock) refused))
          (rises_none r.clock (noted_in old) rising_now))
          (room_now room)

      pub begin_world : BeginsOnce P before s command old.clock new.clock os new.order.items → IsWorld P new
          × HasBegun (life_of old) (life_of new) (next_op (present P (life_of old)) a) command
      begin_world b = elim b.begins [
        | inl h ↦
            let g = begun_grows h.1 b.clock b.order in (
              stays P old new a s (Own (next_op_in P r) (Began command) ∷ []) _ is low high g,
              record {
                begin = Own (next_op_in P r) (Began command);
                begins = (own_next, refl);
                history = grows P old new a s (Own (next_op_in P r) (Began command) ∷ []) _ is low high g;
              },
            )
        | inr h ↦
            let g = refused_grows h.1 b.clock b.order in (
              stays P old new a s (Own (next_op_in P r) (NotBegun command) ∷ []) _ is low high g,
              record {
                begin = Own (next_op_in P r) (NotBegun command);
                begins = (own_next, refl);
                history = grows P old new a s (Own (next_op_in P r) (NotBegun command) ∷ []) _ is low high g;
              },
            )
      ]

      -- for want of memory all stays
      wanting : StaysSo before s old.clock new.clock os new.order.items → Grows P old new a s [] []
      wanting o = record {
        kept = [];
        moments = ap (λ (l : ClientLife). l.moments) o.stays ∙ sym (append-nil before.moments) ∙ ap (λ (l : ClientLife). l.moments ++ [])
            same_client;
        in_turn = refl;
        fresh = inl refl;
        rising = subst (λ (k : ℕ). rises 0 k (noted_in old ++ []) ≡ true) (sym o.clock) (rises_none old.clock (noted_in old) is.rising);
        room = room_now room;
        items = items;
        counts = ap (λ (w : KeptStore). w.counts) shards;
        events = ap events_in o.stays ∙ ap events_in same_client ∙ sym (append-nil (events_in (client_at c old.clients.items a)));
        order = o.order ∙ order ∙ sym (append-nil old.order.items);
        told = refl;
        marked = λ b. none_marked (eqb b a);
        mine = record {
          actor = ap (λ (l : ClientLife). l.actor) o.stays ∙ mine.actor;
          counts = ap (λ (l : ClientLife). l.counts) o.stays ∙ mine.counts;
          life = life;
          early = omega (arith, ap (λ (l : ClientLife). l.clock) o.stays, clock_is, o.clock);
        };
        later = omega (arith, o.clock);
        places = λ p. let before = is.places p
            in let same : clock_at new.shards p ≡ clock_at old.shards p = ap (λ (w : KeptStore). clock_at w p) shards
            in omega (arith, before, same, o.clock);
        early = omega (arith, o.clock, is.early, ap length (o.order ∙ order));
        few = omega (arith, short, ap length o.order);
        replies = tt;
        store = ap (λ (w : KeptStore). w.store) shards;
      }
        where
          none_marked : (t : Bool) → 0 ≡ length (let none : List Event = if t then [] else [] in none)
          none_marked true = refl
          none_marked false = refl

      pub want_world : StaysSo before s old.clock new.clock os new.order.items → IsWorld P new × (life_of new ≡ life_of old)
      want_world o = (
        stays P old new a s [] [] is low high (wanting o),
        grows P old new a s [] [] is low high (wanting o) ∙ (λ i. record { counts = c; history = append-nil (life_of old).history i }),
      )

      pub began_stays : {E : Type 0} (result : Result (Unit {0}) E)
          → MatchResult result (λ u. BeginsOnce P before s command old.clock new.clock os new.order.items)
          (λ e. StaysSo before s old.clock new.clock os new.order.items) → IsWorld P new
      began_stays (Ok u) o = (begin_world o).0
      began_stays (Err e) o = (want_world o).0

      pub began_ok : {E : Type 0} (result : Result (Unit {0}) E)
          → MatchResult result (λ u. BeginsOnce P before s command old.clock new.clock os new.order.items)
          (λ e. StaysSo before s old.clock new.clock os new.order.items)
          → OnOk result (HasBegun (life_of old) (life_of new) (next_op (present P (life_of old)) a) command)
      began_ok (Ok u) o = (begin_world o).1
      began_ok (Err e) o = tt

      pub began_err : {E : Type 0} (result : Result (Unit {0}) E)
          → MatchResult result (λ u. BeginsOnce P before s command old.clock new.clock os new.order.items)
          (λ e. StaysSo before s old.clock new.clock os new.order.items)
          → OnErr result (life_of new ≡ life_of old)
      began_err (Ok u) o = tt
      began_err (Err e) o = (want_world o).1

    module _ (shards : new.shards ≡ old.shards) (o : StopsOnce P before s old.clock new.clock os new.order.items)
        (running : IsSome (state_in P before).running) (len : vec_len new.order ≡ vec_len old.order + 1)
        (capacity : vec_capacity old.order ≤ vec_capacity new.order) where
      is_stop : IsStop P r s
      is_stop = rw o.stops (stop_by P r r.silent refl)

      stop_room : vec_len new.order + going P new.clients.items ≤ vec_capacity new.order
      stop_room =
          let one = one_less (is_going P) old.clients.items (a - 1) s (idle_life 0 c) (omega (arith, is.number, low, high))
          (ap (is_going P) (sym same_client) ∙ running) (stopped_goes P r s is_stop) in
          let same : going P new.clients.items ≡ going P (set old.clients.items (a - 1) s) = ap (going P) items in
          omega (arith, one, same, is.room, len, capacity)

      stop_grows : Grows P old new a s (Own (op_in P r) Stopped ∷ []) (marks_for a (Own (op_in P r) Stopped ∷ []))
      stop_grows =
          one_grows (Own (op_in P r) Stopped) shards is_stop.events is_stop.actor is_stop.counts is_stop.low is_stop.high o.clock o.order
          (tt, tt) refl is_stop.kept is_stop.moments is_stop.few is_stop.fresh
          (is_stop.rising (noted_in old) rising_now) stop_room

      pub stop_stays : IsWorld P new
      stop_stays = stays P old new a s (Own (op_in P r) Stopped ∷ []) _ is low high stop_grows

      pub stop_is : life_of new ≡ grown (life_of old) (Own (last_op (present P (life_of old)) a) Stopped ∷ [])
      stop_is = grows P old new a s (Own (op_in P r) Stopped ∷ []) _ is low high stop_grows ∙ ap
          (λ (p : OpId). grown (life_of old) (Own p Stopped ∷ [])) own_op
