-- each event keeps what is so at every moment
use Rattle.std.proofs.Common.{◌≡◌, ℕ, ◌<◌, ◌≤◌, ◌^◌, Bool, true, false, eqb, List, Option, Some, None, refl, sym, ◌∙◌, arith, subst}
use Rattle.std.specs.FinMap.{get-empty}
use Rattle.tect_ids.specs.declared.ids.Counts.{Counts}
use Rattle.tect_ids.specs.declared.ids.Hold.{Hold}
use Rattle.tect_ids.specs.declared.ids.Node.TheVariants.{Dir, File}
use Rattle.tect_ids.specs.declared.ids.OpId.{OpId}
use Rattle.tect_ids.specs.declared.ids.Tag.{Tag}
use Rattle.tect_ids.specs.declared.answer.Answer.{Answer}
use Rattle.tect_ids.specs.declared.command.Command.{Command}
use Rattle.tect_ids.specs.Numbers.{object_number}
use Rattle.tect_ids.proofs.KeyTests.{keys}
use Rattle.key_words.proofs.Lookups.{maps}
use Rattle.store_rules.specs.declared.any.AnyReq.{AnyReq}
use Rattle.store_rules.specs.declared.any.AnyReply.{AnyReply}
use Rattle.store_rules.specs.Store.{store_reply}
use Rattle.program_forms.specs.declared.heard.Heard.{Heard}
use Rattle.program_forms.specs.declared.heard.Heard.TheVariants as hearing
use Rattle.program_forms.specs.declared.standing.Standing.{Standing}
use Rattle.program_forms.specs.declared.standing.Standing.TheVariants.{Goes, Left, NoRoom}
use Rattle.program_forms.specs.Memories.{Memory, Learnt, path_cmp, kept_of, always}
use Rattle.program_forms.specs.Appends.{command_bytes}
use Rattle.program_forms.specs.Kinds.{Programs, turned, state_heard, memory_heard}
use Rattle.world_runs.specs.declared.event.Event.{Event}
use Rattle.world_runs.specs.declared.event.Event.TheVariants.{Own, Dumped}
use Rattle.world_runs.specs.declared.event.Happening.TheVariants.{Began, NotBegun, Acted, Ended, Stopped, Failed}
use Rattle.world_runs.specs.Actors.{Actor, Running, CanBegin, went_on, ended, memory_at_end, standing_heard}
use Rattle.world_runs.specs.Moments.{WorldState, May, after, opening, with_actor}
use Rattle.store_pasts.specs.Worlds.{World, Ghost, next, settled, saying, opening_ghost, ghost_said}
use Rattle.store_world.specs.Sound.{Sound}
use Rattle.store_pasts.specs.Later.{Later, by_actor}
use Rattle.store_pasts.specs.Requests.{Moved, touched_by, touches_op, touches_said}
use Rattle.store_world.specs.Kept.{Kept}
use Rattle.store_pasts.proofs.Laters.{weaken, later_then}
use Rattle.store_pasts.proofs.Over.{settled_later}
use Rattle.store_pasts.proofs.Sayings.{saying_later, says_now}
use Rattle.store_world.proofs.Over.{settled_sound}
use Rattle.store_world.proofs.Sayings.{saying_sound}
use Rattle.store_world.proofs.Rows.{row_kept, opening_sound}
use Rattle.whole_runs.proofs.Actors.{changed, other_number}
use Rattle.tect_ids.specs.Numbers.{object_number}
use Rattle.program_laws.specs.Known.{Deciding, Known, Remembers, AllLearnt, IsActor, IsNewOp, HasSaid, Meets, by_op}
use Rattle.program_laws.specs.Laws.{ProgramLaws}
use Rattle.run_laws.specs.Pasts.{standing_decided, ghost_after, world_of}
use Rattle.run_laws.specs.Known.{StandingKnows, RunsSoundly, RunningKnows, ActorSound, AllSound}
use Rattle.run_laws.proofs.Turns.{IsAsked, asked_by_op}
use Rattle.run_laws.proofs.Own.{apart_of, said_own, given_up_own}
use Rattle.run_laws.proofs.Learns.{opened_later, opened_so, kept_so}
use Rattle.run_laws.proofs.Serials.{SerialGoesOn, serial_goes_on, within_actor, file_of_actor, dir_of_actor, block_of_actor}

module _ {S : Type 0} (P : Programs S) (D : Deciding S Answer) (N : Known S Answer) (laws : ProgramLaws P D N) where
  -- what another actor does leaves an actor's part
  module _ (a b : ℕ) (w v : World) (l : Later (by_actor a) w v) (apart : eqb b a ≡ false) where
    remembers_still : (m : Memory) → Remembers w b m → Remembers v b m
    remembers_still m r = record {
      files = λ one i le lt. l.unmade (File record { 0 = object_number b i }) (rw (file_of_actor b i lt) apart) (r.files one i le lt);
      dirs = λ one i le lt. l.unmade (Dir record { 0 = object_number b i }) (rw (dir_of_actor b i lt) apart) (r.dirs one i le lt);
      blocks = λ one i le lt. l.blocks.unborn record { 0 = object_number b i } (rw (block_of_actor b i lt) apart) (r.blocks one i le lt);
      opened = λ path o e. opened_later (by_actor a) w v l b o (r.opened path o e);
    }

    standing_stays : (op : OpId) → eqb op.actor a ≡ false → (m : Memory) (at : Standing S) → StandingKnows N w op m at
        → StandingKnows N v op m at
    standing_stays op other m (Goes st) k = laws.kind.stays (by_actor a) w v op m st l (apart_of a op other) k
    standing_stays op other m Left k = tt
    standing_stays op other m NoRoom k = tt

    running_stays : (m : Memory) (number : ℕ) (o : Option (Running S)) → RunningKnows N w b m number o → RunningKnows N v b m number o
    running_stays m number None k = tt
    running_stays m number (Some r) k = record {
      own = k.own;
      last = k.last;
      is_actor = k.is_actor;
      at = standing_stays r.op (rw k.own apart) m r.at k.at;
    }

    actor_stays : (st : Actor S) → ActorSound N w b st → ActorSound N v b st
    actor_stays st k = record {
      remembers = remembers_still st.memory k.remembers;
      ahead = λ h own lt. l.fresh h (rw own apart) (k.ahead h own lt);
      ahead_rows = λ h own lt. l.rows.fresh h (rw own apart) (k.ahead_rows h own lt);
      ahead_tags = λ t own lt. l.blocks.untagged t (rw own apart) (k.ahead_tags t own lt);
      unsaid = λ op own lt. l.blocks.unsaid op (rw own apart) (k.unsaid op own lt);
      few_made = k.few_made;
      few_begun = k.few_begun;
      running = running_stays st.memory st.number st.running k.running;
    }

  -- a running command's transaction
  module _ (m : WorldState S) (g : Ghost) (s : AllSound N m g) (op : OpId) (q : AnyReq) (st : S) (by : IsAsked P m op q st) where
    -- its actor and what it knew, the world before and after its request, and what is said to it
    abbrev me : Actor S
    me = m.actors op.actor

    -- its memory, its look-ups done
    abbrev mem : Memory
    mem = (turned P.kind m.counts me.memory op st).memory

    abbrev w : World
    w = world_of m g

    abbrev v : World
    v = next w q

    abbrev x : AnyReply
    x = store_reply m.store q

    pub actor : ActorSound N w op.actor me
    actor = s.actors op.actor

    pub runs : RunsSoundly N w op.actor me.memory me.number record { op = op; at = Goes st }
    runs = rw by.is at actor.running

    pub is_actor : IsActor op me.memory
    is_actor = record { from = runs.is_actor.0; few = omega (arith, actor.few_made, actor.few_begun) }

    -- by its look-ups it still knows
    looked_up : Remembers w op.actor mem × (mem.serial ≡ me.memory.serial) × N.Knows w op mem (turned P.kind m.counts me.memory op st).state
    looked_up = laws.kind.turns m.counts w op me.memory st actor.remembers runs.at

    -- what it asks is safe
    pub meets : Meets w op mem q
    meets = rw by.ask at (laws.kind.meets m.counts w op me.memory st actor.remembers is_actor runs.at)

    pub kept : Kept w v q
    kept = row_kept w s.sound q meets.needs

    pub moved : Moved w v q
    moved = record { later = kept.later; taught = kept.taught }

    -- from its memory's serial on
    serial : SerialGoesOn op mem q x
    serial = serial_goes_on w v op mem q meets kept

    few : mem.serial < 2 ^ 32
    few = rw looked_up.1 is_actor.few

    -- where it goes on it knows what it has to, whatever is kept of the reply
    goes_on : (n : Memory) → n.serial ≡ (always mem q x).serial
        → N.Knows (settled op (D.decided st) (D.decided (state_heard P.kind m.counts me.memory op st q x)) v) op n
        (state_heard P.kind m.counts me.memory op st q x)
    goes_on n e = (rw by.ask at (laws.kind.goes_on m.counts w op me.memory n st actor.remembers is_actor runs.at)) moved e

    -- what its actor keeps of the reply
    abbrev learns : List Learnt
    learns = P.kind.learns op (turned P.kind m.counts me.memory op st).state q x

    learns_so : AllLearnt v op.actor learns
    learns_so = (rw by.ask at (laws.kind.learns m.counts w op me.memory st actor.remembers is_actor runs.at)) moved

    -- the world once it heard the reply so
    abbrev pub u : Heard → World
    u h = settled op (D.decided st) (standing_decided D (standing_heard P m.counts me.memory op (Goes st) q x h)) v

    module _ (h : Heard) where
      pub after_reply : Later (touches_op op) v (u h)
      after_reply = settled_later v op (D.decided st) (standing_decided D (standing_heard P m.counts me.memory op (Goes st) q x h))

      sound_then : Sound (u h)
      sound_then = settled_sound v op (D.decided st) (standing_decided D (standing_heard P m.counts me.memory op (Goes st) q x h))
          kept.sound

      -- so it touched its own alone
      own_later : Later (by_op op mem) w (u h)
      own_later = later_then (by_op op mem) w v (u h) (weaken (touched_by q) (by_op op mem) w v meets.own kept.later)
          (weaken (touches_op op) (by_op op mem) v (u h) (given_up_own op mem) after_reply)

      later : Later (by_actor op.actor) w (u h)
      later = weaken (by_op op mem) (by_actor op.actor) w (u h) (within_actor op mem few) own_later

      -- the actor's state then, with what it keeps
      remembers_then : Remembers (u h) op.actor (memory_heard P.kind m.counts me.memory op st q x h)
      remembers_then = record {
        files = λ one i le lt. after_reply.unmade _ refl
            (kept.later.unmade _ (serial.file i le) (looked_up.0.files one i (omega (arith, serial.grows, le)) lt));
        dirs = λ one i le lt. after_reply.unmade _ refl
            (kept.later.unmade _ (serial.dir i le) (looked_up.0.dirs one i (omega (arith, serial.grows, le)) lt));
        blocks = λ one i le lt. after_reply.blocks.unborn _ refl
            (kept.later.blocks.unborn _ (serial.block i le) (looked_up.0.blocks one i (omega (arith, serial.grows, le)) lt));
        opened = λ path o e. opened_later (touches_op op) v (u h) after_reply op.actor o
            (opened_so v op.actor (kept_of h learns) mem.opened (kept_so v op.actor h learns learns_so)
            (λ was old is. opened_later (touched_by q) w v kept.later op.actor old (looked_up.0.opened was old is)) path o e);
      }

      ahead_then : (k : Hold) → k.op.actor ≡ op.actor → me.number < k.op.number → (u h).ghost.given k ≡ None
      ahead_then k own lt = own_later.fresh k (grind (arith, keys, runs.last, lt)) (actor.ahead k own lt)

      ahead_rows_then : (k : Hold) → k.op.actor ≡ op.actor → me.number < k.op.number → (u h).ghost.row_given k ≡ None
      ahead_rows_then k own lt = own_later.rows.fresh k (grind (arith, keys, runs.last, lt)) (actor.ahead_rows k own lt)

      ahead_tags_then : (t : Tag) → t.op.actor ≡ op.actor → me.number < t.op.number → (u h).ghost.tagged t ≡ None
      ahead_tags_then t own lt = own_later.blocks.untagged t (grind (arith, keys, runs.last, lt)) (actor.ahead_tags t own lt)

    -- where it stands then, by how it heard the reply
    heard_on : (h : Heard) → StandingKnows N (u h) op (memory_heard P.kind m.counts me.memory op st q x h)
        (standing_heard P m.counts me.memory op (Goes st) q x h)
    heard_on hearing.Whole = goes_on (memory_heard P.kind m.counts me.memory op st q x hearing.Whole) refl
    heard_on hearing.Unkept = goes_on (memory_heard P.kind m.counts me.memory op st q x hearing.Unkept) refl
    heard_on hearing.Left = tt

    acts_on : (h : Heard) → ActorSound N (u h) op.actor (went_on P m.counts me (Some record { op = op; at = Goes st }) q x h)
    acts_on h = record {
      remembers = remembers_then h;
      ahead = ahead_then h;
      ahead_rows = ahead_rows_then h;
      ahead_tags = ahead_tags_then h;
      unsaid = λ x own lt. (own_later h).blocks.unsaid x refl (actor.unsaid x own lt);
      few_made = rw (← runs.last) (serial.few (rw (looked_up.1, runs.last) actor.few_made));
      few_begun = actor.few_begun;
      running = record { own = refl; last = runs.last; is_actor = runs.is_actor; at = heard_on h };
    }

    -- the past then
    pub past_is : (h : Heard) → ghost_after P D m g (Own op (Acted q x h)) ≡ (u h).ghost
    past_is h = rw by.is refl

    all_then : (h : Heard) → AllSound N (after P m (Own op (Acted q x h))) (u h).ghost
    all_then h = record {
      sound = sound_then h;
      actors = λ b. changed (λ z. ActorSound N (u h) b z) m.actors op.actor (went_on P m.counts me me.running q x h) b
          (λ e. rw (e, by.is) (acts_on h))
          (λ d. actor_stays op.actor b w (u h) (later h) (other_number b op.actor d) (m.actors b) (s.actors b));
    }

    pub acted_sound : (h : Heard) → AllSound N (after P m (Own op (Acted q x h))) (ghost_after P D m g (Own op (Acted q x h)))
    acted_sound h = rw (past_is h) (all_then h)

  -- a command begins
  module _ (m : WorldState S) (g : Ghost) (s : AllSound N m g) (op : OpId) (c : Command) (can : CanBegin (m.actors op.actor) op) where
    -- its actor, and the world
    abbrev idle : Actor S
    idle = m.actors op.actor

    abbrev here : World
    here = world_of m g

    part : ActorSound N here op.actor idle
    part = s.actors op.actor

    serial_few : idle.memory.serial ≤ op.number
    serial_few = omega (arith, part.few_made, can.next)

    -- the actor's state once the op runs, and stands so
    abbrev runs_at : Standing S → Actor S
    runs_at at = record idle { number = op.number; running = Some record { op = op; at = at } }

    -- the op has said that, or nothing
    module _ (o : Option (List ℕ)) where
      abbrev there : World
      there = saying op o here

      begun_later : Later (touches_said op) here there
      begun_later = saying_later here op o

      new : IsNewOp there op
      new = record {
        given = λ h own. begun_later.fresh h refl (part.ahead h (rw own refl) (rw own (omega (arith, can.next))));
        row_given = λ h own. begun_later.rows.fresh h refl (part.ahead_rows h (rw own refl) (rw own (omega (arith, can.next))));
        tagged = λ t own. begun_later.blocks.untagged t refl (part.ahead_tags t (rw own refl) (rw own (omega (arith, can.next))));
      }

      remembers_there : Remembers there op.actor idle.memory
      remembers_there = record {
        files = λ one i le lt. begun_later.unmade _ refl (part.remembers.files one i le lt);
        dirs = λ one i le lt. begun_later.unmade _ refl (part.remembers.dirs one i le lt);
        blocks = λ one i le lt. begun_later.blocks.unborn _ refl (part.remembers.blocks one i le lt);
        opened = λ path file e. opened_later (touches_said op) here there begun_later op.actor file (part.remembers.opened path file e);
      }

      begins : (at : Standing S) → StandingKnows N there op idle.memory at → ActorSound N there op.actor (runs_at at)
      begins at knows = record {
        remembers = remembers_there;
        ahead = λ h own lt. begun_later.fresh h refl (part.ahead h own (omega (arith, can.next, lt)));
        ahead_rows = λ h own lt. begun_later.rows.fresh h refl (part.ahead_rows h own (omega (arith, can.next, lt)));
        ahead_tags = λ t own lt. begun_later.blocks.untagged t refl (part.ahead_tags t own (omega (arith, can.next, lt)));
        unsaid = λ x own lt. begun_later.blocks.unsaid x (grind (arith, keys, lt)) (part.unsaid x own (omega (arith, can.next, lt)));
        few_made = omega (arith, serial_few);
        few_begun = can.few;
        running = record { own = refl; last = refl; is_actor = can.is_actor; at = knows };
      }

      begins_sound : (at : Standing S) → StandingKnows N there op idle.memory at
          → AllSound N (with_actor m op.actor (runs_at at)) (ghost_said op o g)
      begins_sound at knows = record {
        sound = saying_sound here op o s.sound;
        actors = λ b. changed (λ z. ActorSound N there b z) m.actors op.actor (runs_at at) b (λ e. rw e (begins at knows))
            (λ d. actor_stays op.actor b here there (weaken _ _ here there (said_own op) begun_later) (other_number b op.actor d)
            (m.actors b) (s.actors b));
      }

    -- it has said what its command appends
    has_said : HasSaid (there (command_bytes c)) op c
    has_said bytes e = says_now here op (command_bytes c) bytes e (part.unsaid op refl (omega (arith, can.next)))

    began_sound : P.serves c ≡ true → AllSound N (after P m (Own op (Began c))) (ghost_said op (command_bytes c) g)
    began_sound served = begins_sound (command_bytes c) (Goes (P.starts m.counts idle.memory c))
        (laws.begins m.counts (there (command_bytes c)) op idle.memory c
        (saying_sound here op (command_bytes c) s.sound).tree.root_made (new (command_bytes c)) has_said (remembers_there (command_bytes c))
        serial_few served)

    -- a refused op has its answer, of which nothing is owed
    refused_sound : AllSound N (after P m (Own op (NotBegun c))) g
    refused_sound = begins_sound None NoRoom tt

  -- an actor has no running command any more
  module _ (m : WorldState S) (g : Ghost) (s : AllSound N m g) (a : ℕ) where
    -- what it looked up last is marked as used, and its memory is as true
    abbrev IsAsTrue : Memory → Memory → Type 0
    IsAsTrue old new = Remembers (world_of m g) a new × (new.serial ≡ old.serial)

    end_by : (op : OpId) (at : Standing S) → op.actor ≡ a → StandingKnows N (world_of m g) op (m.actors a).memory at
        → IsAsTrue (m.actors a).memory (memory_at_end P m.counts (m.actors a).memory op at)
    end_by op (Goes st) own k =
        let part : Remembers (world_of m g) op.actor (m.actors a).memory = rw own (s.actors a).remembers in
        let t : Remembers (world_of m g) op.actor (turned P.kind m.counts (m.actors a).memory op st).memory
        × ((turned P.kind m.counts (m.actors a).memory op st).memory.serial ≡ (m.actors a).memory.serial)
        × N.Knows (world_of m g) op (turned P.kind m.counts (m.actors a).memory op st).memory
        (turned P.kind m.counts (m.actors a).memory op st).state
        = laws.kind.turns m.counts (world_of m g) op (m.actors a).memory st part k in
        (subst (λ (b : ℕ). Remembers (world_of m g) b (turned P.kind m.counts (m.actors a).memory op st).memory) own t.0, t.1)
    end_by op Left own k = ((s.actors a).remembers, refl)
    end_by op NoRoom own k = ((s.actors a).remembers, refl)

    rests : (mem : Memory) (stopped : Bool) → IsAsTrue (m.actors a).memory mem
        → ActorSound N (world_of m g) a record (m.actors a) { memory = mem; running = None; stopped = stopped }
    rests mem stopped k = let part : ActorSound N (world_of m g) a (m.actors a) = s.actors a
        in record {
          remembers = k.0;
          ahead = part.ahead;
          ahead_rows = part.ahead_rows;
          ahead_tags = part.ahead_tags;
          unsaid = part.unsaid;
          few_made = rw k.1 part.few_made;
          few_begun = part.few_begun;
          running = tt;
        }

    ends_at : (o : Option (Running S)) → RunningKnows N (world_of m g) a (m.actors a).memory (m.actors a).number o
        → ActorSound N (world_of m g) a (ended P m.counts (m.actors a) o)
    ends_at None k = s.actors a
    ends_at (Some r) k = rests (memory_at_end P m.counts (m.actors a).memory r.op r.at) (m.actors a).stopped (end_by r.op r.at k.own k.at)

    stands_now : (state : Actor S) → ActorSound N (world_of m g) a state → AllSound N (with_actor m a state) g
    stands_now state part = record {
      sound = s.sound;
      actors = λ b. changed (λ z. ActorSound N (world_of m g) b z) m.actors a state b (λ e. rw e part) (λ d. s.actors b);
    }

    ended_sound : AllSound N (with_actor m a (ended P m.counts (m.actors a) (m.actors a).running)) g
    ended_sound = stands_now _ (ends_at (m.actors a).running (s.actors a).running)

    stopped_sound : AllSound N (with_actor m a record (m.actors a) { running = None; stopped = true }) g
    stopped_sound = stands_now _ (rests (m.actors a).memory true ((s.actors a).remembers, refl))

  acts_sound : (m : WorldState S) (g : Ghost) (op : OpId) (q : AnyReq) (x : AnyReply) (h : Heard) → AllSound N m g
      → May P m (Own op (Acted q x h))
      → AllSound N (after P m (Own op (Acted q x h))) (ghost_after P D m g (Own op (Acted q x h)))
  acts_sound m g op q x h s can =
      let by : (st : S) × IsAsked P m op q st = asked_by_op P m op q can.0 in
      rw can.1 (acted_sound m g s op q by.0 by.1 h)

  -- each event that may happen keeps what is so at every moment
  pub event_sound : (m : WorldState S) (g : Ghost) (e : Event) → AllSound N m g → May P m e
      → AllSound N (after P m e) (ghost_after P D m g e)
  event_sound m g (Own op (Began c)) s can = began_sound m g s op c can.0.0 can.0.1
  event_sound m g (Own op (NotBegun c)) s can = refused_sound m g s op c can.0.0
  event_sound m g (Own op (Acted q x h)) s can = acts_sound m g op q x h s can
  event_sound m g (Own op (Ended a)) s can = ended_sound m g s op.actor
  event_sound m g (Own op Stopped) s can = stopped_sound m g s op.actor
  event_sound m g (Own op (Failed a)) s can = ended_sound m g s op.actor
  event_sound m g Dumped s can = s

-- it is so before anything was done
pub opening_all_sound : {S : Type 0} (N : Known S Answer) (counts : Counts) → AllSound N (opening counts) opening_ghost
opening_all_sound N counts = record {
  sound = opening_sound;
  actors = λ a. record {
    remembers = record {
      files = λ one i le lt. grind (arith, maps);
      dirs = λ one i le lt. grind (arith, maps);
      blocks = λ one i le lt. refl;
      opened = λ path o e. absurd (let none : None ≡ Some o = sym (get-empty path_cmp path) ∙ e in cc);
    };
    ahead = λ h own lt. refl;
    ahead_rows = λ h own lt. refl;
    ahead_tags = λ t own lt. refl;
    unsaid = λ op own lt. refl;
    few_made = omega arith;
    few_begun = omega arith;
    running = tt;
  };
}
