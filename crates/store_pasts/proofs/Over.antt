-- giving up, where the answer of an op is decided: what is bound stays, and what is given up can be released
use Rattle.std.proofs.Common.{◌≡◌, ℕ, Bool, true, false, if◌then◌else◌, Option, Some, None, refl, subst}
use Rattle.tect_ids.specs.declared.ids.BlkId.{BlkId}
use Rattle.tect_ids.specs.declared.ids.FileId.{FileId}
use Rattle.tect_ids.specs.declared.ids.Hold.{Hold}
use Rattle.tect_ids.specs.declared.ids.Node.{Node}
use Rattle.tect_ids.specs.declared.ids.OpId.{OpId}
use Rattle.tect_ids.specs.declared.key.Key.{Key}
use Rattle.tect_ids.specs.Keys.{op_eq}
use Rattle.store_rules.specs.Store.{Store}
use Rattle.store_pasts.specs.Contents.{row_leads, row_given_spent}
use Rattle.store_pasts.specs.Worlds.{HoldPhase, Live, Set, Past, Given, World, over, over_phase, given_over, settled}
use Rattle.store_pasts.specs.Worlds.{RowPhase, RowLive, RowSet, RowPast, RowGiven, row_over}
use Rattle.store_pasts.specs.Pasts.{leads, phase_spent, given_spent, is_spent, is_row_spent, IsGranted, IsRowGranted}
use Rattle.store_pasts.specs.Later.{Later}
use Rattle.store_pasts.specs.Requests.{touches_op}
use Rattle.store_pasts.proofs.Laters.{later_same, blocks_same, chunks_same}

-- ---- a hold, and what it was before

-- the hold was granted for the same; where it is bound it was bound, and where it may still be bound it might
pub record WasGiven (o : Option Given) (g : Given) : Type 0 where
  pub phase : HoldPhase
  pub is : o ≡ Some record { lower = g.lower; upper = g.upper; phase = phase }
  pub set : g.phase ≡ Set → o ≡ Some g
  pub live : g.phase ≡ Live → o ≡ Some g

same_given : (o : Option Given) (g : Given) → o ≡ Some g → WasGiven o g
same_given o g e = record { phase = g.phase; is = e; set = λ p. e; live = λ p. e }

-- of one that was given up, if it was not bound
over_given : (n : Node) (k : Key) (p : HoldPhase) (g : Given) → given_over (Some record { lower = n; upper = k; phase = p }) ≡ Some g
    → WasGiven (Some record { lower = n; upper = k; phase = p }) g
over_given n k Live g e =
    let same : record { lower = n; upper = k; phase = Past } ≡ g = cc in
    subst (λ (x : Given). WasGiven (Some record { lower = n; upper = k; phase = Live }) x) same
    record { phase = Live; is = refl; set = λ p. absurd (let f : Past ≡ Set = p in cc); live = λ p. absurd (let f : Past ≡ Live = p in cc) }
over_given n k Set g e = same_given _ g e
over_given n k Past g e = same_given _ g e

past_given : (o : Option Given) (g : Given) → given_over o ≡ Some g → WasGiven o g
past_given None g e = absurd (let f : None ≡ Some g = e in cc)
past_given (Some was) g e = over_given was.lower was.upper was.phase g e

-- what is bound stays so
over_set : (n : Node) (k : Key) (p : HoldPhase) → p ≡ Set
    → given_over (Some record { lower = n; upper = k; phase = p }) ≡ Some record { lower = n; upper = k; phase = p }
over_set n k Live e = absurd (let f : Live ≡ Set = e in cc)
over_set n k Set e = refl
over_set n k Past e = absurd (let f : Past ≡ Set = e in cc)

over_leads : (o : Option Given) → leads (given_over o) ≡ leads o
over_leads None = refl
over_leads (Some g) = refl

phase_still : (p : HoldPhase) (b : Bool) → phase_spent p b ≡ true → phase_spent (over_phase p) b ≡ true
phase_still Live b e = refl
phase_still Set b e = e
phase_still Past b e = e

over_still : (s : Store) (op : OpId) (o : Option Given) → given_spent s op o ≡ true → given_spent s op (given_over o) ≡ true
over_still s op None e = e
over_still s op (Some g) e = phase_still g.phase _ e

-- ---- a hold for a row, and what it was before

-- the hold was granted for the same; where it is bound it was bound so, and where it may still be bound it might
pub record RowWas (o : Option RowGiven) (g : RowGiven) : Type 0 where
  pub phase : RowPhase
  pub is : o ≡ Some record { blk = g.blk; file = g.file; phase = phase }
  pub set : (i : ℕ) → g.phase ≡ RowSet i → o ≡ Some g
  pub live : g.phase ≡ RowLive → o ≡ Some g

same_row : (o : Option RowGiven) (g : RowGiven) → o ≡ Some g → RowWas o g
same_row o g e = record { phase = g.phase; is = e; set = λ i p. e; live = λ p. e }

over_row : (b : BlkId) (f : FileId) (p : RowPhase) (g : RowGiven) → row_over (Some record { blk = b; file = f; phase = p }) ≡ Some g
    → RowWas (Some record { blk = b; file = f; phase = p }) g
over_row b f RowLive g e =
    let same : record { blk = b; file = f; phase = RowPast } ≡ g = cc in
    subst (λ (x : RowGiven). RowWas (Some record { blk = b; file = f; phase = RowLive }) x) same record {
      phase = RowLive;
      is = refl;
      set = λ i p. absurd (let k : RowPast ≡ RowSet i = p in cc);
      live = λ p. absurd (let k : RowPast ≡ RowLive = p in cc);
    }
over_row b f (RowSet i) g e = same_row _ g e
over_row b f RowPast g e = same_row _ g e

past_row : (o : Option RowGiven) (g : RowGiven) → row_over o ≡ Some g → RowWas o g
past_row None g e = absurd (let k : None ≡ Some g = e in cc)
past_row (Some was) g e = over_row was.blk was.file was.phase g e

row_leads_over : (o : Option RowGiven) → row_leads (row_over o) ≡ row_leads o
row_leads_over None = refl
row_leads_over (Some g) = refl

-- what is given up stays so
row_still : (b : BlkId) (f : FileId) (p : RowPhase) → row_given_spent (Some record { blk = b; file = f; phase = p }) ≡ true
    → row_given_spent (row_over (Some record { blk = b; file = f; phase = p })) ≡ true
row_still b f RowLive e = refl
row_still b f (RowSet i) e = e
row_still b f RowPast e = refl

row_spent_over : (o : Option RowGiven) → row_given_spent o ≡ true → row_given_spent (row_over o) ≡ true
row_spent_over None e = e
row_spent_over (Some g) e = row_still g.blk g.file g.phase e

-- ---- in a world

module _ (w : World) (op : OpId) where
  -- by whether a hold is the op's
  by_op : (h : Hold) (Q : Option Given → Type 0) → Q (given_over (w.ghost.given h)) → Q (w.ghost.given h) → Q ((over op w).ghost.given h)
  by_op h Q own other =
      elim (op_eq h.op op) as (λ b. Q (if b then given_over (w.ghost.given h) else w.ghost.given h)) [ true ↦ own | false ↦ other ]

  pub before : (h : Hold) (g : Given) → (over op w).ghost.given h ≡ Some g → WasGiven (w.ghost.given h) g
  before h g = by_op h (λ o. o ≡ Some g → WasGiven (w.ghost.given h) g) (past_given (w.ghost.given h) g) (same_given (w.ghost.given h) g)

  pub set_stays : (h : Hold) (g : Given) → w.ghost.given h ≡ Some g → g.phase ≡ Set → (over op w).ghost.given h ≡ Some g
  set_stays h g is p = by_op h (λ o. o ≡ Some g) (rw is (over_set g.lower g.upper g.phase p)) is

  pub leads_stay : (h : Hold) → leads ((over op w).ghost.given h) ≡ leads (w.ghost.given h)
  leads_stay h = by_op h (λ o. leads o ≡ leads (w.ghost.given h)) (over_leads (w.ghost.given h)) refl

  -- the same for a hold of a row
  by_op_row : (h : Hold) (Q : Option RowGiven → Type 0) → Q (row_over (w.ghost.row_given h)) → Q (w.ghost.row_given h)
      → Q ((over op w).ghost.row_given h)
  by_op_row h Q own other = elim (op_eq h.op op) as (λ b. Q (if b then row_over (w.ghost.row_given h) else w.ghost.row_given h))
      [ true ↦ own | false ↦ other ]

  pub row_before : (h : Hold) (g : RowGiven) → (over op w).ghost.row_given h ≡ Some g → RowWas (w.ghost.row_given h) g
  row_before h g = by_op_row h (λ o. o ≡ Some g → RowWas (w.ghost.row_given h) g) (past_row (w.ghost.row_given h) g)
      (same_row (w.ghost.row_given h) g)

  pub row_set_stays : (h : Hold) (b : BlkId) (f : FileId) (i : ℕ)
      → w.ghost.row_given h ≡ Some record { blk = b; file = f; phase = RowSet i }
      → (over op w).ghost.row_given h ≡ Some record { blk = b; file = f; phase = RowSet i }
  row_set_stays h b f i is = by_op_row h (λ o. o ≡ Some record { blk = b; file = f; phase = RowSet i }) (rw is refl) is

  pub row_leads_stay : (h : Hold) → row_leads ((over op w).ghost.row_given h) ≡ row_leads (w.ghost.row_given h)
  row_leads_stay h = by_op_row h (λ o. row_leads o ≡ row_leads (w.ghost.row_given h)) (row_leads_over (w.ghost.row_given h)) refl

  -- what was not granted is not
  pub over_free : (h : Hold) → w.ghost.given h ≡ None → (over op w).ghost.given h ≡ None
  over_free h e = by_op h (λ o. o ≡ None) (rw e refl) e

  -- each hold of the op that was granted can be released, if it is not bound
  pub over_spent : (h : Hold) (n : Node) (k : Key) → op_eq h.op op ≡ true → IsGranted w h n k → is_spent (over op w) h ≡ true
  over_spent h n k own granted = rw (own, granted) refl

  -- the same of a hold for a row
  pub over_row_spent : (h : Hold) (b : BlkId) (f : FileId) → op_eq h.op op ≡ true → IsRowGranted w h b f → is_row_spent (over op w) h ≡ true
  over_row_spent h b f own granted = rw (own, granted) refl

  pub over_later : Later (touches_op op) w (over op w)
  over_later = record {
    made = λ n e. e;
    unmade = λ n o e. e;
    named = λ n e. e;
    unnamed = λ n o e. e;
    fresh = λ h o e. over_free h e;
    live = λ h g o e l. rw o e;
    kept = λ h p e. rw (leads_stay h) e;
    spent = λ h e. by_op h (λ o. given_spent w.store h.op o ≡ true) (over_still w.store h.op (w.ghost.given h) e) e;
    rows = record {
      row = λ f i r e. e;
      fresh = λ h o e. by_op_row h (λ x. x ≡ None) (rw e refl) e;
      live = λ h g o e l. rw o e;
      kept = λ h p e. rw (row_leads_stay h) e;
      spent = λ h e. by_op_row h (λ o. row_given_spent o ≡ true) (row_spent_over (w.ghost.row_given h) e) e;
    };
    blocks = blocks_same _ _;
    chunks = chunks_same _ _;
  }

-- ---- at a step

module _ {R : Type 0} (w : World) (op : OpId) where
  pub settled_later : (was now : Option R) → Later (touches_op op) w (settled op was now w)
  settled_later None None = later_same _ w
  settled_later None (Some a) = over_later w op
  settled_later (Some b) now = later_same _ w

  -- where nothing is decided by the step, it gives nothing up
  pub settles_nothing : (was now : Option R) → (was ≡ None → now ≡ None) → settled op was now w ≡ w
  settles_nothing None None none = refl
  settles_nothing None (Some a) none = absurd (let f : Some a ≡ None = none refl in cc)
  settles_nothing (Some b) now none = refl
