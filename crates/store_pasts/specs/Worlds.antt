-- What a request, and a decision, does to the store and its past.
use Rattle.std.specs.Prelude.{if◌then◌else◌, ℕ, List, Option, Some, None}
use Rattle.tect_ids.specs.declared.ids.OpId.{OpId}
use Rattle.tect_ids.specs.Keys.{op_eq}
use Rattle.store_rules.specs.declared.any.AnyReq.{AnyReq}
use Rattle.store_rules.specs.Store.{Store, store_changes, store_change, store_step}
use Rattle.store_pasts.specs.Roles.{role}
pub use Rattle.store_pasts.specs.Ghosts.{HoldPhase, Live, Set, Past, Given, Ghost, World, opening_ghost}
pub use Rattle.store_pasts.specs.Ghosts.{RowPhase, RowLive, RowSet, RowPast, RowGiven}
pub use Rattle.store_pasts.specs.Ghosts.{ghost_said}

-- what a request does to the past where it changes the store
abbrev pub ghost_change : Store → Ghost → AnyReq → Ghost
ghost_change s g q = (role q).ghost s g

-- the past after a request
abbrev pub ghost_next : Store → Ghost → AnyReq → Ghost
ghost_next s g q = if store_changes s q then ghost_change s g q else g

-- the world after a request that changes the store
abbrev pub done : World → AnyReq → World
done w q = record { store = store_change w.store q; ghost = ghost_change w.store w.ghost q }

-- the world after a request
abbrev pub next : World → AnyReq → World
next w q = record { store = store_step w.store q; ghost = ghost_next w.store w.ghost q }

-- what is not bound by now is given up
abbrev pub over_phase : HoldPhase → HoldPhase
over_phase Live = Past
over_phase Set = Set
over_phase Past = Past

abbrev pub given_over : Option Given → Option Given
given_over None = None
given_over (Some g) = Some record { lower = g.lower; upper = g.upper; phase = over_phase g.phase }

-- the same of holds for rows
abbrev pub over_row_phase : RowPhase → RowPhase
over_row_phase RowLive = RowPast
over_row_phase (RowSet i) = RowSet i
over_row_phase RowPast = RowPast

abbrev pub row_over : Option RowGiven → Option RowGiven
row_over None = None
row_over (Some g) = Some record { blk = g.blk; file = g.file; phase = over_row_phase g.phase }

-- the past once the answer of an op is decided: each of its holds that is not bound by now is given up
abbrev pub ghost_over : OpId → Ghost → Ghost
ghost_over op g =
    record g {
      given = λ h. if op_eq h.op op then given_over (g.given h) else g.given h;
      row_given = λ h. if op_eq h.op op then row_over (g.row_given h) else g.row_given h;
    }

abbrev pub over : OpId → World → World
over op w = record { store = w.store; ghost = ghost_over op w.ghost }

-- the same by what was decided before a step, and what is decided now
abbrev pub ghost_settled : {R : Type 0} → OpId → Option R → Option R → Ghost → Ghost
ghost_settled op None None g = g
ghost_settled op None (Some a) g = ghost_over op g
ghost_settled op (Some b) now g = g

abbrev pub settled : {R : Type 0} → OpId → Option R → Option R → World → World
settled op was now w = record { store = w.store; ghost = ghost_settled op was now w.ghost }

-- the world once a command has begun that appends these bytes, if it appends any
abbrev pub saying : OpId → Option (List ℕ) → World → World
saying op bytes w = record { store = w.store; ghost = ghost_said op bytes w.ghost }
