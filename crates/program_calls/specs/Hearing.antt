-- What a program comes to at the reply to its request.
use Rattle.std.specs.Prelude.{◌≡◌, Bool, true, false, Option, Some, None, Result, Ok, Err}
use Rattle.tect_ids.specs.declared.ids.Counts.{Counts}
use Rattle.tect_ids.specs.declared.ids.OpId.{OpId}
use Rattle.tect_ids.specs.declared.answer.Answer.{Answer}
use Rattle.tect_ids.specs.declared.ids.NoMemory.{NoMemory}
use Rattle.store_rules.specs.declared.any.AnyReq.{AnyReq}
use Rattle.store_rules.specs.declared.any.AnyReply.{AnyReply}
use Rattle.program_forms.specs.declared.heard.Heard.{Heard}
use Rattle.program_forms.specs.declared.heard.Heard.TheVariants.{Whole, Unkept}
use Rattle.program_forms.specs.Lacks.{IsLack}
use Rattle.program_forms.specs.Memories.{Memory, kept_of, learnt, always}
use Rattle.program_forms.specs.Kinds.{Programs, said_by}
use Rattle.program_calls.specs.declared.went.Went.{Went}

-- a command that went on heard the reply whole if its actor kept all that it told
abbrev pub heard_if_kept : Bool → Heard
heard_if_kept true = Whole
heard_if_kept false = Unkept

-- an answer is no want of memory or of room
abbrev pub IsPlain : Option Answer → Type 0
IsPlain None = Unit {0}
IsPlain (Some a) = ¬ IsLack a

-- whatever its actor knows, the program says this in that state, or nothing
abbrev pub SaysIn : {S : Type 0} → Programs S → S → Option Answer → Type 0
SaysIn P s a = (c : Counts) (m : Memory) (op : OpId) → said_by (P.kind.does c m op s) ≡ a

-- where it has no answer it stands as it went on
abbrev pub GoesOn : {S : Type 0} → S → S → Option Answer → Type 0
GoesOn s t None = t ≡ s
GoesOn s t (Some a) = Unit {0}

-- It went on to t, has that answer, if it has one, and its actor kept all of the reply, or only what has to be kept; or memory was
-- wanting, and it stands as it did.
abbrev pub Hears : {S : Type 0} → Programs S → Counts → Memory → Memory → OpId → S → S → AnyReq → AnyReply → Result Went NoMemory → Type 0
Hears P c m n op s t q x (Ok w) =
    SaysIn P (P.kind.hears c m op s q x) w.answer × IsPlain w.answer × GoesOn (P.kind.hears c m op s q x) t w.answer
    × (n ≡ always (learnt (kept_of (heard_if_kept w.kept) (P.kind.learns op s q x)) m) q x)
Hears P c m n op s t q x (Err e) = (t ≡ s) × (n ≡ always m q x)
