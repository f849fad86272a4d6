-- What a part does in one of its states, so that laws of a part can be stated state by state.
use Rattle.std.specs.Prelude.{List}
use Rattle.tect_ids.specs.declared.ids.Counts.{Counts}
use Rattle.tect_ids.specs.declared.ids.OpId.{OpId}
use Rattle.store_rules.specs.declared.any.AnyReq.{AnyReq}
use Rattle.store_rules.specs.declared.any.AnyReply.{AnyReply}
use Rattle.program_forms.specs.Memories.{Memory, Learnt}
use Rattle.program_forms.specs.Kinds.{Turned}
use Rattle.program_parts.specs.declared.next.Next.{Next}
use Rattle.program_parts.specs.Parts.{Part, within, turned_within}

-- its look-ups, its request, where it goes on at the reply, and what its actor keeps of that
pub record Doing (S R : Type 0) : Type 0 where
  pub turns : Counts → Memory → OpId → Turned (Next S R)
  pub asks : Counts → Memory → OpId → AnyReq
  pub hears : Counts → Memory → OpId → AnyReq → AnyReply → Next S R
  pub learns : OpId → AnyReq → AnyReply → List Learnt

-- what the part does in that state
abbrev pub doing : {S R : Type 0} → Part S R → S → Doing S R
doing P s = record {
  turns = λ c m op. P.turns c m op s;
  asks = λ c m op. P.asks c m op s;
  hears = λ c m op q x. P.hears c m op s q x;
  learns = λ op q x. P.learns op s q x;
}

-- the same of a part within another
abbrev pub doing_within : {S T R : Type 0} → (S → T) → Doing S R → Doing T R
doing_within f d = record {
  turns = λ c m op. turned_within f (d.turns c m op);
  asks = d.asks;
  hears = λ c m op q x. within f (d.hears c m op q x);
  learns = d.learns;
}
