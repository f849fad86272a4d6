-- What a kept machine is: the replay of its history from its base state.
use Rattle.std.specs.Prelude.{◌≡◌, ℕ, ◌+◌, ◌≤◌, ◌^◌, Bool, true, false, ◌&&◌, List, [], ◌∷◌, length, nat_lt, ◌==◌}
use Rattle.std.specs.Coded.{Coded, Coded-set, coded_bool, coded_ℕ, ×_prop, Unit-prop, le_prop}
use Rattle.tect_ids.specs.declared.ids.Place.{Place}
use Rattle.tect_ids.specs.declared.ids.Layer.{Layer}
use Rattle.tect_ids.specs.contracts.ids.Layer as layer
use Rattle.store_rules.specs.declared.any.AnyReq.{AnyReq}
use Rattle.store_rules.specs.declared.any.AnyReply.{AnyReply}
use Rattle.store_rules.specs.contracts.AnyReply as any_reply
use Rattle.entry_words.specs.declared.entry.Entry.{Entry}
use Rattle.entry_words.specs.declared.entry.Label.{Label}

-- the state after the requests of a history
abbrev pub state_after : {S : Type 0} → (S → AnyReq → S) → S → List Entry → S
state_after after s [] = s
state_after after s (e ∷ es) = state_after after (after s e.req) es

-- each reply is the one that the machine gives there
abbrev pub IsLegal : {S : Type 0} → (S → AnyReq → S) → (S → AnyReq → AnyReply) → S → List Entry → Type 0
IsLegal after answer s [] = Unit {0}
IsLegal after answer s (e ∷ es) = (e.reply ≡ answer s e.req) × IsLegal after answer (after s e.req) es

abbrev pub all_at : Place → List Entry → Bool
all_at p [] = true
all_at p (e ∷ es) = (e.place.0 == p.0) && all_at p es

-- the stamps rise, from above low, and the last is high
abbrev pub stamps_rise : ℕ → ℕ → List Entry → Bool
stamps_rise low high [] = low == high
stamps_rise low high (e ∷ es) = nat_lt low e.stamp && stamps_rise e.stamp high es

pub record IsKept {S : Type 0} (after : S → AnyReq → S) (answer : S → AnyReq → AnyReply) (opening : Bool → S)
    (label : Label) (machine base : S) (history : List Entry) (clock count : ℕ) : Type 0 where
  pub replays : machine ≡ state_after after base history
  pub legal : IsLegal after answer base history
  pub opened : label.folded ≡ false → base ≡ opening label.rooted
  pub placed : all_at label.place history ≡ true
  pub rising : stamps_rise 0 clock history ≡ true
  pub bounded : clock ≤ 2 ^ 63 + 2 ^ 32 + length history
  pub counted : count ≡ length history

pub Layer-set : IsSet Layer
Layer-set = Coded-set (layer.the_row).coded

pub AnyReply-set : IsSet AnyReply
AnyReply-set = Coded-set (any_reply.the_row).coded

pub IsLegal-prop : {S : Type 0} (after : S → AnyReq → S) (answer : S → AnyReq → AnyReply) (s : S) (es : List Entry)
    → IsProp (IsLegal after answer s es)
IsLegal-prop after answer s [] = Unit-prop
IsLegal-prop after answer s (e ∷ es) = ×_prop (AnyReply-set e.reply (answer s e.req)) (IsLegal-prop after answer (after s e.req) es)

Bool-set : IsSet Bool
Bool-set = Coded-set coded_bool

ℕ-set : IsSet ℕ
ℕ-set = Coded-set coded_ℕ

pub IsKept-prop : {S : Type 0} (code : Coded S) (after : S → AnyReq → S) (answer : S → AnyReq → AnyReply) (opening : Bool → S)
    (label : Label) (machine base : S) (history : List Entry) (clock count : ℕ)
    → IsProp (IsKept after answer opening label machine base history clock count)
IsKept-prop {S} code after answer opening label machine base history clock count =
    let set : IsSet S = Coded-set code in
    Prim.hlevel (set, IsLegal-prop, Bool-set, ℕ-set, le_prop)
