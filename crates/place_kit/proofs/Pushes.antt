-- One entry more keeps what the type of `Kept` keeps.
use Rattle.std.proofs.Common.{◌≡◌, ℕ, ◌<◌, true, List, [], ◌∷◌, ◌++◌, refl, ap, arith}
use Rattle.std.proofs.lemmas.Bool.Decides.{nat_tests}
use Rattle.std.proofs.lemmas.Grind.{common_steps}
use Rattle.tect_ids.specs.declared.ids.Place.{Place}
use Rattle.store_rules.specs.declared.any.AnyReq.{AnyReq}
use Rattle.store_rules.specs.declared.any.AnyReply.{AnyReply}
use Rattle.entry_words.specs.declared.entry.Entry.{Entry}
use Rattle.place_kit.specs.Replay.{state_after, IsLegal, all_at, stamps_rise}

module _ {S : Type 0} (after : S → AnyReq → S) where
  pub state_after-push : (s : S) (es : List Entry) (e : Entry) → state_after after s (es ++ e ∷ []) ≡ after (state_after after s es) e.req
  state_after-push s [] e = refl
  state_after-push s (x ∷ es) e = state_after-push (after s x.req) es e

  pub IsLegal-push : (answer : S → AnyReq → AnyReply) (s : S) (es : List Entry) (e : Entry) → IsLegal after answer s es
      → e.reply ≡ answer (state_after after s es) e.req → IsLegal after answer s (es ++ e ∷ [])
  IsLegal-push answer s [] e l h = (h, tt)
  IsLegal-push answer s (x ∷ es) e l h = (l.0, IsLegal-push answer (after s x.req) es e l.1 h)

pub all_at-push : (p : Place) (es : List Entry) (e : Entry) → all_at p es ≡ true → e.place ≡ p → all_at p (es ++ e ∷ []) ≡ true
all_at-push p [] e h at = grind (arith, nat_tests, ap (λ (q : Place). q.0) at)
all_at-push p (x ∷ es) e h at = grind (arith, common_steps, all_at-push p es e)

pub stamps_rise-push : (low high : ℕ) (es : List Entry) (e : Entry) → stamps_rise low high es ≡ true → high < e.stamp
    → stamps_rise low e.stamp (es ++ e ∷ []) ≡ true
stamps_rise-push low high [] e h lt = grind (arith, nat_tests)
stamps_rise-push low high (x ∷ es) e h lt = grind (arith, common_steps, stamps_rise-push x.stamp high es e)
