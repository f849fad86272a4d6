-- A part of a command comes to its result after finitely many of its requests, whatever is replied to them.
use Rattle.std.proofs.Common.{◌≡◌, Option, Some, None, refl, sym, subst, ◌∙◌}
use Rattle.tect_ids.specs.declared.ids.Counts.{Counts}
use Rattle.tect_ids.specs.declared.ids.OpId.{OpId}
use Rattle.tect_ids.specs.declared.answer.Answer.{Answer}
use Rattle.store_rules.specs.declared.any.AnyReq.{AnyReq}
use Rattle.store_rules.specs.declared.any.AnyReply.{AnyReply}
use Rattle.program_forms.specs.Memories.{Memory}
use Rattle.program_parts.specs.declared.next.Next.{Next}
use Rattle.program_parts.specs.declared.next.Next.TheVariants.{Goes, Comes}
use Rattle.program_parts.specs.declared.releasing.Releasing.{Releasing}
use Rattle.program_parts.specs.Parts.{Part, within}
use Rattle.program_parts.specs.Releases.{then_release, releasing}
use Rattle.tect_calls.specs.declared.tokens.Freed.{Freed}

-- In that state it halts: whatever its actor knows and whatever is replied, so does it in the state where it goes on, if it does.
pub data Halts {S R : Type 0} (P : Part S R) : S → Type 0 where
  halts : (s : S)
      → ((c : Counts) (m : Memory) (op : OpId) (q : AnyReq) (x : AnyReply) (t : S) → P.hears c m op s q x ≡ Goes t → Halts P t)
      → Halts P s

-- it has its result, or halts
abbrev pub NextHalts : {S R : Type 0} → Part S R → Next S R → Type 0
NextHalts {S} {R} P n = (t : S) → n ≡ Goes t → Halts P t

module _ {S R : Type 0} (P : Part S R) where
  pub comes_halts : (r : R) → NextHalts P (Comes r)
  comes_halts r t e = absurd cc

  same_state : (s t : S) → (let a : Next S R = Goes s in let b : Next S R = Goes t in a ≡ b) → s ≡ t
  same_state s t e = cc

  pub goes_halts : (s : S) → Halts P s → NextHalts P (Goes s)
  goes_halts s h t e = subst (Halts P) (same_state s t e) h

-- ---- a part within another

module _ {S T R : Type 0} (P : Part S R) (Q : Part T R) (f : S → T) where
  within_next : (n : Next S R) → ((u : S) → n ≡ Goes u → Halts Q (f u)) → NextHalts Q (within f n)
  within_next (Goes u) rest = goes_halts Q (f u) (rest u refl)
  within_next (Comes r) rest = comes_halts Q r

  pub within_halts
      : ((c : Counts) (m : Memory) (op : OpId) (s : S) (q : AnyReq) (x : AnyReply)
      → Q.hears c m op (f s) q x ≡ within f (P.hears c m op s q x))
      → (s : S) → Halts P s → Halts Q (f s)
  within_halts is s (halts own h) = halts (f own)
      (λ c m op q x t e. within_next (P.hears c m op own q x) (λ u g. within_halts is u (h c m op q x u g)) t (sym (is c m op own q x) ∙ e))

-- ---- the release of holds

last_halts : (f : Freed) (a : Answer) → Halts releasing record { first = f; second = None; answer = a }
last_halts f a = halts _ (λ c m op q x. comes_halts releasing a)

then_halts : (o : Option Freed) (a : Answer) → NextHalts releasing (then_release o a)
then_halts None a = comes_halts releasing a
then_halts (Some f) a = goes_halts releasing record { first = f; second = None; answer = a } (last_halts f a)

pub releasing_halts : (r : Releasing) → Halts releasing r
releasing_halts r = halts r (λ c m op q x. then_halts r.second r.answer)

-- as the last of a part
pub released_halts : {S : Type 0} (P : Part S Answer) (f : Releasing → S) → ((r : Releasing) → Halts P (f r))
    → (o : Option Freed) (a : Answer) → NextHalts P (within f (then_release o a))
released_halts P f all None a = comes_halts P a
released_halts P f all (Some g) a = goes_halts P (f record { first = g; second = None; answer = a })
    (all record { first = g; second = None; answer = a })
