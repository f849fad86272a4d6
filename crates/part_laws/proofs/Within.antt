-- A part within another, as an operation among all operations: at its states the whole keeps the laws that the part keeps.
use Rattle.std.proofs.Common.{◌≡◌, Option, refl, sym, ◌∙◌}
use Rattle.tect_ids.specs.declared.ids.OpId.{OpId}
use Rattle.store_rules.specs.declared.any.AnyReq.{AnyReq}
use Rattle.store_rules.specs.Store.{store_reply}
use Rattle.program_forms.specs.Memories.{Memory}
use Rattle.program_parts.specs.declared.next.Next.{Next}
use Rattle.program_parts.specs.declared.next.Next.TheVariants.{Goes, Comes}
use Rattle.program_parts.specs.Parts.{within}
use Rattle.program_parts.specs.Doings.{Doing, doing_within}
use Rattle.store_pasts.specs.Worlds.{World, next, settled}
use Rattle.program_laws.specs.Known.{Deciding, Known}
use Rattle.part_laws.specs.Parts.{NextKnows, next_decided, IsTurned}
use Rattle.part_laws.proofs.States.{LawsAt}

-- in these states it is decided as the part is, it knows what the part knows, and the same is so of its result
pub record IsWithin {S T R : Type 0} (f : S → T) (D : Deciding S R) (N : Known S R) (E : Deciding T R) (M : Known T R) : Type 0 where
  pub decided : (s : S) → E.decided (f s) ≡ D.decided s
  pub knows : (w : World) (op : OpId) (m : Memory) (s : S) → N.Knows w op m s → M.Knows w op m (f s)
  pub ends : (w : World) (r : R) → N.Ends w r → M.Ends w r

module _ {S T R : Type 0} (f : S → T) where
  pub within_knows : (N : Known S R) (M : Known T R) (w : World) (op : OpId) (m : Memory)
      → ((s : S) → N.Knows w op m s → M.Knows w op m (f s))
      → ((r : R) → N.Ends w r → M.Ends w r) → (n : Next S R) → NextKnows N w op m n → NextKnows M w op m (within f n)
  within_knows N M w op m knows ends (Goes s) k = knows s k
  within_knows N M w op m knows ends (Comes r) k = ends r k

  pub within_decided : (D : Deciding S R) (E : Deciding T R) → ((s : S) → E.decided (f s) ≡ D.decided s) → (n : Next S R)
      → next_decided E (within f n) ≡ next_decided D n
  within_decided D E same (Goes s) = same s
  within_decided D E same (Comes r) = refl

  pub within_turned : (D : Deciding S R) (E : Deciding T R) → ((s : S) → E.decided (f s) ≡ D.decided s) → (was : Option R) (n : Next S R)
      → IsTurned D was n → IsTurned E was (within f n)
  within_turned D E same was (Goes s) t = same s ∙ t
  within_turned D E same was (Comes r) t = t

module _ {S T R : Type 0} (f : S → T) {D : Deciding S R} {N : Known S R} {E : Deciding T R} {M : Known T R}
    (i : IsWithin f D N E M) where
  knows_then : (w : World) (op : OpId) (m : Memory) (n : Next S R) → NextKnows N w op m n → NextKnows M w op m (within f n)
  knows_then w op m n k = within_knows f N M w op m (i.knows w op m) (i.ends w) n k

  decided_then : (n : Next S R) → next_decided E (within f n) ≡ next_decided D n
  decided_then n = within_decided f D E i.decided n

  pub laws_within : {d : Doing S R} {now : Option R} {Knows : World → OpId → Memory → Type 0} → LawsAt d D N now Knows
      → LawsAt (doing_within f d) E M now Knows
  laws_within {d} {now} {Knows} l = record {
    turns = λ c w op m r k.
        let so = l.turns c w op m r k in
        (so.0, so.1, knows_then w op (d.turns c m op).memory (d.turns c m op).state so.2);
    turned = λ c m op. within_turned f D E i.decided now (d.turns c m op).state (l.turned c m op);
    meets = l.meets;
    stays = l.stays;
    goes_on = λ c w op m n r a k kept serial.
        let q : AnyReq = d.asks c m op in
        let h : Next S R = d.hears c m op q (store_reply w.store q) in
        rw (decided_then h)
        (knows_then (settled op now (next_decided D h) (next w q)) op n h (l.goes_on c w op m n r a k kept serial));
    learns = l.learns;
    heard = λ c m op q x r e. decided_then (d.hears c m op q x) ∙ l.heard c m op q x r e;
    spends = λ c w op m r a k e x h g is.
        let q : AnyReq = d.asks c m op in
        l.spends c w op m r a k e x h g (sym (decided_then (d.hears c m op q (store_reply w.store q))) ∙ is);
    grants = λ c w op m r a k e kept h none touched granted.
        let q : AnyReq = d.asks c m op in
        decided_then (d.hears c m op q (store_reply w.store q)) ∙ l.grants c w op m r a k e kept h none touched granted;
  }
