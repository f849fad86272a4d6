-- the release keeps the laws of parts
use Rattle.std.proofs.Common.{◌≡◌, true, false, Option, Some, None, refl, ◌∙◌}
use Rattle.tect_ids.specs.declared.ids.Hold.{Hold}
use Rattle.tect_ids.specs.declared.ids.Node.{Node}
use Rattle.tect_ids.specs.declared.ids.Node.TheVariants.{Dir, File}
use Rattle.tect_ids.specs.declared.ids.OpId.{OpId}
use Rattle.tect_ids.specs.declared.answer.Answer.{Answer}
use Rattle.store_rules.specs.declared.names.Replaced.{Replaced}
use Rattle.store_rules.specs.declared.any.AnyReq.{AnyReq}
use Rattle.tect_calls.specs.declared.tokens.Freed.{Freed}
use Rattle.tect_calls.specs.Readings.{freed_old}
use Rattle.program_forms.specs.Memories.{Memory}
use Rattle.program_parts.specs.declared.releasing.Releasing.{Releasing}
use Rattle.program_parts.specs.Releases.{release_ask, then_release, releasing}
use Rattle.store_pasts.specs.Worlds.{World, next, over}
use Rattle.store_pasts.specs.Pasts.{is_spent}
use Rattle.store_pasts.specs.Later.{Touched, Later}
use Rattle.store_pasts.specs.Requests.{touched_by, OldSpent}
use Rattle.store_pasts.proofs.Over.{over_later}
use Rattle.program_laws.specs.Known.{Meets, is_odd}
use Rattle.part_laws.specs.Parts.{NextKnows, next_decided, PartLaws}
use Rattle.part_laws.specs.Releases.{IsFreed, ReleaseKnows, release_known, release_deciding}
use Rattle.part_laws.proofs.Own.{plain, nothing_own}

-- ---- what can be released stays so

module _ (by : Touched) (w v : World) (l : Later by w v) where
  pub freed_stays : (f : Option Freed) → IsFreed w f → IsFreed v f
  freed_stays None k = k
  freed_stays (Some f) k = l.spent f.hold k

  pub release_stays : (op : OpId) (m n : Memory) (r : Releasing) → ReleaseKnows w op m r → ReleaseKnows v op n r
  release_stays op m n r k = record {
    first = l.spent (r.first).hold k.first;
    second = freed_stays r.second k.second;
    plain = k.plain;
  }

-- where the op's other holds are given up too
pub release_over : (v : World) (op : OpId) (m : Memory) (r : Releasing) → ReleaseKnows v op m r → ReleaseKnows (over op v) op m r
release_over v op m r k = release_stays _ v (over op v) (over_later v op) op m m r k

-- the hold of what was replaced can be released
pub old_freed : (v : World) (old : Option Replaced) → OldSpent v old → IsFreed v (freed_old old)
old_freed v None k = k
old_freed v (Some old) k = k

-- ---- one hold, if there is one, and then the answer

pub then_release_knows : (w : World) (op : OpId) (m : Memory) (f : Option Freed) (a : Answer) → IsFreed w f → is_odd a ≡ false
    → NextKnows release_known w op m (then_release f a)
then_release_knows w op m None a k plain = plain
then_release_knows w op m (Some f) a k plain = record { first = k; second = tt; plain = plain }

pub then_release_decided : (f : Option Freed) (a : Answer) → next_decided release_deciding (then_release f a) ≡ Some a
then_release_decided None a = refl
then_release_decided (Some f) a = refl

-- ---- the laws

release_meets : (w : World) (op : OpId) (m : Memory) (n : Node) (h : Hold) → is_spent w h ≡ true → Meets w op m (release_ask n h)
release_meets w op m (Dir d) h k = plain w op m _ refl k (nothing_own op m)
release_meets w op m (File f) h k = plain w op m _ refl k (nothing_own op m)

pub release_laws : PartLaws releasing release_deciding release_known
release_laws = record {
  turns = λ c w op m s r k. (r, refl, k);
  turned = λ c m op s. refl;
  meets = λ c w op m s r a k. release_meets w op m (s.first).node (s.first).hold k.first;
  stays = λ by w v op m s later apart k. release_stays by w v later op m m s k;
  ends = λ by w v a later e. e;
  goes_on = λ c w op m n s r a k kept serial.
      let q : AnyReq = release_ask (s.first).node (s.first).hold in
      then_release_knows (next w q) op n s.second s.answer (freed_stays (touched_by q) w (next w q) kept.later s.second k.second) k.plain;
  learns = λ c w op m s r a k kept. tt;
  heard = λ c m op s q x r e. then_release_decided s.second s.answer ∙ e;
  spends = λ c w op m s r a k e. absurd (let f : Some s.answer ≡ None = e in cc);
  grants = λ c w op m s r a k e. absurd (let f : Some s.answer ≡ None = e in cc);
}
