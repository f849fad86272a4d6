-- What the type of `Kept` keeps, after one entry more; and that equal parts make equal values.
use Rattle.std.proofs.Common.{◌≡◌, ℕ, ◌+◌, ◌<◌, ◌≤◌, ◌^◌, Bool, List, [], ◌∷◌, ◌++◌, length, sym, ◌∙◌, ap, subst, arith}
use Rattle.std.proofs.Common.{length-append}
use Rattle.std.specs.Coded.{Coded}
use Rattle.std.specs.declared.snapshot.Snapshot.{Snapshot}
use Rattle.store_rules.specs.declared.any.AnyReq.{AnyReq}
use Rattle.store_rules.specs.declared.any.AnyReply.{AnyReply}
use Rattle.entry_words.specs.declared.entry.Entry.{Entry}
use Rattle.entry_words.specs.declared.entry.Label.{Label}
use Rattle.place_kit.specs.declared.kept.Kept.{Kept}
use Rattle.place_kit.specs.declared.machine.Machine.{Ghosts}
use Rattle.passes.specs.Logged.{Logged}
use Rattle.place_kit.specs.Replay.{IsKept, IsKept-prop, Layer-set}
use Rattle.place_kit.proofs.Pushes.{state_after-push, IsLegal-push, all_at-push, stamps_rise-push}

pub IsKept-push : {S : Type 0} (after : S → AnyReq → S) (answer : S → AnyReq → AnyReply) (opening : Bool → S)
    (label : Label) (machine next base : S) (history : List Entry) (clock count : ℕ) (e : Entry)
    → IsKept after answer opening label machine base history clock count
    → next ≡ after machine e.req → e.reply ≡ answer machine e.req → e.place ≡ label.place → clock < e.stamp
    → e.stamp ≤ 2 ^ 63 + 2 ^ 32 + length history + 1
    → IsKept after answer opening label next base (history ++ e ∷ []) e.stamp (count + 1)
IsKept-push after answer opening label machine next base history clock count e k step reply place later bound = record {
  replays = step ∙ ap (λ s. after s e.req) k.replays ∙ sym (state_after-push after base history e);
  legal = IsLegal-push after answer base history e k.legal (reply ∙ ap (λ s. answer s e.req) k.replays);
  opened = k.opened;
  placed = all_at-push label.place history e k.placed place;
  rising = stamps_rise-push 0 clock history e k.rising later;
  bounded = omega (arith, length-append history (e ∷ []), bound);
  counted = omega (arith, length-append history (e ∷ []), k.counted);
}

-- kepts with equal parts are the same
module _ {X Y Z : Type 0} {g : Ghosts X Y Z} (code : Coded X) where
  pub same_kept : (k l : Kept X Y Z g) → k.label ≡ l.label → k.machine ≡ l.machine → k.base ≡ l.base
      → k.history ≡ l.history → k.clock ≡ l.clock → k.count ≡ l.count → k ≡ l
  same_kept k l a b c d e f =
      let T : Type 0 = Label × X × Snapshot X × Logged Entry × ℕ × ℕ in
      let F : T → Type 0 = λ t. IsKept g.after g.answer g.opening t.0 t.1 t.2.value t.3.items t.4 t.5 × (t.0.layer ≡ g.layer) in
      let to : (t : T) → F t → Kept X Y Z g = λ t f. record {
        label = t.0;
        machine = t.1;
        base = t.2;
        history = t.3;
        clock = t.4;
        count = t.5;
        kept = f.0;
        layered = f.1;
      } in
      let s : T = (k.label, k.machine, k.base, k.history, k.clock, k.count) in
      let t : T = (l.label, l.machine, l.base, l.history, l.clock, l.count) in
      let p : s ≡ t = cc in
      let here : (f : F t) → to t f ≡ l =
      λ f.
      let same : f.0 ≡ l.kept = IsKept-prop code g.after g.answer g.opening l.label l.machine l.base.value l.history.items
      l.clock l.count f.0 l.kept in
      let layer : f.1 ≡ l.layered = Layer-set l.label.layer g.layer f.1 l.layered in
      λ i. to t (same i, layer i) in
      subst (λ (u : T). (f : F u) → to u f ≡ l) (sym p) here (k.kept, k.layered)
