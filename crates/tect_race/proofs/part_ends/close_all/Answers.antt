use Rattle.std.proofs.Common.{◌≡◌, ◌+◌, ◌<◌, ◌∷◌, ◌++◌, [], List, length, suc, set, take, drop, get_or, sym, ap, subst, ◌∙◌, arith}
use Rattle.std.specs.List.{flat_map}
use Rattle.std.proofs.lemmas.List.{take_more}
use Rattle.racers.specs.declared.racer.Racer.{Racer}
use Rattle.racer_stories.specs.Closed.{AllClosed, Closed}
use Rattle.racer_stories.proofs.Endings.{zip_on, drop_on, get_left}
use Rattle.list_laws.proofs.Pairs.{flat_map-snoc}
use Rattle.tect_race.proofs.part_ends.close_all.Goals as goal

pub racers-preserved : goal.racers-preserved
racers-preserved g c =
    let i = c.racers.racer-index in
    let xs : List (Racer g.row.P.Denot) = c.args.racers.now in
    let ys : List (Racer g.row.P.Denot) = c.racers.racers in
    let r : Racer g.row.P.Denot = c.racer-item.result in
    let t : Racer g.row.P.Denot = c.close.new.racer in
    let same : length ys ≡ length xs = c.racers.auto.racers in
    let in_xs : i < length xs = c.racers-test.true in
    let in_ys : i < length ys = omega arith in
    let here : get_or xs i r ≡ r = get_left i xs ys r c.racers.invariant.left ∙ sym c.racer-item.is in
    let one : suc i ≡ i + 1 = omega arith in
    let closed : Closed g.P.Programs.rules c.args.clock r t = subst (λ
    (x : Racer g.row.P.Denot). Closed g.P.Programs.rules c.args.clock x t) (sym c.racer-item.is) c.in_ok-close.ensures.closed
    in
    let told : c.close.new.answers.items ≡ c.racers.answers.items ++ (get_or ys i r).answers.items = c.in_ok-close.ensures.told in
    record {
      closed = subst (λ k. AllClosed g.P.Programs.rules c.args.clock (take k xs) (take k (set ys i t))) one
          (zip_on (Closed g.P.Programs.rules c.args.clock) i xs ys r t in_ys c.racers.invariant.closed c.racers.invariant.left
          c.racer-item.is closed);
      left = subst (λ k. drop k (set ys i t) ≡ drop k xs) one (drop_on i xs ys t c.racers.invariant.left);
      told = told ∙ ap (λ (x : Racer g.row.P.Denot). c.racers.answers.items ++ x.answers.items) (sym c.racer-item.is)
          ∙ ap (λ l. l ++ r.answers.items)
          c.racers.invariant.told
          ∙ sym (ap (λ (l : List (Racer g.row.P.Denot)). flat_map (λ (x : Racer g.row.P.Denot). x.answers.items) l)
          (take_more xs i r in_xs ∙ ap (λ (x : Racer g.row.P.Denot). take i xs ++ x ∷ []) here) ∙ flat_map-snoc
          (λ (x : Racer g.row.P.Denot). x.answers.items)
          (take i xs) r);
    }
