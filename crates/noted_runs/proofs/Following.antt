-- each client's own lines and events make the whole history follow the script by client
use Rattle.std.proofs.Common.{◌≡◌, ℕ, None, Option, List, [], ◌∷◌, ◌++◌, refl, sym, ap, ◌∙◌, subst, append_assoc}
use Rattle.std.specs.List.{filter}
use Rattle.tect_ids.specs.declared.ids.OpId.{OpId}
use Rattle.tect_ids.specs.declared.script.Act.{Act}
use Rattle.tect_ids.specs.declared.script.Line.{Line}
use Rattle.tect_ids.specs.declared.script.Line.TheVariants as lines
use Rattle.world_runs.specs.declared.event.Event.{Event}
use Rattle.world_runs.specs.Follows.{Busy, DoesLine, FollowsFrom, none_busy, with_busy}
use Rattle.world_runs.specs.Races.{concerns, line_concerns}
use Rattle.whole_runs.specs.ClientLines.{DoesLines}
use Rattle.noted_runs.specs.Laws.{ClientsFollow}
use Rattle.world_runs.proofs.Actors.{same_number}

-- the line is done by its own client
does_of : (busy : Busy) (actor other : ℕ) (b : Option OpId) (act : Act) (es : List Event) (next : Option OpId) → other ≡ actor
    → busy actor ≡ b
    → DoesLine actor b act es next → DoesLine other (busy other) act es next
does_of busy actor other b act es next is at does = rw (is, at) does

busy_after : (busy : Busy) (actor other : ℕ) (next : Option OpId) → other ≡ actor → with_busy busy other next actor ≡ next
busy_after busy actor other next is = rw (is, same_number actor) refl

pub lines_follow : (actor : ℕ) (busy : Busy) (b : Option OpId) (ls : List Line) (es : List Event) (last : Option OpId) → busy actor ≡ b
    → DoesLines actor b ls es last → FollowsFrom busy ls es
lines_follow actor busy b [] es last at does = does.0
lines_follow actor busy b (lines.Client client other act ∷ ls) es last at does =
    let next : Option OpId = does.2 in (
      does.0,
      does.1,
      next,
      does.4,
      does_of busy actor other b act does.0 next does.3 at does.5,
      lines_follow actor (with_busy busy other next) next ls does.1 last (busy_after busy actor other next does.3) does.6,
    )
lines_follow actor busy b (lines.Dump ∷ ls) es last at does = (does.0, does.1, lines_follow actor busy b ls does.0 last at does.2)
lines_follow actor busy b (lines.Store counts ∷ ls) es last at does = absurd does
lines_follow actor busy b (lines.Sweep ∷ ls) es last at does = absurd does
lines_follow actor busy b (lines.Lose disk ∷ ls) es last at does = absurd does

pub clients_follow : ClientsFollow
clients_follow ls history does actor = lines_follow actor none_busy None (filter (line_concerns actor) ls) (filter (concerns actor) history)
    (does actor).0 refl (does actor).1

-- some lines, and then further ones
pub does_lines-append : (actor : ℕ) (a b c : Option OpId) (ls ks : List Line) (es fs : List Event) → DoesLines actor a ls es b
    → DoesLines actor b ks fs c → DoesLines actor a (ls ++ ks) (es ++ fs) c
does_lines-append actor a b c [] ks es fs first more =
    let behind : DoesLines actor a ks fs c = subst (λ (x : Option OpId). DoesLines actor x ks fs c) first.1 more in
    subst (λ (xs : List Event). DoesLines actor a ks (xs ++ fs) c) (sym first.0) behind
does_lines-append actor a b c (lines.Client client other act ∷ ls) ks es fs first more =
    let parts : es ++ fs ≡ first.0 ++ (first.1 ++ fs) = ap (λ xs. xs ++ fs) first.4 ∙ append_assoc first.0 first.1 fs in
    (first.0, first.1 ++ fs, first.2, first.3, parts, first.5, does_lines-append actor first.2 b c ls ks first.1 fs first.6 more)
does_lines-append actor a b c (lines.Dump ∷ ls) ks es fs first more =
    (first.0 ++ fs, ap (λ xs. xs ++ fs) first.1, does_lines-append actor a b c ls ks first.0 fs first.2 more)
does_lines-append actor a b c (lines.Store counts ∷ ls) ks es fs first more = absurd first
does_lines-append actor a b c (lines.Sweep ∷ ls) ks es fs first more = absurd first
does_lines-append actor a b c (lines.Lose disk ∷ ls) ks es fs first more = absurd first
