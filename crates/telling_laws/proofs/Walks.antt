-- the steps of one op: its walk, what it saw, and its point, once more steps are there
use Rattle.std.proofs.Common.{◌≡◌, ℕ, Some, List, [], ◌∷◌, ◌++◌, refl, ap, ◌∙◌, inl, inr, append_assoc}
use Rattle.tect_ids.specs.declared.ids.DirId.{DirId}
use Rattle.tect_ids.specs.declared.ids.OpId.{OpId}
use Rattle.tect_ids.specs.declared.ids.Node.TheVariants.{Dir}
use Rattle.tect_ids.specs.declared.command.Command.{Command}
use Rattle.tect_ids.specs.declared.answer.Answer.{Answer}
use Rattle.tect_ids.specs.Numbers.{root}
use Rattle.store_rules.specs.Names.{key_in}
use Rattle.tree_model.specs.declared.step.TreeStep.{TreeStep}
use Rattle.tree_model.specs.declared.step.TreeStep.TheVariants as step
use Rattle.tree_model.specs.declared.step.StepValue.TheVariants as shown
use Rattle.tree_model.specs.declared.step.TreeReply.{TreeReply}
use Rattle.tree_model.specs.declared.step.TreeReply.TheVariants.{Ok}
use Rattle.tree_model.specs.Tree.{tree_reply, opening_tree}
use Rattle.claim_words.specs.Points.{way, of_op, Walked, Seen, DecidesAt, Point}
use Rattle.claim_words.specs.TreeSteps.{Told, told_as, tree_after}
use Rattle.telling_laws.proofs.Histories.{of_op-append, itself}

-- the walk goes on to the directory that was found
pub walked_on : (d : DirId) (names : List (List ℕ)) (own : List Told) (e : DirId) (n : List ℕ) (rest : List (List ℕ)) (s : Told)
    (x : DirId) → Walked d names own e (n ∷ rest)
    → s.does ≡ step.Look (key_in e n) → s.says ≡ Ok (shown.Node (Dir x)) → Walked d names (own ++ s ∷ []) x rest
walked_on d [] [] e n rest s x w does said = absurd (let k : [] ≡ n ∷ rest = w.1 in cc)
walked_on d (m ∷ ms) [] e n rest s x w does said =
    let k : m ∷ ms ≡ n ∷ rest = w.1 in let mn : m ≡ n = cc in let same : ms ≡ rest = cc in
    (x, rw (w.0, mn) does, said, (refl, same))
walked_on d [] (o ∷ os) e n rest s x w does said = walked_on d [] os e n rest s x w does said
walked_on d (m ∷ ms) (o ∷ os) e n rest s x w does said = (w.0, w.1, w.2, walked_on w.0 ms os e n rest s x w.3 does said)

-- a walk that is over stays so
pub walked_over : (d : DirId) (names : List (List ℕ)) (own more : List Told) (e : DirId) → Walked d names own e []
    → Walked d names (own ++ more) e []
walked_over d [] [] [] e w = w
walked_over d [] [] (s ∷ ss) e w = walked_over d [] [] ss e w
walked_over d (m ∷ ms) [] more e w = absurd (let k : m ∷ ms ≡ [] = w.1 in cc)
walked_over d [] (o ∷ os) more e w = walked_over d [] os more e w
walked_over d (m ∷ ms) (o ∷ os) more e w = (w.0, w.1, w.2, walked_over w.0 ms os more e w.3)

-- what was seen stays seen
pub seen_more : (t u : List Told) (s : TreeStep) (x : TreeReply) → Seen t s x → Seen (t ++ u) s x
seen_more [] u s x h = absurd h
seen_more (o ∷ os) u s x (inl h) = inl h
seen_more (o ∷ os) u s x (inr h) = inr (seen_more os u s x h)

pub seen_last : (t : List Told) (o : Told) → Seen (t ++ o ∷ []) o.does o.says
seen_last [] o = inl (refl, refl)
seen_last (q ∷ qs) o = inr (seen_last qs o)

-- a step of the op itself
pub own_step : (op : OpId) (s : TreeStep) (x : TreeReply) → of_op op (told_as op (Some s) x) ≡ told_as op (Some s) x
own_step op s x = rw (itself op) refl

-- more steps leave a point
pub point_stays : (t u : List Told) (op : OpId) (c : Command) (a : Answer) → Point t op c a → Point (t ++ u) op c a
point_stays t u op c a p = record {
  before = p.before;
  point = p.point;
  later = p.later ++ u;
  there = ap (λ l. l ++ u) p.there ∙ append_assoc p.before (p.point ∷ p.later) u;
  own = p.own;
  dir = p.dir;
  left = p.left;
  walked = p.walked;
  by_tree = p.by_tree;
  decides = p.decides;
}

-- the last of the steps told so far
module _ (t : List Told) (op : OpId) (c : Command) where
  -- it decides
  pub here : (d : DirId) (left : List (List ℕ)) (s : TreeStep) (x : TreeReply) (a : Answer) → Walked root (way c) (of_op op t) d left
      → x ≡ tree_reply (tree_after opening_tree t) op s
      → DecidesAt c (of_op op t) d left s x a → Point (t ++ told_as op (Some s) x) op c a
  here d left s x a walked said decides = record {
    before = t;
    point = record { op = op; does = s; says = x };
    later = [];
    there = refl;
    own = refl;
    dir = d;
    left = left;
    walked = walked;
    by_tree = said;
    decides = decides;
  }

  -- the walk is over, and stays so
  pub over_still : (d : DirId) (u : List Told) → Walked root (way c) (of_op op t) d [] → Walked root (way c) (of_op op (t ++ u)) d []
  over_still d u walked = rw (of_op-append op t u) (walked_over root (way c) (of_op op t) (of_op op u) d walked)

  pub seen_still : (u : List Told) (s : TreeStep) (x : TreeReply) → Seen (of_op op t) s x → Seen (of_op op (t ++ u)) s x
  seen_still u s x h = rw (of_op-append op t u) (seen_more (of_op op t) (of_op op u) s x h)

  pub seen_now : (s : TreeStep) (x y : TreeReply) → x ≡ y → Seen (of_op op (t ++ told_as op (Some s) x)) s y
  seen_now s x y e = rw (of_op-append op t (told_as op (Some s) x), own_step op s x, ← e)
      (seen_last (of_op op t) record { op = op; does = s; says = x })

  pub walks_on : (d : DirId) (n : List ℕ) (ns : List (List ℕ)) (x : TreeReply) (e : DirId) → Walked root (way c) (of_op op t) d (n ∷ ns)
      → x ≡ Ok (shown.Node (Dir e))
      → Walked root (way c) (of_op op (t ++ told_as op (Some (step.Look (key_in d n))) x)) e ns
  walks_on d n ns x e walked said =
      rw (of_op-append op t (told_as op (Some (step.Look (key_in d n))) x), own_step op (step.Look (key_in d n)) x)
      (walked_on root (way c) (of_op op t) d n ns record { op = op; does = step.Look (key_in d n); says = x } e walked refl said)
