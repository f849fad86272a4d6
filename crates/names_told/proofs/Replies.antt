-- what a program makes of a reply, against what the reply says to the tree
use Rattle.std.proofs.Common.{◌≡◌, ℕ, true, false, is_some, Option, Some, None, List, refl, arith}
use Rattle.tect_ids.specs.declared.ids.DirId.{DirId}
use Rattle.tect_ids.specs.declared.ids.FileId.{FileId}
use Rattle.tect_ids.specs.declared.ids.Hold.{Hold}
use Rattle.tect_ids.specs.declared.ids.Place.{Place}
use Rattle.tect_ids.specs.declared.ids.Node.{Node}
use Rattle.tect_ids.specs.declared.ids.Node.TheVariants as nodes
use Rattle.tect_ids.specs.declared.key.Key.{Key}
use Rattle.tect_ids.specs.declared.answer.Answer.{Answer}
use Rattle.tect_ids.specs.declared.answer.Answer.TheVariants as answers
use Rattle.tect_ids.specs.declared.values.Listed.{Listed}
use Rattle.tect_ids.specs.declared.values.Over.{Over}
use Rattle.tect_ids.specs.declared.values.Want.TheVariants.{AnyFile}
use Rattle.tect_ids.specs.Refusals.{refusal_answer}
use Rattle.store_rules.specs.declared.names.NameReq.TheVariants as names
use Rattle.store_rules.specs.declared.files.FileReq.TheVariants as files
use Rattle.store_rules.specs.declared.any.AnyReq.TheVariants as any
use Rattle.store_rules.specs.declared.any.AnyReply.{AnyReply}
use Rattle.store_rules.specs.declared.names.Replaced.{Replaced}
use Rattle.store_rules.specs.Views.{as_parent, as_listing, as_bound, as_unbound, as_swapped, is_granted, is_sealed}
use Rattle.store_rules.specs.Store.{Store, store_reply}
use Rattle.tree_model.specs.declared.step.StepValue.TheVariants as shown
use Rattle.tree_model.specs.declared.step.TreeReply.{TreeReply}
use Rattle.tree_model.specs.declared.step.TreeReply.TheVariants.{Ok, Refused}
use Rattle.tree_model.specs.Tree.{is_ok}
use Rattle.program_parts.specs.Refused.{dir_refusal}
use Rattle.program_rules.specs.Rename.{grant_ask}
use Rattle.claim_words.specs.TreeSteps.{says}
use Rattle.claim_words.specs.Points.{done_answer, Finds, Lists, FindsSource, IsRefusal}
use Rattle.telling_laws.proofs.Replies.{why_of, RefusesSo}
use Rattle.files_told.proofs.Replies.{RefusesFile}

-- the same as RefusesSo where the request concerns a directory and no entry
abbrev pub RefusesDir : Place → Key → AnyReply → Type 0
RefusesDir place k x = (says x ≡ Refused (why_of (says x))) × (dir_refusal place x ≡ refusal_answer k (why_of (says x)))

-- ---- what a reply decides

pub done_yes : (k : Key) (a : Answer) (r : TreeReply) → is_ok r ≡ true → a ≡ done_answer k a r
done_yes k a (Ok x) e = refl
done_yes k a (Refused why) e = absurd (let z : false ≡ true = e in cc)

-- one that is refused, whatever an Ok decides
module _ (k : Key) (b : Answer) where
  pub done_no : (a : Answer) (r : TreeReply) → r ≡ Refused (why_of r) → b ≡ refusal_answer k (why_of r) → b ≡ done_answer k a r
  done_no a (Ok x) e h = absurd (let z : Ok x ≡ Refused (why_of (Ok x)) = e in cc)
  done_no a (Refused why) e h = h

  pub finds_no : (r : TreeReply) → r ≡ Refused (why_of r) → b ≡ refusal_answer k (why_of r) → Finds k r b
  finds_no (Ok x) e h = absurd (let z : Ok x ≡ Refused (why_of (Ok x)) = e in cc)
  finds_no (Refused why) e h = h

  pub lists_no : (r : TreeReply) → r ≡ Refused (why_of r) → b ≡ refusal_answer k (why_of r) → Lists k r b
  lists_no (Ok x) e h = absurd (let z : Ok x ≡ Refused (why_of (Ok x)) = e in cc)
  lists_no (Refused why) e h = h

  pub source_no : (to : List ℕ) (r : TreeReply) → r ≡ Refused (why_of r) → b ≡ refusal_answer k (why_of r) → FindsSource k to r b
  source_no to (Ok x) e h = absurd (let z : Ok x ≡ Refused (why_of (Ok x)) = e in cc)
  source_no to (Refused why) e h = h

  pub refusal_no : (r : TreeReply) → r ≡ Refused (why_of r) → b ≡ refusal_answer k (why_of r) → IsRefusal k r b
  refusal_no (Ok x) e h = absurd (let z : Ok x ≡ Refused (why_of (Ok x)) = e in cc)
  refusal_no (Refused why) e h = h

pub finds_node : (k : Key) (n : Node) (r : TreeReply) → r ≡ Ok (shown.Node n) → Finds k r (answers.Found n)
finds_node k n r e = rw e refl

pub source_same : (k : Key) (to : List ℕ) (n : Node) (r : TreeReply) → r ≡ Ok (shown.Node n) → k.name ≡ to → FindsSource k to r answers.Done
source_same k to n r e same = rw e (same, refl)

pub ok_done : (r : TreeReply) → r ≡ Ok shown.Done → is_ok r ≡ true
ok_done r e = rw e refl

-- the entries that a reply shows
abbrev entries_shown : TreeReply → Option (List Listed)
entries_shown (Ok (shown.Entries sealed items)) = Some items
entries_shown (Ok shown.Done) = None
entries_shown (Ok (shown.Parent p sealed)) = None
entries_shown (Ok (shown.Node n)) = None
entries_shown (Ok (shown.Attached i)) = None
entries_shown (Ok (shown.Blocks sealed rows)) = None
entries_shown (Ok (shown.Bytes bytes)) = None
entries_shown (Refused why) = None

lists_so : (k : Key) (r : TreeReply) (items : List Listed) → entries_shown r ≡ Some items → Lists k r (answers.Entries items)
lists_so k (Ok (shown.Entries sealed there)) items e = cc
lists_so k (Ok shown.Done) items e = absurd (let z : None ≡ Some items = e in cc)
lists_so k (Ok (shown.Parent p sealed)) items e = absurd (let z : None ≡ Some items = e in cc)
lists_so k (Ok (shown.Node n)) items e = absurd (let z : None ≡ Some items = e in cc)
lists_so k (Ok (shown.Attached i)) items e = absurd (let z : None ≡ Some items = e in cc)
lists_so k (Ok (shown.Blocks sealed rows)) items e = absurd (let z : None ≡ Some items = e in cc)
lists_so k (Ok (shown.Bytes bytes)) items e = absurd (let z : None ≡ Some items = e in cc)
lists_so k (Refused why) items e = absurd (let z : None ≡ Some items = e in cc)

-- ---- the store's replies

module _ (s : Store) (place : Place) where
  pub check_some : (d : DirId) → is_some (as_parent (store_reply s (any.Name (names.CheckDir d)))) ≡ true
      → is_ok (says (store_reply s (any.Name (names.CheckDir d)))) ≡ true
  check_some d e = grind arith

  pub check_none : (d : DirId) (k : Key) → is_some (as_parent (store_reply s (any.Name (names.CheckDir d)))) ≡ false
      → RefusesDir place k (store_reply s (any.Name (names.CheckDir d)))
  check_none d k e = (grind arith, grind arith)

  list_shown : (d : DirId) (items : List Listed) → as_listing (store_reply s (any.Name (names.List d))) ≡ Some items
      → entries_shown (says (store_reply s (any.Name (names.List d)))) ≡ Some items
  list_shown d items e = grind arith

  pub list_some : (d : DirId) (k : Key) (items : List Listed) → as_listing (store_reply s (any.Name (names.List d))) ≡ Some items
      → Lists k (says (store_reply s (any.Name (names.List d)))) (answers.Entries items)
  list_some d k items e = lists_so k _ items (list_shown d items e)

  pub list_none : (d : DirId) (k : Key) → as_listing (store_reply s (any.Name (names.List d))) ≡ None
      → RefusesDir place k (store_reply s (any.Name (names.List d)))
  list_none d k e = (grind arith, grind arith)

  pub bind_some : (k : Key) (n : Node) (h : Hold) (o : Over) (old : Option Replaced)
      → as_bound (store_reply s (any.Name (names.Bind k n h o))) ≡ Some old
      → says (store_reply s (any.Name (names.Bind k n h o))) ≡ Ok shown.Done
  bind_some k n h o old e = grind arith

  pub bind_none : (k : Key) (n : Node) (h : Hold) (o : Over) → as_bound (store_reply s (any.Name (names.Bind k n h o))) ≡ None
      → RefusesSo place k (store_reply s (any.Name (names.Bind k n h o)))
  bind_none k n h o e = (grind arith, grind arith)

  pub unbind_some : (k : Key) (p : Node × Hold) → as_unbound (store_reply s (any.Name (names.Unbind k AnyFile))) ≡ Some p
      → says (store_reply s (any.Name (names.Unbind k AnyFile))) ≡ Ok shown.Done
  unbind_some k p e = grind arith

  pub unbind_none : (k : Key) → as_unbound (store_reply s (any.Name (names.Unbind k AnyFile))) ≡ None
      → RefusesSo place k (store_reply s (any.Name (names.Unbind k AnyFile)))
  unbind_none k e = (grind arith, grind arith)

  pub swap_some : (d : DirId) (from to : List ℕ) (n : Node) (h : Hold) (p : Hold × Option Replaced)
      → as_swapped (store_reply s (any.Name (names.Swap d from to n h))) ≡ Some p
      → says (store_reply s (any.Name (names.Swap d from to n h))) ≡ Ok shown.Done
  swap_some d from to n h p e = grind arith

  pub swap_none : (d : DirId) (from to : List ℕ) (n : Node) (h : Hold) (k : Key)
      → as_swapped (store_reply s (any.Name (names.Swap d from to n h))) ≡ None
      → RefusesSo place k (store_reply s (any.Name (names.Swap d from to n h)))
  swap_none d from to n h k e = (grind arith, grind arith)

  pub grant_none : (n : Node) (h : Hold) (j k : Key) → is_granted (store_reply s (grant_ask n h j)) ≡ false
      → RefusesSo place k (store_reply s (grant_ask n h j))
  grant_none (nodes.Dir d) h j k e = (grind arith, grind arith)
  grant_none (nodes.File f) h j k e = (grind arith, grind arith)

  pub seal_dir_yes : (d : DirId) → is_sealed (store_reply s (any.Name (names.SealDir d))) ≡ true
      → says (store_reply s (any.Name (names.SealDir d))) ≡ Ok shown.Done
  seal_dir_yes d e = grind arith

  pub seal_dir_no : (d : DirId) (k : Key) → is_sealed (store_reply s (any.Name (names.SealDir d))) ≡ false
      → RefusesDir place k (store_reply s (any.Name (names.SealDir d)))
  seal_dir_no d k e = (grind arith, grind arith)

  pub seal_file_yes : (f : FileId) → is_sealed (store_reply s (any.File (files.SealFile f))) ≡ true
      → says (store_reply s (any.File (files.SealFile f))) ≡ Ok shown.Done
  seal_file_yes f e = grind arith

  pub seal_file_no : (f : FileId) → is_sealed (store_reply s (any.File (files.SealFile f))) ≡ false
      → RefusesFile place f (store_reply s (any.File (files.SealFile f)))
  seal_file_no f e = (grind arith, grind arith)
