-- a request to a shard that has its directory is answered and done as on the whole, and leaves the other shards
use Rattle.std.proofs.Common.{◌≡◌, Bool, true, false, Option, Some, None, if◌then◌else◌, refl, ap, arith}
use Rattle.std.specs.FinMap.{empty, get, same_map}
use Rattle.tect_ids.specs.declared.ids.DirId.{DirId}
use Rattle.tect_ids.specs.declared.key.Key.{Key}
use Rattle.tect_ids.specs.declared.key.Upper.TheVariants as uppers
use Rattle.tect_ids.specs.declared.values.Over.{Over}
use Rattle.tect_ids.specs.declared.values.Over.TheVariants as over
use Rattle.tect_ids.proofs.KeyTests.{dir_cmp_total, key_cmp_total, dir_antisymmetric, key_antisymmetric}
use Rattle.map_words.specs.Maps.{set_at}
use Rattle.key_words.specs.Maps.{within}
use Rattle.key_words.proofs.Lookups.{maps}
use Rattle.store_rules.specs.declared.names.Directory.{Directory}
use Rattle.store_rules.specs.declared.names.DirectoryEntry.{DirectoryEntry}
use Rattle.store_rules.specs.declared.names.NameReply.{NameReply}
use Rattle.store_rules.specs.declared.names.NameReq.{NameReq}
use Rattle.store_rules.specs.declared.names.NameReq.TheVariants as req
use Rattle.store_rules.specs.Names.{Names, NameRule, key_in, set_dir, set_entry, dir_with_hold, dir_sealed, bind_over}
use Rattle.store_rules.specs.Names.{name_rule, name_answer, name_change, name_step}
use Rattle.store_rules.specs.declared.outcome.Outcome.{Outcome}
use Rattle.store_rules.specs.Outcomes.{changes}
use Rattle.store_rules.specs.Places.{dir_of}
use Rattle.store_shards.specs.Shards.{KeepsNames}

module _ (here : DirId → Bool) (s w : Names) (is : KeepsNames here s w) where
  -- a change at a directory that is here, in the shard and in the whole
  pub own_dir_set : (d : DirId) (x y : Option Directory) → here d ≡ true → x ≡ y → KeepsNames here (set_dir s d x) (set_dir w d y)
  own_dir_set d x y own same = record { dirs = λ e. grind (arith, maps, is.dirs e); entries = is.entries }

  pub own_entry_set : (k : Key) (x : Option DirectoryEntry) → here k.dir ≡ true → KeepsNames here (set_entry s k x) (set_entry w k x)
  own_entry_set k x own = record { dirs = is.dirs; entries = λ q. grind (arith, maps, is.entries q) }

  -- a change at a directory that is not here, in the whole alone
  pub other_dir_set : (d : DirId) (y : Option Directory) → here d ≡ false → KeepsNames here s (set_dir w d y)
  other_dir_set d y other = record { dirs = λ e. grind (arith, maps, is.dirs e); entries = is.entries }

  pub other_entry_set : (k : Key) (y : Option DirectoryEntry) → here k.dir ≡ false → KeepsNames here s (set_entry w k y)
  other_entry_set k y other = record { dirs = is.dirs; entries = λ q. grind (arith, maps, is.entries q) }

module _ (here : DirId → Bool) (s w : Names) (is : KeepsNames here s w) where
  -- what is found of a directory that is here
  own_dir : (d : DirId) → here d ≡ true → get s.dirs d ≡ get w.dirs d
  own_dir d own = grind (arith, is.dirs d)

  own_entry : (k : Key) → here k.dir ≡ true → get s.entries k ≡ get w.entries k
  own_entry k own = grind (arith, is.entries k)

  -- a directory that is here has the same entries
  pub same_within : (d : DirId) → here d ≡ true → within s.entries d ≡ within w.entries d
  same_within d own = same_map key_cmp_total key_antisymmetric _ _ (λ q. grind (arith, maps, is.entries q))

  -- what a bind answers by what stands at its name
  bind_over_same : (k : Key) → here k.dir ≡ true → (e : Option DirectoryEntry) (o : Over) → bind_over s k e o ≡ bind_over w k e o
  bind_over_same k own (Some e) over.Absent = refl
  bind_over_same k own (Some e) over.File = refl
  bind_over_same k own None o = rw (same_within k.dir own)

  -- What a rule owes: in a shard that has its directory it answers and changes as on the whole; in the whole alone it changes
  -- nothing that a shard of another directory has.
  record IsLocal (rule : NameRule) : Type 0 where
    answers : here rule.dir ≡ true → rule.answer s ≡ rule.answer w
    own : here rule.dir ≡ true → KeepsNames here (rule.change s) (rule.change w)
    other : here rule.dir ≡ false → KeepsNames here s (rule.change w)

  -- a rule that changes nothing
  reads : (d : DirId) (answer : Names → Outcome NameReply) (free : Bool) → (here d ≡ true → answer s ≡ answer w)
      → IsLocal record { dir = d; answer = answer; change = λ v. v; free = free }
  reads d answer free same = record { answers = same; own = λ own. is; other = λ other. is }

  -- a rule that sets the record of its directory by what that was
  sets_dir : (d : DirId) (x : Option Directory → Option Directory) (answer : Names → Outcome NameReply) (free : Bool)
      → (here d ≡ true → answer s ≡ answer w)
      → IsLocal record { dir = d; answer = answer; change = λ v. set_dir v d (x (get v.dirs d)); free = free }
  sets_dir d x answer free same = record {
    answers = same;
    own = λ own. own_dir_set here s w is d _ _ own (ap x (own_dir d own));
    other = λ other. other_dir_set here s w is d _ other;
  }

  -- a rule that sets one entry
  sets_entry : (k : Key) (x : Option DirectoryEntry) (answer : Names → Outcome NameReply) (free : Bool)
      → (here k.dir ≡ true → answer s ≡ answer w)
      → IsLocal record { dir = k.dir; answer = answer; change = λ v. set_entry v k x; free = free }
  sets_entry k x answer free same = record {
    answers = same;
    own = λ own. own_entry_set here s w is k x own;
    other = λ other. other_entry_set here s w is k x other;
  }

  -- each request
  local : (r : NameReq) → IsLocal (name_rule r)
  local (req.CheckDir d) = reads d _ _ (λ own. rw (own_dir d own))
  local (req.Look k) = reads k.dir _ _ (λ own. rw (own_dir k.dir own, own_entry k own))
  local (req.List d) = reads d _ _ (λ own. rw (own_dir d own, same_within d own))
  local (req.MakeDir d p h k) =
      sets_dir d (λ x. Some record { parent = p; sealed = false; holds = set_at empty h (Some (uppers.Entry k)) }) _ _
      (λ own. rw (own_dir d own))
  local (req.Bind k n h o) =
      sets_entry k _ _ _ (λ own. rw (own_dir k.dir own, own_entry k own, bind_over_same k own (get w.entries k) o))
  local (req.Swap d from to n h) = record {
    answers = λ own. rw (own_dir d own, own_entry (key_in d from) own, own_entry (key_in d to) own);
    own = λ own. own_entry_set here _ _ (own_entry_set here s w is (key_in d from) None own) (key_in d to) _ own;
    other = λ other. other_entry_set here s _ (other_entry_set here s w is (key_in d from) None other) (key_in d to) _ other;
  }
  local (req.Unbind k want) = sets_entry k None _ _ (λ own. rw (own_dir k.dir own, own_entry k own))
  local (req.Grant d h k) = sets_dir d (λ x. dir_with_hold x h (Some (uppers.Entry k))) _ _ (λ own. rw (own_dir d own))
  local (req.Release d h) = sets_dir d (λ x. dir_with_hold x h None) _ _ (λ own. rw (own_dir d own))
  local (req.SealDir d) = sets_dir d dir_sealed _ _ (λ own. rw (own_dir d own))

  pub same_name_answer : (r : NameReq) → here (dir_of r) ≡ true → name_answer s r ≡ name_answer w r
  same_name_answer r own = (local r).answers own

  -- the same, refused or not
  own_by : (r : NameReq) (b : Bool) → here (dir_of r) ≡ true
      → KeepsNames here (if b then name_change s r else s) (if b then name_change w r else w)
  own_by r true own = (local r).own own
  own_by r false own = is

  other_by : (r : NameReq) (b : Bool) → here (dir_of r) ≡ false → KeepsNames here s (if b then name_change w r else w)
  other_by r true other = (local r).other other
  other_by r false other = is

  -- the shard does the request where it has the directory, and else stays
  pub names_kept : (r : NameReq) (b : Bool) → here (dir_of r) ≡ b → KeepsNames here (if b then name_step s r else s) (name_step w r)
  names_kept r true own = rw (same_name_answer r own) (own_by r (changes (name_answer w r)) own)
  names_kept r false other = other_by r (changes (name_answer w r)) other

-- names with the same look-ups are the same
pub same_names : (v w : Names) → ((d : DirId) → get v.dirs d ≡ get w.dirs d) → ((k : Key) → get v.entries k ≡ get w.entries k) → v ≡ w
same_names v w dirs entries =
    let same_dirs : v.dirs ≡ w.dirs = same_map dir_cmp_total dir_antisymmetric _ _ dirs in
    let same_entries : v.entries ≡ w.entries = same_map key_cmp_total key_antisymmetric _ _ entries in
    λ i. record { dirs = same_dirs i; entries = same_entries i }
