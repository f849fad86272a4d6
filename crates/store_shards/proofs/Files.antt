-- a request to a shard that has its file is answered and done as on the whole, and leaves the other shards
use Rattle.std.proofs.Common.{◌≡◌, Bool, true, false, Option, Some, None, [], if◌then◌else◌, ap, arith}
use Rattle.std.specs.FinMap.{empty, get, same_map}
use Rattle.tect_ids.specs.declared.ids.FileId.{FileId}
use Rattle.tect_ids.specs.declared.key.Upper.TheVariants as uppers
use Rattle.tect_ids.proofs.KeyTests.{file_cmp_total, file_antisymmetric}
use Rattle.key_words.proofs.Lookups.{maps}
use Rattle.map_words.specs.Maps.{set_at}
use Rattle.store_rules.specs.declared.files.File.{File}
use Rattle.store_rules.specs.declared.files.FileReply.{FileReply}
use Rattle.store_rules.specs.declared.files.FileReq.{FileReq}
use Rattle.store_rules.specs.declared.files.FileReq.TheVariants as req
use Rattle.store_rules.specs.Files.{Files, FileRule, file_with_hold, file_with_row, file_sealed, file_with_token}
use Rattle.store_rules.specs.Files.{file_rule, file_answer, file_change, file_step}
use Rattle.store_rules.specs.declared.outcome.Outcome.{Outcome}
use Rattle.store_rules.specs.Outcomes.{changes}
use Rattle.store_rules.specs.Places.{file_of}
use Rattle.store_shards.specs.Shards.{KeepsFiles}

module _ (here : FileId → Bool) (s w : Files) (is : KeepsFiles here s w) where
  -- what is found of a file that is here
  own_file : (f : FileId) → here f ≡ true → get s f ≡ get w f
  own_file f own = grind (arith, is f)

  -- a change at a file that is here, in the shard and in the whole
  own_set : (f : FileId) (x y : Option File) → here f ≡ true → x ≡ y → KeepsFiles here (set_at s f x) (set_at w f y)
  own_set f x y own same g = grind (arith, maps, is g)

  -- a change at a file that is not here, in the whole alone
  other_set : (f : FileId) (y : Option File) → here f ≡ false → KeepsFiles here s (set_at w f y)
  other_set f y other g = grind (arith, maps, is g)

  -- What a rule owes: in a shard that has its file it answers and changes as on the whole; in the whole alone it changes
  -- nothing that a shard of another file has.
  record IsLocal (rule : FileRule) : Type 0 where
    answers : here rule.file ≡ true → rule.answer s ≡ rule.answer w
    own : here rule.file ≡ true → KeepsFiles here (rule.change s) (rule.change w)
    other : here rule.file ≡ false → KeepsFiles here s (rule.change w)

  -- a rule that changes nothing
  reads : (f : FileId) (answer : Files → Outcome FileReply) (free : Bool) → (here f ≡ true → answer s ≡ answer w)
      → IsLocal record { file = f; answer = answer; change = λ v. v; free = free }
  reads f answer free same = record { answers = same; own = λ own. is; other = λ other. is }

  -- a rule that sets its file by what that was
  sets_file : (f : FileId) (x : Option File → Option File) (answer : Files → Outcome FileReply) (free : Bool)
      → (here f ≡ true → answer s ≡ answer w)
      → IsLocal record { file = f; answer = answer; change = λ v. set_at v f (x (get v f)); free = free }
  sets_file f x answer free same = record {
    answers = same;
    own = λ own. own_set f _ _ own (ap x (own_file f own));
    other = λ other. other_set f _ other;
  }

  -- each request
  local : (r : FileReq) → IsLocal (file_rule r)
  local (req.MakeFile f h k t) =
      sets_file f (λ x. Some record { token = t; sealed = false; holds = set_at empty h (Some (uppers.Entry k)); rows = [] }) _ _
      (λ own. rw (own_file f own))
  local (req.Grant f h k) = sets_file f (λ x. file_with_hold x h (Some (uppers.Entry k))) _ _ (λ own. rw (own_file f own))
  local (req.Release f h) = sets_file f (λ x. file_with_hold x h None) _ _ (λ own. rw (own_file f own))
  local (req.TakeToken f t) = sets_file f (λ x. file_with_token x t) _ _ (λ own. rw (own_file f own))
  local (req.Attach f t b n h) =
      sets_file f (λ x. file_with_row x (record { blk = b; len = n; hold = h })) _ _ (λ own. rw (own_file f own))
  local (req.ListBlocks f) = reads f _ _ (λ own. rw (own_file f own))
  local (req.SealFile f) = sets_file f file_sealed _ _ (λ own. rw (own_file f own))

  pub same_file_answer : (r : FileReq) → here (file_of r) ≡ true → file_answer s r ≡ file_answer w r
  same_file_answer r own = (local r).answers own

  -- the same, refused or not
  own_by : (r : FileReq) (b : Bool) → here (file_of r) ≡ true
      → KeepsFiles here (if b then file_change s r else s) (if b then file_change w r else w)
  own_by r true own = (local r).own own
  own_by r false own = is

  other_by : (r : FileReq) (b : Bool) → here (file_of r) ≡ false → KeepsFiles here s (if b then file_change w r else w)
  other_by r true other = (local r).other other
  other_by r false other = is

  -- the shard does the request where it has the file, and else stays
  pub files_kept : (r : FileReq) (b : Bool) → here (file_of r) ≡ b → KeepsFiles here (if b then file_step s r else s) (file_step w r)
  files_kept r true own = rw (same_file_answer r own) (own_by r (changes (file_answer w r)) own)
  files_kept r false other = other_by r (changes (file_answer w r)) other

-- files with the same look-ups are the same
pub same_files : (v w : Files) → ((f : FileId) → get v f ≡ get w f) → v ≡ w
same_files v w alike = same_map file_cmp_total file_antisymmetric v w alike
