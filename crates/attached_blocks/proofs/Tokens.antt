-- each block was attached with the token that was the file's last, and each token was written by an open, which is that token
use Rattle.std.proofs.Common.{◌≡◌, ℕ, Bool, true, false, if◌then◌else◌, Option, Some, None, List, [], ◌∷◌, ◌++◌}
use Rattle.std.proofs.Common.{refl, sym, ap, subst, ◌∙◌, arith}
use Rattle.std.specs.FinMap.{get}
use Rattle.tect_ids.specs.declared.ids.BlkId.{BlkId}
use Rattle.tect_ids.specs.declared.ids.Counts.{Counts}
use Rattle.tect_ids.specs.declared.ids.FileId.{FileId}
use Rattle.tect_ids.specs.declared.ids.Hold.{Hold}
use Rattle.tect_ids.specs.declared.ids.OpId.{OpId}
use Rattle.tect_ids.specs.declared.command.Command.{Command}
use Rattle.tect_ids.specs.declared.command.Command.TheVariants as commands
use Rattle.tect_ids.specs.Keys.{file_eq}
use Rattle.tect_ids.proofs.KeyTests.{keys}
use Rattle.key_words.proofs.Lookups.{maps}
use Rattle.store_rules.specs.declared.files.File.{File}
use Rattle.store_rules.specs.declared.files.FileReq.{FileReq}
use Rattle.store_rules.specs.declared.files.FileReq.TheVariants as files
use Rattle.store_rules.specs.declared.files.FileReply.TheVariants as file_replies
use Rattle.store_rules.specs.declared.any.AnyReq.{AnyReq}
use Rattle.store_rules.specs.declared.any.AnyReq.TheVariants as any
use Rattle.store_rules.specs.declared.any.AnyReply.{AnyReply}
use Rattle.store_rules.specs.declared.any.AnyReply.TheVariants as any_reply
use Rattle.store_rules.specs.Store.{Store, opening_store, store_reply, store_step}
use Rattle.store_rules.specs.Views.{is_made, is_opened}
use Rattle.program_forms.specs.Kinds.{Programs}
use Rattle.world_runs.specs.declared.event.Event.{Event}
use Rattle.world_runs.specs.declared.event.Event.TheVariants.{Own, Dumped}
use Rattle.world_runs.specs.declared.event.Happening.TheVariants.{Began, NotBegun, Acted, Ended, Stopped, Failed}
use Rattle.world_runs.specs.Moments.{IsWorldRun}
use Rattle.world_runs.specs.OwnRuns.{RepliesAre, ReplyIs, stored_next, stored_after}
use Rattle.whole_runs.proofs.Actors.{replies-front}
use Rattle.claim_words.specs.Attached.{TokensAreLast, TokensAreOpens, file_token, token_by, token_after, last_token}
use Rattle.claim_words.specs.Commands.{command_of}
use Rattle.attached_blocks.proofs.Acknowledged.{command_lasts}
use Rattle.attached_blocks.proofs.Owing.{FileOwes, IsOwnToken, Owing, RequestsOwe}
use Rattle.attached_blocks.proofs.Rows.{attaching, attach_said}

abbrev token_in : Option File → Option OpId
token_in None = None
token_in (Some x) = x.token

-- the token that the file has
abbrev token_of : Store → FileId → Option OpId
token_of s k = token_in (get s.files k)

-- ---- after a request, and after a history

module _ (s : Store) (k : FileId) where
  asked_token : (q : FileReq) → token_of (store_step s (any.File q)) k ≡ file_token (token_of s k) q (store_reply s (any.File q)) k
  asked_token (files.MakeFile f h n t) = grind (arith, maps)
  asked_token (files.Grant f h n) = grind (arith, maps)
  asked_token (files.Release f h) = grind (arith, maps)
  asked_token (files.TakeToken f t) = grind (arith, maps)
  asked_token (files.Attach f t b n h) = grind (arith, maps)
  asked_token (files.ListBlocks f) = grind arith
  asked_token (files.SealFile f) = grind (arith, maps)

  event_token : (e : Event) → ReplyIs s e → token_of (stored_next s e) k ≡ token_by (token_of s k) e k
  event_token (Own op (Acted (any.File q) x how)) is =
      asked_token q ∙ ap (λ (y : AnyReply). file_token (token_of s k) q y k) (sym is)
  event_token (Own op (Acted (any.Name q) x how)) is = grind arith
  event_token (Own op (Acted (any.Block q) x how)) is = grind arith
  event_token (Own op (Acted (any.Disk q) x how)) is = grind arith
  event_token (Own op (Began c)) is = refl
  event_token (Own op (NotBegun c)) is = refl
  event_token (Own op (Ended a)) is = refl
  event_token (Own op Stopped) is = refl
  event_token (Own op (Failed a)) is = refl
  event_token Dumped is = refl

tokens_after : (s : Store) (k : FileId) (es : List Event) → RepliesAre s es
    → token_of (stored_after s es) k ≡ token_after (token_of s k) es k
tokens_after s k [] replies = refl
tokens_after s k (e ∷ es) replies =
    tokens_after (stored_next s e) k es replies.1 ∙ ap (λ now. token_after now es k) (event_token s k e replies.0)

-- the token that a file has is the last that was written into it
store_token : (es : List Event) (k : FileId) → RepliesAre opening_store es → token_of (stored_after opening_store es) k ≡ last_token es k
store_token es k replies =
    let none : token_of opening_store k ≡ None = grind (arith, maps) in
    tokens_after opening_store k es replies ∙ ap (λ now. token_after now es k) none

-- ---- an attach

-- the store said so, thus the file has the token
attach_token : (s : Store) (f : FileId) (t : OpId) (b : BlkId) (n : ℕ) (h : Hold) (i : ℕ)
    → any_reply.File (file_replies.Attached i) ≡ store_reply s (any.File (files.Attach f t b n h)) → token_of s f ≡ Some t
attach_token s f t b n h i said = grind (arith, keys, said)

pub tokens_are_last : (es : List Event) → RepliesAre opening_store es → TokensAreLast es
tokens_are_last es replies op f token b n i a =
    let whole : RepliesAre opening_store (a.before ++ attaching es replies op f token b n i a ∷ a.rest) =
    subst (λ (l : List Event). RepliesAre opening_store l) a.there replies in
    sym (store_token a.before f (replies-front opening_store a.before (attaching es replies op f token b n i a ∷ a.rest) whole))
    ∙ attach_token (stored_after opening_store a.before) f token b n a.hold i (attach_said es replies op f token b n i a)

-- ---- whose it is

module _ {X : Type 0} (token : OpId) where
  no_token : None ≡ Some token → X
  no_token e = absurd (let z : None ≡ Some token = e in cc)

  -- a file is made without a token
  none_made : (t : Option OpId) → t ≡ None → (same made : Bool) → (if same then (if made then t else None) else None) ≡ Some token → X
  none_made t none true true e = no_token (sym none ∙ e)
  none_made t none true false e = no_token e
  none_made t none false made e = no_token e

taken : (t token : OpId) (same opened : Bool) → (if same then (if opened then Some t else None) else None) ≡ Some token → token ≡ t
taken t token true true e = cc
taken t token true false e = no_token token e
taken t token false opened e = no_token token e

written_by_open : (h : List Event) (op : OpId) (c : Command) (q : FileReq) (x : AnyReply) (f : FileId) (token : OpId) → FileOwes h op c q
    → file_token None q x f ≡ Some token → IsOwnToken op c token
written_by_open h op c (files.MakeFile g k n t) x f token owes is = none_made token t owes (file_eq f g) (is_made x) is
written_by_open h op c (files.Grant g k n) x f token owes is = no_token token is
written_by_open h op c (files.Release g k) x f token owes is = no_token token is
written_by_open h op c (files.TakeToken g t) x f token owes is = (taken t token (file_eq f g) (is_opened x) is ∙ owes.0, owes.1)
written_by_open h op c (files.Attach g t b n k) x f token owes is = no_token token is
written_by_open h op c (files.ListBlocks g) x f token owes is = no_token token is
written_by_open h op c (files.SealFile g) x f token owes is = no_token token is

pub tokens_are_opens : {S : Type 0} (P : Programs S) → RequestsOwe P → (counts : Counts) (es : List Event) → IsWorldRun P counts es
    → TokensAreOpens es
tokens_are_opens P knows counts es run op f token w =
    let q : AnyReq = any.File w.request in
    let e : Event = Own op (Acted q w.reply w.heard) in
    let whole : IsWorldRun P counts (w.before ++ e ∷ w.rest) = subst (λ (l : List Event). IsWorldRun P counts l) w.there run in
    let own : Owing counts w.before op q = knows counts w.before w.rest op q w.reply w.heard whole in
    let is : IsOwnToken op own.command token = written_by_open w.before op own.command w.request w.reply f token own.owes w.wrote in
    let command : command_of (w.before ++ e ∷ w.rest) op ≡ Some (commands.Open (is.1).0) =
    command_lasts w.before (e ∷ w.rest) op (commands.Open (is.1).0) (own.begun ∙ ap (λ (d : Command). Some d) (is.1).1) in
    (is.0, ((is.1).0, subst (λ (l : List Event). command_of l op ≡ Some (commands.Open (is.1).0)) (sym w.there) command))
