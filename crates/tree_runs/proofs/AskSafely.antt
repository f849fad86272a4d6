-- what is asked safely is fresh
use Rattle.std.proofs.Common.{◌≡◌, ℕ, true, false, is_some, length, Some, None, List, refl, sym, subst, ◌∙◌, arith}
use Rattle.std.specs.FinMap.{get}
use Rattle.key_words.proofs.Lookups.{maps}
use Rattle.tect_ids.specs.declared.ids.BlkId.{BlkId}
use Rattle.tect_ids.specs.declared.values.RowPart.{RowPart}
use Rattle.tect_ids.proofs.KeyTests.{keys, block_keys}
use Rattle.store_rules.specs.declared.blocks.BlockReq.TheVariants as blocks
use Rattle.store_rules.specs.declared.files.FileReq.TheVariants as files
use Rattle.store_rules.specs.declared.any.AnyReq.{AnyReq}
use Rattle.store_rules.specs.declared.any.AnyReq.TheVariants as any
use Rattle.store_rules.specs.Store.{Store, store_reply}
use Rattle.store_rules.specs.Views.{is_made}
use Rattle.store_pasts.specs.Contents.{sealed_length}
use Rattle.store_pasts.specs.Pasts.{content}
use Rattle.store_pasts.specs.Worlds.{World, next, opening_ghost}
use Rattle.store_pasts.specs.Requests.{Needs}
use Rattle.store_world.specs.Acknowledged.{IsWholeBlock}
use Rattle.store_world.specs.Kept.{Kept}
use Rattle.store_world.specs.Sound.{Sound}
use Rattle.store_world.proofs.Acknowledged.{sealed_is_whole}
use Rattle.store_world.proofs.Rows.{row_kept, role_laws}
use Rattle.tree_model.specs.Tree.{opening_tree}
use Rattle.program_forms.specs.Kinds.{Programs}
use Rattle.world_runs.specs.declared.event.Event.{Event}
use Rattle.claim_words.specs.Commands.{makes_block, content_of, content_in}
use Rattle.telling_laws.specs.View.{Made, MakesNew, attaches}
use Rattle.telling_laws.specs.Telling.{tree_of, IsFresh, RunsAskFresh}
use Rattle.tree_runs.specs.Safe.{IsSafe, RunsAskSafely}
use Rattle.tree_runs.proofs.Pasts.{WithinPast}

pub opening_within : WithinPast opening_ghost opening_tree.made
opening_within n un = grind (arith, maps)

-- ---- what is safe is fresh

-- what a request needs it makes new, where no more was made than in the past, and what it attaches has its content
module _ (h : List Event) (w : World) (sound : Sound w) (contents : (b : BlkId) → content w.ghost b ≡ content_of h b) where
  -- a block that is sealed and that long
  sealed_known : (b : BlkId) (n : ℕ) → sealed_length (get w.store.blocks b) ≡ Some n
      → (is_some (content_of h b) ≡ true) × (length (content_in h b) ≡ n)
  sealed_known b n is =
      let whole : IsWholeBlock w b n = sealed_is_whole w sound b n is in
      let so : content_of h b ≡ Some whole.bytes = sym (contents b) ∙ whole.said in (rw so refl, rw so whole.full)

  attached_known : (q : AnyReq) → Needs w q → (p : RowPart) → attaches q ≡ Some p
      → (is_some (content_of h p.blk) ≡ true) × (length (content_in h p.blk) ≡ p.len)
  attached_known (any.File (files.Attach f t b n hold)) needs p is =
      let same : record { blk = b; len = n } ≡ p = cc in
      subst (λ (r : RowPart). (is_some (content_of h r.blk) ≡ true) × (length (content_in h r.blk) ≡ r.len)) same
      (sealed_known b n needs.1)
  attached_known (any.File (files.MakeFile f hold k t)) needs p is = absurd (let z : None ≡ Some p = is in cc)
  attached_known (any.File (files.Grant f hold k)) needs p is = absurd (let z : None ≡ Some p = is in cc)
  attached_known (any.File (files.Release f hold)) needs p is = absurd (let z : None ≡ Some p = is in cc)
  attached_known (any.File (files.TakeToken f t)) needs p is = absurd (let z : None ≡ Some p = is in cc)
  attached_known (any.File (files.ListBlocks f)) needs p is = absurd (let z : None ≡ Some p = is in cc)
  attached_known (any.File (files.SealFile f)) needs p is = absurd (let z : None ≡ Some p = is in cc)
  attached_known (any.Name q) needs p is = absurd (let z : None ≡ Some p = is in cc)
  attached_known (any.Block q) needs p is = absurd (let z : None ≡ Some p = is in cc)
  attached_known (any.Disk q) needs p is = absurd (let z : None ≡ Some p = is in cc)

  pub needs_make_new : (made : Made) (q : AnyReq) → WithinPast w.ghost made → Needs w q → MakesNew (content_in h) made q
  needs_make_new made q new needs = record {
    new = λ n e. new n ((role_laws q).fresh w n e needs);
    fits = (role_laws q).fits w needs;
    long = λ p is. (attached_known q needs p is).1;
  }

  pub needs_known : (q : AnyReq) → Needs w q → (p : RowPart) → attaches q ≡ Some p → is_some (content_of h p.blk) ≡ true
  needs_known q needs p is = (attached_known q needs p is).0

-- a block that a request makes was not made before
makes_unborn : (w : World) (q : AnyReq) → Needs w q → (b : BlkId) → makes_block q b ≡ true → w.ghost.born b ≡ None
makes_unborn w (any.Block (blocks.MakeBlock k c n f h rs)) needs b is =
    let same : b ≡ k = grind (arith, keys, block_keys, is) in rw same needs.unborn
makes_unborn w (any.Block (blocks.SealBlock k)) needs b is = absurd (let z : false ≡ true = is in cc)
makes_unborn w (any.Block (blocks.GetBlock k)) needs b is = absurd (let z : false ≡ true = is in cc)
makes_unborn w (any.Block (blocks.Grant k h f)) needs b is = absurd (let z : false ≡ true = is in cc)
makes_unborn w (any.Block (blocks.Release k h)) needs b is = absurd (let z : false ≡ true = is in cc)
makes_unborn w (any.Name q) needs b is = absurd (let z : false ≡ true = is in cc)
makes_unborn w (any.File q) needs b is = absurd (let z : false ≡ true = is in cc)
makes_unborn w (any.Disk q) needs b is = absurd (let z : false ≡ true = is in cc)

safe_is_fresh : (h : List Event) (q : AnyReq) → IsSafe h q → IsFresh h q
safe_is_fresh h q safe =
    let kept : Kept safe.world (next safe.world q) q = row_kept safe.world safe.sound q safe.needs in
    record {
      new = needs_make_new h safe.world safe.sound safe.contents (tree_of h).made q safe.made safe.needs;
      made = λ e. subst (λ (s : Store). is_made (store_reply s q) ≡ true) safe.store
          ((role_laws q).told (next safe.world q) (store_reply safe.world.store q) e kept.taught);
      known = needs_known h safe.world safe.sound safe.contents q safe.needs;
      chunks = λ c bytes is. sym (safe.contents c.blk)
          ∙ ((safe.sound).chunks).content c bytes (subst (λ (s : Store). get s.chunks c ≡ Some bytes) (sym safe.store) is);
      unmade = λ b is. safe.unmade b (makes_unborn safe.world q safe.needs b is);
    }

pub runs_ask_fresh : {S : Type 0} (P : Programs S) → RunsAskSafely P → RunsAskFresh P
runs_ask_fresh P safely counts es run a op s q is asks = safe_is_fresh es q (safely counts es run a op s q is asks)
