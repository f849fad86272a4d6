-- a history of requests of its machine's own layer is a legal one of the store in which that machine stands alone
use Rattle.std.proofs.Common.{◌≡◌, List, [], ◌∷◌, refl, sym, subst, ◌∙◌}
use Rattle.std.specs.List.{AllByRecursion}
use Rattle.tect_ids.specs.declared.ids.Layer.{Layer}
use Rattle.tect_ids.specs.declared.ids.Layer.TheVariants as layers
use Rattle.store_rules.specs.declared.any.AnyReq.{AnyReq}
use Rattle.store_rules.specs.declared.any.AnyReply.{AnyReply}
use Rattle.store_rules.specs.Alone.{names_alone, files_alone, blocks_alone, chunks_alone, request_layer}
use Rattle.store_rules.specs.Store.{Store, store_reply, store_step}
use Rattle.entry_words.specs.declared.entry.Entry.{Entry}
use Rattle.place_kit.specs.declared.any.AnyKept.{AnyKept}
use Rattle.place_kit.specs.declared.any.AnyKept.TheVariants.{Name, File, Block, Disk}
use Rattle.place_kit.specs.Kept.{base_of, history_of, label_of}
use Rattle.place_kit.specs.Machines.{name_after, name_replies, file_after, file_replies}
use Rattle.place_kit.specs.Machines.{block_after, block_replies, disk_after, disk_replies}
use Rattle.place_kit.specs.Replay.{IsLegal}
use Rattle.place_kit.proofs.AllKinds.{names_step, files_step, blocks_step, chunks_step}

-- as what stands alone, the machine replies and changes as the store
legal_alone : {S : Type 0} (alone : S → Store) (after : S → AnyReq → S) (answer : S → AnyReq → AnyReply) (layer : Layer)
    → ((s : S) (q : AnyReq) → request_layer q ≡ layer → store_step (alone s) q ≡ alone (after s q))
    → ((s : S) (q : AnyReq) → answer s q ≡ store_reply (alone s) q)
    → (s : S) (es : List Entry) → AllByRecursion (λ e. request_layer e.req ≡ layer) es → IsLegal after answer s es
    → IsLegal store_step store_reply (alone s) es
legal_alone alone after answer layer steps replies s [] own legal = tt
legal_alone alone after answer layer steps replies s (e ∷ es) own legal = (
  legal.0 ∙ replies s e.req,
  subst (λ (t : Store). IsLegal store_step store_reply t es) (sym (steps s e.req own.0))
      (legal_alone alone after answer layer steps replies (after s e.req) es own.1 legal.1),
)

pub kept_answered : (k : AnyKept) → AllByRecursion (λ e. request_layer e.req ≡ (label_of k).layer) (history_of k)
    → IsLegal store_step store_reply (base_of k) (history_of k)
kept_answered (Name k) own =
    legal_alone names_alone name_after name_replies layers.Names (λ s q o. names_step s q o) (λ s q. refl) k.base.value k.history.items
    (subst (λ (l : Layer). AllByRecursion (λ e. request_layer e.req ≡ l) k.history.items) k.layered own) k.kept.legal
kept_answered (File k) own =
    legal_alone files_alone file_after file_replies layers.Files (λ s q o. files_step s q o) (λ s q. refl) k.base.value k.history.items
    (subst (λ (l : Layer). AllByRecursion (λ e. request_layer e.req ≡ l) k.history.items) k.layered own) k.kept.legal
kept_answered (Block k) own =
    legal_alone blocks_alone block_after block_replies layers.Blocks (λ s q o. blocks_step s q o) (λ s q. refl) k.base.value k.history.items
    (subst (λ (l : Layer). AllByRecursion (λ e. request_layer e.req ≡ l) k.history.items) k.layered own) k.kept.legal
kept_answered (Disk k) own =
    legal_alone chunks_alone disk_after disk_replies layers.Disks (λ s q o. chunks_step s q o) (λ s q. refl) k.base.value k.history.items
    (subst (λ (l : Layer). AllByRecursion (λ e. request_layer e.req ≡ l) k.history.items) k.layered own) k.kept.legal
