-- what an actor keeps of its replies is so
use Rattle.std.proofs.Common.{◌≡◌, ℕ, List, [], ◌∷◌, filter, Bool, true, false, cond, Option, Some, sym, ◌∙◌}
use Rattle.std.specs.Cmp.{IsTotalOrder}
use Rattle.std.specs.Cmp.Lexicographic.{lists_total, nat_list_cmp_total}
use Rattle.std.specs.Ordering.{eq_by_cmp}
use Rattle.std.specs.FinMap.{get}
use Rattle.tect_ids.specs.declared.ids.Node.TheVariants.{File}
use Rattle.map_words.specs.Maps.{set_at}
use Rattle.map_words.proofs.Maps.{get-set_at}
use Rattle.program_forms.specs.declared.heard.Heard.{Heard}
use Rattle.program_forms.specs.declared.heard.Heard.TheVariants.{Whole, Unkept, Left}
use Rattle.program_forms.specs.Memories.{Learnt, Opens, OpenedFile, OpenedFiles, path_cmp, must_keep, kept_of, opened_by}
use Rattle.store_pasts.specs.Worlds.{World}
use Rattle.store_pasts.specs.Later.{Touched, Later}
use Rattle.program_laws.specs.Known.{IsOpenedFile, AllLearnt}

path_cmp_total : IsTotalOrder path_cmp
path_cmp_total = lists_total nat_list_cmp_total

-- it stays so
pub opened_later : (by : Touched) (w v : World) → Later by w v → (a : ℕ) (o : OpenedFile) → IsOpenedFile w a o → IsOpenedFile v a o
opened_later by w v l a o k = record { made = l.made (File o.file) k.made; own = k.own }

module _ (w : World) (a : ℕ) where
  -- so is all that is known as opened
  abbrev pub AllOpened : OpenedFiles → Type 0
  AllOpened m = (path : List (List ℕ)) (o : OpenedFile) → get m path ≡ Some o → IsOpenedFile w a o

  opened_now : (b : Bool) (new o : OpenedFile) (was : Option OpenedFile) → IsOpenedFile w a new → (was ≡ Some o → IsOpenedFile w a o)
      → cond b (Some new) was ≡ Some o → IsOpenedFile w a o
  opened_now true new o was k so e = let same : new ≡ o = cc in rw (← same) k
  opened_now false new o was k so e = so e

  -- what was learnt put to it
  pub opened_so : (ls : List Learnt) (m : OpenedFiles) → AllLearnt w a ls → AllOpened m → AllOpened (opened_by ls m)
  opened_so [] m k so = so
  opened_so (Opens p f t ∷ ls) m k so =
      let new : OpenedFile = record { file = f; token = t } in
      opened_so ls (set_at m p (Some new)) k.1 (λ path o e. opened_now (eq_by_cmp path_cmp path p) new o (get m path) k.0 (so path o)
      (sym (get-set_at path_cmp_total m p (Some new) path) ∙ e))

  must_so : (ls : List Learnt) → AllLearnt w a ls → AllLearnt w a (filter must_keep ls)
  must_so [] k = k
  must_so (Opens p f t ∷ ls) k = (k.0, must_so ls k.1)

  -- what is kept of it, however the reply was heard
  pub kept_so : (h : Heard) (ls : List Learnt) → AllLearnt w a ls → AllLearnt w a (kept_of h ls)
  kept_so Whole ls k = k
  kept_so Unkept ls k = must_so ls k
  kept_so Left ls k = tt
