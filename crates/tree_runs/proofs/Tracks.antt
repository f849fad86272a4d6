-- at each moment of a run the tree follows, and a past of the store is sound that made no less
use Rattle.std.proofs.Common.{◌≡◌, ℕ, Some, List, [], ◌∷◌, ◌++◌, refl, sym, ap, subst, append_assoc, ◌∙◌}
use Rattle.std.proofs.lemmas.List.{append-nil}
use Rattle.tect_ids.specs.declared.ids.BlkId.{BlkId}
use Rattle.tect_ids.specs.declared.ids.Counts.{Counts}
use Rattle.tect_ids.specs.declared.ids.OpId.{OpId}
use Rattle.tect_ids.specs.declared.answer.Answer.{Answer}
use Rattle.store_rules.specs.declared.any.AnyReq.{AnyReq}
use Rattle.store_rules.specs.declared.any.AnyReply.{AnyReply}
use Rattle.store_rules.specs.Store.{store_step}
use Rattle.store_pasts.specs.Pasts.{content}
use Rattle.store_pasts.specs.Requests.{Needs}
use Rattle.store_pasts.specs.Worlds.{Ghost, World, opening_ghost}
use Rattle.tree_model.specs.Tree.{Tree, opening_tree}
use Rattle.program_forms.specs.declared.heard.Heard.{Heard}
use Rattle.program_forms.specs.declared.standing.Standing.TheVariants.{Goes}
use Rattle.program_forms.specs.Kinds.{Asks, Programs, next_does}
use Rattle.world_runs.specs.declared.event.Event.{Event}
use Rattle.world_runs.specs.declared.event.Event.TheVariants.{Own, Dumped}
use Rattle.world_runs.specs.declared.event.Happening.TheVariants.{Began, NotBegun, Acted, Ended, Stopped, Failed}
use Rattle.world_runs.specs.Moments.{WorldState, May, RunFrom, opening, after, after_all, IsWorldRun, moment}
use Rattle.whole_runs.proofs.Owns.{counts_stay, store_is_after}
use Rattle.claim_words.specs.Commands.{content_of, content_in}
use Rattle.claim_words.specs.TreeSteps.{told_of, steps_after, tree_after, IsTreeRun}
use Rattle.program_laws.specs.Known.{Deciding, Known}
use Rattle.program_laws.specs.Laws.{ProgramLaws}
use Rattle.run_laws.specs.Pasts.{world_of, ghost_after}
use Rattle.run_laws.specs.Known.{AllSound}
use Rattle.run_laws.proofs.Turns.{IsAsked, asked_by_op}
use Rattle.run_laws.proofs.MomentsKeep.{meets, event_sound, opening_all_sound}
use Rattle.run_laws.proofs.RunsKeep.{knows_of}
use Rattle.telling_laws.specs.Telling.{tree_of}
use Rattle.telling_laws.specs.View.{MakesNew}
use Rattle.telling_laws.proofs.Histories.{tree_after-append, tree_run-append}
use Rattle.telling_laws.proofs.RunsFollow.{Shown, Follows, opening_shown, idle_follows, asked_follows}
use Rattle.tree_runs.specs.Safe.{IsSafe, RunsAskSafely}
use Rattle.tree_runs.proofs.Contents.{PastTold, born_maker, opening_told, told_content, told_idle, told_begun, told_acted}
use Rattle.tree_runs.proofs.Pasts.{WithinPast, event_within}
use Rattle.tree_runs.proofs.AskSafely.{opening_within, needs_make_new, needs_known}

-- so it is of a moment and a tree, after a history
pub record Tracks {S : Type 0} (N : Known S Answer) (h : List Event) (m : WorldState S) (t : Tree) : Type 0 where
  pub past : Ghost
  pub sound : AllSound N m past
  pub within : WithinPast past t.made
  pub told : PastTold past h
  pub shown : Shown h m.store t

pub opening_tracks : {S : Type 0} (N : Known S Answer) (counts : Counts) → Tracks N [] (opening counts) opening_tree
opening_tracks N counts = record {
  past = opening_ghost;
  sound = opening_all_sound N counts;
  within = opening_within;
  told = opening_told;
  shown = opening_shown;
}

module _ {S : Type 0} (P : Programs S) (D : Deciding S Answer) (N : Known S Answer) (laws : ProgramLaws P D N) where
  module _ (h : List Event) (m : WorldState S) (t : Tree) (tracks : Tracks N h m t) where
    -- the store beside its past
    abbrev w : World
    w = world_of m tracks.past

    contents : (b : BlkId) → content w.ghost b ≡ content_of h b
    contents = told_content tracks.past h tracks.told

    needed : (op : OpId) (q : AnyReq) (s : S) → IsAsked P m op q s → Needs w q
    needed op q s by = (meets P D N laws m tracks.past tracks.sound op q s by).needs

    -- what is asked makes what the tree has not made, and what it attaches has its content
    pub asks_new : (op : OpId) (q : AnyReq) (s : S) → IsAsked P m op q s → MakesNew (content_in h) t.made q
    asks_new op q s by = needs_make_new h w (tracks.sound).sound contents t.made q tracks.within (needed op q s by)

    acted_follows : (op : OpId) (q : AnyReq) (x : AnyReply) (how : Heard) → May P m (Own op (Acted q x how))
        → Follows h (Own op (Acted q x how)) (store_step m.store q) t
    acted_follows op q x how may =
        let by : (s : S) × IsAsked P m op q s = asked_by_op P m op q may.0 in
        asked_follows h m.store t op q x how (asks_new op q by.0 by.1)
        (needs_known h w (tracks.sound).sound contents q (needed op q by.0 by.1)) tracks.shown may.1

    follows : (e : Event) → May P m e → Follows h e (after P m e).store t
    follows (Own op (Acted q x how)) may = acted_follows op q x how may
    follows (Own op (Began c)) may = idle_follows h (Own op (Began c)) m.store t refl tracks.shown
    follows (Own op (NotBegun c)) may = idle_follows h (Own op (NotBegun c)) m.store t refl tracks.shown
    follows (Own op (Ended a)) may = idle_follows h (Own op (Ended a)) m.store t refl tracks.shown
    follows (Own op Stopped) may = idle_follows h (Own op Stopped) m.store t refl tracks.shown
    follows (Own op (Failed a)) may = idle_follows h (Own op (Failed a)) m.store t refl tracks.shown
    follows Dumped may = idle_follows h Dumped m.store t refl tracks.shown

    acted_told : (op : OpId) (q : AnyReq) (x : AnyReply) (how : Heard) → May P m (Own op (Acted q x how))
        → PastTold (ghost_after P D m tracks.past (Own op (Acted q x how))) (h ++ Own op (Acted q x how) ∷ [])
    acted_told op q x how may =
        let by : (s : S) × IsAsked P m op q s = asked_by_op P m op q may.0 in
        subst (λ (y : AnyReply). PastTold (ghost_after P D m tracks.past (Own op (Acted q y how))) (h ++ Own op (Acted q y how) ∷ []))
        (sym may.1)
        (told_acted w h op _ q how _ _ (meets P D N laws m tracks.past tracks.sound op q by.0 by.1) tracks.told)

    past_told : (e : Event) → May P m e → PastTold (ghost_after P D m tracks.past e) (h ++ e ∷ [])
    past_told (Own op (Acted q x how)) may = acted_told op q x how may
    past_told (Own op (Began c)) may = told_begun tracks.past h op c tracks.told
    past_told (Own op (NotBegun c)) may =
        told_idle tracks.past tracks.past h _ (λ x. refl) (λ b. refl) (λ x. refl) (λ b. refl) tracks.told
    past_told (Own op (Ended a)) may =
        told_idle tracks.past tracks.past h _ (λ x. refl) (λ b. refl) (λ x. refl) (λ b. refl) tracks.told
    past_told (Own op Stopped) may =
        told_idle tracks.past tracks.past h _ (λ x. refl) (λ b. refl) (λ x. refl) (λ b. refl) tracks.told
    past_told (Own op (Failed a)) may =
        told_idle tracks.past tracks.past h _ (λ x. refl) (λ b. refl) (λ x. refl) (λ b. refl) tracks.told
    past_told Dumped may = told_idle tracks.past tracks.past h _ (λ x. refl) (λ b. refl) (λ x. refl) (λ b. refl) tracks.told

    -- and it is so after each event, whose step the tree allows
    pub event_tracked : (e : Event) → May P m e → Tracks N (h ++ e ∷ []) (after P m e) (tree_after t (told_of h e)) × IsTreeRun t (told_of h e)
    event_tracked e may =
        let f : Follows h e (after P m e).store t = follows e may in (
          record {
            past = ghost_after P D m tracks.past e;
            sound = event_sound P D N laws m tracks.past e tracks.sound may;
            within = event_within P D h m tracks.past t e may tracks.within;
            told = past_told e may;
            shown = f.shown;
          },
          f.run,
        )

  pub run_tracked : (es h : List Event) (m : WorldState S) (t : Tree) → Tracks N h m t → RunFrom P m es
      → Tracks N (h ++ es) (after_all P m es) (tree_after t (steps_after h es)) × IsTreeRun t (steps_after h es)
  run_tracked [] h m t tracks run = (rw append-nil tracks, tt)
  run_tracked (e ∷ es) h m t tracks run =
      let now : Tracks N (h ++ e ∷ []) (after P m e) (tree_after t (told_of h e)) × IsTreeRun t (told_of h e) =
      event_tracked h m t tracks e run.0 in
      let rest : Tracks N ((h ++ e ∷ []) ++ es) (after_all P (after P m e) es)
      (tree_after (tree_after t (told_of h e)) (steps_after (h ++ e ∷ []) es))
      × IsTreeRun (tree_after t (told_of h e)) (steps_after (h ++ e ∷ []) es) =
      run_tracked es (h ++ e ∷ []) (after P m e) (tree_after t (told_of h e)) now.0 run.1 in (
        subst (λ (l : List Event). Tracks N l (after_all P (after P m e) es) (tree_after t (steps_after h (e ∷ es))))
            (append_assoc h (e ∷ []) es)
            (subst (λ (u : Tree). Tracks N ((h ++ e ∷ []) ++ es) (after_all P (after P m e) es) u)
            (sym (tree_after-append t (told_of h e) (steps_after (h ++ e ∷ []) es))) rest.0),
        tree_run-append t (told_of h e) (steps_after (h ++ e ∷ []) es) now.1 rest.1,
      )

  -- ---- what a running command asks next is safe

  module _ (counts : Counts) (es : List Event) (run : IsWorldRun P counts es) where
    abbrev now : WorldState S
    now = moment P counts es

    tracked : Tracks N es now (tree_of es)
    tracked = (run_tracked es [] (opening counts) opening_tree (opening_tracks N counts) run).0

    module _ (a : ℕ) (op : OpId) (s : S) (q : AnyReq) (is : (now.actors a).running ≡ Some record { op = op; at = Goes s })
        (asks : next_does P.kind counts (now.actors a).memory op s ≡ Asks q) where
      own : a ≡ op.actor
      own = sym (knows_of P D N laws now tracked.past tracked.sound a record { op = op; at = Goes s } is).own

      by : IsAsked P now op q s
      by = record {
        is = subst (λ (b : ℕ). (now.actors b).running ≡ Some record { op = op; at = Goes s }) own is;
        ask = subst (λ (c : Counts). next_does P.kind c (now.actors op.actor).memory op s ≡ Asks q)
            (sym (counts_stay P (opening counts) es))
            (subst (λ (b : ℕ). next_does P.kind counts (now.actors b).memory op s ≡ Asks q) own asks);
      }

      pub safe : IsSafe es q
      safe = record {
        world = world_of now tracked.past;
        store = store_is_after P (opening counts) es;
        sound = (tracked.sound).sound;
        needs = needed es now (tree_of es) tracked op q s by;
        made = tracked.within;
        contents = contents es now (tree_of es) tracked;
        unmade = λ b none. sym ((tracked.told).born b) ∙ ap born_maker none;
      }

  pub runs_ask_safely : RunsAskSafely P
  runs_ask_safely counts es run a op s q is asks = safe counts es run a op s q is asks
