-- before each transaction of a run its op's command asks for it, and what is told of the command is so
use Rattle.std.proofs.Common.{◌≡◌, Some, List, [], ◌∷◌, ◌++◌, subst}
use Rattle.tect_ids.specs.declared.ids.Counts.{Counts}
use Rattle.tect_ids.specs.declared.ids.OpId.{OpId}
use Rattle.tect_ids.specs.declared.command.Command.{Command}
use Rattle.tect_ids.specs.declared.answer.Answer.{Answer}
use Rattle.store_rules.specs.declared.any.AnyReq.{AnyReq}
use Rattle.store_rules.specs.declared.any.AnyReply.{AnyReply}
use Rattle.program_forms.specs.declared.heard.Heard.{Heard}
use Rattle.program_forms.specs.declared.standing.Standing.TheVariants.{Goes}
use Rattle.program_forms.specs.Memories.{Memory}
use Rattle.program_forms.specs.Kinds.{Asks, Programs, turned}
use Rattle.program_laws.specs.Known.{Deciding}
use Rattle.world_runs.specs.declared.event.Event.{Event}
use Rattle.world_runs.specs.declared.event.Event.TheVariants.{Own}
use Rattle.world_runs.specs.declared.event.Happening.TheVariants.{Acted}
use Rattle.world_runs.specs.Actors.{Actor, OwnMay}
use Rattle.world_runs.specs.Moments.{WorldState, opening, May, IsWorldRun, moment}
use Rattle.whole_runs.proofs.Owns.{counts_stay}
use Rattle.whole_runs.proofs.Standings.{Asking, asks_of}
use Rattle.claim_words.specs.Commands.{command_of}
use Rattle.telling_laws.specs.Telling.{RunsAskFresh, RunsFollowTree, Telling, Tells, TellingLaws}
use Rattle.telling_laws.proofs.Histories.{run_front, run_rest}
use Rattle.telling_laws.proofs.RunsTell.{turned_tells, RunningTells, AllTold, run_told, opening_told}

-- The op began that command by this history. It stands in a state that asks this, its look-ups done, of which the history tells.
pub record AskedTells {S : Type 0} (counts : Counts) (P : Programs S) (D : Deciding S Answer) (T : Telling S) (h : List Event) (op : OpId)
    (q : AnyReq) : Type 0 where
  pub command : Command
  pub begun : command_of h op ≡ Some command
  pub memory : Memory
  pub state : S
  pub asks : P.kind.does counts memory op state ≡ Asks q
  pub tells : Tells D T h op command state

module _ (S : Type 0) (counts : Counts) (P : Programs S) (D : Deciding S Answer) (T : Telling S) (L : TellingLaws counts P D T)
    (freshly : RunsAskFresh P) (follows : RunsFollowTree P) where
  asked_told : (h : List Event) (op : OpId) (q : AnyReq) (x : AnyReply) (how : Heard) → AllTold S counts P D T L h (moment P counts h)
      → May P (moment P counts h) (Own op (Acted q x how)) → AskedTells counts P D T h op q
  asked_told h op q x how t may =
      let m : WorldState S = moment P counts h in
      let actor : Actor S = m.actors op.actor in
      let asks : OwnMay P counts actor op (Acted q x how) =
      subst (λ (c : Counts). OwnMay P c actor op (Acted q x how)) (counts_stay P (opening counts) h) may.0 in
      let its : Asking S P counts actor.memory actor.running op q = asks_of S P counts actor.memory actor.running op q asks in
      let tells : RunningTells S counts P D T L h op.actor actor.number (Some record { op = op; at = Goes its.state }) =
      rw its.is at (t.tells op.actor) in
      record {
        command = (tells.2).0;
        begun = (tells.2).1;
        memory = (turned P.kind counts actor.memory op its.state).memory;
        state = (turned P.kind counts actor.memory op its.state).state;
        asks = its.asks;
        tells = turned_tells S counts P D T L h op (tells.2).0 actor.memory its.state (tells.2).2;
      }

  -- so it is in each run, before each transaction
  pub told_when_asked : (h es : List Event) (op : OpId) (q : AnyReq) (x : AnyReply) (how : Heard)
      → IsWorldRun P counts (h ++ Own op (Acted q x how) ∷ es) → AskedTells counts P D T h op q
  told_when_asked h es op q x how run =
      asked_told h op q x how
      (run_told S counts P D T L freshly follows [] h (run_front P (opening counts) h (Own op (Acted q x how) ∷ es) run)
      (opening_told S counts P D T L))
      (run_rest P (opening counts) h (Own op (Acted q x how) ∷ es) run).0
