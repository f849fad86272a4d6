-- What a commit and a note make of a pass.
use Rattle.std.specs.Prelude.{Result, Ok, Err, ◌≡◌, ℕ, ◌+◌, ◌<◌, [], ◌∷◌, ◌++◌, None}
use Rattle.tect_ids.specs.declared.ids.Counts.{Counts}
use Rattle.store_rules.specs.declared.any.AnyReq.{AnyReq}
use Rattle.store_rules.specs.declared.any.AnyReply.{AnyReply}
use Rattle.store_rules.specs.Places.{request_place}
use Rattle.entry_words.specs.declared.entry.Entry.{Entry}
use Rattle.entry_words.specs.declared.entry.Note.{Note}
use Rattle.entry_words.specs.declared.entry.Refused.{Refused}
use Rattle.entry_words.specs.declared.entry.Moment.TheVariants.{Act}
use Rattle.program_forms.specs.declared.heard.Heard.TheVariants.{Whole}
use Rattle.passes.specs.declared.pass.Pass.{Pass}
use Rattle.passes.specs.Commits.{local_of, op_number}

-- the entry of the pass's request at its place, with that stamp
abbrev pub entry_at : Counts → ℕ → Pass → AnyReq → AnyReply → Entry
entry_at counts stamp p q x =
    record {
      stamp = stamp;
      place = request_place counts q;
      actor = p.actor;
      number = op_number p.running;
      step = p.steps;
      req = q;
      reply = x;
    }

-- what came of the pass's request, with the entry that the pass then has
abbrev pub entered : Counts → Pass → Pass → AnyReq → Result AnyReply Refused → Result Entry Refused
entered counts old new q (Ok x) = Ok (entry_at counts new.clock old q x)
entered counts old new q (Err e) = Err e

-- The pass has one entry more, that of the request and its reply, stamped by its clock, which went on. The reply counts as heard
-- whole until its command says else.
pub record Committed (counts : Counts) (old new : Pass) (q : AnyReq) (x : AnyReply) : Type 0 where
  pub moments : new.moments.items ≡ old.moments.items ++ Act (entry_at counts new.clock old q x) Whole ∷ []
  pub later : old.clock < new.clock
  pub actor : new.actor ≡ old.actor
  pub running : new.running ≡ old.running

-- The pass has one note more, and no op runs.
pub record NotedEnd (old new : Pass) (note : Note) : Type 0 where
  pub moments : new.moments.items ≡ old.moments.items ++ local_of old note ∷ []
  pub clock : new.clock ≡ old.clock + 1
  pub actor : new.actor ≡ old.actor
  pub running : new.running ≡ None
