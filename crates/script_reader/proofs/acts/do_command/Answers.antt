use Rattle.std.proofs.lemmas.Result.{err_from_is_err_and}
use Rattle.script_words.specs.WordList.{words_left}
use Rattle.tect_ids.specs.declared.script.Act.TheVariants.{Do}
use Rattle.script_forms.specs.Grammar.{command_form}
use Rattle.script_reader.proofs.FormReads.{mapped_ok, mapped_err}
use Rattle.script_reader.proofs.acts.do_command.Goals as goal

pub returns-in_err-command : goal.returns-in_err-command
returns-in_err-command c =
    let p = err_from_is_err_and c.from_residual.result c.from_residual.ensures.1 in
    rw (p.1, p.2) (mapped_err (λ command. Do command) (command_form c.args.counts c.args.verb) (words_left c.args.words.now) _
    c.in_err-command.field-0.0 c.in_err-command.ensures)

pub returns : goal.returns
returns c = mapped_ok (λ command. Do command) (command_form c.args.counts c.args.verb) (words_left c.args.words.now) _
    c.in_ok-command.command c.in_ok-command.ensures
