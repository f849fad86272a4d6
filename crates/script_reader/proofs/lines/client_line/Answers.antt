use Rattle.std.proofs.Common.{◌≡◌, true, false, ◌∷◌, ◌∙◌, refl, sym}
use Rattle.script_words.specs.WordList.{words_left}
use Rattle.script_forms.specs.Reading.{out_of_state}
use Rattle.script_forms.specs.Clients.{is_one_too_many}
use Rattle.script_reader.proofs.lines.client_line.Goals as goal

pub returns-then-is_out_of_state-clause-line : goal.returns-then-is_out_of_state-clause-line
returns-then-is_out_of_state-clause-line c =
    let hit : out_of_state c.args.clients.now.entries c.args.name (words_left c.args.words) ≡ true = sym c.is_out_of_state.ensures ∙
    c.if-is_out_of_state.true in
    (c.args.name ∷ words_left c.args.words, rw hit refl, c.requires.size)

pub returns-then-is_one_too_many-clause-line : goal.returns-then-is_one_too_many-clause-line
returns-then-is_one_too_many-clause-line c =
    let miss : out_of_state c.args.clients.now.entries c.args.name (words_left c.args.words) ≡ false = sym c.is_out_of_state.ensures ∙
    c.if-is_out_of_state.false in
    let hit : is_one_too_many c.args.clients.now.entries c.args.name ≡ true = sym c.is_one_too_many.ensures ∙ c.if-is_one_too_many.true in
    (c.args.name ∷ words_left c.args.words, rw (miss, hit) refl)
