use Rattle.std.proofs.Common.{◌∙◌, sym}
use Rattle.gfx_words.proofs.NumberLemmas.{no_number, parsed}
use Rattle.gfx_words.proofs.table.number_of.Goals as goal

pub returns-then-is_numeral : goal.returns-then-is_numeral
returns-then-is_numeral c =
    let numeral = sym c.is_numeral.ensures ∙ c.if-is_numeral.true in
    c.ok.ensures.value ∙ parsed c.args.text.now c.parse.result numeral c.parse.ensures.value.0

pub returns-else-is_numeral : goal.returns-else-is_numeral
returns-else-is_numeral c = no_number c.args.text.now (sym c.is_numeral.ensures ∙ c.if-is_numeral.false)
