use Rattle.std.proofs.Common.{◌∙◌, sym, ap}
use Rattle.cyc_grammar.specs.Classes.{is_free_name}
use Rattle.cyc_grammar.proofs.Names.{free-name}
use Rattle.heap_syntax.specs.Words.{reserved}
use Rattle.formula_reader.proofs.NameTests.{no_name}
use Rattle.formula_reader.proofs.limits.names.is_free_name.Goals as goal

pub returns-then-is_name_text : goal.returns-then-is_name_text
returns-then-is_name_text c =
    let free = free-name c.args.text.now c.reserved_words.result.now c.is_among.result
    (sym c.is_name_text.ensures ∙ c.if-is_name_text.true) c.is_among.ensures in
    free ∙ ap (λ words. is_free_name words c.args.text.now) c.reserved_words.ensures

pub returns-else-is_name_text : goal.returns-else-is_name_text
returns-else-is_name_text c =
    no_name c.args.text.now reserved c.is_name_text.result c.is_name_text.ensures c.if-is_name_text.false
