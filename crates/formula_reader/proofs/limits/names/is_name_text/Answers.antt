use Rattle.formula_reader.proofs.NameTests.{short_identifier}
use Rattle.formula_reader.proofs.limits.names.is_name_text.Goals as goal

pub returns-then-text-le-LONGEST_NAME : goal.returns-then-text-le-LONGEST_NAME
returns-then-text-le-LONGEST_NAME c =
    short_identifier c.args.text.now c.is_identifier.result c.utf8.text c.if-text-le-LONGEST_NAME.true
    c.is_identifier.ensures
