use Rattle.proof_picture.proofs.Statements.{statements_are}
use Rattle.proof_picture.proofs.names.titles.statements_of.Goals as goal

pub returns : goal.returns
returns c = statements_are c.in_ok-parts_of.field-0.items c.args.tokens.now c.in_ok-parts_of.ensures
