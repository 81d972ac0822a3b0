use Rattle.proof_picture.specs.Naming.{words_of}
use Rattle.proof_picture.proofs.Statements.{line_found, line_missing}
use Rattle.proof_picture.proofs.names.naming.Naming.line.Goals as goal

pub returns-in-Some : goal.returns-in-Some
returns-in-Some c =
    line_found words_of c.args.self.now.lines.now c.args.number c.in-Some.line.now c.if-number-eq0.false
    c.in-Some.ensures.lookup.0 c.in-Some.ensures.lookup.1

pub returns-in-None : goal.returns-in-None
returns-in-None c =
    line_missing words_of c.args.self.now.lines.now c.args.number c.if-number-eq0.false c.in-None.ensures.lookup.0
