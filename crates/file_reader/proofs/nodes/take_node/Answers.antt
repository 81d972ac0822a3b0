use Rattle.std.proofs.Common.{List, sym, ap, subst, ◌∙◌}
use Rattle.cyc_lex.specs.Word.{Word}
use Rattle.cyc_grammar.specs.Giving.{Fails}
use Rattle.proof_syntax.specs.Left.{Nodes, kept_statement}
use Rattle.file_reader.specs.Fronts.{kept}
use Rattle.file_reader.specs.Stretches.{tokens_of}
use Rattle.file_reader.proofs.RunLaws.{node-refused}
use Rattle.file_reader.proofs.nodes.take_node.Goals as goal

pub take_whole-taken-requires-clause-read : goal.take_whole-taken-requires-clause-read
take_whole-taken-requires-clause-read c = ap (λ (ws : List Word). (kept_statement kept Nodes).read ws)
    (sym c.requires.cursor) ∙ c.in-Ok.ensures

pub returns-in-Err : goal.returns-in-Err
returns-in-Err c =
    let refusal = c.in-Err.refusal in
    node-refused c.args.known.now (tokens_of c.args.stretch) c.args.found.now refusal c.refused.result c.requires.going
    (subst (λ (ws : List Word). Fails refusal ((kept_statement kept Nodes).read ws))
    c.requires.cursor c.in-Err.ensures) c.refused.ensures
