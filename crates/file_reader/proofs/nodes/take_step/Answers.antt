use Rattle.std.proofs.Common.{List, subst}
use Rattle.cyc_lex.specs.Word.{Word}
use Rattle.cyc_grammar.specs.Syntax.{read_class}
use Rattle.cyc_grammar.specs.Classes.{the_end}
use Rattle.cyc_grammar.specs.Giving.{Fails}
use Rattle.file_reader.specs.Stretches.{tokens_of}
use Rattle.file_reader.proofs.RunLaws.{end-refused}
use Rattle.file_reader.proofs.nodes.take_step.Goals as goal

pub returns-in-Err : goal.returns-in-Err
returns-in-Err c =
    let refusal = c.in-Err.refusal in
    end-refused c.args.known.now (tokens_of c.args.stretch)
    c.args.found.now refusal c.refused.result c.if-not-found.false
    (subst (λ (ws : List Word). Fails refusal (read_class the_end ws)) c.requires.cursor c.in-Err.ensures)
    c.refused.ensures
