use Rattle.std.proofs.Common.{◌∙◌, ap}
use Rattle.cyc_lex.specs.Writing.{write_all}
use Rattle.fo_syntax.specs.ProofTrees.{file_of}
use Rattle.fo_syntax.specs.ProofGrammar.{body, file}
use Rattle.fo_syntax.proofs.ProofEnds.{body-inner}
use Rattle.fo_syntax.proofs.proofs.files.write_tree.Goals as goal

pub returns-clause-again : goal.returns-clause-again
unfolding file
returns-clause-again c =
    let words = body.words (file_of c.args.tree.now) in
    c.finish.ensures.again words (c.in_ok-write_body.ensures ∙ ap (λ s. write_all s words) c.new-writer.ensures)
    (body-inner.inner (file_of c.args.tree.now) c.requires)
