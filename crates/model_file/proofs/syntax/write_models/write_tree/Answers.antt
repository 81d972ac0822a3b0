use Rattle.std.proofs.Common.{◌∙◌, ap}
use Rattle.cyc_lex.specs.Writing.{write_all}
use Rattle.model_file.specs.Trees.{model_of}
use Rattle.model_file.specs.Grammar.{body, model}
use Rattle.model_file.proofs.ModelEnds.{body-inner}
use Rattle.model_file.proofs.syntax.write_models.write_tree.Goals as goal

pub returns-clause-again : goal.returns-clause-again
unfolding model
returns-clause-again c =
    let words = body.words (model_of c.args.tree.now) in
    c.finish.ensures.again words (c.in_ok-write_body.ensures ∙ ap (λ s. write_all s words) c.new-writer.ensures)
    (body-inner.inner (model_of c.args.tree.now) c.requires)
