use Rattle.std.proofs.Common.{◌∙◌, ap}
use Rattle.cyc_lex.specs.Writing.{write_all}
use Rattle.run_file.specs.Trees.{run_of}
use Rattle.run_file.specs.Grammar.{body, run}
use Rattle.run_file.proofs.RunEnds.{body-inner}
use Rattle.run_file.proofs.write_runs.write_tree.Goals as goal

pub returns-clause-again : goal.returns-clause-again
unfolding run
returns-clause-again c =
    let words = body.words (run_of c.args.tree.now) in
    c.finish.ensures.again words (c.in_ok-write_body.ensures ∙ ap (λ s. write_all s words) c.new-writer.ensures)
    (body-inner.inner (run_of c.args.tree.now) c.requires)
