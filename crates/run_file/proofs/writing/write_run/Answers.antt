use Rattle.run_file.specs.Trees.{run_of}
use Rattle.run_file.proofs.Readings.{written_is_read}
use Rattle.run_file.proofs.writing.write_run.Goals as goal

pub returns-clause-spells : goal.returns-clause-spells
returns-clause-spells c =
    written_is_read (λ v. v.items) c.args.run.now (run_of c.in_ok-tree.tree)
    c.write_tree.result c.in_ok-tree.ensures c.write_tree.ensures.text
