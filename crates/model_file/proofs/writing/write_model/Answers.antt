use Rattle.model_file.specs.Trees.{model_of}
use Rattle.model_file.proofs.Readings.{written_is_read}
use Rattle.model_file.proofs.writing.write_model.Goals as goal

pub returns-clause-spells : goal.returns-clause-spells
returns-clause-spells c =
    written_is_read (λ v. v.items) c.args.model.now (model_of c.in_ok-tree.tree)
    c.write_tree.result c.in_ok-tree.ensures c.write_tree.ensures.text
