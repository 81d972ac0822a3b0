use Rattle.proof_syntax.specs.Trees.{file_of}
use Rattle.proof_file.proofs.TextReadings.{written_is_read}
use Rattle.proof_file.proofs.texts.writing.write_file.Goals as goal

pub returns-clause-spells : goal.returns-clause-spells
returns-clause-spells c =
    written_is_read (λ v. v.items) c.args.file.now (file_of c.in_ok-tree.tree)
    c.write_tree.result c.in_ok-tree.ensures c.write_tree.ensures.text
