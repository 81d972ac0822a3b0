use Rattle.fo_syntax.specs.ProofTrees.{file_of}
use Rattle.fo_file.proofs.Readings.{written-is-read}
use Rattle.fo_file.proofs.writing.write_fo.Goals as goal

pub returns-clause-spells : goal.returns-clause-spells
returns-clause-spells c =
    written-is-read (λ v. v.items) c.args.file.now (file_of c.in_ok-tree.tree)
    c.write_tree.result c.requires c.in_ok-tree.ensures c.write_tree.ensures.text
