use Rattle.fo_syntax.specs.ProofTrees.{file_of}
use Rattle.fo_file.proofs.Parsed.{file_is}
use Rattle.fo_file.proofs.walk.text_walk.walk_file.Goals as goal

pub walk_theory-requires-clause-are : goal.walk_theory-requires-clause-are
walk_theory-requires-clause-are c =
    rw c.deref-2.ensures.value (file_is (file_of c.args.tree.now) c.requires.grammar).0

pub walk_nodes-requires-clause-are : goal.walk_nodes-requires-clause-are
walk_nodes-requires-clause-are c =
    rw c.deref-3.ensures.value (file_is (file_of c.args.tree.now) c.requires.grammar).1
