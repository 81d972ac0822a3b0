use Rattle.fo_syntax.specs.ProblemTrees.{problem_of}
use Rattle.fo_file.proofs.Parsed.{problem_is}
use Rattle.fo_file.proofs.walk.text_walk.walk_problem.Goals as goal

pub walk_theory-requires-clause-are : goal.walk_theory-requires-clause-are
walk_theory-requires-clause-are c =
    rw c.deref-2.ensures.value (problem_is (problem_of c.args.tree.now) c.requires.grammar).0

pub walk_sequent-requires-clause-is : goal.walk_sequent-requires-clause-is
walk_sequent-requires-clause-is c = (problem_is (problem_of c.args.tree.now) c.requires.grammar).1
