use Rattle.std.proofs.Common.{map, [], ap, arith}
use Rattle.cyc_grammar.proofs.WrittenTexts.{left-at}
use Rattle.heap_reader.specs.Spans.{total}
use Rattle.fo_syntax.specs.ProblemTrees.{constructor_of}
use Rattle.fo_file.specs.Spans.{constructor_span}
use Rattle.fo_file.proofs.walk.theory_walk.walk_constructors.Goals as goal

pub walk_constructor-requires-clause-fits : goal.walk_constructor-requires-clause-fits
walk_constructor-requires-clause-fits c =
    let left = left-at c.args.trees.now c.loop-n.n
    (record { name = record { ref_ptr = (0, 0); now = [] }; arguments = 0 }) c.loop-n-test.true in
    omega (
      arith,
      c.requires.fits,
      c.loop-n.invariant.1,
      ap (λ trees. total constructor_span (map constructor_of trees)) left,
    )
