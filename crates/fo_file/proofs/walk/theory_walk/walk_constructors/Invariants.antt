use Rattle.std.proofs.Common.{◌≡◌, ◌+◌, drop, map}
use Rattle.heap_reader.specs.Spans.{total}
use Rattle.heap_reader.specs.Flaws.{listed_flaw}
use Rattle.fo_syntax.specs.ProblemTrees.{constructor_of}
use Rattle.fo_file.specs.Spans.{constructor_span}
use Rattle.fo_file.specs.Flaws.{constructor_flaw}
use Rattle.fo_file.proofs.walk.theory_walk.walk_constructors.Given as goal

abbrev pub invariant-loop-n : goal.invariant-loop-n
invariant-loop-n l =
    (listed_flaw (constructor_flaw l.constructors) constructor_span l.n l.next (map constructor_of (drop l.n l.trees))
    ≡ listed_flaw (constructor_flaw l.constructors) constructor_span 0 l.fn.at (map constructor_of l.trees))
    × (l.next + total constructor_span (map constructor_of (drop l.n l.trees))
    ≡ l.fn.at + total constructor_span (map constructor_of l.trees))
