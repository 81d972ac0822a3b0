use Rattle.std.proofs.Common.{◌≡◌, ◌+◌, drop, map}
use Rattle.heap_formula.specs.Words.{Each}
use Rattle.heap_reader.specs.Spans.{total}
use Rattle.heap_reader.specs.Flaws.{listed_flaw}
use Rattle.fo_syntax.specs.ProblemTrees.{atoms_of}
use Rattle.fo_file.specs.AtomSpans.{atoms_span, AreAtoms}
use Rattle.fo_file.specs.Flaws.{case_flaw}
use Rattle.fo_file.proofs.walk.theory_walk.walk_cases.Given as goal

abbrev pub invariant-loop-n : goal.invariant-loop-n
invariant-loop-n l =
    (listed_flaw (case_flaw l.names.constructors l.names.predicates l.arity) atoms_span l.n l.next
    (map atoms_of (drop l.n l.trees)) ≡ listed_flaw (case_flaw l.names.constructors l.names.predicates l.arity)
    atoms_span 0 l.fn.at (map atoms_of l.trees))
    × ((l.next + total atoms_span (map atoms_of (drop l.n l.trees)) ≡ l.fn.at + total atoms_span (map atoms_of l.trees))
    × Each AreAtoms (map atoms_of (drop l.n l.trees)))
