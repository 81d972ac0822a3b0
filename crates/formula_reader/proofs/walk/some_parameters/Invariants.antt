use Rattle.std.proofs.Common.{◌≡◌, ◌+◌, drop, map}
use Rattle.heap_reader.specs.Spans.{total}
use Rattle.heap_reader.specs.Flaws.{listed_flaw}
use Rattle.problem_syntax.specs.Trees.{text_of}
use Rattle.formula_reader.specs.Spans.{parameter_span}
use Rattle.formula_reader.specs.Flaws.{parameter_flaw}
use Rattle.formula_reader.proofs.walk.some_parameters.Given as goal

abbrev pub invariant-loop-n : goal.invariant-loop-n
invariant-loop-n l =
    (listed_flaw (parameter_flaw l.most (map text_of l.parameters)) parameter_span l.n l.next
    (map text_of (drop l.n l.parameters)) ≡ listed_flaw (parameter_flaw l.most (map text_of l.parameters))
    parameter_span 0 l.fn.at (map text_of l.parameters))
    × (l.next + total parameter_span (map text_of (drop l.n l.parameters))
    ≡ l.fn.at + total parameter_span (map text_of l.parameters))
