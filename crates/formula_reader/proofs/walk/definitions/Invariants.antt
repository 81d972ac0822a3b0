use Rattle.std.proofs.Common.{◌≡◌, ◌+◌, drop, map}
use Rattle.heap_reader.specs.Spans.{total}
use Rattle.heap_reader.specs.Flaws.{listed_flaw}
use Rattle.problem_syntax.specs.Numbered.{definition_of}
use Rattle.formula_reader.specs.Spans.{definition_span}
use Rattle.formula_reader.specs.Flaws.{definition_flaw}
use Rattle.formula_reader.proofs.walk.definitions.Given as goal

abbrev pub invariant-loop-n : goal.invariant-loop-n
invariant-loop-n l =
    (listed_flaw (definition_flaw l.most l.heads) definition_span l.n l.next (map definition_of (drop l.n l.trees))
    ≡ listed_flaw (definition_flaw l.most l.heads) definition_span 0 l.fn.at (map definition_of l.trees))
    × (l.next + total definition_span (map definition_of (drop l.n l.trees))
    ≡ l.fn.at + total definition_span (map definition_of l.trees))
