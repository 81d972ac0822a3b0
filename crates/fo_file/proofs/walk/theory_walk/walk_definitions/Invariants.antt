use Rattle.std.proofs.Common.{◌≡◌, ◌+◌, drop, map}
use Rattle.heap_formula.specs.Words.{Each}
use Rattle.heap_reader.specs.Spans.{total}
use Rattle.heap_reader.specs.Flaws.{listed_flaw}
use Rattle.fo_syntax.specs.ProblemTrees.{definition_of}
use Rattle.fo_file.specs.Parts.{IsDefinition}
use Rattle.fo_file.specs.Spans.{definition_span}
use Rattle.fo_file.specs.Flaws.{definition_flaw}
use Rattle.fo_file.proofs.walk.theory_walk.walk_definitions.Given as goal

abbrev pub invariant-loop-n : goal.invariant-loop-n
invariant-loop-n l =
    (listed_flaw (definition_flaw l.names.constructors l.names.predicates) definition_span l.n l.next
    (map definition_of (drop l.n l.trees)) ≡ listed_flaw (definition_flaw l.names.constructors l.names.predicates)
    definition_span 0 l.fn.at (map definition_of l.trees))
    × ((l.next + total definition_span (map definition_of (drop l.n l.trees))
    ≡ l.fn.at + total definition_span (map definition_of l.trees))
    × Each IsDefinition (map definition_of (drop l.n l.trees)))
