use Rattle.std.proofs.Common.{◌≡◌, ◌+◌, drop, map}
use Rattle.heap_syntax.specs.DefinitionTrees.{definition_of}
use Rattle.heap_reader.specs.Spans.{total}
use Rattle.heap_reader.specs.Flaws.{listed_flaw}
use Rattle.heap_reader.specs.DefinitionSpans.{definition_span}
use Rattle.heap_reader.specs.DefinitionFlaws.{definition_flaw}
use Rattle.heap_reader.proofs.definitions.walk.walk_definitions.Given as goal

abbrev pub invariant-loop-n : goal.invariant-loop-n
invariant-loop-n l =
    (listed_flaw (definition_flaw l.most l.heads) definition_span l.n l.next (map definition_of (drop l.n l.trees))
    ≡ listed_flaw (definition_flaw l.most l.heads) definition_span 0 l.fn.at (map definition_of l.trees))
    × (l.next + total definition_span (map definition_of (drop l.n l.trees))
    ≡ l.fn.at + total definition_span (map definition_of l.trees))
