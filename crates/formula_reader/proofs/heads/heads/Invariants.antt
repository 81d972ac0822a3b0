use Rattle.std.proofs.Common.{◌≡◌, ◌<◌, ◌^◌, map, take, drop}
use Rattle.heap_reader.specs.Trees.{heading_of}
use Rattle.problem_syntax.specs.Numbered.{definition_of}
use Rattle.formula_reader.specs.Spans.{definitions_span}
use Rattle.formula_reader.specs.Flaws.{headings}
use Rattle.formula_reader.proofs.heads.heads.Given as goal

abbrev pub invariant-loop-tree : goal.invariant-loop-tree
invariant-loop-tree l =
    (map heading_of l.heads.items ≡ headings (map definition_of (take l.tree-index l.trees)))
    × (definitions_span (map definition_of (drop l.tree-index l.trees)) < 2 ^ 32)
