use Rattle.std.proofs.Common.{drop}
use Rattle.heap_formula.specs.Words.{Each}
use Rattle.formula_reader.specs.Nodes.{IsNodeWithin}
use Rattle.solver.proofs.limits.nodes.are_nodes_within.Given as goal

abbrev pub invariant-loop-node : goal.invariant-loop-node
invariant-loop-node l = Each (IsNodeWithin l.defs.most l.defs.list l.lines) (drop l.node-index l.nodes)
    → Each (IsNodeWithin l.defs.most l.defs.list l.lines) l.nodes
