use Rattle.std.proofs.Common.{◌≡◌, ◌+◌, ◌++◌, drop}
use Rattle.fo_formula.specs.Traces.{child_pairs}
use Rattle.fo_rules.proofs.parts.pairing.push_children.Given as goal

abbrev pub invariant-loop-i : goal.invariant-loop-i
invariant-loop-i l = l.pairs ++ child_pairs l.k (l.first + l.i) (drop l.i l.atoms) ≡ l.initial.pairs
    ++ child_pairs l.k l.first l.atoms
