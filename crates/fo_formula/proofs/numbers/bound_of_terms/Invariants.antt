use Rattle.std.proofs.Common.{◌≡◌, ◌≤◌, map, drop}
use Rattle.std.specs.Prelude.{max}
use Rattle.heap_formula.specs.Words.{max_of}
use Rattle.fo_formula.specs.Bounds.{word_bound}
use Rattle.fo_formula.proofs.numbers.bound_of_terms.Given as goal

abbrev pub invariant-loop-term : goal.invariant-loop-term
invariant-loop-term l = (l.most ≤ 65536) × (max l.most (max_of (map (word_bound l.kind) (drop l.term-index l.terms)))
    ≡ max_of (map (word_bound l.kind) l.terms))
