use Rattle.std.proofs.Common.{◌≡◌, ◌+◌, length, drop, map}
use Rattle.heap_formula.specs.Words.{Each}
use Rattle.heap_reader.specs.Spans.{total}
use Rattle.fo_syntax.specs.Grammar.{IsTerm}
use Rattle.fo_syntax.specs.ProofTrees.{signs_of}
use Rattle.fo_file.specs.Spans.{term_span}
use Rattle.fo_file.specs.Flaws.{terms_flaw}
use Rattle.fo_file.proofs.walk.reason_walk.walk_some_terms.Given as goal

abbrev pub invariant-loop-tree : goal.invariant-loop-tree
invariant-loop-tree l =
    (terms_flaw l.constructors l.reached.terms l.reached.token (map signs_of (drop l.tree-index l.trees))
    ≡ terms_flaw l.constructors l.fn.from.terms l.fn.from.token (map signs_of l.trees))
    × ((l.reached.token + total term_span (map signs_of (drop l.tree-index l.trees))
    ≡ l.fn.from.token + total term_span (map signs_of l.trees))
    × ((l.reached.terms + total length (map signs_of (drop l.tree-index l.trees))
    ≡ l.fn.from.terms + total length (map signs_of l.trees))
    × Each IsTerm (map signs_of (drop l.tree-index l.trees))))
