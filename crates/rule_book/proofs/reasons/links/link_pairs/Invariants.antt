use Rattle.std.proofs.Common.{◌≡◌, ◌<◌, ◌++◌, drop}
use Rattle.heap_formula.specs.Words.{Each}
use Rattle.heap_formula.specs.Positions.{pairs_from}
use Rattle.heap_formula.specs.declared.judgements.Pair.{Pair}
use Rattle.rule_book.specs.Answers.{entry_of}
use Rattle.rule_book.proofs.reasons.links.link_pairs.Given as goal

abbrev pub invariant-loop-k : goal.invariant-loop-k
invariant-loop-k l =
    (l.pairs ++ pairs_from (entry_of l.entries) l.k (drop l.k l.atoms) ≡ pairs_from (entry_of l.entries) 0 l.atoms)
    × Each (λ (p : Pair). p.old < 256) (pairs_from (entry_of l.entries) l.k (drop l.k l.atoms))
