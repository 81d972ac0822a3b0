use Rattle.std.proofs.Common.{◌≡◌, ◌++◌, drop}
use Rattle.search_moves.specs.Places.{each_from}
use Rattle.search_moves.specs.Settings.{theory_of}
use Rattle.search_moves.specs.Entailments.{right_unfolds_of, right_unfolds}
use Rattle.search_moves.proofs.right_cases.push_right_unfolds.Given as goal

abbrev pub invariant-loop-k : goal.invariant-loop-k
invariant-loop-k l = l.rules.items ++ each_from (right_unfolds_of (theory_of l.at) l.at.judgement.now l.left) l.k
    (drop l.k l.right) ≡ l.initial.rules.items ++ right_unfolds (theory_of l.at) l.at.judgement.now l.left l.right
