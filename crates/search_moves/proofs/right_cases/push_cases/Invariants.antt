use Rattle.std.proofs.Common.{◌≡◌, ◌++◌, drop}
use Rattle.search_moves.specs.Places.{each_from, each_place}
use Rattle.search_moves.specs.Settings.{theory_of}
use Rattle.search_moves.specs.Entailments.{right_unfold_at}
use Rattle.search_moves.proofs.right_cases.push_cases.Given as goal

abbrev pub invariant-loop-c : goal.invariant-loop-c
invariant-loop-c l = l.rules.items ++ each_from (right_unfold_at (theory_of l.at) l.at.judgement.now l.left l.k l.args)
    l.c (drop l.c l.cases) ≡ l.initial.rules.items ++ each_place
    (right_unfold_at (theory_of l.at) l.at.judgement.now l.left l.k l.args) l.cases
