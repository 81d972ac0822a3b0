use Rattle.std.proofs.Common.{sym, subst}
use Rattle.search_moves.specs.Settings.{theory}
use Rattle.proof_search.specs.Outcomes.{theory_for}
use Rattle.proof_search.specs.Problems.{IsWithinLimits}
use Rattle.proof_search.proofs.Fair.{separation_logic_fair}
use Rattle.proof_search.proofs.Proofs.{within}
use Rattle.proof_search.proofs.prover.begin.Goals as goal

pub new-requires-clause-fair : goal.new-requires-clause-fair
new-requires-clause-fair c = separation_logic_fair (theory c.args.problem.now.defs c.args.problem.now.program)

pub new-requires-clause-occurs : goal.new-requires-clause-occurs
new-requires-clause-occurs c =
    let p = c.args.problem.now in
    subst (λ j. IsWithinLimits (theory_for p) j) (sym c.in_ok-root.ensures.cases)
    (within p c.problem_is_within.ensures.definitions c.problem_is_within.ensures.program
    c.problem_is_within.ensures.ends c.problem_is_within.ensures.goal)
