-- A tree says one problem.
use Rattle.std.proofs.Common.{sym, ◌∙◌}
use Rattle.problem_syntax.specs.Trees as named
use Rattle.problem_syntax.specs.Numbering.{numbered}
use Rattle.formula_reader.specs.declared.problem.Problem.{Problem}
use Rattle.formula_reader.specs.Reading.{AreSame, IsProblemOf}

pub one_problem : (t : named.Problem) (p q : Problem) → IsProblemOf (numbered t) p → IsProblemOf (numbered t) q
    → AreSame p q
one_problem t p q first second = record {
  version = first.version ∙ sym second.version;
  most = first.most ∙ sym second.most;
  definitions = first.definitions ∙ sym second.definitions;
  program = first.program ∙ sym second.program;
  goal = first.goal ∙ sym second.goal;
}
