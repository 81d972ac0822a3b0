-- Problems as their reader gives them.
use Rattle.fo_logic.specs.Limits.{IsTheoryWithin, IsSequentWithin}
use Rattle.fo_file.specs.declared.values.problem.FoProblem.{FoProblem}

-- the definitions and the goal are within the limits
pub record IsFoQuestion (p : FoProblem) : Type 0 where
  pub theory : IsTheoryWithin p.theory
  pub goal : IsSequentWithin p.theory p.goal
