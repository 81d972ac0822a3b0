-- What is known of a problem's antecedent.
use Rattle.std.specs.Prelude.{◌≡◌, ℕ, List, Ok}
use Rattle.formula_reader.specs.declared.problem.Problem.{Problem}
use Rattle.formula_reader.specs.Reading as problems
use Rattle.command_answers.specs.Answers.{IsPossible}
use Rattle.script_formulas.specs.declared.goals.question.Question.{Question}
use Rattle.script_formulas.specs.declared.goals.question.Question.TheVariants.{Entailment, Satisfiability}
use Rattle.solve_top.specs.declared.possibilities.Possibility.{Possibility}
use Rattle.solve_top.specs.declared.possibilities.Possibility.TheVariants.{Possible, Impossible, Unknown}

-- the text spells a problem whose antecedent something satisfies, or nothing, or nothing is known
abbrev pub IsKnown : List ℕ → Possibility → Type 0
IsKnown text Possible = (problem : Problem) × problems.IsRead text (Ok problem) × IsPossible problem
IsKnown text Impossible = (problem : Problem) × problems.IsRead text (Ok problem) × (¬ IsPossible problem)
IsKnown text Unknown = Unit {0}

-- the same of a problem
abbrev pub IsKnownOf : Problem → Possibility → Type 0
IsKnownOf problem Possible = IsPossible problem
IsKnownOf problem Impossible = ¬ IsPossible problem
IsKnownOf problem Unknown = Unit {0}

-- of an entailment nothing is to be known
abbrev pub IsKnownFor : Question → List ℕ → Possibility → Type 0
IsKnownFor Entailment text known = known ≡ Unknown
IsKnownFor Satisfiability text known = IsKnown text known
