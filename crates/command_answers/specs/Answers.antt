-- What is answered to the question whether a problem's antecedent can be satisfied.
use Rattle.std.specs.Prelude.{◌≡◌, ◌≤◌, ◌⊎◌, ℕ, List, length, Result, Ok, Err}
use Rattle.heap_formula.specs.Judgements.{antecedent}
use Rattle.heap_formula.specs.Definitions.{Definition}
use Rattle.pair_family.specs.Family.{InFamily}
use Rattle.pair_family.specs.LargeCases.{HasLargeCase, IsLarge}
use Rattle.pair_family.specs.Statements.{IsSatisfiable}
use Rattle.pair_family.specs.Tables.{HasAtMost, HasMoreThan}
use Rattle.formula_reader.specs.declared.problem.Problem.{Problem}
use Rattle.formula_reader.specs.Reading as problems
use Rattle.cyc_lex.specs.declared.fault.ReadFault.{ReadFault}
use Rattle.cyc_runs.specs.Texts.{pairs_limit_text, satisfiable_text, states_limit_text, unsatisfiable_text}
use Rattle.cyc_runs.specs.declared.endings.Status.{Status}
use Rattle.cyc_runs.specs.declared.endings.Status.TheVariants.{Success, Refused, Limit}
use Rattle.cyc_runs.specs.Faults.{IsFaultAnswer}
use Rattle.cyc_runs.specs.Runs.{Answering, input_limit}

-- the number of base pairs of all predicates above which none are made
abbrev pub pair_limit : ℕ
pair_limit = 100000

-- what the states after some atoms of a case, or of the antecedent, may be in size
abbrev pub size_limit : ℕ
size_limit = 2000000

-- the family of base pairs has more members than that, or some case has more states
abbrev pub AreTooMany : List Definition → Type 0
AreTooMany ds = HasMoreThan ds pair_limit ⊎ HasLargeCase ds size_limit (InFamily ds)

abbrev pub AreFew : List Definition → Type 0
AreFew ds = HasAtMost ds pair_limit × (¬ HasLargeCase ds size_limit (InFamily ds))

-- the antecedent has more states
abbrev pub IsLargeProblem : Problem → Type 0
IsLargeProblem problem = IsLarge size_limit (InFamily problem.defs.list) 0 (antecedent problem.goal)

-- some stack and heap satisfy the antecedent of the goal, or the precondition of its program
abbrev pub IsPossible : Problem → Type 0
IsPossible problem = IsSatisfiable problem.defs.list (antecedent problem.goal)

-- that they do, or that none do, is said
abbrev pub IsSaid : Problem → Status → List ℕ → Type 0
IsSaid problem ending text =
    (IsPossible problem × (ending ≡ Success) × (text ≡ satisfiable_text))
    ⊎ ((¬ IsPossible problem) × (ending ≡ Refused) × (text ≡ unsatisfiable_text))

-- the antecedent has too many states, or else the question is answered
abbrev pub IsStatesAnswer : Problem → Status → List ℕ → Type 0
IsStatesAnswer problem ending text =
    (IsLargeProblem problem × (ending ≡ Limit) × (text ≡ states_limit_text))
    ⊎ ((¬ IsLargeProblem problem) × IsSaid problem ending text)

-- the base pairs of the definitions are too many, or else the antecedent is looked at
abbrev pub IsPairsAnswer : Problem → Status → List ℕ → Type 0
IsPairsAnswer problem ending text =
    (AreTooMany problem.defs.list × (ending ≡ Limit) × (text ≡ pairs_limit_text))
    ⊎ (AreFew problem.defs.list × IsStatesAnswer problem ending text)

-- a reader that answered so is answered so
abbrev pub IsReadAnswer : Result Problem ReadFault → Status → List ℕ → Type 0
IsReadAnswer (Ok problem) ending text = IsPairsAnswer problem ending text
IsReadAnswer (Err fault) ending text = IsFaultAnswer fault ending text

-- the input is read as a problem, and answered so
abbrev pub IsAsked : Answering
IsAsked input ending text =
    (length input ≤ input_limit) × (read : Result Problem ReadFault) × problems.IsRead input read
    × IsReadAnswer read ending text
