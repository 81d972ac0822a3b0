-- Each of the other formats is read in one way.
use Rattle.std.proofs.Common.{◌≡◌, ◌∙◌, ℕ, List, Result, sym}
use Rattle.cyc_lex.specs.declared.fault.ReadFault.{ReadFault}
use Rattle.problem_syntax.proofs.ProblemLaws.{problem-law}
use Rattle.model_file.proofs.ModelLaws.{model-law}
use Rattle.fo_syntax.specs.ProblemTrees.{Problem as QuestionTree}
use Rattle.fo_syntax.proofs.TheoryLaws as question_laws
use Rattle.fo_syntax.specs.ProofTrees.{File}
use Rattle.fo_syntax.proofs.ProofLaws as first_order_laws
use Rattle.formula_reader.specs.declared.problem.Problem.{Problem}
use Rattle.formula_reader.specs.Reading as problems
use Rattle.formula_reader.proofs.Readings.{one_problem}
use Rattle.model_file.specs.declared.file.Model.{Model}
use Rattle.model_file.specs.Reading as models
use Rattle.model_file.proofs.Readings.{one_model}
use Rattle.fo_formula.specs.declared.nodes.FoFile.{FoFile}
use Rattle.fo_file.specs.declared.values.problem.FoProblem.{FoProblem}
use Rattle.fo_file.specs.Reading as first_order
use Rattle.check_answers.specs.Alike.{AreAlike}
use Rattle.check_answers.proofs.OneReading.{one_reading}

pub one_problem_reading : (bytes : List ℕ) (r s : Result Problem ReadFault) → problems.IsRead bytes r
    → problems.IsRead bytes s → AreAlike problems.AreSame r s
one_problem_reading = one_reading problems.problems problem-law problems.AreSame one_problem

pub one_model_reading : (bytes : List ℕ) (r s : Result Model ReadFault) → models.IsRead bytes r → models.IsRead bytes s
    → AreAlike models.AreSame r s
one_model_reading = one_reading models.model_files model-law models.AreSame one_model

-- a tree says one first-order proof
one_proof : (t : File) (f g : FoFile) → first_order.IsFileOf t f → first_order.IsFileOf t g → f ≡ g
one_proof t f g first second = first ∙ sym second

pub one_proof_reading : (bytes : List ℕ) (r s : Result FoFile ReadFault) → first_order.IsRead bytes r
    → first_order.IsRead bytes s → AreAlike (λ f g. f ≡ g) r s
one_proof_reading = one_reading first_order.fo_files first_order_laws.file-law (λ f g. f ≡ g) one_proof

-- and one first-order problem
one_question : (t : QuestionTree) (p q : FoProblem) → first_order.IsProblemOf t p → first_order.IsProblemOf t q → p ≡ q
one_question t p q first second = first ∙ sym second

pub one_question_reading : (bytes : List ℕ) (r s : Result FoProblem ReadFault) → first_order.IsReadProblem bytes r
    → first_order.IsReadProblem bytes s → AreAlike (λ p q. p ≡ q) r s
one_question_reading = one_reading first_order.fo_problems question_laws.problem-law (λ p q. p ≡ q) one_question
