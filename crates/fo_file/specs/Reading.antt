-- What reading texts of first-order logic answers, and which proofs have a text.
use Rattle.std.specs.Prelude.{◌≡◌, ℕ, List, Result, None}
use Rattle.cyc_lex.specs.declared.fault.ReadFault.{ReadFault}
use Rattle.cyc_lex.specs.Placed.{Placed}
use Rattle.cyc_lex.specs.Spacing.{text_of}
use Rattle.heap_reader.specs.Reading as reading
use Rattle.fo_formula.specs.declared.nodes.FoFile.{FoFile}
use Rattle.fo_syntax.specs.ProblemTrees.{Problem}
use Rattle.fo_syntax.specs.ProblemGrammar.{problem}
use Rattle.fo_syntax.specs.ProofTrees.{File}
use Rattle.fo_syntax.specs.ProofGrammar.{body, file}
use Rattle.fo_file.specs.Flaws.{constructor_heads, predicate_heads, file_flaw, problem_flaw}
use Rattle.fo_file.specs.declared.values.problem.FoProblem.{FoProblem}
use Rattle.fo_file.specs.Values.{file_value, problem_value}
use Rattle.fo_file.specs.Written.{file_tree, problem_tree}
use Rattle.fo_file.specs.OfTerms.{IsFileOfTerms, IsProblemOfTerms}

-- ---- proofs

-- the proof that a tree says
abbrev pub said_file : File → FoFile
said_file t = file_value (constructor_heads t.constructors) (predicate_heads t.definitions) t

abbrev pub IsFileOf : File → FoFile → Type 0
IsFileOf t f = f ≡ said_file t

abbrev pub fo_files : reading.Format File FoFile
fo_files = record { syntax = file; flaw = file_flaw; Says = IsFileOf }

-- the bytes spell this proof, or this is the first fault of the text: of its tokens, of its grammar, or of what it says
abbrev pub IsRead : List ℕ → Result FoFile ReadFault → Type 0
IsRead = reading.IsRead fo_files

-- the same, out of memory being free
abbrev pub Reads : List ℕ → Result FoFile ReadFault → Type 0
Reads = reading.Reads fo_files

abbrev pub ReadsFrom : List Placed → Result FoFile ReadFault → Type 0
ReadsFrom = reading.ReadsFrom fo_files

-- the proof is read, unless memory runs out
abbrev pub IsReadAgain : FoFile → Result FoFile ReadFault → Type 0
IsReadAgain = reading.IsReadAgain (λ f g. f ≡ g)

-- its text
abbrev pub text_of_file : FoFile → List ℕ
text_of_file f = text_of (body.words (file_tree f))

-- a proof that has a text: its predicates have terms as arguments, and its tree fits the grammar and has no flaw
pub record IsWritable (f : FoFile) : Type 0 where
  pub terms : IsFileOfTerms f
  pub fits : file.fits (file_tree f)
  pub flawless : file_flaw (file_tree f) ≡ None

-- ---- problems

-- the problem that a tree says
abbrev pub said_problem : Problem → FoProblem
said_problem t = problem_value (constructor_heads t.constructors) (predicate_heads t.definitions) t

abbrev pub IsProblemOf : Problem → FoProblem → Type 0
IsProblemOf t p = p ≡ said_problem t

abbrev pub fo_problems : reading.Format Problem FoProblem
fo_problems = record { syntax = problem; flaw = problem_flaw; Says = IsProblemOf }

abbrev pub IsReadProblem : List ℕ → Result FoProblem ReadFault → Type 0
IsReadProblem = reading.IsRead fo_problems

abbrev pub ReadsProblem : List ℕ → Result FoProblem ReadFault → Type 0
ReadsProblem = reading.Reads fo_problems

abbrev pub ReadsProblemFrom : List Placed → Result FoProblem ReadFault → Type 0
ReadsProblemFrom = reading.ReadsFrom fo_problems

-- a problem that has a text
pub record IsWritableProblem (p : FoProblem) : Type 0 where
  pub terms : IsProblemOfTerms p
  pub fits : problem.fits (problem_tree p)
  pub flawless : problem_flaw (problem_tree p) ≡ None
