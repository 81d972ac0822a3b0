-- What reading a problem file answers.
use Rattle.std.specs.Prelude.{◌≡◌, ℕ, List, map, Result}
use Rattle.cyc_lex.specs.declared.fault.ReadFault.{ReadFault}
use Rattle.cyc_lex.specs.Placed.{Placed}
use Rattle.problem_syntax.specs.Grammar.{problem}
use Rattle.problem_syntax.specs.Trees as named
use Rattle.heap_syntax.specs.Versions.{limits}
use Rattle.heap_reader.specs.Reading as reading
use Rattle.problem_syntax.specs.Numbered as numbers
use Rattle.problem_syntax.specs.Numbering.{numbered}
use Rattle.formula_reader.specs.declared.problem.Problem.{Problem}
use Rattle.formula_reader.specs.Flaws.{headings, problem_flaw}
use Rattle.heap_reader.specs.EndValues.{ended_value}
use Rattle.formula_reader.specs.Values.{term_value, definition_value, goal_value}

-- the problem that a numbered tree says
pub record IsProblemOf (tree : numbers.Problem) (p : Problem) : Type 0 where
  pub version : p.version ≡ tree.version
  pub most : p.defs.most ≡ limits tree.version
  pub definitions : p.defs.list ≡ map (definition_value (headings tree.definitions)) tree.definitions
  pub program : p.program ≡ ended_value term_value (headings tree.definitions) tree.lines tree.ends
  pub goal : p.goal ≡ goal_value (headings tree.definitions) tree.goal

-- a tree, which has names, says what it says with numbers by first occurrence in their place
abbrev pub problems : reading.Format named.Problem Problem
problems = record {
  syntax = problem;
  flaw = λ tree. problem_flaw (numbered tree);
  Says = λ tree. IsProblemOf (numbered tree);
}

-- the bytes spell this problem, or this is the first fault of the text: of its tokens, of its grammar, or of what it
-- says
abbrev pub IsRead : List ℕ → Result Problem ReadFault → Type 0
IsRead = reading.IsRead problems

-- the same, out of memory being free
abbrev pub Reads : List ℕ → Result Problem ReadFault → Type 0
Reads = reading.Reads problems

abbrev pub ReadsFrom : List Placed → Result Problem ReadFault → Type 0
ReadsFrom = reading.ReadsFrom problems

-- the tokens spell this tree
abbrev pub SpellsTree : List Placed → named.Problem → Type 0
SpellsTree = reading.SpellsTree problems

-- two problems have one version, the same definitions, program and goal
pub record AreSame (p q : Problem) : Type 0 where
  pub version : p.version ≡ q.version
  pub most : p.defs.most ≡ q.defs.most
  pub definitions : p.defs.list ≡ q.defs.list
  pub program : p.program ≡ q.program
  pub goal : p.goal ≡ q.goal

-- the problem is read, unless memory runs out
abbrev pub IsReadAgain : Problem → Result Problem ReadFault → Type 0
IsReadAgain = reading.IsReadAgain AreSame
