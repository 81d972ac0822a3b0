-- Parts of numbered problems that fit the values' types: numbers of sixteen bits, lists within the limits.
use Rattle.std.specs.Prelude.{◌≡◌, ◌<◌, ◌≤◌, List, length, map, None}
use Rattle.cyc_basics.specs.declared.limits.TheConstants.{MOST_ARGUMENTS, MOST_CASES, MOST_DISJUNCTS, MOST_PREDICATES}
use Rattle.heap_formula.specs.Words.{Each}
use Rattle.goto_lang.specs.Faults.{program_fault}
use Rattle.heap_reader.specs.Small.{IsSmallHeap}
use Rattle.heap_reader.specs.LineValues.{line_value, variable_value}
use Rattle.heap_reader.specs.EndSmall.{IsSmallEnd}
use Rattle.heap_reader.specs.EndValues.{end_value, lines_with_ends}
use Rattle.problem_syntax.specs.Numbered.{Heap, Definition, Goal, Entailment, From, Problem}
use Rattle.formula_reader.specs.Flaws.{headings}
use Rattle.formula_reader.specs.Values.{term_value}

pub record IsSmallDefinition (d : Definition) : Type 0 where
  pub parameters : length d.parameters ≤ MOST_ARGUMENTS
  pub cases : Each (IsSmallHeap term_value) d.cases
  pub few : length d.cases ≤ MOST_CASES

pub record AreSmallDisjuncts (ds : List Heap) : Type 0 where
  pub heaps : Each (IsSmallHeap term_value) ds
  pub some : 0 < length ds
  pub few : length ds ≤ MOST_DISJUNCTS

-- an entailment has a disjunct
abbrev pub HasDisjunct : Goal → Type 0
HasDisjunct (Entailment h ds) = 0 < length ds
HasDisjunct (From n h) = Unit {0}

abbrev pub IsSmallGoal : Goal → Type 0
IsSmallGoal (Entailment h ds) = IsSmallHeap term_value h × AreSmallDisjuncts ds
IsSmallGoal (From n h) = IsSmallHeap term_value h

pub record IsSmallProblem (p : Problem) : Type 0 where
  pub definitions : Each IsSmallDefinition p.definitions
  pub few : length p.definitions ≤ MOST_PREDICATES
  pub program : program_fault (map (line_value variable_value) p.lines) ≡ None
  pub ended : program_fault (lines_with_ends 0 (map (line_value variable_value) p.lines)
      (map (end_value term_value (headings p.definitions)) p.ends)) ≡ None
  pub ends : Each (IsSmallEnd term_value) p.ends
  pub goal : IsSmallGoal p.goal
