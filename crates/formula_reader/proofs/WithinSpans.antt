-- A flaw stands at a token of the problem.
use Rattle.cyc_basics.specs.declared.limits.Limits.{Limits}
use Rattle.std.proofs.Common.{ℕ, ◌+◌, ◌≤◌, Bool, true, false, List, length, take, arith}
use Rattle.std.specs.Prelude.{nat_eq, nat_lt, nat_le, is_some, ◌||◌}
use Rattle.std.specs.List.{list_any}
use Rattle.std.specs.Str.{bytes_eq}
use Rattle.cyc_lex.specs.declared.fault.What.TheVariants.{Arguments, Cases, Disjuncts, Predicates, ProgramVariables}
use Rattle.cyc_lex.specs.declared.fault.What.TheVariants.{Variable, Locals}
use Rattle.cyc_lex.specs.declared.fault.IllFault.TheVariants.{Parameter, Duplicate, NoLine}
use Rattle.heap_syntax.specs.Versions.{limits}
use Rattle.heap_reader.specs.Trees.{Heading}
use Rattle.heap_reader.specs.Spans.{heap_span}
use Rattle.heap_reader.specs.Flaws.{ill_if, over_if, or_later, arity_in, heap_flaw, heaps_flaw}
use Rattle.heap_reader.specs.LineFlaws.{lines_flaw}
use Rattle.heap_reader.proofs.WithinSpans.{Before, first_before, over_before, ill_before, later, listed_before}
use Rattle.heap_reader.proofs.WithinSpans.{listed_or_before, heap_before, heaps_before}
use Rattle.heap_reader.proofs.LineWithinSpans.{lines_before}
use Rattle.heap_reader.proofs.EndWithinSpans.{ends_before}
use Rattle.heap_reader.specs.EndFlaws.{stops_at}
use Rattle.formula_reader.proofs.Fitting.{lines_place, ends_place, goal_place}
use Rattle.problem_syntax.specs.declared.numbering.tree.NumberedTerm.{NumberedTerm}
use Rattle.problem_syntax.specs.declared.numbering.tree.NumberedTerm.TheVariants.{Nil, Universal, Existential}
use Rattle.problem_syntax.specs.Numbered.{Definition, Goal, Entailment, From, Problem}
use Rattle.formula_reader.specs.declared.terms.Scope.{Scope}
use Rattle.formula_reader.specs.declared.terms.Scope.TheVariants.{Goal as InGoal, End as InEnd, Case as InCase}
use Rattle.formula_reader.specs.Spans.{name_span, term_span, variable_span, heaps_span, lines_span, parameter_span}
use Rattle.formula_reader.specs.Spans.{parameters_span, definition_span, definitions_span, goal_span, problem_span}
use Rattle.formula_reader.specs.Flaws.{headings, term_flaw, variable_flaw, parameter_flaw, parameters_flaw, head_flaw}
use Rattle.formula_reader.specs.Flaws.{cases_flaw, definition_flaw, definitions_flaw, program_ends_flaw}
use Rattle.formula_reader.specs.Flaws.{goal_flaw, problem_flaw}

-- ---- terms

two_tokens : (primed : Bool) → 2 ≤ name_span primed
two_tokens true = omega arith
two_tokens false = omega arith

some_span : (t : NumberedTerm) → 2 ≤ term_span t
some_span Nil = omega arith
some_span (Universal n primed) = two_tokens primed
some_span (Existential n primed) = two_tokens primed

term_before : (scope : Scope) (k : ℕ) (t : NumberedTerm) → Before (term_flaw scope k t) (k + term_span t)
term_before scope k Nil = tt
term_before InGoal k (Universal n primed) = let s = two_tokens primed in
    over_before (nat_lt 65534 n) Variable k (k + name_span primed) (omega arith)
term_before InGoal k (Existential n primed) = let s = two_tokens primed in
    over_before (nat_lt 65534 n) Variable k (k + name_span primed) (omega arith)
term_before InEnd k (Universal n primed) = let s = two_tokens primed in
    over_before (nat_lt 63 n) ProgramVariables k (k + name_span primed) (omega arith)
term_before InEnd k (Existential n primed) = let s = two_tokens primed in
    over_before (nat_lt 65534 n) Variable k (k + name_span primed) (omega arith)
term_before (InCase arity locals) k (Universal n primed) = let s = two_tokens primed in
    ill_before (nat_le arity n) Parameter k (k + name_span primed) (omega arith)
term_before (InCase arity locals) k (Existential n primed) = let s = two_tokens primed in
    over_before (nat_le locals n) Locals k (k + name_span primed) (omega arith)

variable_before : (k v : ℕ) → Before (variable_flaw k v) (k + 2)
variable_before k v = over_before (nat_lt 63 v) ProgramVariables k (k + 2) (omega arith)

-- ---- definitions

parameter_before : (most : Limits) (ps : List (List ℕ)) (n k : ℕ) (s : List ℕ)
    → Before (parameter_flaw most ps n k s) (k + 2)
parameter_before most ps n k s =
    first_before (ill_if (list_any (bytes_eq s) (take n ps)) Duplicate k) (over_if
    (nat_le most.arguments n) Arguments k) (k + 2)
    (ill_before (list_any (bytes_eq s) (take n ps)) Duplicate k (k + 2) (omega arith))
    (over_before (nat_le most.arguments n) Arguments k (k + 2) (omega arith))

module _ (most : Limits) (hs : List Heading) where
  head_before : (n k : ℕ) (d : Definition) → Before (head_flaw most hs n k d) (k + 3 + parameters_span d.parameters)
  head_before n k d =
      let m = k + 3 + parameters_span d.parameters in
      let known = is_some (arity_in (take n hs) d.name) in
      let ps = parameters_flaw most (k + 3) d.parameters in
      first_before (over_if (nat_le 4096 n) Predicates k) (or_later (ill_if known Duplicate (k + 1)) ps) m
      (over_before (nat_le 4096 n) Predicates k m (omega arith))
      (first_before (ill_if known Duplicate (k + 1)) ps m (ill_before known Duplicate (k + 1) m (omega arith))
      (listed_or_before (parameter_flaw most d.parameters) parameter_span 1 (parameter_before most d.parameters) (k + 3)
      d.parameters))

  definition_before : (n k : ℕ) (d : Definition) → Before (definition_flaw most hs n k d) (k + definition_span d)
  definition_before n k d =
      let m = k + definition_span d in
      let p = k + 3 + parameters_span d.parameters in
      let arity = length d.parameters in
      let cases = cases_flaw most hs arity (p + 1) d.cases in
      first_before (head_flaw most hs n k d) cases m (later (head_flaw most hs n k d) p m (omega arith)
      (head_before n k d))
      (later cases (p + 1 + heaps_span d.cases) m (omega arith)
      (heaps_before (term_flaw (InCase arity most.locals)) term_span some_span (term_before (InCase arity most.locals))
      most hs Cases
      (p + 1) d.cases))

  goal_before : (count k : ℕ) (g : Goal) → Before (goal_flaw most hs count k g) (k + goal_span g)
  goal_before count k (Entailment h ds) =
      let m = k + goal_span (Entailment h ds) in
      let p = k + 1 + heap_span term_span h in
      let left = heap_flaw (term_flaw InGoal) term_span most hs (k + 1) h in
      let right = heaps_flaw (term_flaw InGoal) term_span most hs Disjuncts p ds in
      first_before left right m (later left p m (omega arith)
      (heap_before (term_flaw InGoal) term_span some_span (term_before InGoal) most hs (k + 1) h))
      (later right (p + heaps_span ds) m (omega arith) (heaps_before (term_flaw InGoal) term_span some_span
      (term_before InGoal) most hs Disjuncts p ds))
  goal_before count k (From n h) =
      let m = k + goal_span (From n h) in
      let none = nat_eq n 0 || nat_lt count n in
      let state = heap_flaw (term_flaw InGoal) term_span most hs (k + 4) h in
      first_before (ill_if none NoLine (k + 2)) state m (ill_before none NoLine (k + 2) m (omega arith))
      (later state (k + 4 + heap_span term_span h) m (omega arith)
      (heap_before (term_flaw InGoal) term_span some_span (term_before InGoal) most hs (k + 4) h))

pub problem_before : (p : Problem) → Before (problem_flaw p) (problem_span p)
problem_before p =
    let most = limits p.version in
    let hs = headings p.definitions in
    let m = problem_span p in
    let first = definitions_flaw most hs 4 p.definitions in
    let second = lines_flaw variable_flaw variable_span most (lines_place p) p.lines in
    let third = program_ends_flaw most hs p.lines (ends_place p) p.ends in
    let last = goal_flaw most hs (length p.lines) (goal_place p) p.goal in
    first_before first (or_later second (or_later third last)) m (later first (lines_place p) m (omega arith)
    (listed_before (definition_flaw most hs) definition_span (definition_before most hs) 0 4 p.definitions))
    (first_before second (or_later third last) m (later second (ends_place p) m (omega arith)
    (lines_before variable_flaw variable_span variable_before most (lines_place p) p.lines))
    (first_before third last m (later third (goal_place p) m (omega arith)
    (ends_before (term_flaw InEnd) term_span some_span (term_before InEnd) most hs (stops_at p.lines) 0 (ends_place p)
    p.ends))
    (goal_before most hs (length p.lines) (goal_place p) p.goal)))
