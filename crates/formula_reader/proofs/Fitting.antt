-- A problem without a flaw fits the values' types.
use Rattle.cyc_basics.specs.declared.limits.Limits.{Limits}
use Rattle.cyc_basics.specs.declared.limits.TheConstants.{MOST_ARGUMENTS, MOST_LOCALS}
use Rattle.cyc_basics.specs.Limits.{AreLimits}
use Rattle.std.proofs.Common.{◌≡◌, ℕ, ◌+◌, ◌<◌, ◌≤◌, List, length, map, take, None, arith}
use Rattle.std.specs.Prelude.{nat_eq, nat_lt, nat_le, is_some, ◌||◌}
use Rattle.std.specs.List.{list_any}
use Rattle.std.specs.Str.{bytes_eq}
use Rattle.cyc_lex.specs.declared.fault.What.TheVariants.{Arguments, Cases, Disjuncts, Predicates, ProgramVariables}
use Rattle.cyc_lex.specs.declared.fault.What.TheVariants.{Variable, Locals}
use Rattle.cyc_lex.specs.declared.fault.IllFault.TheVariants.{Parameter, Duplicate, NoLine}
use Rattle.heap_syntax.specs.Versions.{limits}
use Rattle.heap_reader.specs.Trees.{Heading}
use Rattle.heap_reader.specs.Spans.{heap_span}
use Rattle.heap_reader.specs.Flaws.{ill_if, over_if, or_later, arity_in, heap_flaw, heaps_flaw}
use Rattle.heap_reader.specs.LineFlaws.{lines_flaw}
use Rattle.heap_reader.specs.Small.{IsSmall, IsSmallHeap}
use Rattle.heap_reader.proofs.NoFlaw.{neither, not_over, not_ill, at_most, below, each_of, few_all}
use Rattle.heap_reader.proofs.Fitting.{most_fits, heap_small, heaps_small}
use Rattle.heap_reader.proofs.Programs.{lines_are_program}
use Rattle.heap_formula.specs.Fresh.{univ_bound}
use Rattle.heap_formula.specs.Words.{Each}
use Rattle.heap_reader.specs.EndFlaws.{stops_at}
use Rattle.heap_reader.specs.EndValues.{end_value}
use Rattle.heap_reader.proofs.EndFitting.{HasDisjunct as EndHasDisjunct, ends_small, ends_pass, ended_program}
use Rattle.problem_syntax.specs.declared.numbering.tree.NumberedTerm.{NumberedTerm}
use Rattle.problem_syntax.specs.declared.numbering.tree.NumberedTerm.TheVariants.{Nil, Universal, Existential}
use Rattle.problem_syntax.specs.Numbered.{Heap, Definition, Goal, Entailment, From, Problem}
use Rattle.formula_reader.specs.declared.terms.Scope.{Scope}
use Rattle.formula_reader.specs.declared.terms.Scope.TheVariants.{Goal as InGoal, End as InEnd, Case as InCase}
use Rattle.formula_reader.specs.Spans.{term_span, variable_span, lines_span, ends_span, parameter_span, parameters_span}
use Rattle.formula_reader.specs.Spans.{definition_span, definitions_span}
use Rattle.formula_reader.specs.Flaws.{headings, term_flaw, variable_flaw, parameter_flaw, parameters_flaw, head_flaw}
use Rattle.formula_reader.specs.Flaws.{cases_flaw, definition_flaw, definitions_flaw, program_ends_flaw, goal_flaw}
use Rattle.formula_reader.specs.Flaws.{problem_flaw}
use Rattle.heap_reader.specs.LineValues.{line_value, variable_value}
use Rattle.formula_reader.specs.Values.{term_value}
use Rattle.formula_reader.specs.Small.{IsSmallDefinition, HasDisjunct, IsSmallGoal, IsSmallProblem}

-- a case of a predicate has few parameters and few locals
abbrev pub IsNarrow : Scope → Type 0
IsNarrow InGoal = Unit {0}
IsNarrow InEnd = Unit {0}
IsNarrow (InCase arity locals) = (arity ≤ MOST_ARGUMENTS) × (locals ≤ MOST_LOCALS)

pub term_small : (scope : Scope) → IsNarrow scope → (k : ℕ) (t : NumberedTerm) → term_flaw scope k t ≡ None
    → IsSmall term_value t
term_small scope narrow k Nil e = tt
term_small InGoal narrow k (Universal n primed) e = let h = at_most 65534 n (not_over _ Variable k e) in omega arith
term_small InGoal narrow k (Existential n primed) e = let h = at_most 65534 n (not_over _ Variable k e) in omega arith
term_small InEnd narrow k (Universal n primed) e =
    let h = at_most 63 n (not_over _ ProgramVariables k e) in omega arith
term_small InEnd narrow k (Existential n primed) e = let h = at_most 65534 n (not_over _ Variable k e) in omega arith
term_small (InCase arity locals) narrow k (Universal n primed) e =
    let most = narrow.0 in
    let h = below arity n (not_ill _ Parameter k e) in
    omega arith
term_small (InCase arity locals) narrow k (Existential n primed) e =
    let most = narrow.1 in
    let h = below locals n (not_over _ Locals k e) in
    omega arith

pub parameters_few : (most : Limits) (k : ℕ) (ps : List (List ℕ)) → parameters_flaw most k ps ≡ None
    → length ps ≤ most.arguments
parameters_few most k ps e =
    few_all (parameter_flaw most ps) parameter_span most.arguments (λ n j s h.
    below most.arguments n (not_over _ Arguments j (neither (ill_if (list_any (bytes_eq s) (take n ps)) Duplicate j)
    (over_if (nat_le most.arguments n) Arguments j) h).1)) k ps e

goal_heap_small : (most : Limits) → AreLimits most → (hs : List Heading) (k : ℕ) (h : Heap)
    → heap_flaw (term_flaw InGoal) term_span most hs k h ≡ None → IsSmallHeap term_value h
goal_heap_small most few hs k h e = heap_small (term_flaw InGoal) term_span term_value (term_small InGoal tt)
    most few hs k h e

module _ (most : Limits) (few : AreLimits most) (hs : List Heading) where
  pub definition_small : (n k : ℕ) (d : Definition) → definition_flaw most hs n k d ≡ None
      → (n < 4096) × IsSmallDefinition d
  definition_small n k d e =
      let p = k + 3 + parameters_span d.parameters + 1 in
      let arity = length d.parameters in
      let a = neither (head_flaw most hs n k d) (cases_flaw most hs arity p d.cases) e in
      let b = neither (over_if (nat_le 4096 n) Predicates k)
      (or_later (ill_if (is_some (arity_in (take n hs) d.name)) Duplicate (k + 1))
      (parameters_flaw most (k + 3) d.parameters)) a.0 in
      let c = neither (ill_if (is_some (arity_in (take n hs) d.name)) Duplicate (k + 1))
      (parameters_flaw most (k + 3) d.parameters) b.1 in
      let parameters = parameters_few most (k + 3) d.parameters c.1 in
      let arguments = few.arguments in
      let locals = few.locals in
      let most_cases = few.cases in
      let scope = InCase arity most.locals in
      let cases = heaps_small (term_flaw scope) term_span term_value (term_small scope (omega arith, omega arith))
      most few hs Cases p d.cases a.1 in
      let count = cases.1 in (
        below 4096 n (not_over _ Predicates k b.0),
        record { parameters = omega arith; cases = cases.0; few = omega arith },
      )

  goal_small : (count k : ℕ) (g : Goal) → HasDisjunct g → goal_flaw most hs count k g ≡ None → IsSmallGoal g
  goal_small count k (Entailment h ds) some e =
      let p = k + 1 + heap_span term_span h in
      let a = neither (heap_flaw (term_flaw InGoal) term_span most hs (k + 1) h)
      (heaps_flaw (term_flaw InGoal) term_span most hs Disjuncts p ds) e in
      let heaps = heaps_small (term_flaw InGoal) term_span term_value (term_small InGoal tt)
      most few hs Disjuncts p ds a.1 in
      (goal_heap_small most few hs (k + 1) h a.0, record { heaps = heaps.0; some = some; few = heaps.1 })
  goal_small count k (From n h) some e =
      let a = neither (ill_if (nat_eq n 0 || nat_lt count n) NoLine (k + 2))
      (heap_flaw (term_flaw InGoal) term_span most hs (k + 4) h) e in
      goal_heap_small most few hs (k + 4) h a.1

variable_few : (k v : ℕ) → variable_flaw k v ≡ None → v < 64
variable_few k v e = let h = at_most 63 v (not_over _ ProgramVariables k e) in omega arith

-- a term of an end without a flaw is a program variable, where it is universal
pub end_bounded : (k : ℕ) (t : NumberedTerm) → term_flaw InEnd k t ≡ None → univ_bound (term_value t) ≤ 64
end_bounded k Nil e = omega arith
end_bounded k (Universal n primed) e =
    let h = at_most 63 n (not_over (nat_lt 63 n) ProgramVariables k e) in omega arith
end_bounded k (Existential n primed) e = omega arith

-- where the lines, the ends and the goal begin
abbrev pub lines_place : Problem → ℕ
lines_place p = 4 + definitions_span p.definitions

abbrev pub ends_place : Problem → ℕ
ends_place p = lines_place p + lines_span p.lines

abbrev pub goal_place : Problem → ℕ
goal_place p = ends_place p + ends_span p.ends

-- what a problem without a flaw has no flaw in
pub problem_parts : (p : Problem) → problem_flaw p ≡ None
    → (definitions_flaw (limits p.version) (headings p.definitions) 4 p.definitions ≡ None)
    × (lines_flaw variable_flaw variable_span (limits p.version) (lines_place p) p.lines ≡ None)
    × (program_ends_flaw (limits p.version) (headings p.definitions) p.lines (ends_place p) p.ends ≡ None)
    × (goal_flaw (limits p.version) (headings p.definitions) (length p.lines) (goal_place p) p.goal ≡ None)
problem_parts p e =
    let most = limits p.version in
    let hs = headings p.definitions in
    let lines = lines_flaw variable_flaw variable_span most (lines_place p) p.lines in
    let ends = program_ends_flaw most hs p.lines (ends_place p) p.ends in
    let goal = goal_flaw most hs (length p.lines) (goal_place p) p.goal in
    let a = neither (definitions_flaw most hs 4 p.definitions) (or_later lines (or_later ends goal)) e in
    let b = neither lines (or_later ends goal) a.1 in
    let c = neither ends goal b.1 in
    (a.0, b.0, c.0, c.1)

-- a problem without a flaw is small
pub problem_small : (p : Problem) → Each EndHasDisjunct p.ends → HasDisjunct p.goal → problem_flaw p ≡ None
    → IsSmallProblem p
problem_small p some_ends some e =
    let most = limits p.version in
    let few = most_fits p.version in
    let hs = headings p.definitions in
    let parts = problem_parts p e in
    let program = lines_are_program variable_flaw variable_span variable_value variable_few most few (lines_place p)
    p.lines parts.1 in
    record {
      definitions = each_of (definition_flaw most hs) definition_span IsSmallDefinition
          (λ n k d h. (definition_small most few hs n k d h).1) 0 4 p.definitions parts.0;
      few = few_all (definition_flaw most hs) definition_span 4096 (λ n k d h. (definition_small most few hs n k d h).0)
          4 p.definitions parts.0;
      program = program;
      ended = ended_program (map (line_value variable_value) p.lines) (map (end_value term_value hs) p.ends)
          (ends_pass (term_flaw InEnd) term_span term_value end_bounded most hs (stops_at p.lines) 0 (ends_place p)
          p.ends parts.2) program;
      ends = ends_small (term_flaw InEnd) term_span term_value (term_small InEnd tt) most few hs (stops_at p.lines) 0
          (ends_place p) p.ends some_ends parts.2;
      goal = goal_small most few hs (length p.lines) (goal_place p) p.goal some parts.3;
    }
