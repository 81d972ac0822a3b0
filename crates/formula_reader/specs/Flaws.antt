-- The first flaw of a problem file that the grammar has: what is ill-formed or passes a limit, and at which token.
use Rattle.std.specs.Prelude.{ℕ, ◌+◌, ◌||◌, nat_eq, nat_lt, nat_le, is_some, List, length, map, take, None}
use Rattle.std.specs.List.{list_any}
use Rattle.std.specs.Str.{bytes_eq}
use Rattle.cyc_basics.specs.declared.limits.Limits.{Limits}
use Rattle.cyc_basics.specs.declared.limits.TheConstants.{GREATEST_PROGRAM_VARIABLE, GREATEST_VARIABLE, MOST_PREDICATES}
use Rattle.cyc_lex.specs.declared.fault.IllFault.TheVariants.{Duplicate, Parameter, NoLine}
use Rattle.cyc_lex.specs.declared.fault.What.TheVariants.{Predicates, Arguments, Cases, Locals, Disjuncts}
use Rattle.cyc_lex.specs.declared.fault.What.TheVariants.{ProgramVariables, Variable}
use Rattle.heap_syntax.specs.Versions.{limits}
use Rattle.heap_reader.specs.Trees.{Heading}
use Rattle.heap_reader.specs.Spans.{heap_span}
use Rattle.heap_reader.specs.Flaws.{Found, ill_if, over_if, or_later, listed_flaw, arity_in, heap_flaw, heaps_flaw}
use Rattle.heap_reader.specs.LineFlaws.{lines_flaw}
use Rattle.heap_reader.specs.EndFlaws.{stops_at, ends_flaw}
use Rattle.problem_syntax.specs.declared.numbering.tree.NumberedTerm.{NumberedTerm}
use Rattle.problem_syntax.specs.declared.numbering.tree.NumberedTerm.TheVariants.{Nil, Universal, Existential}
use Rattle.problem_syntax.specs.Numbered.{Heap, Line, End, Definition, Goal, Entailment, From, Problem}
use Rattle.formula_reader.specs.declared.terms.Scope.{Scope}
use Rattle.formula_reader.specs.declared.terms.Scope.TheVariants.{Goal as InGoal, End as InEnd, Case as InCase}
use Rattle.formula_reader.specs.Spans.{term_span, variable_span, lines_span, ends_span, parameter_span, parameters_span}
use Rattle.formula_reader.specs.Spans.{definition_span, definitions_span}

-- what a use of the predicate is compared with
abbrev pub heading : Definition → Heading
heading d = record { name = d.name; arity = length d.parameters }

abbrev pub headings : List Definition → List Heading
headings ds = map heading ds

-- ---- terms; each part begins at token k, and n members stand before it

-- a case has at most so many locals, and a name of an end is a program variable, of which there are at most 64; that a
-- parameter is below the arity, and that another number has sixteen bits, holds in each text whose other parts are
-- within their limits
abbrev pub term_flaw : Scope → ℕ → NumberedTerm → Found
term_flaw scope k Nil = None
term_flaw InGoal k (Universal n primed) = over_if (nat_lt GREATEST_VARIABLE n) Variable k
term_flaw InGoal k (Existential n primed) = over_if (nat_lt GREATEST_VARIABLE n) Variable k
term_flaw InEnd k (Universal n primed) = over_if (nat_lt GREATEST_PROGRAM_VARIABLE n) ProgramVariables k
term_flaw InEnd k (Existential n primed) = over_if (nat_lt GREATEST_VARIABLE n) Variable k
term_flaw (InCase arity locals) k (Universal n primed) = ill_if (nat_le arity n) Parameter k
term_flaw (InCase arity locals) k (Existential n primed) = over_if (nat_le locals n) Locals k

-- a program has at most 64 variables
abbrev pub variable_flaw : ℕ → ℕ → Found
variable_flaw k v = over_if (nat_lt GREATEST_PROGRAM_VARIABLE v) ProgramVariables k

-- ---- definitions

-- no more parameters than there may be, no two with one name
abbrev pub parameter_flaw : Limits → List (List ℕ) → ℕ → ℕ → List ℕ → Found
parameter_flaw most ps n k s = or_later (ill_if (list_any (bytes_eq s) (take n ps)) Duplicate k)
    (over_if (nat_le most.arguments n) Arguments k)

abbrev pub parameters_flaw : Limits → ℕ → List (List ℕ) → Found
parameters_flaw most k ps = listed_flaw (parameter_flaw most ps) parameter_span 0 k ps

-- the name, which no definition before has, and the parameters
abbrev pub head_flaw : Limits → List Heading → ℕ → ℕ → Definition → Found
head_flaw most hs n k d =
    or_later (over_if (nat_le MOST_PREDICATES n) Predicates k)
    (or_later (ill_if (is_some (arity_in (take n hs) d.name)) Duplicate (k + 1))
    (parameters_flaw most (k + 3) d.parameters))

abbrev pub cases_flaw : Limits → List Heading → ℕ → ℕ → List Heap → Found
cases_flaw most hs arity k cases = heaps_flaw (term_flaw (InCase arity most.locals)) term_span most hs Cases k cases

-- at most 4,096, no two with one name
abbrev pub definition_flaw : Limits → List Heading → ℕ → ℕ → Definition → Found
definition_flaw most hs n k d =
    or_later (head_flaw most hs n k d) (cases_flaw most hs (length d.parameters)
    (k + 3 + parameters_span d.parameters + 1)
    d.cases)

abbrev pub definitions_flaw : Limits → List Heading → ℕ → List Definition → Found
definitions_flaw most hs k ds = listed_flaw (definition_flaw most hs) definition_span 0 k ds

-- ---- ends

-- those of a program with these lines
abbrev pub program_ends_flaw : Limits → List Heading → List Line → ℕ → List End → Found
program_ends_flaw most hs ls k es = ends_flaw (term_flaw InEnd) term_span most hs (stops_at ls) 0 k es

-- ---- goals

-- the goal of a program with so many lines
abbrev pub goal_flaw : Limits → List Heading → ℕ → ℕ → Goal → Found
goal_flaw most hs count k (Entailment h ds) =
    or_later (heap_flaw (term_flaw InGoal) term_span most hs (k + 1) h)
    (heaps_flaw (term_flaw InGoal) term_span most hs Disjuncts (k + 1 + heap_span term_span h) ds)
goal_flaw most hs count k (From n h) =
    or_later (ill_if (nat_eq n 0 || nat_lt count n) NoLine (k + 2))
    (heap_flaw (term_flaw InGoal) term_span most hs (k + 4) h)

-- ---- problems: four tokens stand before the definitions

abbrev pub problem_flaw : Problem → Found
problem_flaw p =
    let most = limits p.version in
    let lines_at = 4 + definitions_span p.definitions in
    let ends_at = lines_at + lines_span p.lines in
    or_later (definitions_flaw most (headings p.definitions) 4 p.definitions)
    (or_later (lines_flaw variable_flaw variable_span most lines_at p.lines)
    (or_later (program_ends_flaw most (headings p.definitions) p.lines ends_at p.ends)
    (goal_flaw most (headings p.definitions) (length p.lines) (ends_at + ends_span p.ends) p.goal)))
