-- How many tokens the parts of a problem file have, the one token after a part counted in.
use Rattle.std.specs.Prelude.{ℕ, ◌+◌, Bool, true, false, List}
use Rattle.heap_reader.specs.Spans.{total, total_or, heap_span}
use Rattle.heap_reader.specs.LineSpans.{line_span}
use Rattle.heap_reader.specs.EndSpans.{end_span}
use Rattle.problem_syntax.specs.declared.numbering.tree.NumberedTerm.{NumberedTerm}
use Rattle.problem_syntax.specs.declared.numbering.tree.NumberedTerm.TheVariants.{Nil, Universal, Existential}
use Rattle.problem_syntax.specs.Numbered.{Heap, Line, End, Definition, Goal, Entailment, From, Problem}

-- a primed name has two tokens
abbrev pub name_span : Bool → ℕ
name_span true = 3
name_span false = 2

abbrev pub term_span : NumberedTerm → ℕ
term_span Nil = 2
term_span (Universal n primed) = name_span primed
term_span (Existential n primed) = name_span primed

abbrev pub variable_span : ℕ → ℕ
variable_span v = 2

abbrev pub heaps_span : List Heap → ℕ
heaps_span hs = total (heap_span term_span) hs

abbrev pub lines_span : List Line → ℕ
lines_span ls = total (line_span variable_span) ls

abbrev pub ends_span : List End → ℕ
ends_span es = total (end_span term_span) es

-- a comma or ")" stands after a parameter
abbrev pub parameter_span : List ℕ → ℕ
parameter_span s = 2

abbrev pub parameters_span : List (List ℕ) → ℕ
parameters_span ps = total_or 1 parameter_span ps

-- "pred", the name, "(", the parameters, "{", the cases, and ";"; nothing after it
abbrev pub definition_span : Definition → ℕ
definition_span d = 3 + parameters_span d.parameters + 1 + heaps_span d.cases + 1

abbrev pub definitions_span : List Definition → ℕ
definitions_span ds = total definition_span ds

-- "goal", "from", the number and "given" before a state, and ";" after it; "goal" before an antecedent, the turnstile
-- after it, and ";" after the last disjunct; nothing after
abbrev pub goal_span : Goal → ℕ
goal_span (Entailment h ds) = 1 + heap_span term_span h + heaps_span ds
goal_span (From n h) = 4 + heap_span term_span h

-- four tokens before the definitions
abbrev pub problem_span : Problem → ℕ
problem_span p = 4 + definitions_span p.definitions + lines_span p.lines + ends_span p.ends + goal_span p.goal
