-- The first limit of the formats that values pass, in the order of a text.
use Rattle.std.specs.Prelude.{ℕ, ◌+◌, Bool, true, false, not, ◌&&◌, ◌||◌, nat_eq, nat_lt, nat_le, if◌then◌else◌, List}
use Rattle.std.specs.Prelude.{[], ◌∷◌}
use Rattle.std.specs.Prelude.{length, take, Option, Some, None, is_none}
use Rattle.std.specs.List.{list_all}
use Rattle.std.specs.Option.{option_map, option_or}
use Rattle.cyc_basics.specs.declared.limits.Limits.{Limits}
use Rattle.cyc_basics.specs.declared.limits.TheConstants.{MOST_ARGUMENTS}
use Rattle.heap_formula.specs.declared.atoms.Spatial.{Spatial}
use Rattle.heap_formula.specs.declared.atoms.Spatial.TheVariants.{Cell, Pred}
use Rattle.heap_formula.specs.declared.commands.Command.{Command}
use Rattle.heap_formula.specs.declared.commands.Command.TheVariants.{IfAny, Load, New, Store, Ends}
use Rattle.heap_formula.specs.declared.judgements.Judgement.{Judgement}
use Rattle.heap_formula.specs.declared.judgements.Judgement.TheVariants.{Entail, Term as Runs}
use Rattle.heap_formula.specs.Definitions.{Definition}
use Rattle.heap_formula.specs.Fresh.{heap_bound, heap_exists}
use Rattle.heap_formula.specs.Symbolic.{SymbolicHeap}
use Rattle.pred_defs.specs.Faults.{use_fault, has_name}
use Rattle.rule_table.specs.Answer.{is_short, has_numbers}
use Rattle.rule_table.specs.Tests.{is_universal_heap}
use Rattle.cyc_grammar.specs.Classes.{is_free_name}
use Rattle.heap_syntax.specs.Words.{reserved}
use Rattle.heap_syntax.specs.declared.version.Version.{Version}
use Rattle.heap_syntax.specs.LineGrammar.{has_free_branches, has_ends}
use Rattle.formula_reader.specs.declared.limits.excess.HeapExcess.{HeapExcess}
use Rattle.formula_reader.specs.declared.limits.excess.HeapExcess.TheVariants.{Atoms, Variable, Predicate, Fields}
use Rattle.formula_reader.specs.declared.limits.excess.CaseExcess.{CaseExcess}
use Rattle.formula_reader.specs.declared.limits.excess.CaseExcess.TheVariants.{Heap, Parameter, Locals}
use Rattle.formula_reader.specs.declared.limits.excess.DefinitionExcess.{DefinitionExcess}
use Rattle.formula_reader.specs.declared.limits.excess.DefinitionExcess.TheVariants.{Name, Duplicate, Parameters, Cases}
use Rattle.formula_reader.specs.declared.limits.excess.DefinitionExcess.TheVariants.{Case}
use Rattle.formula_reader.specs.declared.limits.excess.JudgementExcess.{JudgementExcess}
use Rattle.formula_reader.specs.declared.limits.excess.JudgementExcess.TheVariants.{Line, Antecedent, Disjunct}
use Rattle.formula_reader.specs.declared.limits.excess.JudgementExcess.TheVariants.{Existential}
use Rattle.formula_reader.specs.declared.limits.excess.ProblemExcess.{ProblemExcess}
use Rattle.formula_reader.specs.declared.limits.excess.ProblemExcess.TheVariants.{Definition as OfDefinition}
use Rattle.formula_reader.specs.declared.limits.excess.ProblemExcess.TheVariants.{Command as OfCommand, End as OfEnd}
use Rattle.formula_reader.specs.declared.limits.excess.ProblemExcess.TheVariants.{Goal as OfGoal}

-- the first that is found at a member of a list, before which n members stand
abbrev pub first_of : {X E : Type 0} → (ℕ → X → Option E) → ℕ → List X → Option E
first_of f n [] = None
first_of f n (x ∷ xs) = option_or (f n x) (first_of f (n + 1) xs)

-- ---- heaps

-- a cell has one to eight fields
abbrev pub has_fields : Spatial → Bool
has_fields (Cell t ts) = nat_lt 0 (length ts) && nat_le (length ts) MOST_ARGUMENTS
has_fields (Pred q ts) = true

-- a predicate is defined, and has as many arguments
abbrev pub is_use : List Definition → Spatial → Bool
is_use ds x = is_none (use_fault ds x)

abbrev pub heap_excess : Limits → List Definition → SymbolicHeap → Option HeapExcess
heap_excess most ds a =
    if not (is_short most a) then Some Atoms
    else if not (has_numbers a) then Some Variable
    else if not (list_all (is_use ds) a.spatial) then Some Predicate
    else if not (list_all has_fields a.spatial) then Some Fields
    else None

-- ---- definitions

abbrev pub case_excess : Limits → List Definition → ℕ → SymbolicHeap → Option CaseExcess
case_excess most ds arity c =
    option_or (option_map Heap (heap_excess most ds c)) (if nat_lt arity (heap_bound c) then Some Parameter
    else if nat_lt most.locals (heap_exists c) then Some Locals
    else None)

abbrev pub case_at : Limits → List Definition → ℕ → ℕ → SymbolicHeap → Option DefinitionExcess
case_at most ds arity n c = option_map (Case n) (case_excess most ds arity c)

-- n definitions stand before
abbrev pub definition_excess : Limits → List Definition → ℕ → Definition → Option DefinitionExcess
definition_excess most ds n d =
    if not (is_free_name reserved d.name) then Some Name
    else if has_name (take n ds) d.name then Some Duplicate
    else if nat_lt most.arguments d.arity then Some Parameters
    else if nat_eq (length d.cases) 0 || nat_lt most.cases (length d.cases) then Some Cases
    else first_of (case_at most ds d.arity) 0 d.cases

abbrev pub definition_at : Limits → List Definition → ℕ → Definition → Option ProblemExcess
definition_at most ds n d = option_map (OfDefinition n) (definition_excess most ds n d)

abbrev pub definitions_excess : Limits → List Definition → Option ProblemExcess
definitions_excess most ds = first_of (definition_at most ds) 0 ds

-- ---- lines

-- the version has the command, and cells may have the field, or as many
abbrev pub is_command_of : Version → Limits → Command → Bool
is_command_of version most (IfAny j) = has_free_branches version
is_command_of version most (Load x t k) = nat_le k most.arguments
is_command_of version most (Store t k u) = nat_le k most.arguments
is_command_of version most (New x k) = nat_le k most.arguments
is_command_of version most (Ends bs) = has_ends version
is_command_of version most c = true

abbrev pub line_at : Version → Limits → ℕ → Command → Option ProblemExcess
line_at version most n c = if is_command_of version most c then None else Some (OfCommand (n + 1))

abbrev pub lines_excess : Version → Limits → List Command → Option ProblemExcess
lines_excess version most cs = first_of (line_at version most) 0 cs

-- ---- ends

-- the disjunct of a line's end at place n
abbrev pub end_disjunct_at : Limits → List Definition → ℕ → ℕ → SymbolicHeap → Option ProblemExcess
end_disjunct_at most ds line n b = option_map (OfEnd line n) (heap_excess most ds b)

-- the line before which n stand
abbrev pub end_at : Limits → List Definition → ℕ → Command → Option ProblemExcess
end_at most ds n (Ends bs) = first_of (end_disjunct_at most ds (n + 1)) 0 bs
end_at most ds n c = None

abbrev pub ends_excess : Limits → List Definition → List Command → Option ProblemExcess
ends_excess most ds cs = first_of (end_at most ds) 0 cs

-- ---- judgements

abbrev pub antecedent_excess : Limits → List Definition → SymbolicHeap → Option JudgementExcess
antecedent_excess most ds a =
    option_or (option_map Antecedent (heap_excess most ds a)) (if is_universal_heap a then None else Some Existential)

abbrev pub disjunct_at : Limits → List Definition → ℕ → SymbolicHeap → Option JudgementExcess
disjunct_at most ds n b = option_map (Disjunct n) (heap_excess most ds b)

-- over so many lines
abbrev pub judgement_excess : Limits → List Definition → ℕ → Judgement → Option JudgementExcess
judgement_excess most ds count (Entail a bs) = option_or (antecedent_excess most ds a)
    (first_of (disjunct_at most ds) 0 bs)
judgement_excess most ds count (Runs i a)
    = if nat_eq i 0 || nat_lt count i then Some Line else antecedent_excess most ds a

-- ---- problems

abbrev pub problem_excess : Version → Limits → List Definition → List Command → Judgement → Option ProblemExcess
problem_excess version most ds lines goal =
    option_or (definitions_excess most ds) (option_or (lines_excess version most lines)
    (option_or (ends_excess most ds lines) (option_map OfGoal (judgement_excess most ds (length lines) goal))))
