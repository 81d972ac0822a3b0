-- The first flaw of terms and of definitions: what is ill-formed or passes a limit, and at which token.
use Rattle.std.specs.Prelude.{ℕ, ◌+◌, nat_lt, nat_le, is_some, List, map, take, None}
use Rattle.cyc_basics.specs.declared.limits.Limits.{Limits}
use Rattle.cyc_basics.specs.declared.limits.TheConstants.{GREATEST_PROGRAM_VARIABLE, GREATEST_VARIABLE, MOST_PREDICATES}
use Rattle.cyc_lex.specs.declared.fault.IllFault.TheVariants.{Duplicate, Parameter}
use Rattle.cyc_lex.specs.declared.fault.What.TheVariants.{Predicates, Arguments, Cases, Locals, Variable}
use Rattle.cyc_lex.specs.declared.fault.What.TheVariants.{ProgramVariables}
use Rattle.heap_reader.specs.Trees.{Heading}
use Rattle.heap_reader.specs.Flaws.{Found, ill_if, over_if, or_later, arity_in, heaps_flaw}
use Rattle.heap_syntax.specs.declared.definitions.tree.TermTree.{TermTree}
use Rattle.heap_syntax.specs.declared.definitions.tree.TermTree.TheVariants.{Nil, Univ, Exist}
use Rattle.heap_syntax.specs.DefinitionTrees.{Definition}
use Rattle.heap_reader.specs.declared.definitions.scope.Scope.{Scope}
use Rattle.heap_reader.specs.declared.definitions.scope.Scope.TheVariants.{Outside, End as InEnd, Case as InCase}
use Rattle.heap_reader.specs.DefinitionSpans.{term_span}

-- what a use of the predicate is compared with
abbrev pub heading : Definition → Heading
heading d = record { name = d.name; arity = d.arity }

abbrev pub headings : List Definition → List Heading
headings ds = map heading ds

-- ---- each part begins at token k, and n members stand before it

-- outside cases a number is at most 65,534; in an end $n is a program variable, of which there are at most 64; in a
-- case $n is a parameter and ?n one of so many locals
abbrev pub term_flaw : Scope → ℕ → TermTree → Found
term_flaw scope k Nil = None
term_flaw Outside k (Univ n) = over_if (nat_lt GREATEST_VARIABLE n) Variable (k + 1)
term_flaw Outside k (Exist n) = over_if (nat_lt GREATEST_VARIABLE n) Variable (k + 1)
term_flaw InEnd k (Univ n) = over_if (nat_lt GREATEST_PROGRAM_VARIABLE n) ProgramVariables (k + 1)
term_flaw InEnd k (Exist n) = over_if (nat_lt GREATEST_VARIABLE n) Variable (k + 1)
term_flaw (InCase arity locals) k (Univ n) = ill_if (nat_le arity n) Parameter (k + 1)
term_flaw (InCase arity locals) k (Exist n) = over_if (nat_le locals n) Locals (k + 1)

-- ---- within what the version allows

-- the name, which no definition before has, and the arity
abbrev pub head_flaw : Limits → List Heading → ℕ → ℕ → Definition → Found
head_flaw most hs n k d =
    or_later (over_if (nat_le MOST_PREDICATES n) Predicates k)
    (or_later (ill_if (is_some (arity_in (take n hs) d.name)) Duplicate (k + 1))
    (over_if (nat_lt most.arguments d.arity) Arguments (k + 3)))

-- at most 4,096, no two with one name
abbrev pub definition_flaw : Limits → List Heading → ℕ → ℕ → Definition → Found
definition_flaw most hs n k d =
    or_later (head_flaw most hs n k d)
    (heaps_flaw (term_flaw (InCase d.arity most.locals)) term_span most hs Cases (k + 6) d.cases)
