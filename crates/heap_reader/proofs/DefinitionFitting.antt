-- Terms, heaps and definitions without a flaw fit the values' types.
use Rattle.std.proofs.Common.{◌≡◌, ℕ, ◌+◌, ◌<◌, ◌≤◌, List, length, take, None, arith}
use Rattle.std.specs.Prelude.{nat_lt, nat_le, is_some}
use Rattle.heap_formula.specs.Words.{Each}
use Rattle.cyc_basics.specs.Limits.{AreLimits}
use Rattle.cyc_basics.specs.declared.limits.Limits.{Limits}
use Rattle.cyc_basics.specs.declared.limits.TheConstants.{MOST_ARGUMENTS, MOST_LOCALS}
use Rattle.cyc_lex.specs.declared.fault.What.TheVariants.{Arguments, Cases, Predicates, Variable, Locals}
use Rattle.cyc_lex.specs.declared.fault.What.TheVariants.{ProgramVariables}
use Rattle.cyc_lex.specs.declared.fault.IllFault.TheVariants.{Parameter, Duplicate}
use Rattle.heap_syntax.specs.declared.definitions.tree.TermTree.{TermTree}
use Rattle.heap_syntax.specs.declared.definitions.tree.TermTree.TheVariants.{Nil, Univ, Exist}
use Rattle.heap_syntax.specs.DefinitionTrees.{Heap, Definition}
use Rattle.heap_reader.specs.Trees.{Heading}
use Rattle.heap_reader.specs.Flaws.{ill_if, over_if, or_later, listed_flaw, arity_in, heap_flaw, heaps_flaw}
use Rattle.heap_reader.specs.Small.{IsSmall, IsSmallHeap}
use Rattle.heap_reader.proofs.NoFlaw.{neither, not_over, not_ill, at_most, below, each_of, few_all}
use Rattle.heap_reader.proofs.Fitting.{heap_small, heaps_small}
use Rattle.heap_reader.specs.declared.definitions.scope.Scope.{Scope}
use Rattle.heap_reader.specs.declared.definitions.scope.Scope.TheVariants.{Outside, End as InEnd, Case as InCase}
use Rattle.heap_reader.specs.DefinitionSpans.{term_span, definition_span}
use Rattle.heap_reader.specs.DefinitionFlaws.{term_flaw, head_flaw, definition_flaw}
use Rattle.heap_reader.specs.DefinitionValues.{term_value}
use Rattle.heap_reader.specs.DefinitionSmall.{IsSmallDefinition}

-- the numbers of a case's variables fit their types
abbrev pub IsNarrow : Scope → Type 0
IsNarrow Outside = Unit {0}
IsNarrow InEnd = Unit {0}
IsNarrow (InCase arity locals) = (arity ≤ MOST_ARGUMENTS) × (locals ≤ MOST_LOCALS)

pub term_small : (scope : Scope) → IsNarrow scope → (k : ℕ) (t : TermTree) → term_flaw scope k t ≡ None
    → IsSmall term_value t
term_small scope narrow k Nil e = tt
term_small Outside narrow k (Univ n) e = let h = at_most 65534 n (not_over _ Variable (k + 1) e) in omega arith
term_small Outside narrow k (Exist n) e = let h = at_most 65534 n (not_over _ Variable (k + 1) e) in omega arith
term_small InEnd narrow k (Univ n) e = let h = at_most 63 n (not_over _ ProgramVariables (k + 1) e) in omega arith
term_small InEnd narrow k (Exist n) e = let h = at_most 65534 n (not_over _ Variable (k + 1) e) in omega arith
term_small (InCase arity locals) narrow k (Univ n) e =
    let h = below arity n (not_ill _ Parameter (k + 1) e) in
    omega (arith, h, narrow.0)
term_small (InCase arity locals) narrow k (Exist n) e =
    let h = below locals n (not_over _ Locals (k + 1) e) in
    omega (arith, h, narrow.1)

-- ---- heaps outside cases, and definitions

pub outside_small : (most : Limits) → AreLimits most → (hs : List Heading) (k : ℕ) (h : Heap)
    → heap_flaw (term_flaw Outside) term_span most hs k h ≡ None → IsSmallHeap term_value h
outside_small most few hs k h e = heap_small (term_flaw Outside) term_span term_value (term_small Outside tt)
    most few hs k h e

module _ (most : Limits) (few : AreLimits most) (hs : List Heading) where
  pub definition_small : (n k : ℕ) (d : Definition) → definition_flaw most hs n k d ≡ None
      → (n < 4096) × IsSmallDefinition d
  definition_small n k d e =
      let a = neither (head_flaw most hs n k d) (heaps_flaw (term_flaw (InCase d.arity most.locals)) term_span most hs
      Cases (k + 6)
      d.cases) e in
      let b = neither (over_if (nat_le 4096 n) Predicates k)
      (or_later (ill_if (is_some (arity_in (take n hs) d.name)) Duplicate (k + 1))
      (over_if (nat_lt most.arguments d.arity) Arguments (k + 3))) a.0 in
      let c = neither (ill_if (is_some (arity_in (take n hs) d.name)) Duplicate (k + 1))
      (over_if (nat_lt most.arguments d.arity) Arguments (k + 3)) b.1 in
      let parameters = at_most most.arguments d.arity (not_over _ Arguments (k + 3) c.1) in
      let narrow : IsNarrow (InCase d.arity most.locals) = (omega (arith, parameters, few.arguments), few.locals) in
      let cases = heaps_small (term_flaw (InCase d.arity most.locals)) term_span term_value
      (term_small (InCase d.arity most.locals) narrow)
      most few hs Cases (k + 6) d.cases a.1 in
      (below 4096 n (not_over _ Predicates k b.0), record { cases = cases.0; few = omega (arith, cases.1, few.cases) })

  -- all of a text's definitions
  pub definitions_small : (k : ℕ) (ds : List Definition)
      → listed_flaw (definition_flaw most hs) definition_span 0 k ds ≡ None
      → Each IsSmallDefinition ds × (length ds ≤ 4096)
  definitions_small k ds e = (
    each_of (definition_flaw most hs) definition_span IsSmallDefinition (λ n j d h. (definition_small n j d h).1)
        0 k ds e,
    few_all (definition_flaw most hs) definition_span 4096 (λ n j d h. (definition_small n j d h).0) k ds e,
  )
