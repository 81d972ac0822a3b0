-- The trees of definitions that are within the limits fit the grammar, and have no flaw.
use Rattle.std.proofs.Common.{◌≡◌, ℕ, zero, suc, ◌+◌, ◌<◌, ◌≤◌, Bool, true, false, List, [], ◌∷◌, length, map, take}
use Rattle.std.proofs.Common.{Option, Some, None, refl, ap, subst, arith}
use Rattle.std.specs.Prelude.{nat_lt, nat_le, is_some, if◌then◌else◌, slice_get}
use Rattle.std.specs.Str.{bytes_eq}
use Rattle.std.proofs.lemmas.Bool.{le-leb, le-ltb, lt-leb}
use Rattle.std.proofs.lemmas.Option.{slice_get_within}
use Rattle.std.proofs.lemmas.Slice.Eq.{bytes_eq-Decides}
use Rattle.cyc_basics.specs.declared.limits.Limits.{Limits}
use Rattle.cyc_basics.specs.Limits.{AreLimits}
use Rattle.heap_formula.specs.declared.terms.Term.{Term}
use Rattle.heap_formula.specs.declared.terms.Term.TheVariants.{Nil, Univ, Exist}
use Rattle.heap_formula.specs.Closedness.{InHeap}
use Rattle.heap_formula.specs.Definitions.{Definition}
use Rattle.heap_formula.specs.Fresh.{exist_bound}
use Rattle.heap_formula.specs.Symbolic.{SymbolicHeap}
use Rattle.heap_formula.specs.Words.{Each}
use Rattle.rule_table.proofs.Agreement.{IsBelow, heap_below}
use Rattle.rule_book.specs.Limits.{IsHeapWithin, IsCaseWithin, IsDefinitionWithin}
use Rattle.cyc_lex.specs.declared.fault.IllFault.TheVariants.{Duplicate, Parameter}
use Rattle.cyc_lex.specs.declared.fault.What.TheVariants.{Predicates, Arguments, Cases, Locals}
use Rattle.cyc_grammar.specs.Syntax.{fits_many}
use Rattle.cyc_grammar.specs.Classes.{is_free_name}
use Rattle.heap_syntax.specs.Words.{reserved}
use Rattle.proof_syntax.specs.Grammar as grammar
use Rattle.heap_reader.specs.Flaws.{Found, ill_if, over_if, listed_flaw, arity_in, heaps_flaw}
use Rattle.heap_reader.specs.declared.definitions.scope.Scope.TheVariants.{Case as InCase}
use Rattle.proof_file.specs.Spans.{term_span, definition_span}
use Rattle.proof_file.specs.Flaws.{term_flaw, head_flaw, definition_flaw}
use Rattle.proof_file.specs.Readable.{has_few_cases, all_have_few_cases}
use Rattle.proof_file.specs.Written.{heap_tree, definition_tree}
use Rattle.formula_reader.proofs.Lists.{many_fit, none_later}
use Rattle.formula_reader.proofs.Firsts.{all_pass}
use Rattle.formula_reader.proofs.Names.{few_parameters, heads_of}
use Rattle.formula_reader.specs.Within.{HaveFreeNames, HaveOwnNames}
use Rattle.formula_reader.proofs.FileTerms.{IsFlawless}
use Rattle.formula_reader.proofs.Heaps.{in_heap_both, heaps_fit, heaps_flawless}
use Rattle.heap_formula.proofs.Members.{each_from as each_at}
use Rattle.heap_formula.proofs.AllMembers.{each_imply, each_at as Each-get}
use Rattle.heap_formula.proofs.FactExistentials.{heap_bounded}

-- ---- the trees fit

case_heaps : (limit : Limits) (ds : List Definition) (arity : ℕ) (cs : List SymbolicHeap)
    → Each (IsCaseWithin limit ds arity) cs → Each (IsHeapWithin limit ds) cs
case_heaps limit ds arity cs w = each_imply (IsCaseWithin limit ds arity) (IsHeapWithin limit ds) (λ c x. x.heap) cs w

module _ (limit : Limits) (bounded : AreLimits limit) (ds : List Definition) (free : HaveFreeNames ds) where
  definition_fits : (d : Definition) → is_free_name reserved d.name ≡ true → IsDefinitionWithin limit ds d
      → grammar.definition.fits (definition_tree ds d)
  unfolding grammar.definition grammar.cases
  definition_fits d named w =
      let few = w.arity in
      let most = bounded.arguments in (
        tt,
        (
          named,
          (
            omega arith,
            heaps_fit limit ds free grammar.bar grammar.closing_brace d.cases w.some_case
                (case_heaps limit ds d.arity d.cases w.cases),
          ),
        ),
      )

  pub definitions_fit : Each (IsDefinitionWithin limit ds) ds
      → fits_many grammar.definition (map (definition_tree ds) ds)
  definitions_fit w =
      many_fit grammar.definition (definition_tree ds) ds
      (each_at (λ d. grammar.definition.fits (definition_tree ds d)) ds
      (λ q d at. definition_fits d (free q d at) (Each-get (IsDefinitionWithin limit ds) ds q d at w)))

-- ---- the terms of a case have no flaw

term_flawless : (arity locals : ℕ) (t : Term) → IsBelow arity t → exist_bound t ≤ locals
    → IsFlawless (term_flaw (InCase arity locals)) t
term_flawless arity locals Nil below few k = refl
term_flawless arity locals (Univ n) below few k = ap (λ (b : Bool). ill_if b Parameter (k + 1)) (lt-leb arity n
    (omega arith))
term_flawless arity locals (Exist n) below few k = ap (λ (b : Bool). over_if b Locals (k + 1))
    (lt-leb locals n (omega arith))

case_flawless : (limit : Limits) (ds : List Definition) (arity : ℕ) (c : SymbolicHeap) → IsCaseWithin limit ds arity c
    → InHeap (IsFlawless (term_flaw (InCase arity limit.locals))) c
case_flawless limit ds arity c w =
    in_heap_both (IsBelow arity) (λ t. exist_bound t ≤ limit.locals) (IsFlawless (term_flaw
    (InCase arity limit.locals)))
    (term_flawless arity limit.locals) c (heap_below arity c w.parameters) (heap_bounded limit.locals c w.locals)

-- ---- no definition before has the name

new_name : (ds xs : List Definition) (n : ℕ) (name : List ℕ)
    → ((p : ℕ) (e : Definition) → p < n → slice_get xs p ≡ Some e → e.name ≡ name → ⊥)
    → arity_in (take n (heads_of ds xs)) name ≡ None
new_name ds [] zero name h = refl
new_name ds [] (suc n) name h = refl
new_name ds (x ∷ xs) zero name h = refl
new_name ds (x ∷ xs) (suc n) name h = by_test (bytes_eq x.name name) refl
    (new_name ds xs n name (λ p d less at same. h (suc p) d (omega arith) at same))
  where
    by_test : (b : Bool) → bytes_eq x.name name ≡ b → arity_in (take n (heads_of ds xs)) name ≡ None
        → (if b then Some x.arity else arity_in (take n (heads_of ds xs)) name) ≡ None
    by_test true e later = absurd (h 0 x (omega arith) refl ((bytes_eq-Decides x.name name).0 e))
    by_test false e later = later

-- ---- the trees have no flaw

-- a list has no flaw where each member has none at its place
none_at : {X Y : Type 0} (flaw : ℕ → ℕ → Y → Found) (span : Y → ℕ) (tree : X → Y) (n k : ℕ) (xs : List X)
    → ((i : ℕ) (x : X) → slice_get xs i ≡ Some x → (j : ℕ) → flaw (n + i) j (tree x) ≡ None)
    → listed_flaw flaw span n k (map tree xs) ≡ None
none_at flaw span tree n k [] h = refl
none_at flaw span tree n k (x ∷ xs) h =
    let here : n + 0 ≡ n = omega arith in
    let first = subst (λ (m : ℕ). flaw m k (tree x) ≡ None) here (h 0 x refl k) in
    let rest = none_at flaw span tree (suc n) (k + span (tree x)) xs (λ i y at j. (
    let next : n + suc i ≡ suc n + i = omega arith in
    subst (λ (m : ℕ). flaw m j (tree y) ≡ None) next (h (suc i) y at j))) in
    none_later (flaw n k (tree x)) (listed_flaw flaw span (suc n) (k + span (tree x)) (map tree xs)) first rest

module _ (limit : Limits) (wide : 8 ≤ limit.arguments) (ds : List Definition) (few : length ds ≤ 4096)
    (own : HaveOwnNames ds) (w : Each (IsDefinitionWithin limit ds) ds) where
  head_flawless : (n k : ℕ) (d : Definition) → slice_get ds n ≡ Some d → d.arity ≤ limit.arguments
      → head_flaw limit (heads_of ds ds) n k (definition_tree ds d) ≡ None
  head_flawless n k d at narrow =
      let within = slice_get_within ds n d at in
      let new = new_name ds ds n d.name (λ p e less at_p same. (
      let equal = own p n e d at_p at same in
      omega arith)) in
      let not_taken = ap (λ (o : Option ℕ). ill_if (is_some o) Duplicate (k + 1)) new in
      let first = ap (λ (b : Bool). over_if b Predicates k) (lt-leb 4096 n (omega arith)) in
      let last = ap (λ (b : Bool). over_if b Arguments (k + 3)) (le-ltb limit.arguments d.arity narrow) in
      none_later (over_if (nat_le 4096 n) Predicates k) _ first
      (none_later (ill_if (is_some (arity_in (take n (heads_of ds ds)) d.name)) Duplicate (k + 1))
      (over_if (nat_lt limit.arguments d.arity) Arguments (k + 3)) not_taken last)

  definition_flawless : (n k : ℕ) (d : Definition) → slice_get ds n ≡ Some d → IsDefinitionWithin limit ds d
      → definition_flaw limit (heads_of ds ds) n k (definition_tree ds d) ≡ None
  definition_flawless n k d at x =
      let scope = InCase d.arity limit.locals in
      let cases = heaps_flawless (term_flaw scope) term_span limit wide ds own (few_parameters limit ds ds w)
      Cases d.cases x.few (case_heaps limit ds d.arity d.cases x.cases)
      (each_imply (IsCaseWithin limit ds d.arity) (InHeap (IsFlawless (term_flaw scope)))
      (case_flawless limit ds d.arity) d.cases x.cases) (k + 6) in
      none_later (head_flaw limit (heads_of ds ds) n k (definition_tree ds d))
      (heaps_flaw (term_flaw scope) term_span limit (heads_of ds ds) Cases (k + 6) (map (heap_tree ds) d.cases))
      (head_flawless n k d at x.arity) cases

  pub definitions_flawless : listed_flaw (definition_flaw limit (heads_of ds ds)) definition_span 0 4
      (map (definition_tree ds) ds) ≡ None
  definitions_flawless =
      none_at (definition_flaw limit (heads_of ds ds)) definition_span (definition_tree ds) 0 4 ds (λ i d at j. (
      let here : i ≡ 0 + i = omega arith in
      subst (λ (n : ℕ). definition_flaw limit (heads_of ds ds) n j (definition_tree ds d) ≡ None) here
      (definition_flawless i j d at (Each-get (IsDefinitionWithin limit ds) ds i d at w))))

-- ---- their cases are few

pub few_cases : (limit : Limits) → AreLimits limit → (ds xs : List Definition)
    → Each (IsDefinitionWithin limit ds) xs → all_have_few_cases xs ≡ true
few_cases limit bounded ds xs w = all_pass has_few_cases xs
    (each_imply (IsDefinitionWithin limit ds) (λ d. has_few_cases d ≡ true) (λ d x. (
    let few = x.few in
    let most = bounded.cases in
    le-leb (length d.cases) 64 (omega arith)))
    xs w)
